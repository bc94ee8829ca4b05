-- What a managed hold ends as, once its block was lent for writing.
use Rattle.std.specs.Prelude.{ℕ, List, length}
use Rattle.std.specs.List.{refill}
use Rattle.std.specs.Borrow.{Fml, RattleType, MutBor, Array, u8, Lends}
use Rattle.raw_block.specs.Spans.{with_span}
use Rattle.raw_block.specs.contracts.block.Block.{the_row as block_row}
use Rattle.buffer_model.specs.Share.{Held}
use Rattle.storage.specs.Held.{with_bytes}
use Rattle.storage.specs.contracts.managed.Managed.{the_row}

module _ (O : RattleType) (h : MutBor (Held O.Denot)) where
  abbrev pub lends_block : MutBor (List ℕ) → Fml
  lends_block r = Lends (the_row O) block_row h r (with_bytes h.now)

  -- its bytes are those last written
  abbrev pub lends_bytes : MutBor (List ℕ) → Fml
  lends_bytes r = Lends (the_row O) (Array u8 0) h r (λ w. with_bytes h.now (refill (length h.now.bytes) h.now.bytes w))

  -- its bytes from start on are those last written
  abbrev pub lends_span : ℕ → MutBor (List ℕ) → Fml
  lends_span start r = Lends (the_row O) (Array u8 0) h r (λ w. with_bytes h.now (with_span h.now.bytes start w))
