-- What a hold ends as, once its bytes were lent for writing.
use Rattle.std.specs.Prelude.{ℕ, List, [], length}
use Rattle.std.specs.List.{refill}
use Rattle.std.specs.Borrow.{Fml, RattleType, MutBor, Array, u8, Lends}
use mir.Syntax.{named}
use Rattle.buffer_model.specs.Share.{Held}
use Rattle.storage.specs.Held.{with_bytes}
use Rattle.storage.specs.contracts.hold.Hold.{the_row}

module _ (O : RattleType) (h : MutBor (Held O.Denot)) where
  -- its bytes are those last written
  abbrev pub lends_bytes : MutBor (List ℕ) → Fml
  lends_bytes r =
      Lends (the_row (record { mir = named 1; lft = [] }) O) (Array u8 0) h r
      (λ w. with_bytes h.now (refill (length h.now.bytes) h.now.bytes w))
