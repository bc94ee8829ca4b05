-- What a unit ends as, once the block of its storage was lent for writing.
use Rattle.std.specs.Prelude.{ℕ, List}
use Rattle.std.specs.Borrow.{Fml, RattleType, MutBor, Lends}
use Rattle.share_count.specs.Held.{Owned}
use Rattle.share_count.specs.contracts.unit.Unit.{the_row as unit_row}
use Rattle.raw_block.specs.contracts.block.Block.{the_row as block_row}
use Rattle.storage.specs.declared.stored.Stored.{Stored}
use Rattle.storage.specs.contracts.stored.Stored.{the_row as stored_row}
use Rattle.storage.specs.Stored.{with_block}

module _ (O : RattleType) (u : MutBor (Owned (Stored O.Denot))) where
  -- its storage has the block last written
  abbrev pub lends_unit_block : MutBor (List ℕ) → Fml
  lends_unit_block r = Lends (unit_row (stored_row O)) block_row u r (with_block u.now)

  -- its payload is what was last written
  abbrev pub lends_stored : MutBor (Stored O.Denot) → Fml
  lends_stored r = Lends (unit_row (stored_row O)) (stored_row O) u r (λ s. record u.now { payload = s })
