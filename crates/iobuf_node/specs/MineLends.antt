-- What a window ends as, once its bytes were lent for writing.
use Rattle.std.specs.Prelude.{ℕ, List}
use Rattle.std.specs.Borrow.{Fml, RattleType, MutBor, Array, u8, Lends}
use Rattle.iobuf_node.specs.Mine.{with_window, with_tail}
use Rattle.iobuf_node.specs.declared.mine.Mine.{Mine}
use Rattle.iobuf_node.specs.contracts.mine.Mine.{the_row}

module _ (O : RattleType) (m : MutBor (Mine O.Denot)) where
  abbrev pub lends_window : MutBor (List ℕ) → Fml
  lends_window r = Lends (the_row O) (Array u8 0) m r (with_window m.now)

  -- the same of the room after the data
  abbrev pub lends_tail : MutBor (List ℕ) → Fml
  lends_tail r = Lends (the_row O) (Array u8 0) m r (with_tail m.now)
