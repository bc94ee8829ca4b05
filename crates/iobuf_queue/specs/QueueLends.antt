-- What a queue ends as, once the room that it offers was lent.
use Rattle.std.specs.Prelude.{ℕ, List}
use Rattle.std.specs.Borrow.{Fml, RattleType, MutBor, Array, u8, Lends}
use Rattle.iobuf_node.specs.declared.wrapped.Wrapped.{Ghosts}
use Rattle.iobuf_queue.specs.Queued.{Queued, written}
use Rattle.iobuf_queue.specs.contracts.queue.QueueOf.{the_row}

module _ (W O : RattleType) (g : Ghosts W.Denot) (q : MutBor (Queued O.Denot)) where
  abbrev pub lends_offer : MutBor (List ℕ) → Fml
  lends_offer r = Lends (the_row W O g) (Array u8 0) q r (written q.now)
