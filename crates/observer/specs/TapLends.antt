-- What a drainer ends as, once its tap was lent.
use Rattle.std.specs.Borrow.{Fml, Lends, MutBor, RattleType}
use Rattle.relay_ports.specs.declared.sink.Sink.{Ghosts}
use Rattle.frame_batch.specs.Batches.{Batched}
use Rattle.frame_batch.specs.contracts.batch.Batch.{the_row as batch_row}
use Rattle.sub_queue.specs.Ends.{Tapped}
use Rattle.sub_queue.specs.contracts.tap.Tap.{the_row as tap_row}
use Rattle.observer.specs.contracts.drainer.Drainer.{the_row}
use Rattle.observer.specs.Drains.{Drain, with_tap}

-- it ends with the tap as the borrower left it, and all else as it was
module _ (S : RattleType) (g : Ghosts S.Denot) (d : MutBor Drain) where
  abbrev pub lends_tap : MutBor (Tapped Batched) → Fml
  lends_tap r = Lends (the_row S g) (tap_row batch_row) d r (with_tap d.now)
