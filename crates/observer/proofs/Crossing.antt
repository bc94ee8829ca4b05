-- A drainer may go to another thread as its sink may.
use Rattle.std.proofs.Crossing.{crosses}
use denote.RattleType.{RattleType}
use denote.Param.Send.{IsSend, view_send, sendable}
use denote.Param.SendFields.{declared_send, as_row_send}
use Rattle.relay_ports.specs.declared.sink.Sink.{Ghosts}
use Rattle.frame_batch.proofs.batch.Batch.TheSendSync as batch
use Rattle.observer.proofs.drainer.Held.TheSendSync as held
use Rattle.observer.specs.contracts.drainer.Held as Held
use Rattle.observer.specs.contracts.metered.Metered as Metered
use Rattle.observer.specs.contracts.outflow.Outflow as Outflow
use Rattle.observer.specs.contracts.drainer.Drainer as Drainer
use Rattle.observer.specs.contracts.drainer.Drainer.TheInside as Inside

module _ (S : RattleType) (g : Ghosts S.Denot) where
  metered_send : IsSend S → IsSend (Metered.the_row S g)
  metered_send s = search (sendable, crosses) depth 40

  outflow_send : IsSend S → IsSend (Outflow.the_row S g)
  outflow_send s = let m = metered_send s in search (sendable, crosses) depth 40

  pub drainer_send : IsSend S → IsSend (Drainer.the_row S g)
  drainer_send s =
      let flow = as_row_send (Outflow.the_field S g) (outflow_send s) in
      let rest = as_row_send Held.the_field held.the_field_send in
      view_send _ _ _ _ _
      (declared_send (Inside.the_type S g)
      (flow, (search (sendable, crosses, batch.the_send) depth 40, (rest, tt))))
