use Rattle.std.proofs.Crossing.{crosses}
use denote.Param.Send.{sendable}
use Rattle.observer.proofs.Crossing.{drainer_send}
use Rattle.observer.proofs.turn.Turn.TheSendSync as turn
use Rattle.fan_turns.proofs.turns.reserve_turns.Goals as goal

pub reserve-requires-send-J : goal.reserve-requires-send-J
reserve-requires-send-J g c κs within =
    let d = drainer_send _ g.S.Sink c.type_bounds.send-S in search (sendable, crosses, turn.the_send) depth 40
