use denote.RattleType.{RattleType}
use denote.Param.Send.{IsSend}
use Rattle.counted_payload.specs.contracts.Trace.{the_row}

pub send : (T : RattleType) → IsSend T → IsSend (the_row T)
send T s = record { owned = λ d vs. ((λ vss. (tt, ((λ uss. (tt, tt)), tt))), tt); leaving = λ k f vs. tt }
