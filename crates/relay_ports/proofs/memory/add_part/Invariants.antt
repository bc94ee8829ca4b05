use Rattle.std.proofs.Common.{◌≡◌, ◌++◌, take, vec_capacity}
use Rattle.relay_ports.proofs.memory.add_part.Given as goal

abbrev pub invariant-loop-x : goal.invariant-loop-x
invariant-loop-x l = record {
  items : l.to.items ≡ l.fn.to.items ++ take l.x-index l.from;
  room : vec_capacity l.to ≡ vec_capacity l.fn.to;
}
