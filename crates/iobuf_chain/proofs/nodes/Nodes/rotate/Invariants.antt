-- So many items went to the end.
use Rattle.std.proofs.Common.{◌≡◌}
use Rattle.iobuf_chain.specs.Lists.{rotated}
use Rattle.iobuf_chain.proofs.nodes.Nodes.rotate.Given as goal

abbrev pub invariant-turns : goal.invariant-turns
invariant-turns g l = l.self ≡ rotated l.counter l.fn.self
