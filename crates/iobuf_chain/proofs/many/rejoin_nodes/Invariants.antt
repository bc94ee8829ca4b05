-- The clones so far were given back.
use Rattle.std.proofs.Common.{◌+◌}
use Rattle.iobuf_chain.proofs.Shared.{RejoinsTo}
use Rattle.iobuf_chain.proofs.many.rejoin_nodes.Given as goal

abbrev pub invariant-clones : goal.invariant-clones
invariant-clones g l = RejoinsTo (l.i + 1) l.fn.nodes l.fn.share l.nodes l.rest.items
