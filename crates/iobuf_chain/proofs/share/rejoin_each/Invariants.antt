-- The clones so far were given back.
use Rattle.iobuf_chain.proofs.Shared.{RejoinsTo}
use Rattle.iobuf_chain.proofs.share.rejoin_each.Given as goal

abbrev pub invariant-clones : goal.invariant-clones
invariant-clones g l = RejoinsTo l.i l.fn.nodes l.fn.clones.items l.nodes l.clones.items
