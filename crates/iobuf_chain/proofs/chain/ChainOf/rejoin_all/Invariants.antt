-- The latest shares were given back.
use Rattle.std.proofs.Common.{vec_len}
use Rattle.iobuf_chain.specs.Lists.{Each}
use Rattle.iobuf_chain.specs.Shares.{AreReturnable}
use Rattle.iobuf_chain.proofs.ManyTurns.{RejoinsUpTo}
use Rattle.iobuf_chain.proofs.chain.ChainOf.rejoin_all.Given as goal

abbrev pub invariant-shares : goal.invariant-shares
invariant-shares g l = record {
  back : RejoinsUpTo l.fn.self l.fn.shares.items l.shares.items l.self;
  may : Each (AreReturnable l.self) l.shares.items;
}

abbrev pub decreases-shares : goal.decreases-shares
decreases-shares g l = vec_len l.shares
