-- The shares so far were made.
use Rattle.std.proofs.Common.{◌≤◌, ◌-◌, vec_len, vec_capacity}
use Rattle.iobuf_chain.specs.Many.{SharesMany}
use Rattle.iobuf_chain.proofs.many.share_up_to.Given as goal

abbrev pub invariant-shares : goal.invariant-shares
invariant-shares g l = record {
  made : SharesMany l.fn.mint l.mint l.fn.chain l.shares.items l.chain;
  most : vec_len l.shares ≤ l.n;
  room : l.n ≤ vec_capacity l.shares;
}

abbrev pub decreases-shares : goal.decreases-shares
decreases-shares g l = l.n - vec_len l.shares
