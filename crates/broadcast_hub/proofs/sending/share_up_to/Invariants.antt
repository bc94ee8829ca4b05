-- The shares so far were made.
use Rattle.std.proofs.Common.{◌≡◌, ◌≤◌, ◌-◌, map, take, vec_len, vec_capacity}
use Rattle.iobuf_chain.specs.Lists.{Each}
use Rattle.iobuf_chain.specs.Many.{SharesMany}
use Rattle.broadcast_hub.proofs.sending.share_up_to.Given as goal

abbrev pub invariant-shares : goal.invariant-shares
invariant-shares l = record {
  made : SharesMany l.fn.mint l.mint l.fn.batch.chain (map (λ b. b.chain) l.batches.items) l.batch.chain;
  frames : Each (λ b. b.frames ≡ take l.count l.fn.batch.frames) l.batches.items;
  same : l.batch.frames ≡ l.fn.batch.frames;
  most : vec_len l.batches ≤ l.n;
  room : vec_capacity l.batches ≡ vec_capacity l.fn.batches;
}

abbrev pub decreases-shares : goal.decreases-shares
decreases-shares l = l.n - vec_len l.batches
