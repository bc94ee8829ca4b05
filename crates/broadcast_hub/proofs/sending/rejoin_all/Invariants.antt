-- Some shares, the last, were given back.
use Rattle.std.proofs.Common.{◌≡◌, map, vec_len, vec_capacity}
use Rattle.iobuf_chain.specs.Lists.{Each}
use Rattle.iobuf_chain.specs.Shares.{AreReturnable}
use Rattle.iobuf_chain.proofs.ManyTurns.{RejoinsUpTo}
use Rattle.broadcast_hub.proofs.sending.rejoin_all.Given as goal

abbrev pub invariant-shares : goal.invariant-shares
invariant-shares l = record {
  back : RejoinsUpTo l.fn.batch.chain (map (λ b. b.chain) l.fn.batches.items) (map (λ b. b.chain) l.batches.items) l.batch.chain;
  may : Each (AreReturnable l.batch.chain) (map (λ b. b.chain) l.batches.items);
  frames : l.batch.frames ≡ l.fn.batch.frames;
  room : vec_capacity l.batches ≡ vec_capacity l.fn.batches;
}

abbrev pub decreases-shares : goal.decreases-shares
decreases-shares l = vec_len l.batches
