use Rattle.std.proofs.Common.{◌≡◌, ◌+◌, ◌≤◌, length, sym, ap, arith}
use Rattle.buffer_model.specs.Segment.{bytes_of}
use Rattle.iobuf_chain.proofs.Ranged.{range_some, some_sum}
use Rattle.iobuf_chain.proofs.Shared.{regains_sum}
use Rattle.iobuf_chain.proofs.chain.ChainOf.share_some.Goals as goal
use Rattle.iobuf_chain.proofs.chain.ChainOf.share_some.Goals.{in-Ok, in-Err}

pub invariant_of-result : goal.invariant_of-result
invariant_of-result g c =
    let here : length (bytes_of c.self.inside.nodes) ≡ length (bytes_of c.args.self.now) = ap (λ xs. length (bytes_of xs)) c.self.view_is in
    let there = c.requires.there in
    let some = range_some _ _ _ _ _ _ _ c.in-Ok.ensures.shares c.requires.some (omega (arith, here, there)) in
    (some.1, sym some.0, c.in-Ok.ensures.room.0, c.in-Ok.ensures.room.1)

pub invariant_of-self : goal.invariant_of-self
invariant_of-self g c =
    let same : (length c.share_bytes.new.nodes ≡ length c.self.inside.nodes) × (bytes_of c.share_bytes.new.nodes ≡ bytes_of c.self.inside.nodes)
    = elim c.match-share_bytes.branch [
      | in-Ok w ↦ some_sum _ _ _ _ _ _ _ _ w.in-Ok.ensures.shares
      | in-Err w ↦ regains_sum _ _ w.in-Err.ensures.refused
    ] in
    let sizes : length c.share_bytes.new.nodes ≡ length c.self.inside.nodes = same.0 in
    let sums : length (bytes_of c.share_bytes.new.nodes) ≡ length (bytes_of c.self.inside.nodes) = ap length same.1 in
    let some = c.self.invariant.0 in
    let sum = c.self.invariant.1 in
    let room = c.self.invariant.3 in
    (omega arith, omega arith, c.self.invariant.2, omega arith)
