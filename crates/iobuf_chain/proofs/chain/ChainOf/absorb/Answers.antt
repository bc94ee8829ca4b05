use Rattle.std.proofs.Common.{◌≡◌, length, ap, arith}
use Rattle.buffer_model.specs.Segment.{bytes_of}
use Rattle.iobuf_chain.proofs.Absorbed.{absorbs_sum, first_absorbs_keep, number_is}
use Rattle.iobuf_chain.proofs.chain.ChainOf.absorb.Goals as goal

pub invariant_of-self : goal.invariant_of-self
invariant_of-self g c =
    let same = absorbs_sum _ _ _ _ c.absorb_at.ensures.node in
    let sizes : length c.absorb_at.new.nodes ≡ length c.self.inside.nodes = same.0 in
    let sums : length (bytes_of c.absorb_at.new.nodes) ≡ length (bytes_of c.self.inside.nodes) = ap length same.1 in
    let some = c.self.invariant.0 in
    let sum = c.self.invariant.1 in
    let room = c.self.invariant.3 in
    (omega arith, omega arith, c.self.invariant.2, omega arith)

pub returns-clause-totals : goal.returns-clause-totals
returns-clause-totals g c =
    first_absorbs_keep _ _ _ _ _ c.self.view_is c.requires (number_is _ _ _ _ c.number.ensures c.in-Some.ensures) c.absorb_at.ensures.node
