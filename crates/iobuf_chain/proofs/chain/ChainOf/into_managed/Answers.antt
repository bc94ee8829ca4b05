use Rattle.std.proofs.Common.{◌≡◌, ◌∙◌, length, refl, ap, arith}
use Rattle.buffer_model.specs.Segment.{bytes_of}
use Rattle.iobuf_chain.proofs.Moved.{manages_size, manages_all, manages_keep, manages_from}
use Rattle.iobuf_chain.proofs.chain.ChainOf.into_managed.Goals as goal

pub invariant_of-result : goal.invariant_of-result
invariant_of-result g c =
    let same = manages_size _ _ _ _ c.in-Ok.ensures.nodes in
    let sizes : length c.in-Ok.nodes ≡ length c.self.inside.nodes = same.0 in
    let sums : length (bytes_of c.in-Ok.nodes) ≡ length (bytes_of c.self.inside.nodes) = ap length same.1 in
    let some = c.self.invariant.0 in
    let sum = c.self.invariant.1 in
    let room = c.self.invariant.3 in
    (omega arith, omega arith, c.self.invariant.2, omega arith)

pub returns-in-Ok-clause-managed : goal.returns-in-Ok-clause-managed
returns-in-Ok-clause-managed g c = manages_all _ _ _ _ c.in-Ok.ensures.nodes

pub returns-in-Ok-clause-bytes : goal.returns-in-Ok-clause-bytes
returns-in-Ok-clause-bytes g c = (manages_size _ _ _ _ c.in-Ok.ensures.nodes).1 ∙ ap (λ xs. bytes_of xs) c.self.view_is

pub returns-in-Ok-clause-totals : goal.returns-in-Ok-clause-totals
returns-in-Ok-clause-totals g c = manages_keep _ _ _ _ (manages_from _ _ _ _ _ _ _ c.in-Ok.ensures.nodes refl c.self.view_is refl)
