use Rattle.std.proofs.Common.{◌≡◌, ◌+◌, ◌∙◌, length, sym, ap, arith}
use Rattle.buffer_model.specs.Segment.{bytes_of}
use Rattle.iobuf_chain.proofs.Lists.{length-rotated}
use Rattle.iobuf_chain.proofs.Bytes.{sum-rotated}
use Rattle.iobuf_chain.proofs.Accounts.{same_nodes, then_nodes, rotated_keeps}
use Rattle.iobuf_chain.proofs.chain.ChainOf.rotate.Goals as goal

pub invariant_of-self : goal.invariant_of-self
invariant_of-self g c =
    let sums = ap (λ xs. length (bytes_of xs)) c.rotate.ensures ∙ sum-rotated c.args.i c.self.inside.nodes in
    let sizes = ap length c.rotate.ensures ∙ length-rotated c.args.i c.self.inside.nodes in
    (omega (arith, sizes), omega (arith, sums), c.self.invariant.2, omega (arith, sizes))

pub returns-clause-totals : goal.returns-clause-totals
returns-clause-totals g c = then_nodes _ _ _ (same_nodes _ _ (sym c.self.view_is)) (rotated_keeps c.args.i _ _ c.rotate.ensures)
