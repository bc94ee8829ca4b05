use Rattle.std.proofs.Common.{◌++◌, ◌∙◌, ap, sym, take}
use Rattle.buffer_model.specs.Segment.{bytes_of}
use Rattle.iobuf_chain.proofs.Sliced.{bytes_more}
use Rattle.iobuf_chain.proofs.chain.ChainOf.to_vec.Goals as goal

pub nodes-preserved : goal.nodes-preserved
nodes-preserved g c =
    c.in_ok-extend_from_slice.ensures.items ∙ ap (λ l. l ++ c.bytes.result.now) c.nodes.invariant
    ∙ ap (λ w. bytes_of (take c.nodes.i c.args.self.now) ++ w) c.bytes.ensures ∙ sym (bytes_more c.nodes.i c.args.self.now c.node.result.now c.node.ensures)
