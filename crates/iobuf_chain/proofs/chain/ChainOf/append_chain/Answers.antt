use Rattle.std.proofs.Common.{◌≡◌, ◌+◌, ◌++◌, List, [], length, sym, ap, ◌∙◌, arith, length-append}
use Rattle.buffer_model.specs.Segment.{Segment, bytes_of}
use Rattle.iobuf_chain.proofs.Lists.{length-inserted}
use Rattle.iobuf_chain.proofs.Bytes.{sum-append, sum-inserted}
use Rattle.iobuf_chain.proofs.Accounts.{same_nodes}
use Rattle.iobuf_chain.proofs.chain.ChainOf.append_chain.Goals as goal

pub invariant_of-self-in-Ok-append : goal.invariant_of-self-in-Ok-append
invariant_of-self-in-Ok-append g c =
    let sums : length (bytes_of c.append.new.self) ≡ length (bytes_of c.self.inside.nodes) + length (bytes_of c.other.inside.nodes)
    = ap (λ xs. length (bytes_of xs)) c.in-Ok-append.ensures ∙ sum-append c.self.inside.nodes c.other.inside.nodes in
    let sizes : length c.append.new.self ≡ length c.self.inside.nodes + length c.other.inside.nodes = ap length c.in-Ok-append.ensures ∙ length-append c.self.inside.nodes c.other.inside.nodes in
    let mine : length c.self.inside.nodes ≡ length c.args.self.now = ap length c.self.view_is in
    let theirs : length c.other.inside.nodes ≡ length c.args.other = ap length c.other.view_is in
    let my_sum = c.self.invariant.1 in
    let their_sum = c.other.invariant.1 in
    let some = c.self.invariant.0 in
    let made = c.in-Ok.ensures.made in
    (omega arith, omega arith, c.make_room.ensures.items ∙ c.self.invariant.2, omega arith)
