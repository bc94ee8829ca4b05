use Rattle.std.proofs.Common.{◌≡◌, ◌+◌, ◌-◌, ◌∙◌, length, sym, ap, arith}
use Rattle.buffer_model.specs.Segment.{bytes_of}
use Rattle.iobuf_chain.specs.Lists.{between, without}
use Rattle.iobuf_chain.proofs.Lists.{length-between, length-without}
use Rattle.iobuf_chain.proofs.Bytes.{sum-parts}
use Rattle.iobuf_chain.proofs.Accounts.{same_nodes, then_nodes, parted_keeps}
use Rattle.iobuf_chain.proofs.chain.ChainOf.separate.Goals as goal

pub sum_of-sum-requires : goal.sum_of-sum-requires
sum_of-sum-requires g c =
    let is : length (bytes_of c.in_ok-nodes.nodes) ≡ length (bytes_of (between c.args.i c.args.j c.self.inside.nodes)) = ap (λ xs. length (bytes_of xs)) c.in_ok-nodes.ensures.taken in
    let sums = sum-parts c.args.i c.args.j c.self.inside.nodes (omega arith) in
    let sum = c.self.invariant.1 in
    omega arith

pub overflow_sub-self : goal.overflow_sub-self
overflow_sub-self g c =
    let is : length (bytes_of c.in_ok-nodes.nodes) ≡ length (bytes_of (between c.args.i c.args.j c.self.inside.nodes)) = ap (λ xs. length (bytes_of xs)) c.in_ok-nodes.ensures.taken in
    let sums = sum-parts c.args.i c.args.j c.self.inside.nodes (omega arith) in
    let sum = c.self.invariant.1 in
    omega arith

pub invariant_of-self-2 : goal.invariant_of-self-2
invariant_of-self-2 g c =
    let is : length (bytes_of c.in_ok-nodes.nodes) ≡ length (bytes_of (between c.args.i c.args.j c.self.inside.nodes)) = ap (λ xs. length (bytes_of xs)) c.in_ok-nodes.ensures.taken in
    let left : length (bytes_of c.take_between.new.self) ≡ length (bytes_of (without c.args.i c.args.j c.self.inside.nodes)) = ap (λ xs. length (bytes_of xs)) c.in_ok-nodes.ensures.left in
    let sums = sum-parts c.args.i c.args.j c.self.inside.nodes (omega arith) in
    let here : length c.self.inside.nodes ≡ length c.args.self.now = ap length c.self.view_is in
    let fewer : length c.take_between.new.self ≡ length (without c.args.i c.args.j c.self.inside.nodes) = ap length c.in_ok-nodes.ensures.left in
    let sizes : length (without c.args.i c.args.j c.self.inside.nodes) + (c.args.j - c.args.i) ≡ length c.self.inside.nodes
    = length-without c.args.i c.args.j c.self.inside.nodes (omega arith) (omega arith) in
    let sum = c.self.invariant.1 in
    let room = c.self.invariant.3 in
    (omega arith, omega arith, c.self.invariant.2, omega arith)

pub returns-clause-totals : goal.returns-clause-totals
returns-clause-totals g c =
    parted_keeps c.args.i c.args.j _ _ _ (omega arith)
    (c.in_ok-nodes.ensures.taken ∙ ap (λ xs. between c.args.i c.args.j xs) c.self.view_is)
    (c.in_ok-nodes.ensures.left ∙ ap (λ xs. without c.args.i c.args.j xs) c.self.view_is)
