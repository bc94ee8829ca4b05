use Rattle.std.proofs.Common.{◌≡◌, ◌+◌, ◌++◌, ◌∷◌, [], ◌∙◌, length, slice_set, sym, ap, arith}
use Rattle.buffer_model.specs.Segment.{bytes_of}
use Rattle.iobuf_chain.proofs.Lists.{length-slice_set}
use Rattle.iobuf_chain.proofs.Bytes.{sum-set, window_within}
use Rattle.iobuf_chain.proofs.Accounts.{same_nodes, then_nodes, swapped_keeps}
use Rattle.iobuf_chain.proofs.chain.ChainOf.swap_node.Goals as goal

pub overflow_sub-self : goal.overflow_sub-self
overflow_sub-self g c =
    let sums : length (bytes_of (slice_set c.self.inside.nodes c.args.i c.args.node)) + length c.swap-old.result.window ≡ length (bytes_of c.self.inside.nodes) + length c.args.node.window
    = sum-set c.args.i c.self.inside.nodes c.swap-old.result c.args.node c.swap-old.ensures.old in
    let within = window_within c.args.i c.self.inside.nodes c.swap-old.result c.swap-old.ensures.old in
    let sum = c.self.invariant.1 in
    omega arith

pub overflow_add-self : goal.overflow_add-self
overflow_add-self g c =
    let sums : length (bytes_of (slice_set c.self.inside.nodes c.args.i c.args.node)) + length c.swap-old.result.window ≡ length (bytes_of c.self.inside.nodes) + length c.args.node.window
    = sum-set c.args.i c.self.inside.nodes c.swap-old.result c.args.node c.swap-old.ensures.old in
    let most : length (bytes_of (slice_set c.self.inside.nodes c.args.i c.args.node)) ≡ length (bytes_of (slice_set c.args.self.now c.args.i c.args.node))
    = ap (λ xs. length (bytes_of (slice_set xs c.args.i c.args.node))) c.self.view_is in
    let sum = c.self.invariant.1 in
    omega arith

pub invariant_of-self : goal.invariant_of-self
invariant_of-self g c =
    let sums : length (bytes_of (slice_set c.self.inside.nodes c.args.i c.args.node)) + length c.swap-old.result.window ≡ length (bytes_of c.self.inside.nodes) + length c.args.node.window
    = sum-set c.args.i c.self.inside.nodes c.swap-old.result c.args.node c.swap-old.ensures.old in
    let within = window_within c.args.i c.self.inside.nodes c.swap-old.result c.swap-old.ensures.old in
    let set : length (bytes_of c.swap-old.new.self) ≡ length (bytes_of (slice_set c.self.inside.nodes c.args.i c.args.node)) = ap (λ xs. length (bytes_of xs)) c.swap-old.ensures.new in
    let sizes : length c.swap-old.new.self ≡ length c.self.inside.nodes = ap length c.swap-old.ensures.new ∙ length-slice_set c.args.i c.args.node c.self.inside.nodes in
    let sum = c.self.invariant.1 in
    let some = c.self.invariant.0 in
    let room = c.self.invariant.3 in
    (omega arith, omega arith, c.self.invariant.2, omega arith)

pub returns-clause-totals : goal.returns-clause-totals
returns-clause-totals g c =
    then_nodes _ _ _ (same_nodes _ _ (ap (λ xs. xs ++ c.args.node ∷ []) (sym c.self.view_is)))
    (swapped_keeps c.args.i _ _ _ _ c.swap-old.ensures.old c.swap-old.ensures.new)
