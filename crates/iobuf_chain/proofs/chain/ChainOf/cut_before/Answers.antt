use Rattle.std.proofs.Common.{◌≡◌, ℕ, ◌+◌, ◌-◌, ◌∙◌, ◌++◌, ◌∷◌, [], length, take, drop, length-append, length-drop, sym, ap, arith}
use Rattle.buffer_model.specs.Segment.{bytes_of}
use Rattle.iobuf_chain.proofs.Bytes.{sum-append, sum-cut}
use Rattle.iobuf_chain.proofs.Accounts.{cut_keeps}
use Rattle.iobuf_chain.proofs.chain.ChainOf.cut_before.Goals as goal

pub sum_of-sum-requires : goal.sum_of-sum-requires
sum_of-sum-requires g c =
    let is : length (bytes_of c.in_ok-nodes.nodes) ≡ length (bytes_of (take c.args.i c.self.inside.nodes ++ c.args.last ∷ [])) = ap (λ xs. length (bytes_of xs)) c.in_ok-nodes.ensures.front.0 in
    let sums = sum-append (take c.args.i c.self.inside.nodes) (c.args.last ∷ []) in
    let one = length-append c.args.last.window [] in
    let here : length (bytes_of (take c.args.i c.self.inside.nodes)) ≡ length (bytes_of (take c.args.i c.args.self.now)) = ap (λ xs. length (bytes_of (take c.args.i xs))) c.self.view_is in
    let most = c.requires.sum in
    omega arith

pub overflow_sub-self : goal.overflow_sub-self
overflow_sub-self g c =
    let is : length (bytes_of c.in_ok-nodes.nodes) ≡ length (bytes_of (take c.args.i c.self.inside.nodes ++ c.args.last ∷ [])) = ap (λ xs. length (bytes_of xs)) c.in_ok-nodes.ensures.front.0 in
    let sums = sum-append (take c.args.i c.self.inside.nodes) (c.args.last ∷ []) in
    let one = length-append c.args.last.window [] in
    omega arith

pub overflow_sub-self-2 : goal.overflow_sub-self-2
overflow_sub-self-2 g c =
    let is : length (bytes_of c.in_ok-nodes.nodes) ≡ length (bytes_of (take c.args.i c.self.inside.nodes ++ c.args.last ∷ [])) = ap (λ xs. length (bytes_of xs)) c.in_ok-nodes.ensures.front.0 in
    let sums = sum-append (take c.args.i c.self.inside.nodes) (c.args.last ∷ []) in
    let one = length-append c.args.last.window [] in
    let parts = sum-cut c.args.i c.self.inside.nodes in
    let sum = c.self.invariant.1 in
    omega arith

pub invariant_of-self-2 : goal.invariant_of-self-2
invariant_of-self-2 g c =
    let is : length (bytes_of c.in_ok-nodes.nodes) ≡ length (bytes_of (take c.args.i c.self.inside.nodes ++ c.args.last ∷ [])) = ap (λ xs. length (bytes_of xs)) c.in_ok-nodes.ensures.front.0 in
    let left : length (bytes_of c.take_front_with.new.self) ≡ length (bytes_of (drop c.args.i c.self.inside.nodes)) = ap (λ xs. length (bytes_of xs)) c.in_ok-nodes.ensures.front.1 in
    let fewer : length c.take_front_with.new.self ≡ length c.self.inside.nodes - c.args.i = ap length c.in_ok-nodes.ensures.front.1 ∙ length-drop c.args.i c.self.inside.nodes in
    let sums = sum-append (take c.args.i c.self.inside.nodes) (c.args.last ∷ []) in
    let one = length-append c.args.last.window [] in
    let parts = sum-cut c.args.i c.self.inside.nodes in
    let here : length c.self.inside.nodes ≡ length c.args.self.now = ap length c.self.view_is in
    let sum = c.self.invariant.1 in
    let room = c.self.invariant.3 in
    (omega arith, omega arith, c.self.invariant.2, omega arith)

pub returns-clause-totals : goal.returns-clause-totals
returns-clause-totals g c =
    cut_keeps c.args.i _ _ _ c.args.last
    (c.in_ok-nodes.ensures.front.0 ∙ ap (λ xs. take c.args.i xs ++ c.args.last ∷ []) c.self.view_is)
    (c.in_ok-nodes.ensures.front.1 ∙ ap (λ xs. drop c.args.i xs) c.self.view_is)
