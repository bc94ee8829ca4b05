use Rattle.std.proofs.Common.{◌≡◌, ℕ, ◌+◌, ◌-◌, ◌∙◌, length, take, drop, length-drop, length-take-le, sym, ap, arith}
use Rattle.buffer_model.specs.Segment.{bytes_of}
use Rattle.buffer_model.proofs.Totals.{keeps_equal}
use Rattle.iobuf_chain.specs.Accounts.{held_by}
use Rattle.iobuf_chain.proofs.TrimmedEnds.{bytes_of-front, length-front, held_by-front}
use Rattle.iobuf_chain.proofs.chain.ChainOf.trim_start.Goals as goal

pub invariant_of-self : goal.invariant_of-self
invariant_of-self g c =
    let sums : length (bytes_of c.trim_front.new.nodes) ≡ length (bytes_of c.self.inside.nodes) - c.args.n
    = ap (λ xs. length (bytes_of xs)) c.trim_front.ensures ∙ ap length (bytes_of-front c.args.n c.self.inside.nodes) ∙ length-drop c.args.n (bytes_of c.self.inside.nodes) in
    let sizes : length c.trim_front.new.nodes ≡ length c.self.inside.nodes = ap length c.trim_front.ensures ∙ length-front c.args.n c.self.inside.nodes in
    let some = c.self.invariant.0 in
    let sum = c.self.invariant.1 in
    let room = c.self.invariant.3 in
    (omega arith, omega arith, c.self.invariant.2, omega arith)

pub returns-clause-bytes : goal.returns-clause-bytes
returns-clause-bytes g c = ap (λ xs. bytes_of xs) c.trim_front.ensures ∙ bytes_of-front c.args.n c.self.inside.nodes ∙ ap (λ xs. drop c.args.n (bytes_of xs)) c.self.view_is

pub returns-clause-totals : goal.returns-clause-totals
returns-clause-totals g c =
    keeps_equal _ _ (sym (ap (λ xs. held_by xs) c.trim_front.ensures ∙ held_by-front c.args.n c.self.inside.nodes ∙ ap (λ xs. held_by xs) c.self.view_is))
