use Rattle.std.proofs.Common.{◌≡◌, ℕ, ◌+◌, ◌-◌, ◌∙◌, length, take, drop, length-drop, length-take-le, sym, ap, arith}
use Rattle.buffer_model.specs.Segment.{bytes_of}
use Rattle.buffer_model.proofs.Totals.{keeps_equal}
use Rattle.iobuf_chain.specs.Accounts.{held_by}
use Rattle.iobuf_chain.proofs.TrimmedEnds.{bytes_of-back, length-back, held_by-back}
use Rattle.iobuf_chain.proofs.chain.ChainOf.trim_end.Goals as goal

pub invariant_of-self : goal.invariant_of-self
invariant_of-self g c =
    let sums : length (bytes_of c.trim_back.new.nodes) ≡ length (bytes_of c.self.inside.nodes) - c.args.n
    = ap (λ xs. length (bytes_of xs)) c.trim_back.ensures ∙ ap length (bytes_of-back c.args.n c.self.inside.nodes) ∙ length-take-le (length (bytes_of c.self.inside.nodes) - c.args.n) (bytes_of c.self.inside.nodes) (omega arith) in
    let sizes : length c.trim_back.new.nodes ≡ length c.self.inside.nodes = ap length c.trim_back.ensures ∙ length-back c.args.n c.self.inside.nodes in
    let some = c.self.invariant.0 in
    let sum = c.self.invariant.1 in
    let room = c.self.invariant.3 in
    (omega arith, omega arith, c.self.invariant.2, omega arith)

pub returns-clause-bytes : goal.returns-clause-bytes
returns-clause-bytes g c = ap (λ xs. bytes_of xs) c.trim_back.ensures ∙ bytes_of-back c.args.n c.self.inside.nodes ∙ ap (λ xs. take (length (bytes_of xs) - c.args.n) (bytes_of xs)) c.self.view_is

pub returns-clause-totals : goal.returns-clause-totals
returns-clause-totals g c =
    keeps_equal _ _ (sym (ap (λ xs. held_by xs) c.trim_back.ensures ∙ held_by-back c.args.n c.self.inside.nodes ∙ ap (λ xs. held_by xs) c.self.view_is))
