use Rattle.std.proofs.Common.{◌≡◌, ◌+◌, ◌++◌, List, [], length, sym, ap, ◌∙◌, arith, length-append}
use Rattle.buffer_model.specs.Segment.{Segment, bytes_of}
use Rattle.iobuf_chain.specs.Lists.{inserted_after}
use Rattle.iobuf_chain.proofs.Lists.{length-inserted}
use Rattle.iobuf_chain.proofs.Bytes.{sum-append, sum-inserted}
use Rattle.iobuf_chain.proofs.Accounts.{same_nodes, then_nodes, inserted_keeps}
use Rattle.iobuf_chain.proofs.chain.ChainOf.insert_after.Goals as goal

pub invariant_of-self-in-Ok-insert_after : goal.invariant_of-self-in-Ok-insert_after
invariant_of-self-in-Ok-insert_after g c =
    let sums : length (bytes_of c.insert_after.new.self) ≡ length (bytes_of c.self.inside.nodes) + length (bytes_of c.other.inside.nodes)
    = ap (λ xs. length (bytes_of xs)) c.in-Ok-insert_after.ensures ∙ sum-inserted c.args.i c.other.inside.nodes c.self.inside.nodes in
    let sizes : length c.insert_after.new.self ≡ length c.self.inside.nodes + length c.other.inside.nodes = ap length c.in-Ok-insert_after.ensures ∙ length-inserted c.args.i c.other.inside.nodes c.self.inside.nodes in
    let mine : length c.self.inside.nodes ≡ length c.args.self.now = ap length c.self.view_is in
    let theirs : length c.other.inside.nodes ≡ length c.args.other = ap length c.other.view_is in
    let my_sum = c.self.invariant.1 in
    let their_sum = c.other.invariant.1 in
    let some = c.self.invariant.0 in
    let made = c.in-Ok.ensures.made in
    (omega arith, omega arith, c.make_room.ensures.items ∙ c.self.invariant.2, omega arith)

pub returns-in-Ok-insert_after-clause-totals : goal.returns-in-Ok-insert_after-clause-totals
returns-in-Ok-insert_after-clause-totals g c =
    inserted_keeps c.args.i _ _ _
    (c.in-Ok-insert_after.ensures ∙ ap (λ xs. inserted_after c.args.i c.other.inside.nodes xs) c.self.view_is ∙ ap (λ xs. inserted_after c.args.i xs c.args.self.now) c.other.view_is)
