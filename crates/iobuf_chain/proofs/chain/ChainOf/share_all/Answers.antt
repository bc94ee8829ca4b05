use Rattle.std.proofs.Common.{◌≡◌, ◌+◌, ◌∙◌, length, refl, sym, ap, arith}
use Rattle.buffer_model.specs.Segment.{bytes_of}
use Rattle.iobuf_chain.proofs.Rejoined.{regains_each}
use Rattle.iobuf_chain.proofs.Shared.{each_sum, each_keeps, regains_sum, regains_from, keeps_from, refused_keeps}
use Rattle.iobuf_chain.proofs.Copied.{clones_copy_nothing, copies_from, with_data_from}
use Rattle.iobuf_chain.proofs.Lasting.{each_left}
use Rattle.iobuf_chain.proofs.ManyMinted.{same_from}
use Rattle.iobuf_chain.proofs.chain.ChainOf.share_all.Goals as goal

pub returns-in_default-clause-refused : goal.returns-in_default-clause-refused
returns-in_default-clause-refused g c = regains_each _ _ refl

pub invariant_of-result : goal.invariant_of-result
invariant_of-result g c =
    let same = each_sum _ _ _ _ _ c.in-Ok-share_nodes.ensures.shares in
    let sizes : length c.in-Ok-share_nodes.nodes ≡ length c.self.inside.nodes = same.1 in
    let sums : length (bytes_of c.in-Ok-share_nodes.nodes) ≡ length (bytes_of c.self.inside.nodes) = ap length same.3 in
    let some = c.self.invariant.0 in
    let sum = c.self.invariant.1 in
    let room = c.in-Ok.ensures.capacity in
    (omega arith, omega arith, c.in-Ok.ensures.items, omega arith)

pub invariant_of-self : goal.invariant_of-self
invariant_of-self g c =
    let same = regains_sum _ _ c.in-Err.ensures.refused in
    let sizes : length c.share_nodes.new.nodes ≡ length c.self.inside.nodes = same.0 in
    let sums : length (bytes_of c.share_nodes.new.nodes) ≡ length (bytes_of c.self.inside.nodes) = ap length same.1 in
    let some = c.self.invariant.0 in
    let sum = c.self.invariant.1 in
    let room = c.self.invariant.3 in
    (omega arith, omega arith, c.self.invariant.2, omega arith)

pub invariant_of-self-2 : goal.invariant_of-self-2
invariant_of-self-2 g c =
    let same = each_sum _ _ _ _ _ c.in-Ok-share_nodes.ensures.shares in
    let sizes : length c.share_nodes.new.nodes ≡ length c.self.inside.nodes = same.0 in
    let sums : length (bytes_of c.share_nodes.new.nodes) ≡ length (bytes_of c.self.inside.nodes) = ap length same.2 in
    let some = c.self.invariant.0 in
    let sum = c.self.invariant.1 in
    let room = c.self.invariant.3 in
    (omega arith, omega arith, c.self.invariant.2, omega arith)

pub returns-clause-totals : goal.returns-clause-totals
returns-clause-totals g c = keeps_from c.args.mint.now _ _ _ _ c.self.view_is (each_keeps _ _ _ _ _ c.in-Ok-share_nodes.ensures.shares)

pub returns-in-Err-clause-refused : goal.returns-in-Err-clause-refused
returns-in-Err-clause-refused g c = regains_from _ _ _ c.self.view_is c.in-Err.ensures.refused

pub returns-in-Err-clause-totals : goal.returns-in-Err-clause-totals
returns-in-Err-clause-totals g c = keeps_from c.args.mint.now _ _ _ _ c.self.view_is (refused_keeps c.args.mint.now _ _ _ c.in-Err.ensures.refused)

pub returns-clause-copies : goal.returns-clause-copies
returns-clause-copies g c =
    λ may.
    copies_from _ _ _ c.self.view_is
    (clones_copy_nothing _ _ _ _ _ c.in-Ok-share_nodes.ensures.shares (with_data_from _ _ _ c.self.view_is may))

pub returns-clause-bytes : goal.returns-clause-bytes
returns-clause-bytes g c = (each_sum _ _ _ _ _ c.in-Ok-share_nodes.ensures.shares).3 ∙ ap bytes_of c.self.view_is

pub returns-clause-kept : goal.returns-clause-kept
returns-clause-kept g c = (each_sum _ _ _ _ _ c.in-Ok-share_nodes.ensures.shares).2 ∙ ap bytes_of c.self.view_is

pub returns-in-Err-clause-kept : goal.returns-in-Err-clause-kept
returns-in-Err-clause-kept g c = (regains_sum _ _ c.in-Err.ensures.refused).1 ∙ ap bytes_of c.self.view_is

pub returns-clause-left : goal.returns-clause-left
returns-clause-left g c =
    λ k few enough. each_left k _ _ _ _ _ c.in-Ok-share_nodes.ensures.shares few (with_data_from _ _ _ c.self.view_is enough)

pub returns-clause-numbers : goal.returns-clause-numbers
returns-clause-numbers g c = same_from _ _ _ _ c.self.view_is c.share_nodes.ensures.numbers

pub returns-in-Err-clause-numbers : goal.returns-in-Err-clause-numbers
returns-in-Err-clause-numbers g c = same_from _ _ _ _ c.self.view_is c.share_nodes.ensures.numbers

pub returns-in_default-clause-numbers : goal.returns-in_default-clause-numbers
returns-in_default-clause-numbers g c = λ _. refl
