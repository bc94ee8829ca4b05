use Rattle.std.proofs.Common.{◌≡◌, ◌+◌, length, take, ◌∙◌, ap, arith, length-append}
use Rattle.chain_unshare.specs.Unshares.{shared_in}
use Rattle.chain_unshare.proofs.Unsharing.{shared_at_most, shared_more_whole, shared_more_other, told_whole, told_other}
use Rattle.chain_unshare.proofs.moves.shared_count.Goals as goal
use Rattle.chain_unshare.proofs.moves.shared_count.Goals.{then-not-whole, else-not-whole}

pub overflow_add-count : goal.overflow_add-count
overflow_add-count g c =
    let most = shared_at_most c.nodes.i c.args.c.now in
    let count = c.nodes.invariant in
    omega arith

pub nodes-preserved : goal.nodes-preserved
nodes-preserved g c =
    elim c.if-not-whole.branch [
      | then-not-whole w ↦
          let other = told_other c.whole.result c.node.result.now.share w.if-not-whole.true c.whole.ensures.whole in
          let more : length (shared_in (take (c.nodes.i + 1) c.args.c.now)) ≡ length (shared_in (take c.nodes.i c.args.c.now)) + 1
          = ap length (shared_more_other c.nodes.i c.args.c.now c.node.result.now c.node.ensures other) ∙ length-append (shared_in (take c.nodes.i c.args.c.now)) _ in
          let count = c.nodes.invariant in
          let is = w.count-is in
          omega arith
      | else-not-whole w ↦
          let whole = told_whole c.whole.result c.node.result.now.share w.if-not-whole.false c.whole.ensures.whole in
          let more : length (shared_in (take (c.nodes.i + 1) c.args.c.now)) ≡ length (shared_in (take c.nodes.i c.args.c.now))
          = ap length (shared_more_whole c.nodes.i c.args.c.now c.node.result.now c.node.ensures whole) in
          let count = c.nodes.invariant in
          let is = w.count-is in
          omega arith
    ]
