use Rattle.std.proofs.Common.{refl, ap, ◌∙◌, arith}
use Rattle.std.specs.VecDeque.{deque_capacity}
use Rattle.chain_unshare.proofs.Unsharing.{shared_more_whole, shared_more_other, told_whole, told_other, copies_more, copies_add_all, copies_room, copies_as}
use Rattle.chain_unshare.proofs.moves.copy_shared.Goals as goal
use Rattle.chain_unshare.proofs.moves.copy_shared.Goals.{then-not-whole+in_ok-duplicate, else-not-whole}

pub returns-in_err-duplicate-clause-mint : goal.returns-in_err-duplicate-clause-mint
returns-in_err-duplicate-clause-mint g c =
    copies_add_all c.nodes.i _ _ c.duplicate.new.mint c.args.c.now c.nodes.copies.items c.nodes.invariant.copies c.in_err-duplicate.ensures.refused

pub push_back_reserved-requires : goal.push_back_reserved-requires
push_back_reserved-requires g c =
    let other = told_other c.whole.result c.node-node.result.now.share c.if-not-whole.true c.whole.ensures.whole in
    let room = copies_room c.nodes.i _ _ c.args.c.now c.nodes.copies.items c.node-node.result.now c.nodes.invariant.copies c.node-node.ensures other in
    let most = c.nodes.invariant.room in
    omega (arith, room, most)

pub nodes-preserved : goal.nodes-preserved
nodes-preserved g c =
    elim c.if-not-whole.branch [
      | then-not-whole+in_ok-duplicate w ↦
          let other = told_other c.whole.result c.node-node.result.now.share w.if-not-whole.true c.whole.ensures.whole in
          record {
            copies =
                copies_as _ _ _ _ _ _ _
                (copies_more _ _ _ _ _ c.node-node.result.now w.in_ok-duplicate.field-0 c.nodes.invariant.copies w.in_ok-duplicate.ensures.node)
                w.mint-is (shared_more_other c.nodes.i c.args.c.now c.node-node.result.now c.node-node.ensures other)
                (ap (λ d. d.items) w.copies-is ∙ w.push_back_reserved.ensures.items);
            room =
                let room = c.nodes.invariant.room in
                let cap = w.push_back_reserved.ensures.capacity in
                let same = ap (λ d. deque_capacity d) w.copies-is in
                omega (arith, room, cap, same);
          }
      | else-not-whole w ↦
          let whole = told_whole c.whole.result c.node-node.result.now.share w.if-not-whole.false c.whole.ensures.whole in
          record {
            copies =
                copies_as _ _ _ _ _ _ _ c.nodes.invariant.copies w.mint-is
                (shared_more_whole c.nodes.i c.args.c.now c.node-node.result.now c.node-node.ensures whole) (ap (λ d. d.items) w.copies-is);
            room =
                let room = c.nodes.invariant.room in
                let same = ap (λ d. deque_capacity d) w.copies-is in
                omega (arith, room, same);
          }
    ]

pub returns-clause-mint : goal.returns-clause-mint
returns-clause-mint g c =
    copies_add_all c.nodes.i _ _ c.nodes.mint c.args.c.now c.nodes.copies.items c.nodes.invariant.copies refl
