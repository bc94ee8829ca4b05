use Rattle.std.proofs.Common.{◌≡◌, ◌≤◌, [], ◌∷◌, length, ap, subst, ◌∙◌, arith, length-append}
use Rattle.std.specs.VecDeque.{deque_capacity}
use Rattle.buffer_model.specs.Share.{IsWhole}
use Rattle.buffer_model.specs.Segment.{Segment}
use Rattle.iobuf_chain.proofs.Lists.{length-slice_set}
use Rattle.iobuf_chain.proofs.Bytes.{sum-set}
use Rattle.chain_unshare.proofs.Unsharing.{none_of, told_whole, told_other, moving_whole, moving_other, moving_some, moving_size, moving_as, moving_end}
use Rattle.chain_unshare.proofs.moves.move_in.Goals as goal
use Rattle.chain_unshare.proofs.moves.move_in.Goals.{then-not-whole+in-Some, else-not-whole}

pub unreachable-requires : goal.unreachable-requires
unreachable-requires g c =
    let none = c.in_default.ensures.cases.0 in
    let empty : length c.nodes.copies.items ≤ 0 = omega (arith, none) in
    moving_some g.O.Release.runs g.O.Release.last _ _ _ _ _ _ _ c.nodes.invariant.moves c.node.ensures
    (told_other c.whole.result c.node.result.now.share c.if-not-whole.true c.whole.ensures.whole) (none_of c.nodes.copies.items empty)

pub swap_node-requires-clause-sum : goal.swap_node-requires-clause-sum
swap_node-requires-clause-sum g c =
    let same : length c.in-Some.copy.window ≡ length c.node.result.now.window
    = moving_size g.O.Release.runs g.O.Release.last _ _ _ _ _ _ _ c.node.result.now c.in-Some.copy c.nodes.invariant.moves c.node.ensures
    (told_other c.whole.result c.node.result.now.share c.if-not-whole.true c.whole.ensures.whole) c.in-Some.ensures.items in
    let sums = sum-set c.nodes.i c.nodes.c c.node.result.now c.in-Some.copy c.node.ensures in
    omega arith

pub nodes-preserved : goal.nodes-preserved
nodes-preserved g c =
    elim c.if-not-whole.branch [
      | then-not-whole+in-Some w ↦
          let same : c.node.result.now ≡ w.swap_node.result = cc (c.node.ensures, w.swap_node.ensures.old) in
          let P : Segment g.row.O.Denot → Type 0 = λ t. ¬ IsWhole t.share in
          let other = subst P same (told_other c.whole.result c.node.result.now.share w.if-not-whole.true c.whole.ensures.whole) in
          let front = ap length w.in-Some.ensures.items in
          let grown = ap length w.push_back_reserved.ensures.items ∙ length-append c.nodes.backs.items (w.give_back.result ∷ []) in
          record {
            moves =
                moving_as g.O.Release.runs g.O.Release.last _ _ _ _ _ _ _ _ _
                (moving_other g.O.Release.runs g.O.Release.last _ _ _ w.swap_node.new.self _ _ _ _ _ w.swap_node.result w.in-Some.copy w.give_back.result
                c.nodes.invariant.moves w.swap_node.ensures.old other w.in-Some.ensures.items w.swap_node.ensures.new w.push_back_reserved.ensures.items
                w.give_back.ensures.back w.give_back.ensures.totals)
                w.c-is (ap (λ d. d.items) w.copies-is) (ap (λ d. d.items) w.backs-is);
            room =
                let room = c.nodes.invariant.room in
                let cap = w.push_back_reserved.ensures.capacity in
                let left = ap (λ d. length d.items) w.copies-is in
                let backs = ap (λ d. length d.items) w.backs-is in
                let fits = ap (λ d. deque_capacity d) w.backs-is in
                omega (arith, room, cap, left, backs, fits, front, grown);
            size = ap length (w.c-is ∙ w.swap_node.ensures.new) ∙ length-slice_set c.nodes.i w.in-Some.copy c.nodes.c ∙ c.nodes.invariant.size;
          }
      | else-not-whole w ↦
          let whole = told_whole c.whole.result c.node.result.now.share w.if-not-whole.false c.whole.ensures.whole in
          record {
            moves =
                moving_as g.O.Release.runs g.O.Release.last _ _ _ _ _ _ _ _ _
                (moving_whole g.O.Release.runs g.O.Release.last _ _ _ _ _ _ _ c.nodes.invariant.moves c.node.ensures whole)
                w.c-is (ap (λ d. d.items) w.copies-is) (ap (λ d. d.items) w.backs-is);
            room =
                let room = c.nodes.invariant.room in
                let left = ap (λ d. length d.items) w.copies-is in
                let backs = ap (λ d. length d.items) w.backs-is in
                let fits = ap (λ d. deque_capacity d) w.backs-is in
                omega (arith, room, left, backs, fits);
            size = ap length w.c-is ∙ c.nodes.invariant.size;
          }
    ]

pub returns-clause-nodes : goal.returns-clause-nodes
returns-clause-nodes g c =
    let size = c.nodes.invariant.size in
    (moving_end g.O.Release.runs g.O.Release.last _ _ _ _ _ _ c.nodes.invariant.moves (omega (arith, size))).0

pub returns-clause-totals : goal.returns-clause-totals
returns-clause-totals g c =
    let size = c.nodes.invariant.size in
    (moving_end g.O.Release.runs g.O.Release.last _ _ _ _ _ _ c.nodes.invariant.moves (omega (arith, size))).1.1
