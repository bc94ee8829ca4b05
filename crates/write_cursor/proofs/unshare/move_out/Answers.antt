use Rattle.std.proofs.Common.{◌≡◌, ◌≤◌, ◌-◌, [], ◌∷◌, length, ap, sym, subst, ◌∙◌, arith, length-append}
use Rattle.std.specs.VecDeque.{deque_capacity}
use Rattle.buffer_model.specs.Segment.{Segment, hold_of}
use Rattle.buffer_model.specs.Stake.{held, KeepsTotals}
use Rattle.storage.specs.Back.{GivesBack, stakes_of}
use Rattle.iobuf_chain.proofs.Lists.{length-slice_set}
use Rattle.iobuf_chain.proofs.Bytes.{sum-set}
use Rattle.chain_unshare.proofs.Unsharing.{none_of}
use Rattle.write_cursor.proofs.Moving.{moving_no, moving_yes, moving_some, moving_size, moving_as, moving_end}
use Rattle.write_cursor.proofs.unshare.move_out.Goals as goal
use Rattle.write_cursor.proofs.unshare.move_out.Goals.{then-goes+in-Some, else-goes}

pub unreachable-requires : goal.unreachable-requires
unreachable-requires g c =
    let none = c.in_default.ensures.cases.0 in
    let empty : length c.nodes.copies.items ≤ 0 = omega (arith, none) in
    moving_some g.O.Release.runs g.O.Release.last _ _ _ _ _ _ _ _ _ _ c.node-node.result.now c.nodes.invariant.moves c.node-node.ensures
    (sym c.leaves-goes.ensures ∙ c.if-goes.true) (none_of c.nodes.copies.items empty)

pub swap_node-requires-clause-sum : goal.swap_node-requires-clause-sum
swap_node-requires-clause-sum g c =
    let same : length c.in-Some.copy.window ≡ length c.node-node.result.now.window
    = moving_size g.O.Release.runs g.O.Release.last _ _ _ _ _ _ _ _ _ _ _ c.node-node.result.now c.in-Some.copy c.nodes.invariant.moves c.node-node.ensures
    (sym c.leaves-goes.ensures ∙ c.if-goes.true) c.in-Some.ensures.items in
    let sums = sum-set c.nodes.i c.nodes.c c.node-node.result.now c.in-Some.copy c.node-node.ensures in
    omega arith

pub nodes-preserved : goal.nodes-preserved
nodes-preserved g c =
    let size = c.length-len.ensures in
    let span = c.saturating_sub.ensures in
    let next = c.saturating_sub-at.ensures in
    let few = c.saturating_sub-left.ensures in
    let at : c.saturating_sub-at.result ≡ c.nodes.at - length c.node-node.result.now.window = omega (arith, next, size) in
    let left : c.saturating_sub-left.result ≡ c.nodes.left - (length c.node-node.result.now.window - c.nodes.at) = omega (arith, few, span, size) in
    elim c.if-goes.branch [
      | then-goes+in-Some w ↦
          let same : w.swap_node.result ≡ c.node-node.result.now = cc (c.node-node.ensures, w.swap_node.ensures.old) in
          let P : Segment g.row.O.Denot → Type 0 = λ t. GivesBack g.O.Release.runs g.O.Release.last (hold_of t) w.give_back.result in
          let Q : Segment g.row.O.Denot → Type 0 = λ t. KeepsTotals (held t.share ∷ []) (stakes_of w.give_back.result) in
          let front = ap length w.in-Some.ensures.items in
          let grown = ap length w.push_back_reserved.ensures.items ∙ length-append c.nodes.backs.items (w.give_back.result ∷ []) in
          record {
            moves =
                moving_as g.O.Release.runs g.O.Release.last _ _ _ _ _ _ _ _ _ _ _ _ _ _ _
                (moving_yes g.O.Release.runs g.O.Release.last _ _ _ _ _ w.swap_node.new.self _ _ _ _ _ _ _ c.node-node.result.now w.in-Some.copy w.give_back.result
                c.nodes.invariant.moves c.node-node.ensures (sym c.leaves-goes.ensures ∙ w.if-goes.true) w.in-Some.ensures.items w.swap_node.ensures.new
                w.push_back_reserved.ensures.items (subst P same w.give_back.ensures.back) (subst Q same w.give_back.ensures.totals))
                w.c-is (ap (λ d. d.items) w.copies-is) (ap (λ d. d.items) w.backs-is) at left;
            room =
                let room = c.nodes.invariant.room in
                let cap = w.push_back_reserved.ensures.capacity in
                let rest = ap (λ d. length d.items) w.copies-is in
                let backs = ap (λ d. length d.items) w.backs-is in
                let fits = ap (λ d. deque_capacity d) w.backs-is in
                omega (arith, room, cap, rest, backs, fits, front, grown);
            size = ap length (w.c-is ∙ w.swap_node.ensures.new) ∙ length-slice_set c.nodes.i w.in-Some.copy c.nodes.c ∙ c.nodes.invariant.size;
          }
      | else-goes w ↦
          record {
            moves =
                moving_as g.O.Release.runs g.O.Release.last _ _ _ _ _ _ _ _ _ _ _ _ _ _ _
                (moving_no g.O.Release.runs g.O.Release.last _ _ _ _ _ _ _ _ _ _ c.node-node.result.now c.nodes.invariant.moves c.node-node.ensures
                (sym c.leaves-goes.ensures ∙ w.if-goes.false))
                w.c-is (ap (λ d. d.items) w.copies-is) (ap (λ d. d.items) w.backs-is) at left;
            room =
                let room = c.nodes.invariant.room in
                let rest = ap (λ d. length d.items) w.copies-is in
                let backs = ap (λ d. length d.items) w.backs-is in
                let fits = ap (λ d. deque_capacity d) w.backs-is in
                omega (arith, room, rest, backs, fits);
            size = ap length w.c-is ∙ c.nodes.invariant.size;
          }
    ]

pub returns-clause-totals : goal.returns-clause-totals
returns-clause-totals g c =
    let size = c.nodes.invariant.size in
    (moving_end g.O.Release.runs g.O.Release.last _ _ _ _ _ _ _ _ _ _ c.nodes.invariant.moves (omega (arith, size))).1.1
