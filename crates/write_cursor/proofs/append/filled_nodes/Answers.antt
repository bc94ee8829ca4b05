use Rattle.std.proofs.Common.{◌∷◌, [], ◌∙◌, length, ap, arith, length-append, length-drop}
use Rattle.std.proofs.lemmas.List.{length-take}
use Rattle.buffer_model.specs.Segment.{Segment, bytes_of}
use Rattle.buffer_model.proofs.Minted.{on_then}
use Rattle.iobuf_chain.proofs.Bytes.{sum-append}
use Rattle.write_cursor.proofs.Writing.{rest_is}
use Rattle.write_cursor.proofs.Appending.{adds_first, adds_next, adds_end, filled_on}
use Rattle.write_cursor.proofs.append.filled_nodes.Goals as goal

pub pieces-init : goal.pieces-init
pieces-init g c =
    let s = c.in_ok-filled_node.field-0 in
    record {
      adds = λ m ss adds. rw c.of-chain.ensures
          (adds_first _ _ _ _ m c.args.bytes.now s ss c.min-first.ensures c.requires.some c.in_ok-filled_node.ensures.node adds);
      sum =
          let one = ap (λ xs. length (bytes_of xs)) c.of-chain.ensures in
          let two = length-append s.window [] in
          let three = ap (λ (t : Segment g.row.O.Denot). length t.window) c.in_ok-filled_node.ensures.node.lists in
          let four = length-take c.min-first.result c.args.bytes.now in
          let five = ap length (rest_is c.args.bytes.now c.min-first.result) in
          let six = length-drop c.min-first.result c.args.bytes.now in
          let few = c.min-first.ensures in
          omega (arith, one, two, three, four, five, six, few);
      on = filled_on _ _ _ _ _ c.in_ok-filled_node.ensures.node;
    }

pub pieces-preserved : goal.pieces-preserved
pieces-preserved g c =
    let s = c.in_ok-filled_node-2.field-0 in
    record {
      adds = λ m ss adds.
          adds_next _ _ _ _ _ m c.args.bytes.now c.pieces.rest.now s c.pieces.chain _ ss c.pieces.invariant.adds c.min-n.ensures c.pieces-test.true
          c.in_ok-filled_node-2.ensures.node c.in_ok-add_node.ensures.added adds;
      sum =
          let one = ap (λ xs. length (bytes_of xs)) c.in_ok-add_node.ensures.added ∙ sum-append c.pieces.chain (s ∷ []) in
          let two = length-append s.window [] in
          let three = ap (λ (t : Segment g.row.O.Denot). length t.window) c.in_ok-filled_node-2.ensures.node.lists in
          let four = length-take c.min-n.result c.pieces.rest.now in
          let five = ap length (rest_is c.pieces.rest.now c.min-n.result) in
          let six = length-drop c.min-n.result c.pieces.rest.now in
          let few = c.min-n.ensures in
          let sum = c.pieces.invariant.sum in
          omega (arith, one, two, three, four, five, six, few, sum);
      on = on_then _ _ _ c.pieces.invariant.on (filled_on _ _ _ _ _ c.in_ok-filled_node-2.ensures.node);
    }

pub returns-clause-nodes : goal.returns-clause-nodes
returns-clause-nodes g c = adds_end _ _ _ c.args.bytes.now c.pieces.rest.now c.pieces.chain c.pieces.invariant.adds (omega (arith, c.pieces-test.false))
