use Rattle.std.proofs.Common.{ℕ, ◌+◌, ◌<◌, List, drop, length, arith, refl, ◌∙◌}
use Rattle.buffer_model.specs.Segment.{bytes_of}
use Rattle.frame_mark.proofs.MarkSteps.{marks_nothing, marks_further, marks_longer, stands_later, stands_shorter}
use Rattle.frame_mark.proofs.Passed.{all_taken, next_node, node_within, node_size, node_behind, stops_by}
use Rattle.frame_mark.proofs.marking.Marking.mark_chain.Goals as goal

pub nodes-init : goal.nodes-init
nodes-init g c = record {
  nodes = c.requires.there;
  within = omega arith;
  at = λ less. refl;
  count = c.requires.count;
  room = refl;
  closed = λ more. absurd (omega (arith, more));
  fed = omega arith;
  marks = marks_nothing g.S.Scanner.codec_of g.S.Scanner.saw g.met.S.Scanner.checked c.args.self.now (bytes_of (drop c.args.first c.args.chain.now)) c.args.marks.now.items;
}

pub mark_bytes-n-requires-clause-size : goal.mark_bytes-n-requires-clause-size
mark_bytes-n-requires-clause-size g c =
    let less : length c.nodes.marks.items < c.args.most = omega (arith, c.if-len-most.true, c.len.ensures) in
    let is = next_node c.nodes.i c.nodes.n (bytes_of (drop c.args.first c.args.chain.now)) c.bytes.result.now c.args.chain.now c.node.result.now (c.nodes.invariant.at less) c.node.ensures c.bytes.ensures in
    let size = node_size c.nodes.n (bytes_of (drop c.args.first c.args.chain.now)) c.bytes.result.now _ c.nodes.invariant.within is in
    omega (arith, size, c.nodes.invariant.fed, c.requires.size)

pub mark_bytes-n-requires-clause-stands : goal.mark_bytes-n-requires-clause-stands
mark_bytes-n-requires-clause-stands g c =
    let less : length c.nodes.marks.items < c.args.most = omega (arith, c.if-len-most.true, c.len.ensures) in
    let is = next_node c.nodes.i c.nodes.n (bytes_of (drop c.args.first c.args.chain.now)) c.bytes.result.now c.args.chain.now c.node.result.now (c.nodes.invariant.at less) c.node.ensures c.bytes.ensures in
    stands_shorter g.S.Scanner.codec_of g.S.Scanner.saw g.met.S.Scanner.checked c.nodes.self (drop c.nodes.n (bytes_of (drop c.args.first c.args.chain.now))) c.bytes.result.now (bytes_of (drop (c.nodes.i + 1) c.args.chain.now))
    (stands_later g.S.Scanner.codec_of g.S.Scanner.saw g.met.S.Scanner.checked c.args.self.now c.nodes.self (bytes_of (drop c.args.first c.args.chain.now)) _ c.nodes.n _ _ c.nodes.invariant.marks c.requires.stands refl) is

pub nodes-preserved : goal.nodes-preserved
nodes-preserved g c =
    let less : length c.nodes.marks.items < c.args.most = omega (arith, c.if-len-most.true, c.len.ensures) in
    let all : List ℕ = bytes_of (drop c.args.first c.args.chain.now) in
    let more : List ℕ = bytes_of (drop (c.nodes.i + 1) c.args.chain.now) in
    let is = next_node c.nodes.i c.nodes.n all c.bytes.result.now c.args.chain.now c.node.result.now (c.nodes.invariant.at less) c.node.ensures c.bytes.ensures in record {
      nodes = omega (arith, c.nodes-test.true, c.elements.ensures.count);
      within = node_within c.nodes.n c.mark_bytes-n.result all c.bytes.result.now more c.nodes.invariant.within is c.mark_bytes-n.ensures.within;
      at = λ left. node_behind c.nodes.n c.mark_bytes-n.result all c.bytes.result.now more is
          (all_taken c.mark_bytes-n.result (length c.bytes.result.now) c.mark_bytes-n.ensures.within (λ short. let full = c.mark_bytes-n.ensures.stops short in omega (arith, full, left)));
      count = c.mark_bytes-n.ensures.most;
      room = c.mark_bytes-n.ensures.room ∙ c.nodes.invariant.room;
      closed = λ some full. c.mark_bytes-n.ensures.closed (omega (arith, full, less)) full;
      fed = omega (arith, c.mark_bytes-n.ensures.fed, c.nodes.invariant.fed);
      marks = marks_further g.S.Scanner.codec_of g.S.Scanner.saw g.met.S.Scanner.checked c.args.self.now c.nodes.self c.mark_bytes-n.new.self all _ c.nodes.n c.mark_bytes-n.result _ _ _
          c.nodes.invariant.marks refl
          (marks_longer g.S.Scanner.codec_of g.S.Scanner.saw g.met.S.Scanner.checked c.nodes.self c.mark_bytes-n.new.self (drop c.nodes.n all) c.bytes.result.now more c.mark_bytes-n.result _ _ is c.mark_bytes-n.ensures.within c.mark_bytes-n.ensures.fed c.mark_bytes-n.ensures.marks);
    }

pub returns-after-nodes-clause-stops : goal.returns-after-nodes-clause-stops
returns-after-nodes-clause-stops g c = λ left.
    stops_by c.nodes.n c.nodes.i _ c.args.most (bytes_of (drop c.args.first c.args.chain.now)) c.args.chain.now c.nodes.invariant.count c.nodes.invariant.at (λ more less. omega (arith, more, less, c.nodes-test.false, c.elements.ensures.count)) left
