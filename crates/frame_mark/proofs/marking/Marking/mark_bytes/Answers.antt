use Rattle.std.proofs.Common.{length, arith, ap, ◌∙◌, refl, length-drop}
use Rattle.frame_mark.proofs.MarkSteps.{marks_nothing, marks_further, stands_later, slice_is}
use Rattle.frame_mark.proofs.marking.Marking.mark_bytes.Goals as goal

pub units-init : goal.units-init
units-init g c = record {
  within = omega arith;
  count = c.requires.count;
  room = refl;
  closed = λ more. absurd (omega (arith, more));
  fed = omega arith;
  marks = marks_nothing g.S.Scanner.codec_of g.S.Scanner.saw g.met.S.Scanner.checked c.args.self.now c.args.bytes.now c.args.marks.now.items;
}

pub mark_next-n-requires-clause-stands : goal.mark_next-n-requires-clause-stands
mark_next-n-requires-clause-stands g c =
    stands_later g.S.Scanner.codec_of g.S.Scanner.saw g.met.S.Scanner.checked c.args.self.now c.units.self c.args.bytes.now _ c.units.n _ _ c.units.invariant.marks c.requires.stands (slice_is c.units.n c.args.bytes.now)

pub units-preserved : goal.units-preserved
units-preserved g c =
    let size = ap length (slice_is c.units.n c.args.bytes.now) in
    let left = length-drop c.units.n c.args.bytes.now in record {
      within = omega (arith, c.mark_next-n.ensures.within, size, left, c.units.invariant.within);
      count = omega (arith, c.mark_next-n.ensures.one, c.if-len-most.true, c.len.ensures);
      closed = λ more all. c.mark_next-n.ensures.closed (omega (arith, all, c.if-len-most.true, c.len.ensures));
      room = c.mark_next-n.ensures.room ∙ c.units.invariant.room;
      fed = omega (arith, c.mark_next-n.ensures.fed, c.units.invariant.fed);
      marks = marks_further g.S.Scanner.codec_of g.S.Scanner.saw g.met.S.Scanner.checked c.args.self.now c.units.self c.mark_next-n.new.self c.args.bytes.now _ c.units.n c.mark_next-n.result _ _ _
          c.units.invariant.marks (slice_is c.units.n c.args.bytes.now) c.mark_next-n.ensures.marks;
    }
