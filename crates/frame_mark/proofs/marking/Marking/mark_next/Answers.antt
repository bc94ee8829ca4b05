use Rattle.std.proofs.Common.{arith}
use Rattle.frame_mark.proofs.MarkSteps.{marks_open, marks_hopeless, marks_skipped, marks_frame, marks_fault, open_fed, frame_some, frame_fine, fault_some}
use Rattle.frame_mark.proofs.marking.Marking.mark_next.Goals as goal

pub returns-then-self-gt0-clause-marks : goal.returns-then-self-gt0-clause-marks
returns-then-self-gt0-clause-marks g c = λ base all l.
    marks_skipped g.S.Scanner.codec_of g.S.Scanner.saw g.met.S.Scanner.checked c.args.self.now base all c.args.bytes.now c.least-k.result c.args.marks.now.items l c.if-self-gt0.true
    (omega (arith, c.least-k.ensures)) (omega (arith, c.least-k.ensures))

pub scan-requires-clause-room : goal.scan-requires-clause-room
scan-requires-clause-room g c =
    let fed = open_fed g.S.Scanner.codec_of g.S.Scanner.saw g.met.S.Scanner.checked c.args.self.now c.args.bytes.now c.requires.stands in
    omega (arith, fed, c.requires.size)

pub overflow_add-self-in-Hopeless : goal.overflow_add-self-in-Hopeless
overflow_add-self-in-Hopeless g c =
    let fed = open_fed g.S.Scanner.codec_of g.S.Scanner.saw g.met.S.Scanner.checked c.args.self.now c.args.bytes.now c.requires.stands in
    omega (arith, fed, c.requires.size)

pub overflow_sub-at-in-Fault : goal.overflow_sub-at-in-Fault
overflow_sub-at-in-Fault g c = open_fed g.S.Scanner.codec_of g.S.Scanner.saw g.met.S.Scanner.checked c.args.self.now c.args.bytes.now c.requires.stands

pub returns-in-Open-clause-marks : goal.returns-in-Open-clause-marks
returns-in-Open-clause-marks g c = λ base all l.
    marks_open g.S.Scanner.codec_of g.S.Scanner.saw g.met.S.Scanner.checked c.args.self.now c.scan.new.self base all c.args.bytes.now c.args.marks.now.items l (omega (arith, c.if-self-gt0.false)) c.in-Open.ensures.found c.in-Open.ensures.codec

pub returns-in-Hopeless-clause-marks : goal.returns-in-Hopeless-clause-marks
returns-in-Hopeless-clause-marks g c = λ base all l.
    marks_hopeless g.S.Scanner.codec_of g.S.Scanner.saw g.met.S.Scanner.checked c.args.self.now c.scan.new.self base all c.args.bytes.now c.args.marks.now.items l (omega (arith, c.if-self-gt0.false)) c.in-Hopeless.ensures.found c.in-Hopeless.ensures.codec

pub returns-in-Frame-clause-marks : goal.returns-in-Frame-clause-marks
returns-in-Frame-clause-marks g c = λ base all l.
    marks_frame g.S.Scanner.codec_of g.S.Scanner.saw g.met.S.Scanner.checked c.args.self.now c.scan.new.self base all c.args.bytes.now c.in-Frame.used c.in-Frame.front c.in-Frame.back c.args.marks.now.items _ l (omega (arith, c.if-self-gt0.false)) c.in-Frame.ensures.found c.in-Frame.ensures.codec
    (frame_some g.S.Scanner.codec_of g.S.Scanner.saw g.met.S.Scanner.checked c.args.self.now c.scan.new.self c.args.bytes.now c.in-Frame.used c.in-Frame.front c.in-Frame.back c.requires.stands c.in-Frame.ensures.found).1
    (frame_fine g.S.Scanner.codec_of g.S.Scanner.saw g.met.S.Scanner.checked c.args.self.now c.scan.new.self c.args.bytes.now c.in-Frame.used c.in-Frame.front c.in-Frame.back c.requires.stands c.in-Frame.ensures.found) c.push_reserved.ensures.items

pub returns-in-Frame-clause-some : goal.returns-in-Frame-clause-some
returns-in-Frame-clause-some g c =
    (frame_some g.S.Scanner.codec_of g.S.Scanner.saw g.met.S.Scanner.checked c.args.self.now c.scan.new.self c.args.bytes.now c.in-Frame.used c.in-Frame.front c.in-Frame.back c.requires.stands c.in-Frame.ensures.found).0

pub returns-in-Fault-clause-marks : goal.returns-in-Fault-clause-marks
returns-in-Fault-clause-marks g c = λ base all l.
    marks_fault g.S.Scanner.codec_of g.S.Scanner.saw g.met.S.Scanner.checked c.args.self.now c.scan.new.self base all c.args.bytes.now c.in-Fault.kind c.in-Fault.used c.in-Fault.over c.args.marks.now.items _ l (omega (arith, c.if-self-gt0.false)) c.in-Fault.ensures.found c.in-Fault.ensures.codec
    (fault_some g.S.Scanner.codec_of g.S.Scanner.saw g.met.S.Scanner.checked c.args.self.now c.scan.new.self c.args.bytes.now c.in-Fault.kind c.in-Fault.used c.in-Fault.over c.requires.stands c.in-Fault.ensures.found).1 c.push_reserved-in-Fault.ensures.items

pub returns-in-Fault-clause-some : goal.returns-in-Fault-clause-some
returns-in-Fault-clause-some g c =
    (fault_some g.S.Scanner.codec_of g.S.Scanner.saw g.met.S.Scanner.checked c.args.self.now c.scan.new.self c.args.bytes.now c.in-Fault.kind c.in-Fault.used c.in-Fault.over c.requires.stands c.in-Fault.ensures.found).0
