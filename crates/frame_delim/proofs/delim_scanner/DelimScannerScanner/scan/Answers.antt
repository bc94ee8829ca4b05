use Rattle.std.proofs.Common.{◌≡◌, None, refl, sym, subst, arith}
use Rattle.frame_head.specs.declared.codecs.Codec.TheVariants.{Delim}
use Rattle.frame_head.specs.Codecs.{fault_of}
use Rattle.frame_rule.specs.declared.scanner.Scan.{Scan}
use Rattle.frame_rule.specs.Scanning.{Scanned}
use Rattle.frame_rule.proofs.Terminated.{scanned_at}
use Rattle.frame_delim.specs.Tails.{Saw}
use Rattle.frame_delim.proofs.Scans.{tail_tells, saw_nothing, goes_on, no_hope}
use Rattle.frame_delim.proofs.Sizes.{passed}
use Rattle.frame_delim.proofs.delim_scanner.DelimScannerScanner.scan.Goals as goal

pub find_ending-requires : goal.find_ending-requires
find_ending-requires c = (passed c.args.self.now.list c.args.self.now.max c.requires.seen.2.0).some

pub scan_at-requires-clause-room : goal.scan_at-requires-clause-room
scan_at-requires-clause-room c =
    let d = c.args.self.now in
    let seen = c.requires.seen in
    let found = c.in-Some.ensures seen.0 seen.2.1.3 (tail_tells d.list d.longest d.tail c.bytes.result.now seen.0 seen.2.1 c.bytes.ensures) in
    omega (arith, found.0, c.requires.room)

pub scan_at-requires-clause-fits : goal.scan_at-requires-clause-fits
scan_at-requires-clause-fits c =
    let d = c.args.self.now in
    let seen = c.requires.seen in
    let found = c.in-Some.ensures seen.0 seen.2.1.3 (tail_tells d.list d.longest d.tail c.bytes.result.now seen.0 seen.2.1 c.bytes.ensures) in
    omega (arith, found.1, seen.1)

pub returns-in-Some-clause-found : goal.returns-in-Some-clause-found
returns-in-Some-clause-found c = λ r size saw.
    let d = c.args.self.now in
    let found = c.in-Some.ensures r saw.1.3 (tail_tells d.list d.longest d.tail c.bytes.result.now r saw.1 c.bytes.ensures) in
    let S : Scan → Type 0 = λ x. Scanned (Delim d.list d.strip d.max) r c.args.bytes.now x (λ w. (fault_of (Delim d.list d.strip d.max) ≡ None) × Saw d.list d.longest c.clear.new.self w) in
    subst S (sym c.scan_at.ensures)
    (scanned_at (Delim d.list d.strip d.max) d.list d.strip d.max (λ w. refl) r c.args.bytes.now c.args.have c.in-Some.ending _ size found
    (saw.0, saw_nothing d.list d.longest c.clear.new.self d.tail r saw.1 c.clear.ensures))

pub returns-then-have-bytes-clause-found : goal.returns-then-have-bytes-clause-found
returns-then-have-bytes-clause-found c = λ r size saw.
    let d = c.args.self.now in
    goes_on d.list d.strip d.max d.longest c.args.have d.tail c.keep_last.new.self r c.args.bytes.now saw.0 size saw.1
    (c.in-None.ensures r saw.1.3 (tail_tells d.list d.longest d.tail c.bytes.result.now r saw.1 c.bytes.ensures)) c.keep_last.ensures c.if-have-bytes.true

pub returns-else-have-bytes-clause-found : goal.returns-else-have-bytes-clause-found
returns-else-have-bytes-clause-found c = λ r size saw.
    let d = c.args.self.now in
    no_hope d.list d.strip d.max d.longest c.args.have d.tail c.keep_last.new.self r c.args.bytes.now saw.0 size saw.1
    (c.in-None.ensures r saw.1.3 (tail_tells d.list d.longest d.tail c.bytes.result.now r saw.1 c.bytes.ensures)) c.keep_last.ensures c.if-have-bytes.false
