use Rattle.std.proofs.Common.{◌≡◌, ℕ, ◌-◌, Option, Some, None, take, drop, subst}
use Rattle.frame_length.specs.Fields.{Saw}
use Rattle.frame_length.proofs.Aims.{scanned_toward, scanned_aimed}
use Rattle.frame_length.proofs.length_scanner.LengthScannerScanner.scan.Goals as goal

pub returns-in-Some-clause-found : goal.returns-in-Some-clause-found
returns-in-Some-clause-found c = λ r size saw.
    let d = c.args.self.now in
    let P : Option ℕ → Type 0 = λ o. Saw d.header d.seen o r in
    let known : Saw d.header d.seen (Some c.in-Some.target) r = subst P c.in-Some.is saw.1 in
    scanned_toward d.header c.in-Some.target c.args.have r c.args.bytes.now d.seen c.toward.result c.still_to-self.result saw.0 size known.0 known.1 c.toward.ensures c.still_to-self.ensures

pub returns-in-At-clause-found : goal.returns-in-At-clause-found
returns-in-At-clause-found c = λ r size saw.
    let d = c.args.self.now in
    let P : Option ℕ → Type 0 = λ o. Saw d.header d.seen o r in
    let known : Saw d.header d.seen None r = subst P c.in-None.is saw.1 in
    let Q : ℕ → Type 0 = λ k. take (k - d.header.offset) d.seen ≡ drop d.header.offset r in
    scanned_aimed d.header c.in-At.target c.args.have r c.args.bytes.now c.look.new.seen c.toward-in-At.result c.still_to-self-in-At.result saw.0 size known.0 (c.in-At.ensures r size (subst Q size known.1))
    c.toward-in-At.ensures c.still_to-self-in-At.ensures
