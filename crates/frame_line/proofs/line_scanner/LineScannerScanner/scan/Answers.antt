use Rattle.std.proofs.Common.{refl, sym, ◌∙◌, ap, arith, take_all, length-append, ◌≡◌, length, take, ◌++◌}
use Rattle.frame_head.specs.declared.codecs.Codec.TheVariants.{Line}
use Rattle.frame_head.specs.Heads.{terminated}
use Rattle.frame_head.specs.Endings.{line_endings}
use Rattle.frame_rule.proofs.Terminated.{hopeless}
use Rattle.frame_line.proofs.Feeds.{some_byte, long_fault}
use Rattle.frame_line.specs.Lines.{ends_in_return}
use Rattle.frame_line.proofs.line_scanner.LineScannerScanner.scan.Goals as goal

pub returns-else-have-bytes-clause-found : goal.returns-else-have-bytes-clause-found
returns-else-have-bytes-clause-found c = λ r size seen.
    let e = c.args.self.now.ending in
    let s = c.args.bytes.now in
    let none = c.in-None.ensures r seen.1 seen.2 in
    let after = c.is_after_return-self.ensures r seen.2 in
    let all : take (length s) s ≡ s = take_all (length s) s (omega arith) in (
      ap (λ o. terminated c.args.self.now.strip c.args.self.now.max o) none,
      hopeless (Line e c.args.self.now.strip c.args.self.now.max) (line_endings e) c.args.self.now.strip c.args.self.now.max 2 (λ w. refl)
          (λ m there. (some_byte e m there).0) (λ m there. (some_byte e m there).1) (omega arith) (long_fault e c.args.self.now.strip c.args.self.now.max)
          (r ++ s) none (omega (arith, c.if-have-bytes.false, size, length-append r s)),
      (seen.0, none, ap (λ w. ends_in_return (r ++ w)) (sym all) ∙ after),
    )
