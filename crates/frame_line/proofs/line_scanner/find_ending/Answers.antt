use Rattle.std.proofs.Common.{◌≡◌, ◌==◌, ◌+◌, length, ◌-◌, take, drop, arith, sym, ap, ◌∙◌, length-drop}
use Rattle.std.proofs.lemmas.List.{take_rest}
use Rattle.frame_head.specs.Endings.{line_endings}
use Rattle.frame_rule.proofs.Seeks.{to_candidate, no_candidate, none_here, ending_here}
use Rattle.frame_line.proofs.Feeds.{silent, some_byte, ending_at, sized, unsized}
use Rattle.frame_line.proofs.line_scanner.find_ending.Goals as goal

pub returns-in-Some-size_at : goal.returns-in-Some-size_at
returns-in-Some-size_at c = λ r still seen.
    let E = line_endings c.args.ending in
    let s = c.args.bytes.now in
    let hay = take (length s - c.feeds.at) (drop c.feeds.at s) in
    let found = to_candidate E (λ x. x == 10) (silent c.args.ending) r s hay c.feeds.at c.in-Some.n (take_rest s c.feeds.at) c.feeds.invariant.within c.in-Some.ensures.0.high c.in-Some.ensures.0.before c.in-Some.ensures.1
    (c.feeds.invariant.unended r still seen) in
    let m = sized c.args.ending c.is_after_return-after.result c.in-Some-size_at.size (sym c.in-Some-size_at.ensures) in
    ending_here E (λ m there. (some_byte c.args.ending m there).0) r s (c.feeds.at + c.in-Some.n) c.in-Some-size_at.size m.0 found.1 found.0
    (ending_at c.args.ending r s (c.feeds.at + c.in-Some.n) c.is_after_return-after.result found.1 found.2 (c.is_after_return-after.ensures r seen) ∙ m.1) m.2

pub feeds-preserved : goal.feeds-preserved
feeds-preserved c =
    let E = line_endings c.args.ending in
    let s = c.args.bytes.now in
    let hay = take (length s - c.feeds.at) (drop c.feeds.at s) in
    let size : length hay ≡ length s - c.feeds.at = ap (λ w. length w) (take_rest s c.feeds.at) ∙ length-drop c.feeds.at s in record {
      within = omega (arith, c.in-Some.ensures.0.high, size);
      unended = λ r still seen.
          let found = to_candidate E (λ x. x == 10) (silent c.args.ending) r s hay c.feeds.at c.in-Some.n (take_rest s c.feeds.at) c.feeds.invariant.within c.in-Some.ensures.0.high c.in-Some.ensures.0.before c.in-Some.ensures.1
          (c.feeds.invariant.unended r still seen) in
          none_here E r s (c.feeds.at + c.in-Some.n) found.1 found.0
          (ending_at c.args.ending r s (c.feeds.at + c.in-Some.n) c.is_after_return-after.result found.1 found.2 (c.is_after_return-after.ensures r seen)
          ∙ unsized c.args.ending c.is_after_return-after.result (sym c.size_at.ensures ∙ c.in_default-size_at.is));
    }

pub returns : goal.returns
returns c = λ r still seen.
    let s = c.args.bytes.now in
    no_candidate (line_endings c.args.ending) (λ x. x == 10) (silent c.args.ending) r s (take (length s - c.feeds.at) (drop c.feeds.at s)) c.feeds.at
    (take_rest s c.feeds.at) c.feeds.invariant.within c.in_default.ensures (c.feeds.invariant.unended r still seen)
