use Rattle.std.proofs.Common.{◌≡◌, ◌<◌, ◌+◌, ◌-◌, ◌++◌, length, take, drop, arith, ap, ◌∙◌, length-drop, length-take-le}
use Rattle.std.proofs.lemmas.List.{take_rest}
use Rattle.frame_head.specs.Endings.{longest_ending}
use Rattle.frame_rule.proofs.Seeks.{to_candidate, no_candidate, none_here, ending_here}
use Rattle.frame_delim.specs.Marks.{may_end}
use Rattle.frame_delim.proofs.Ends.{silent}
use Rattle.frame_delim.proofs.Sizes.{of_size, of_none}
use Rattle.frame_delim.proofs.find.find_ending.Goals as goal

pub returns-in-Some-longest_at : goal.returns-in-Some-longest_at
returns-in-Some-longest_at c = λ r still tells.
    let E = c.args.list.now in
    let s = c.args.bytes.now in
    let hay = take (length s - c.candidates.at) (drop c.candidates.at s) in
    let place = c.candidates.at + c.in-Some.n in
    let found = to_candidate E (may_end E) (silent E c.requires) r s hay c.candidates.at c.in-Some.n (take_rest s c.candidates.at) c.candidates.invariant.within c.in-Some.ensures.0.high c.in-Some.ensures.0.before c.in-Some.ensures.1
    (c.candidates.invariant.unended r still tells) in
    let m = of_size (longest_ending E (c.args.tail.now ++ take (place + 1) s)) c.in-Some-longest_at.size c.in-Some-longest_at.ensures in
    let some : 0 < length (take (place + 1) s) = omega (arith, length-take-le (place + 1) s (omega (arith, found.1))) in
    ending_here E c.requires r s place c.in-Some-longest_at.size m.0 found.1 found.0 (tells (take (place + 1) s) some ∙ m.1) m.2

pub candidates-preserved : goal.candidates-preserved
candidates-preserved c =
    let E = c.args.list.now in
    let s = c.args.bytes.now in
    let hay = take (length s - c.candidates.at) (drop c.candidates.at s) in
    let place = c.candidates.at + c.in-Some.n in
    let size : length hay ≡ length s - c.candidates.at = ap (λ w. length w) (take_rest s c.candidates.at) ∙ length-drop c.candidates.at s in record {
      within = omega (arith, c.in-Some.ensures.0.high, size);
      unended = λ r still tells.
          let found = to_candidate E (may_end E) (silent E c.requires) r s hay c.candidates.at c.in-Some.n (take_rest s c.candidates.at) c.candidates.invariant.within c.in-Some.ensures.0.high c.in-Some.ensures.0.before c.in-Some.ensures.1
          (c.candidates.invariant.unended r still tells) in
          let some : 0 < length (take (place + 1) s) = omega (arith, length-take-le (place + 1) s (omega (arith, found.1))) in
          none_here E r s place found.1 found.0
          (tells (take (place + 1) s) some ∙ of_none (longest_ending E (c.args.tail.now ++ take (place + 1) s)) c.in_default-longest_at.ensures);
    }

pub returns : goal.returns
returns c = λ r still tells.
    let s = c.args.bytes.now in
    no_candidate c.args.list.now (may_end c.args.list.now) (silent c.args.list.now c.requires) r s (take (length s - c.candidates.at) (drop c.candidates.at s)) c.candidates.at
    (take_rest s c.candidates.at) c.candidates.invariant.within c.in_default.ensures (c.candidates.invariant.unended r still tells)
