use Rattle.std.proofs.Common.{ap, sym, ◌∙◌, string_bytes}
use Rattle.relay_words.specs.Items.{takes, one_word, two_words}
use Rattle.relay_words.proofs.Reading.{two_first, one_first, one_last}
use Rattle.relay_words.proofs.items.first_item.Goals as goal
use Rattle.relay_words.proofs.items.first_item.Goals.{in-Some+else-takes, in_default}

pub returns-then-takes-clause-items : goal.returns-then-takes-clause-items
returns-then-takes-clause-items c =
    two_first (λ w. string_bytes w) c.args.at c.args.words.now c.in_ok-word.word.now c.in-Some.next.now c.in_ok-word.behind.now c.in-Some.more.now c.two_words.result
    c.in_ok-word.ensures.cases.0 c.in-Some.ensures.cases.0
    (sym (c.if-takes.ensures ∙ ap (λ v. takes v c.as_bytes-in-Some.result.now) c.as_bytes.ensures.value ∙ ap (λ v. takes (string_bytes c.in_ok-word.word.now) v) c.as_bytes-in-Some.ensures.value))
    (c.two_words.ensures ∙ ap (λ v. two_words c.args.at v c.as_bytes-then-takes-2.result.now) c.as_bytes-then-takes.ensures.value ∙ ap (λ v. two_words c.args.at (string_bytes c.in_ok-word.word.now) v) c.as_bytes-then-takes-2.ensures.value)

pub returns-clause-items : goal.returns-clause-items
returns-clause-items c = elim c.match-split_first.branch [
  | in-Some+else-takes w ↦
      one_first (λ w. string_bytes w) c.args.at c.args.words.now c.in_ok-word.word.now w.in-Some.next.now c.in_ok-word.behind.now w.in-Some.more.now c.one_word.result
      c.in_ok-word.ensures.cases.0 w.in-Some.ensures.cases.0
      (sym (w.if-takes.ensures ∙ ap (λ v. takes v w.as_bytes-in-Some.result.now) w.as_bytes.ensures.value ∙ ap (λ v. takes (string_bytes c.in_ok-word.word.now) v) w.as_bytes-in-Some.ensures.value))
      (c.one_word.ensures ∙ ap (λ v. one_word c.args.at v) c.as_bytes-2.ensures.value)
  | in_default w ↦
      one_last (λ w. string_bytes w) c.args.at c.args.words.now c.in_ok-word.word.now c.in_ok-word.behind.now c.one_word.result
      c.in_ok-word.ensures.cases.0 w.in_default.ensures.cases (c.one_word.ensures ∙ ap (λ v. one_word c.args.at v) c.as_bytes-2.ensures.value)
]
