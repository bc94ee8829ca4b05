use Rattle.std.proofs.Common.{◌≡◌, ◌++◌, None, sym, ap, ◌∙◌, arith}
use Rattle.relay_words.specs.Hex.{hex_bytes, of_each}
use Rattle.relay_words.proofs.Each.{none_at, list_there}
use Rattle.relay_words.proofs.hex.read_marks.Goals as goal

pub returns-in_default : goal.returns-in_default
returns-in_default c =
    let none : None ≡ hex_bytes c.part-item.result = sym c.in_default.is ∙ c.in_ok-mark.ensures ∙ ap hex_bytes c.bytes.ensures in
    let all = none_at hex_bytes (λ ms. c.loop-part.list.items ++ ms) c.deref-part-items.result.now c.loop-part.part-index c.part-item.result (omega arith) c.part-item.is none c.loop-part.invariant in
    all ∙ ap (λ l. of_each hex_bytes l) (c.deref-part-items.ensures.value ∙ c.in_ok-parts.ensures) ∙ sym (list_there c.args.w.now (sym c.is_empty.ensures ∙ c.if-is_empty.false))
