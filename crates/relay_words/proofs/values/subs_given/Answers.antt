use Rattle.std.proofs.Common.{◌≡◌, Vec, Global, ap, sym, ◌∙◌, arith}
use Rattle.relay_words.specs.declared.subscribers.SubWord.{SubWord}
use Rattle.relay_words.specs.Orders.{sub_given}
use Rattle.relay_words.proofs.Each.{more_made, none_made}
use Rattle.relay_words.proofs.values.subs_given.Goals as goal
use Rattle.relay_words.proofs.values.subs_given.Goals.{in-Some+in_ok-push, in_default}

vec_items_same : {v w : Vec SubWord Global} → v ≡ w → v.items ≡ w.items
vec_items_same e = ap (λ (v : Vec SubWord Global). v.items) e

pub loop-item-preserved : goal.loop-item-preserved
loop-item-preserved c = elim c.match-branch-2.branch [
  | in-Some+in_ok-push w ↦
      more_made sub_given c.behind_codec-item-items.result.now c.loop-item.item-index c.item-item.result w.in-Some.sub c.loop-item.subs.items c.match-branch-2.subs.items (omega arith) c.item-item.is
      (sym c.in_ok-sub.ensures ∙ w.in-Some.is) c.loop-item.invariant (vec_items_same w.subs-is ∙ w.in_ok-push.ensures.items)
  | in_default w ↦
      none_made sub_given c.behind_codec-item-items.result.now c.loop-item.item-index c.item-item.result c.loop-item.subs.items c.match-branch-2.subs.items (omega arith) c.item-item.is
      (sym c.in_ok-sub.ensures ∙ w.in_default.is) c.loop-item.invariant (vec_items_same w.subs-is)
]
