-- Lists of which one begins the other, and the end in a list.
use Rattle.std.proofs.Common.{◌≡◌, ◌+◌, ◌≤◌, inl, inr, List, [], ◌∷◌, ◌++◌, true, false, length, sym, refl, ap, ◌∙◌, subst, append_assoc, append-nil, length-append, arith}
use Rattle.std.specs.Prelude.{Option, Some, None, IfSome}
use Rattle.sub_queue.specs.declared.items.End.{End}
use Rattle.sub_queue.specs.declared.items.Item.{Item}
use Rattle.sub_queue.specs.declared.items.Item.TheVariants.{One, Ended}
use Rattle.sub_queue.specs.declared.rule.Log.{Log}
use Rattle.sub_queue.specs.Line.{log, Begins, Agree}
use Rattle.sub_queue.specs.Ends.{end_of, EndIsLast, Feeds, Taps}

if_some : {A : Type 0} → (o : Option A) (P Q : Type 0) → (P → Q) → IfSome o (λ _. P) → IfSome o (λ _. Q)
if_some (Some x) P Q f p = f p
if_some None P Q f p = tt

module _ {T : Type 0} where
  pub begins_more : (xs ys : List T) (x : T) → Begins xs ys → Begins xs (ys ++ x ∷ [])
  begins_more xs ys x b = (b.0 ++ x ∷ [], ap (λ l. l ++ x ∷ []) b.1 ∙ append_assoc xs b.0 (x ∷ []))

  agree_next : (x : T) (xs ys : List T) → Agree xs ys → Agree (x ∷ xs) (x ∷ ys)
  agree_next x xs ys (inl b) = inl (b.0, ap (λ l. x ∷ l) b.1)
  agree_next x xs ys (inr b) = inr (b.0, ap (λ l. x ∷ l) b.1)

  -- two beginnings of one list agree
  pub agrees : (xs ys more rest : List T) → xs ++ more ≡ ys ++ rest → Agree xs ys
  agrees [] ys more rest e = inl (ys, refl)
  agrees (x ∷ xs) [] more rest e = inr (x ∷ xs, refl)
  agrees (x ∷ xs) (y ∷ ys) more rest e = grind (arith, agrees xs ys more rest, agree_next x xs ys)

  -- a beginning of a list is no longer than the list
  pub no_longer : (xs ys items all : List T) → Begins xs all → all ≡ ys ++ items → length xs ≤ length ys + length items
  no_longer xs ys items all b e = let l = length-append xs b.0 in let r = length-append ys items in
      let m = ap (λ z. length z) b.1 in let n = ap (λ z. length z) e in omega (arith, l, r, m, n)

module _ {T : Type 0} where
  pub ends_open : (xs : List (Item T)) (x : Item T) → end_of xs ≡ None → EndIsLast xs → EndIsLast (xs ++ x ∷ [])
  ends_open [] (One x) e last = tt
  ends_open [] (Ended y) e last = refl
  ends_open (One y ∷ xs) x e last = ends_open xs x e last
  ends_open (Ended y ∷ xs) x e last = absurd (grind (arith, e))

  pub end_pushed : (xs : List (Item T)) (x : Item T) → end_of xs ≡ None → end_of (xs ++ x ∷ []) ≡ end_of (x ∷ [])
  end_pushed [] x e = refl
  end_pushed (One y ∷ xs) x e = end_pushed xs x e
  end_pushed (Ended y ∷ xs) x e = absurd (grind (arith, e))

  all_taken : (taken items : List (Item T)) → EndIsLast (taken ++ items) → IfSome (end_of taken) (λ _. items ≡ [])
  all_taken [] items last = tt
  all_taken (One x ∷ xs) items last = all_taken xs items last
  all_taken (Ended y ∷ []) items last = last
  all_taken (Ended y ∷ z ∷ xs) items last = absurd (grind (arith, last))

  -- with the end all was taken
  pub ended_all : (taken items sent : List (Item T)) → sent ≡ taken ++ items → EndIsLast sent
      → IfSome (end_of taken) (λ _. taken ≡ sent)
  ended_all taken items sent e last = if_some (end_of taken) (items ≡ []) (taken ≡ sent)
      (λ none. sym (e ∙ ap (λ l. taken ++ l) none ∙ append-nil taken))
      (all_taken taken items (subst EndIsLast e last))

  -- a feed that sent one more item
  pub feeds_on : (v w : Log (Item T)) (x : Item T) → Feeds v → end_of v.sent ≡ None
      → w ≡ log true false (v.sent ++ x ∷ []) [] [] → Feeds w
  feeds_on v w x f e is = subst Feeds (sym is) (refl, ends_open v.sent x e f.1)

  -- a tap that took one more item
  pub taps_on : (v w : Log (Item T)) (x : Item T) (old new : Option End) → old ≡ None → new ≡ end_of (x ∷ [])
      → Taps v old
      → (w ≡ log v.feeds v.taps v.sent (v.taken ++ x ∷ []) v.told) × Agree (v.taken ++ x ∷ []) v.told → Taps w new
  taps_on v w x old new was now f is = subst (λ (u : Log (Item T)). Taps u new)
      (sym (is.0 ∙ ap (λ (u : Log (Item T)). log u.feeds u.taps u.sent (v.taken ++ x ∷ []) v.told) f.0))
      (refl, is.1, f.2, now ∙ sym (end_pushed v.taken x (sym f.3 ∙ was)))

  -- a tap that has met its feed
  pub taps_told : (v w : Log (Item T)) (sent : List (Item T)) (ended : Option End) → Taps v ended
      → Begins v.taken sent → EndIsLast sent → w ≡ log false true [] v.taken sent → Taps w ended
  taps_told v w sent ended f b last is = subst (λ (u : Log (Item T)). Taps u ended) (sym is) (refl, inl b, last, f.3)
