-- Totals of nodes.
use Rattle.std.proofs.Common.{◌≡◌, ℕ, suc, zero, ◌+◌, ◌<◌, ◌≤◌, List, [], ◌∷◌, ◌++◌, Option, Some, None, Result, Ok, Err, length, take, drop, refl, sym, ap, subst, ◌∙◌, append_assoc, arith, add-one, slice_get, slice_set, OnOk, OnErr, IfOk, MatchResult}
use Rattle.std.proofs.lemmas.Option.{none-some}
use Rattle.std.proofs.lemmas.List.{take-append-drop, append-nil}
use Rattle.buffer_model.specs.Share.{Kind}
use Rattle.buffer_model.specs.Segment.{Segment}
use Rattle.buffer_model.specs.Stake.{Stake, held, weight_in, total, IsOneWay, Keeps, KeepsTotals}
use Rattle.buffer_model.proofs.Totals.{keeps_same, keeps_equal, keeps_then, total-append, one_way-append, one_way-front, one_way-back}
use Rattle.iobuf_chain.specs.Accounts.{held_by, answered, handed_back}
use Rattle.iobuf_chain.proofs.Bytes.{parts_of}
use Rattle.iobuf_chain.specs.Lists.{between, without, rotated, inserted_after}

module _ {O : Type 0} where
  pub held_by-append : (xs ys : List (Segment O)) → held_by (xs ++ ys) ≡ held_by xs ++ held_by ys
  held_by-append [] ys = refl
  held_by-append (x ∷ xs) ys = ap (λ hs. held x.share ∷ hs) (held_by-append xs ys)

  -- two parts behind others change places
  pub swaps_stakes : (xs ys zs : List (Stake O)) → KeepsTotals (xs ++ (ys ++ zs)) (xs ++ (zs ++ ys))
  swaps_stakes xs ys zs n = record {
    total =
        let a = total-append n xs (ys ++ zs) in
        let b = total-append n ys zs in
        let c = total-append n xs (zs ++ ys) in
        let d = total-append n zs ys in
        omega (arith, a, b, c, d);
    way = λ kind is.
        let back = one_way-back n kind xs (ys ++ zs) is in
        one_way-append n kind xs (zs ++ ys) (one_way-front n kind xs (ys ++ zs) is)
        (one_way-append n kind zs ys (one_way-back n kind ys zs back) (one_way-front n kind ys zs back));
  }

  parts_held : (xs ys zs : List (Segment O)) → held_by (xs ++ (ys ++ zs)) ≡ held_by xs ++ (held_by ys ++ held_by zs)
  parts_held xs ys zs = held_by-append xs (ys ++ zs) ∙ ap (λ hs. held_by xs ++ hs) (held_by-append ys zs)

  pub swaps_nodes : (xs ys zs : List (Segment O)) → KeepsTotals (held_by (xs ++ (ys ++ zs))) (held_by (xs ++ (zs ++ ys)))
  swaps_nodes xs ys zs =
      keeps_then _ _ _ (keeps_equal _ _ (parts_held xs ys zs))
      (keeps_then _ _ _ (swaps_stakes (held_by xs) (held_by ys) (held_by zs)) (keeps_equal _ _ (sym (parts_held xs zs ys))))

  pub same_nodes : (xs ys : List (Segment O)) → xs ≡ ys → KeepsTotals (held_by xs) (held_by ys)
  same_nodes xs ys e = keeps_equal _ _ (ap held_by e)

  pub then_nodes : (xs ys zs : List (Segment O)) → KeepsTotals (held_by xs) (held_by ys) → KeepsTotals (held_by ys) (held_by zs)
      → KeepsTotals (held_by xs) (held_by zs)
  then_nodes xs ys zs p q = keeps_then _ _ _ p q

  -- nodes that turn
  pub rotated_keeps : (i : ℕ) (xs ys : List (Segment O)) → ys ≡ rotated i xs → KeepsTotals (held_by xs) (held_by ys)
  rotated_keeps i xs ys is =
      then_nodes _ _ _ (same_nodes _ _ (sym (take-append-drop i xs)))
      (then_nodes _ _ _ (swaps_nodes [] (take i xs) (drop i xs)) (same_nodes _ _ (sym is)))

  -- nodes that join behind a node
  pub inserted_keeps : (i : ℕ) (old others new : List (Segment O)) → new ≡ inserted_after i others old → KeepsTotals (held_by (old ++ others)) (held_by (new ++ []))
  inserted_keeps i old others new is =
      then_nodes _ _ _ (same_nodes _ _ (ap (λ xs. xs ++ others) (sym (take-append-drop (i + 1) old)) ∙ append_assoc (take (i + 1) old) (drop (i + 1) old) others))
      (then_nodes _ _ _ (swaps_nodes (take (i + 1) old) (drop (i + 1) old) others) (same_nodes _ _ (sym is ∙ sym (append-nil new))))

  -- nodes that leave
  pub parted_keeps : (i j : ℕ) (old new taken : List (Segment O)) → i ≤ j → taken ≡ between i j old → new ≡ without i j old
      → KeepsTotals (held_by old) (held_by (new ++ taken))
  parted_keeps i j old new taken h out left =
      then_nodes _ _ _ (same_nodes _ _ (parts_of i j old h))
      (then_nodes _ _ _ (swaps_nodes (take i old) (between i j old) (drop j old))
      (same_nodes _ _ (sym (append_assoc (take i old) (drop j old) (between i j old)) ∙ ap (λ ys. ys ++ between i j old) (sym left) ∙ ap (λ ys. new ++ ys) (sym out))))

  -- the first nodes leave, with another behind them
  pub cut_keeps : (i : ℕ) (old new cut : List (Segment O)) (last : Segment O) → cut ≡ take i old ++ last ∷ [] → new ≡ drop i old
      → KeepsTotals (held_by (old ++ last ∷ [])) (held_by (new ++ cut))
  cut_keeps i old new cut last out left =
      let front : List (Segment O) = take i old in
      let back : List (Segment O) = drop i old in
      let end : List (Segment O) = last ∷ [] in
      then_nodes _ _ _ (same_nodes _ _ (ap (λ xs. xs ++ end) (sym (take-append-drop i old)) ∙ append_assoc front back end))
      (then_nodes _ _ _ (swaps_nodes front back end)
      (then_nodes _ _ _ (same_nodes _ _ (sym (append_assoc front end back)))
      (then_nodes _ _ _ (swaps_nodes [] (front ++ end) back)
      (same_nodes _ _ (ap (λ ys. ys ++ (front ++ end)) (sym left) ∙ ap (λ ys. new ++ ys) (sym out))))))

  -- one node in the place of another
  swapped_apart : (i : ℕ) (xs : List (Segment O)) (x y : Segment O) → slice_get xs i ≡ Some x
      → (xs ≡ take i xs ++ (x ∷ [] ++ drop (i + 1) xs)) × (slice_set xs i y ≡ take i xs ++ (y ∷ [] ++ drop (i + 1) xs))
  swapped_apart i [] x y is = absurd (none-some x is)
  swapped_apart zero (z ∷ zs) x y is = let same : z ≡ x = cc in (ap (λ w. w ∷ zs) same, refl)
  swapped_apart (suc i) (z ∷ zs) x y is =
      let more = swapped_apart i zs x y is in
      let e : suc (i + 1) ≡ suc i + 1 = omega arith in (
        ap (λ ws. z ∷ ws) more.0 ∙ ap (λ (n : ℕ). z ∷ (take i zs ++ (x ∷ drop n (z ∷ zs)))) e,
        ap (λ ws. z ∷ ws) more.1 ∙ ap (λ (n : ℕ). z ∷ (take i zs ++ (y ∷ drop n (z ∷ zs)))) e,
      )

  -- two parts beside a third in their midst change places
  crosses : (xs ys zs us : List (Segment O)) → KeepsTotals (held_by (xs ++ (ys ++ zs) ++ us)) (held_by (xs ++ (us ++ zs) ++ ys))
  crosses xs ys zs us =
      then_nodes _ _ _ (same_nodes _ _ (append_assoc xs (ys ++ zs) us))
      (then_nodes _ _ _ (swaps_nodes xs (ys ++ zs) us)
      (then_nodes _ _ _ (same_nodes _ _ (ap (λ ws. xs ++ ws) (sym (append_assoc us ys zs)) ∙ sym (append_assoc xs (us ++ ys) zs) ∙ ap (λ ws. ws ++ zs) (sym (append_assoc xs us ys)) ∙ append_assoc (xs ++ us) ys zs))
      (then_nodes _ _ _ (swaps_nodes (xs ++ us) ys zs)
      (same_nodes _ _ (sym (append_assoc (xs ++ us) zs ys) ∙ ap (λ ws. ws ++ ys) (append_assoc xs us zs))))))

  pub swapped_keeps : (i : ℕ) (old new : List (Segment O)) (x y : Segment O) → slice_get old i ≡ Some x → new ≡ slice_set old i y
      → KeepsTotals (held_by (old ++ y ∷ [])) (held_by (new ++ x ∷ []))
  swapped_keeps i old new x y at is =
      let both = swapped_apart i old x y at in
      then_nodes _ _ _ (same_nodes _ _ (ap (λ ws. ws ++ y ∷ []) both.0))
      (then_nodes _ _ _ (crosses (take i old) (x ∷ []) (drop (i + 1) old) (y ∷ []))
      (same_nodes _ _ (ap (λ ws. ws ++ x ∷ []) (sym both.1 ∙ sym is))))
