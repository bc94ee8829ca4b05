-- What was handed back, and why.
use Rattle.std.proofs.Common.{◌≡◌, ℕ, suc, zero, ◌+◌, ◌≤◌, List, [], ◌∷◌, Option, Some, None, length, refl, sym, ap, subst, ◌∙◌, arith, inl, inr, slice_get, slice_set}
use Rattle.std.specs.List.{AllZip}
use Rattle.std.proofs.lemmas.Option.{none-some}
use Rattle.storage.specs.declared.back.Back.{Back}
use Rattle.buffer_model.specs.Share.{IsWhole}
use Rattle.buffer_model.specs.Segment.{Segment}
use Rattle.buffer_model.specs.Minted.{Numbers, NumbersOn, IsBetween}
use Rattle.iobuf_chain.specs.Lists.{Each}
use Rattle.iobuf_chain.proofs.Lists.{length-slice_set}
use Rattle.pipeline.specs.Nodes.{AreWhole, IsKept, HasNew, Changes, AddsBacks}

between_later : (a b c : Numbers) (o : Option ℕ) → IsBetween a b o → length b ≤ length c → IsBetween a c o
between_later a b c None is le = is
between_later a b c (Some m) is le = let high = is.1 in (is.0, omega (arith, high, le))

between_sooner : (a b c : Numbers) (o : Option ℕ) → length a ≤ length b → IsBetween b c o → IsBetween a c o
between_sooner a b c None le is = is
between_sooner a b c (Some m) le is = let low = is.0 in (omega (arith, low, le), is.1)

module _ {O : Type 0} where
  pub kept_self : (ns : List (Segment O)) → AllZip IsKept ns ns
  kept_self [] = tt
  kept_self (s ∷ ss) = ((refl, refl, refl, refl), kept_self ss)

  pub kept_then : (ns bs cs : List (Segment O)) → AllZip IsKept ns bs → AllZip IsKept bs cs → AllZip IsKept ns cs
  kept_then [] [] cs p q = q
  kept_then [] (t ∷ ts) cs p q = absurd p
  kept_then (s ∷ ss) [] cs p q = absurd p
  kept_then (s ∷ ss) (t ∷ ts) [] p q = absurd q
  kept_then (s ∷ ss) (t ∷ ts) (u ∷ us) p q = (
    (q.0.0 ∙ p.0.0, q.0.1 ∙ p.0.1, q.0.2 ∙ p.0.2, q.0.3 ∙ p.0.3),
    kept_then ss ts us p.1 q.1,
  )

  pub kept_length : (ns bs : List (Segment O)) → AllZip IsKept ns bs → length bs ≡ length ns
  kept_length [] [] p = refl
  kept_length [] (t ∷ ts) p = absurd p
  kept_length (s ∷ ss) [] p = absurd p
  kept_length (s ∷ ss) (t ∷ ts) p = ap (λ (n : ℕ). suc n) (kept_length ss ts p.1)

  pub whole_kept : (s t : Segment O) → IsKept s t → IsWhole s.share → IsWhole t.share
  whole_kept s t k w = ap (λ (n : ℕ). n + t.share.absorbed) k.2 ∙ ap (λ (n : ℕ). s.share.weight + n) k.3 ∙ w

  pub kept_whole : (ns bs : List (Segment O)) → AllZip IsKept ns bs → AreWhole ns → AreWhole bs
  kept_whole [] [] p e = tt
  kept_whole [] (t ∷ ts) p e = absurd p
  kept_whole (s ∷ ss) [] p e = absurd p
  kept_whole (s ∷ ss) (t ∷ ts) p e = (whole_kept s t p.0 e.0, kept_whole ss ts p.1 e.1)

  pub each_set : (P : Segment O → Type 0) (i : ℕ) (ns : List (Segment O)) (y : Segment O) → Each P ns → P y → Each P (slice_set ns i y)
  each_set P i [] y e p = tt
  each_set P zero (s ∷ ss) y e p = (p, e.1)
  each_set P (suc i) (s ∷ ss) y e p = (e.0, each_set P i ss y e.1 p)

  -- another node in the place of one
  pub kept_set : (i : ℕ) (ns : List (Segment O)) (x y : Segment O) → slice_get ns i ≡ Some x → IsKept x y → AllZip IsKept ns (slice_set ns i y)
  kept_set i [] x y there k = tt
  kept_set zero (s ∷ ss) x y there k =
      let same : s ≡ x = cc in
      let P : Segment O → Type 0 = λ u. IsKept u y in
      (subst P (sym same) k, kept_self ss)
  kept_set (suc i) (s ∷ ss) x y there k = ((refl, refl, refl, refl), kept_set i ss x y there k)

  new_set : (a b : Numbers) (i : ℕ) (ns : List (Segment O)) (x y : Segment O) → slice_get ns i ≡ Some x → IsBetween a b y.share.number
      → HasNew a b (slice_set ns i y)
  new_set a b i [] x y there is = absurd (none-some x there)
  new_set a b zero (s ∷ ss) x y there is = inl is
  new_set a b (suc i) (s ∷ ss) x y there is = inr (new_set a b i ss x y there is)

  new_later : (a b c : Numbers) (ns bs : List (Segment O)) → length b ≤ length c → HasNew a b ns → AllZip IsKept ns bs → HasNew a c bs
  new_later a b c [] bs le h p = absurd h
  new_later a b c (s ∷ ss) [] le h p = absurd p
  new_later a b c (s ∷ ss) (t ∷ ts) le (inl h) p =
      inl (let P : Option ℕ → Type 0 = λ o. IsBetween a c o in subst P (sym p.0.0) (between_later a b c s.share.number h le))
  new_later a b c (s ∷ ss) (t ∷ ts) le (inr h) p = inr (new_later a b c ss ts le h p.1)

  new_sooner : (a b c : Numbers) (ns : List (Segment O)) → length a ≤ length b → HasNew b c ns → HasNew a c ns
  new_sooner a b c [] le h = absurd h
  new_sooner a b c (s ∷ ss) le (inl h) = inl (between_sooner a b c s.share.number le h)
  new_sooner a b c (s ∷ ss) le (inr h) = inr (new_sooner a b c ss le h)

  -- a change stays one
  changes_kept : (a b c : Numbers) (ns bs cs : List (Segment O)) → length b ≤ length c → Changes a b ns bs → AllZip IsKept bs cs → Changes a c ns cs
  changes_kept a b c ns bs cs le h p =
      let same = kept_length bs cs p in
      let most = h.0 in (
        omega (arith, same, most),
        elim h.1 [
          | inl fewer ↦ inl (omega (arith, fewer, same))
          | inr new ↦ inr (new_later a b c bs cs le new p)
        ],
      )

  kept_changes : (a b c : Numbers) (ns bs cs : List (Segment O)) → length a ≤ length b → AllZip IsKept ns bs → Changes b c bs cs → Changes a c ns cs
  kept_changes a b c ns bs cs le p h =
      let same = kept_length ns bs p in
      let most = h.0 in (
        omega (arith, same, most),
        elim h.1 [
          | inl fewer ↦ inl (omega (arith, fewer, same))
          | inr new ↦ inr (new_sooner a b c cs le new)
        ],
      )

  changes_more : (a b c : Numbers) (ns bs cs : List (Segment O)) → length a ≤ length b → Changes a b ns bs → Changes b c bs cs → Changes a c ns cs
  changes_more a b c ns bs cs le h k =
      let most = h.0 in
      let more = k.0 in (
        omega (arith, most, more),
        elim k.1 [
          | inl fewer ↦ inl (omega (arith, fewer, most))
          | inr new ↦ inr (new_sooner a b c cs le new)
        ],
      )

  pub adds_nothing : (m : Numbers) (ns : List (Segment O)) (bs : List (Back O)) → AddsBacks m m ns ns bs bs
  adds_nothing m ns bs = inl (refl, kept_self ns)

  pub adds_then : (a b c : Numbers) (ns bs cs : List (Segment O)) (xs ys zs : List (Back O)) → NumbersOn a b → NumbersOn b c
      → AddsBacks a b ns bs xs ys → AddsBacks b c bs cs ys zs → AddsBacks a c ns cs xs zs
  adds_then a b c ns bs cs xs ys zs on more (inl p) (inl q) = inl (q.0 ∙ p.0, kept_then ns bs cs p.1 q.1)
  adds_then a b c ns bs cs xs ys zs on more (inl p) (inr q) =
      inr ((let e = p.0 in let l = q.0 in omega (arith, e, l)), kept_changes a b c ns bs cs on.1 p.1 q.1)
  adds_then a b c ns bs cs xs ys zs on more (inr p) (inl q) =
      inr ((let e = q.0 in let l = p.0 in omega (arith, e, l)), changes_kept a b c ns bs cs more.1 p.1 q.1)
  adds_then a b c ns bs cs xs ys zs on more (inr p) (inr q) =
      inr ((let e = p.0 in let l = q.0 in omega (arith, e, l)), changes_more a b c ns bs cs on.1 p.1 q.1)

  pub moved_changes : (a b : Numbers) (i : ℕ) (ns : List (Segment O)) (x y : Segment O) → slice_get ns i ≡ Some x → IsBetween a b y.share.number
      → Changes a b ns (slice_set ns i y)
  moved_changes a b i ns x y there is =
      let same = length-slice_set i y ns in
      (omega (arith, same), inr (new_set a b i ns x y there is))
