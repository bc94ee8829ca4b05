-- Nodes that lose bytes, and some of which leave.
use Rattle.std.proofs.Common.{◌≡◌, ◌≤◌, List, [], ◌∷◌, ◌++◌, length, refl, sym, ap, subst, ◌∙◌, arith, inl, inr}
use Rattle.std.specs.List.{AllZip}
use Rattle.buffer_model.specs.Share.{Share}
use Rattle.buffer_model.specs.Segment.{Segment}
use Rattle.iobuf_chain.specs.Copies.{HasData, HasStorage, CopiesNoData}
use Rattle.iobuf_chain.specs.Lists.{Each}
use Rattle.iobuf_chain.proofs.Copied.{each_map}
use Rattle.pipeline.specs.Nodes.{Narrows, Thins, Sheds, IsKept}

module _ {O : Type 0} where
  pub thins_length : (K : Type 0) (ns bs : List (Segment O)) → Thins K ns bs → length bs ≤ length ns
  thins_length K [] [] p = omega arith
  thins_length K [] (t ∷ ts) p = absurd p
  thins_length K (s ∷ ss) [] p = omega arith
  thins_length K (s ∷ ss) (t ∷ ts) (inl p) = let l = thins_length K ss (t ∷ ts) p.1 in omega (arith, l)
  thins_length K (s ∷ ss) (t ∷ ts) (inr p) = let l = thins_length K ss ts p.1 in omega (arith, l)

  -- where none left, all are kept
  pub thins_same : (K : Type 0) (ns bs : List (Segment O)) → Thins K ns bs → length bs ≡ length ns → AllZip IsKept ns bs
  thins_same K [] [] p e = tt
  thins_same K [] (t ∷ ts) p e = absurd p
  thins_same K (s ∷ ss) [] p e = absurd (omega arith)
  thins_same K (s ∷ ss) (t ∷ ts) (inl p) e = let l = thins_length K ss (t ∷ ts) p.1 in absurd (omega (arith, l, e))
  thins_same K (s ∷ ss) (t ∷ ts) (inr p) e = (
    (ap (λ h. h.number) p.0.0, ap (λ h. h.table) p.0.0, ap (λ h. h.weight) p.0.0, ap (λ h. h.absorbed) p.0.0),
    thins_same K ss ts p.1 (omega (arith, e)),
  )

  narrows_as : (K L : Type 0) (s t : Segment O) → (K → L) → Narrows K s t → Narrows L s t
  narrows_as K L s t f n = (n.0, n.1, (λ d. elim (n.2 d) [ inl h ↦ inl h | inr k ↦ inr (f k) ]))

  pub thins_as : (K L : Type 0) (ns bs : List (Segment O)) → (K → L) → Thins K ns bs → Thins L ns bs
  thins_as K L [] [] f p = tt
  thins_as K L [] (t ∷ ts) f p = absurd p
  thins_as K L (s ∷ ss) [] f p = (p.0, thins_as K L ss [] f p.1)
  thins_as K L (s ∷ ss) (t ∷ ts) f (inl p) = inl (p.0, thins_as K L ss (t ∷ ts) f p.1)
  thins_as K L (s ∷ ss) (t ∷ ts) f (inr p) = inr (narrows_as K L s t f p.0, thins_as K L ss ts f p.1)

  narrows_self : (K : Type 0) (s : Segment O) → Narrows K s s
  narrows_self K s = (refl, (omega arith), (λ d. inl d))

  pub thins_self : (K : Type 0) (ns : List (Segment O)) → Thins K ns ns
  thins_self K [] = tt
  thins_self K (s ∷ ss) = inr (narrows_self K s, thins_self K ss)

  narrows_then : (K L : Type 0) (s t u : Segment O) → (K → L) → Narrows K s t → Narrows L t u → Narrows L s u
  narrows_then K L s t u f p q = (
    q.0 ∙ p.0,
    (let a = p.1 in let b = q.1 in omega (arith, a, b)),
    (λ d. elim (p.2 d) [ inl h ↦ q.2 h | inr k ↦ inr (f k) ]),
  )

  had_data : (K : Type 0) (s t : Segment O) → Narrows K s t → HasData t → HasData s
  had_data K s t n d = let a = n.1 in omega (arith, a, d)

  pub thins_then : (K L : Type 0) (ns bs cs : List (Segment O)) → (K → L) → Thins K ns bs → Thins L bs cs → Thins L ns cs
  thins_then K L [] [] cs f p q = q
  thins_then K L [] (t ∷ ts) cs f p q = absurd p
  thins_then K L (s ∷ ss) [] [] f p q = (p.0, thins_then K L ss [] [] f p.1 q)
  thins_then K L (s ∷ ss) [] (u ∷ us) f p q = absurd q
  thins_then K L (s ∷ ss) (t ∷ ts) [] f (inl p) q = (p.0, thins_then K L ss (t ∷ ts) [] f p.1 q)
  thins_then K L (s ∷ ss) (t ∷ ts) [] f (inr p) q = (had_data K s t p.0 q.0, thins_then K L ss ts [] f p.1 q.1)
  thins_then K L (s ∷ ss) (t ∷ ts) (u ∷ us) f (inl p) q = inl (p.0, thins_then K L ss (t ∷ ts) (u ∷ us) f p.1 q)
  thins_then K L (s ∷ ss) (t ∷ ts) (u ∷ us) f (inr p) (inl q) =
      inl (had_data K s t p.0 q.0, thins_then K L ss ts (u ∷ us) f p.1 q.1)
  thins_then K L (s ∷ ss) (t ∷ ts) (u ∷ us) f (inr p) (inr q) =
      inr (narrows_then K L s t u f p.0 q.0, thins_then K L ss ts us f p.1 q.1)

  pub sheds_self : (ns : List (Segment O)) → Sheds ns ns
  sheds_self ns = thins_self (length ns ≡ 1) ns

  -- where none stays, none stays alone
  thins_none : (K L : Type 0) (ns : List (Segment O)) → Thins K ns [] → Thins L ns []
  thins_none K L [] p = tt
  thins_none K L (s ∷ ss) p = (p.0, thins_none K L ss p.1)

  pub sheds_then : (ns bs cs : List (Segment O)) → Sheds ns bs → Sheds bs cs → Sheds ns cs
  sheds_then ns bs [] p q =
      thins_none (length bs ≡ 1) (0 ≡ 1) ns
      (thins_then (length bs ≡ 1) (length bs ≡ 1) ns bs [] (λ k. k) p (thins_none (0 ≡ 1) (length bs ≡ 1) bs q))
  sheds_then ns bs (c ∷ cs) p q =
      let l = thins_length (length (c ∷ cs) ≡ 1) bs (c ∷ cs) q in
      thins_then (length bs ≡ 1) (length (c ∷ cs) ≡ 1) ns bs (c ∷ cs) (λ one. omega (arith, l, one)) p q

  -- one node more, which leaves or stays
  pub thins_leaves : (K : Type 0) (ns bs : List (Segment O)) (s : Segment O) → HasData s → Thins K ns bs → Thins K (ns ++ s ∷ []) bs
  thins_leaves K [] [] s d p = (d, tt)
  thins_leaves K [] (t ∷ ts) s d p = absurd p
  thins_leaves K (a ∷ ns) [] s d p = (p.0, thins_leaves K ns [] s d p.1)
  thins_leaves K (a ∷ ns) (t ∷ ts) s d (inl p) = inl (p.0, thins_leaves K ns (t ∷ ts) s d p.1)
  thins_leaves K (a ∷ ns) (t ∷ ts) s d (inr p) = inr (p.0, thins_leaves K ns ts s d p.1)

  pub thins_stays : (K : Type 0) (ns bs : List (Segment O)) (s t : Segment O) → Narrows K s t → Thins K ns bs → Thins K (ns ++ s ∷ []) (bs ++ t ∷ [])
  thins_stays K [] [] s t n p = inr (n, tt)
  thins_stays K [] (u ∷ us) s t n p = absurd p
  thins_stays K (a ∷ ns) [] s t n p = inl (p.0, thins_stays K ns [] s t n p.1)
  thins_stays K (a ∷ ns) (u ∷ us) s t n (inl p) = inl (p.0, thins_stays K ns (u ∷ us) s t n p.1)
  thins_stays K (a ∷ ns) (u ∷ us) s t n (inr p) = inr (p.0, thins_stays K ns us s t n p.1)

  -- what holds of each share still does
  pub thins_each : (P : Share O → Type 0) (K : Type 0) (ns bs : List (Segment O)) → Thins K ns bs → Each (λ s. P s.share) ns → Each (λ s. P s.share) bs
  thins_each P K [] [] p e = tt
  thins_each P K [] (t ∷ ts) p e = absurd p
  thins_each P K (s ∷ ss) [] p e = tt
  thins_each P K (s ∷ ss) (t ∷ ts) (inl p) e = thins_each P K ss (t ∷ ts) p.1 e.1
  thins_each P K (s ∷ ss) (t ∷ ts) (inr p) e = (subst P (sym p.0.0) e.0, thins_each P K ss ts p.1 e.1)

  -- no data is copied
  pub thins_copies : (K : Type 0) (ns bs : List (Segment O)) → Thins K ns bs → CopiesNoData ns bs
  thins_copies K [] [] p = tt
  thins_copies K [] (t ∷ ts) p = absurd p
  thins_copies K (s ∷ ss) [] p = tt
  thins_copies K (s ∷ ss) (t ∷ ts) (inl p) =
      let more = thins_copies K ss (t ∷ ts) p.1 in
      ((λ d. inr (more.0 d)), each_map (λ u. HasData u → HasStorage u.share ss) (λ u. HasData u → HasStorage u.share (s ∷ ss)) ts (λ u h d. inr (h d)) more.1)
  thins_copies K (s ∷ ss) (t ∷ ts) (inr p) = (
    (λ d. inl (had_data K s t p.0 d, (sym (ap (λ h. h.number) p.0.0), sym (ap (λ h. h.table) p.0.0)))),
    each_map (λ u. HasData u → HasStorage u.share ss) (λ u. HasData u → HasStorage u.share (s ∷ ss)) ts (λ u h d. inr (h d)) (thins_copies K ss ts p.1),
  )
