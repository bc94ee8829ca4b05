-- Parts of a lifetime's token are cut and put together as numbers are. Assumes `Logic`.
use Rattle.std.proofs.Common.{◌≡◌, ℕ, zero, suc, ◌+◌, ◌-◌, ◌^◌, ◌<◌, ◌≤◌, [], ◌∷◌, refl, sym, arith, subst}
use seplogic.Ra.Ura.{Ura}
use base.Fraction.{full_share}
use base.FractionLaws.{Counts, counts_some, Counts-op, Counts-all}
use base.Logic.{ent, sep, emp∗, comm∗, snd∗, id⊢, via}
use base.Fml.{Share, Fml, fex, flft}
use types.Logic.{Logic, sem}
use types.Kit.{‵, ◌⊛◌, ◌$◌, ◌∵◌, !, qed, by, move, split, fpick, fpack, rewrite, use1, use2, done}
use denote.Steps.{nothing}
use Rattle.counted_payload.specs.Parted.{tokens, pile}

-- a pile that isn't empty is some parts
pub heaped : (a k : ℕ) → 0 < k → pile a k ≡ tokens a k
heaped a zero some = absurd (omega arith)
heaped a (suc k) some = refl

module _ {M : Type 1} {𝓤 : Ura M} (𝓛 : Logic 𝓤) (a : ℕ) where
  open 𝓛 use {A, lfts}

  -- a share of the token is as many parts as it counts
  pub counted : (k : ℕ) (e : Share) → Counts 62 e k → ent 𝓤 (A.lft (a ∷ []) e) (sem 𝓛 (tokens a k))
  counted k e count = qed 𝓛 (‵ (flft (a ∷ []) e) ∷ []) ∵ fpack ! (Counts 62 e k) (λ _. flft (a ∷ []) e) count $
      fpack ! Share (λ r. fex (Counts 62 r k) (λ _. flft (a ∷ []) r)) e $ done !

  module _ (i j k : ℕ) (sum : i + j ≡ k) where
    -- two numbers of parts are any share that counts their sum: shares add up as what they count does
    weighed : (r : Share) → Counts 62 r k → ent 𝓤 (sep 𝓤 (sem 𝓛 (tokens a i)) (sem 𝓛 (tokens a j))) (A.lft (a ∷ []) r)
    weighed r count = qed 𝓛 (‵ (tokens a i) ∷ ‵ (tokens a j) ∷ []) ∵
        fpick ! (λ e. fpick ! (λ of_i. move ! (1 ∷ []) $ fpick ! (λ f. fpick ! (λ of_j. move ! (1 ∷ 0 ∷ []) $
        by ! (lfts.lft_glue (a ∷ []) r e f (Counts-op 62 e f r i j k of_i of_j count sum))))))

    -- and any share that counts the sum is cut into two that count the summands
    pub halves : 0 < i → 0 < j → k ≤ 2 ^ 62 → ent 𝓤 (sem 𝓛 (tokens a k)) (sep 𝓤 (sem 𝓛 (tokens a i)) (sem 𝓛 (tokens a j)))
    halves some_i some_j fits = let left = counts_some 62 i some_i (omega arith) in let right = counts_some 62 j some_j (omega arith) in
        qed 𝓛 (‵ (tokens a k) ∷ []) ∵ fpick ! (λ r. fpick ! (λ count.
        use1 𝓛 (‵ (flft (a ∷ []) left.0) ⊛ ‵ (flft (a ∷ []) right.0)) (lfts.lft_cut (a ∷ []) r left.0 right.0 (Counts-op 62 left.0 right.0 r i j k left.1 right.1 count sum)) $ split ! $
        use1 𝓛 (‵ (tokens a i)) (counted i left.0 left.1) $ move ! (1 ∷ []) $ use1 𝓛 (‵ (tokens a j)) (counted j right.0 right.1) $ move ! (1 ∷ 0 ∷ []) $ done !))

  -- A pile is dealt out into any two that have as many together: where one of them is empty, the other is the pile
  pub dealt : (i j k : ℕ) → i + j ≡ k → k ≤ 2 ^ 62 → ent 𝓤 (sem 𝓛 (pile a k)) (sep 𝓤 (sem 𝓛 (pile a i)) (sem 𝓛 (pile a j)))
  dealt zero j k sum fits = let all : k ≡ j = omega (arith, sum) in subst (λ m. ent 𝓤 (sem 𝓛 (pile a k)) (sep 𝓤 (sem 𝓛 (pile a 0)) (sem 𝓛 (pile a m)))) all
      (qed 𝓛 (‵ (pile a k) ∷ []) ∵ nothing ! $ done !)
  dealt (suc i) zero k sum fits = let all : k ≡ suc i = omega (arith, sum) in subst (λ m. ent 𝓤 (sem 𝓛 (pile a k)) (sep 𝓤 (sem 𝓛 (pile a m)) (sem 𝓛 (pile a 0)))) all
      (qed 𝓛 (‵ (pile a k) ∷ []) ∵ nothing ! $ move ! (1 ∷ 0 ∷ []) $ done !)
  dealt (suc i) (suc j) k sum fits = subst (λ (F : Fml). ent 𝓤 (sem 𝓛 F) (sep 𝓤 (sem 𝓛 (tokens a (suc i))) (sem 𝓛 (tokens a (suc j))))) (sym (heaped a k (omega (arith, sum))))
      (halves (suc i) (suc j) k sum (omega arith) (omega arith) fits)

  -- and any two piles are one
  pub heap : (i j k : ℕ) → i + j ≡ k → k ≤ 2 ^ 62 → ent 𝓤 (sep 𝓤 (sem 𝓛 (pile a i)) (sem 𝓛 (pile a j))) (sem 𝓛 (pile a k))
  heap zero j k sum fits = let all : j ≡ k = omega (arith, sum) in subst (λ m. ent 𝓤 (sep 𝓤 (sem 𝓛 (pile a 0)) (sem 𝓛 (pile a j))) (sem 𝓛 (pile a m))) all (snd∗ 𝓤 (sem 𝓛 (pile a 0)) (sem 𝓛 (pile a j)))
  heap (suc i) zero k sum fits = let all : suc i ≡ k = omega (arith, sum) in subst (λ m. ent 𝓤 (sep 𝓤 (sem 𝓛 (pile a (suc i))) (sem 𝓛 (pile a 0))) (sem 𝓛 (pile a m))) all (base.Logic.fst∗ 𝓤 (sem 𝓛 (pile a (suc i))) (sem 𝓛 (pile a 0)))
  heap (suc i) (suc j) k sum fits = let some : 0 < k = omega (arith, sum) in let total = counts_some 62 k some fits in
      subst (λ (F : Fml). ent 𝓤 (sep 𝓤 (sem 𝓛 (tokens a (suc i))) (sem 𝓛 (tokens a (suc j)))) (sem 𝓛 F)) (sym (heaped a k some))
      (qed 𝓛 (‵ (tokens a (suc i)) ∷ ‵ (tokens a (suc j)) ∷ []) ∵ use2 𝓛 (‵ (flft (a ∷ []) total.0)) (weighed (suc i) (suc j) k sum total.0 total.1) $ by ! (counted k total.0 total.1))

  -- all parts are the whole token: one of them and the others are cut off, and are that share
  pub token : ent 𝓤 (sem 𝓛 (pile a (2 ^ 62))) (A.lft (a ∷ []) full_share)
  token = via 𝓤 _ (dealt 1 (2 ^ 62 - 1) (2 ^ 62) refl (omega arith)) (weighed 1 (2 ^ 62 - 1) (2 ^ 62) refl full_share (Counts-all 62))
