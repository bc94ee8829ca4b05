-- Sizes, added up, and the sizes of the items behind a place.
use Rattle.std.proofs.Common.{◌≡◌, ℕ, zero, suc, ◌+◌, ◌≤◌, ◌<◌, List, [], ◌∷◌, ◌++◌, length, map, drop, sym, refl, ap, ◌∙◌, subst, length-append, arith}
use Rattle.std.proofs.lemmas.List.{length-drop, drop-drop, drop-append-le, map-append, drop-map}
use Rattle.sub_queue.specs.declared.items.Item.{Item}
use Rattle.sub_queue.specs.Ends.{Fed}
use Rattle.sub_queue.specs.Sizes.{Sizes, total, ArePositive, CatchesUp, Looked, size_of, weight_of, AreSizes}

pub total_more : (xs : List ℕ) (s : ℕ) → total (xs ++ s ∷ []) ≡ total xs + s
total_more [] s = omega arith
total_more (x ∷ xs) s = let e = total_more xs s in omega (arith, e)

pub positive_more : (xs : List ℕ) (s : ℕ) → ArePositive xs → 1 ≤ s → ArePositive (xs ++ s ∷ [])
positive_more [] s a le = (le, tt)
positive_more (x ∷ xs) s a le = (a.0, positive_more xs s a.1 le)

pub count_total : (xs : List ℕ) → ArePositive xs → length xs ≤ total xs
count_total [] a = omega arith
count_total (x ∷ xs) a = let e = count_total xs a.1 in omega (arith, e, a.0)

-- one size more passes
pub caught_on : (upto : ℕ) (old mid new : Sizes) → CatchesUp upto old mid → mid.passed < upto → 0 < length mid.sizes
    → new ≡ record mid { passed = mid.passed + 1; sizes = drop 1 mid.sizes } → CatchesUp upto old new
caught_on upto old mid new p lt some is = let n = p.0 in let l = length-drop n old.sizes in
    let s = ap (λ (b : Sizes). length b.sizes) p.3 in let c = ap (λ (b : Sizes). b.passed) p.3 in
    let done : old.passed + n + 1 ≡ old.passed + (n + 1) = omega arith in (
      n + 1,
      omega (arith, l, s, some, p.1),
      omega (arith, c, lt),
      is ∙ ap (λ (b : Sizes). record b { passed = b.passed + 1; sizes = drop 1 b.sizes }) p.3
          ∙ ap (λ (b : ℕ × List ℕ). record old { passed = b.0; sizes = b.1 })
          (λ i. (done i, drop-drop 1 n old.sizes i)),
    )

module _ {T : Type 0} where
  pub looked_again : (old mid new : Fed T) → Looked old mid → Looked mid new → Looked old new
  looked_again old mid new a b = let s = ap (λ (f : Fed T). length f.sent) a.0 in (
    b.0 ∙ ap (λ (f : Fed T). record f { known = new.known }) a.0,
    omega (arith, a.1, b.1),
    omega (arith, b.2, s),
  )

module _ {T : Type 0} (w : T → ℕ) where
  weight_is : (items : List (Item T)) → total (map (size_of w) items) ≡ weight_of w items
  weight_is [] = refl
  weight_is (x ∷ xs) = ap (λ n. size_of w x + n) (weight_is xs)

  weight_less : (k : ℕ) (items : List (Item T)) → weight_of w (drop k items) ≤ weight_of w items
  weight_less zero items = omega arith
  weight_less (suc k) [] = omega arith
  weight_less (suc k) (x ∷ xs) = let e = weight_less k xs in omega (arith, e)

  -- the more is passed over, the less is left
  pub weight_later : (a b : ℕ) (items : List (Item T)) → a ≤ b → weight_of w (drop b items) ≤ weight_of w (drop a items)
  weight_later zero b items le = weight_less b items
  weight_later (suc a) zero items le = absurd (omega (arith, le))
  weight_later (suc a) (suc b) [] le = omega arith
  weight_later (suc a) (suc b) (x ∷ xs) le = weight_later a b xs (omega (arith, le))

  -- what the sizes add up to
  pub sizes_weight : (known : ℕ) (sizes : List ℕ) (items : List (Item T)) → AreSizes w known sizes items
      → total sizes ≡ weight_of w (drop known items)
  sizes_weight known sizes items a = ap total a.1 ∙ weight_is (drop known items)

  -- one item more at the end, one size more
  pub sizes_more : (known : ℕ) (sizes : List ℕ) (items : List (Item T)) (s : ℕ) (x : Item T) → s ≡ size_of w x
      → AreSizes w known sizes items → AreSizes w known (sizes ++ s ∷ []) (items ++ x ∷ [])
  sizes_more known sizes items s x is a =
      let l = length-append sizes (s ∷ []) in let m = length-append items (x ∷ []) in (
        omega (arith, l, m, a.0),
        ap (λ z. z ++ s ∷ []) a.1 ∙ ap (λ n. map (size_of w) (drop known items) ++ n ∷ []) is
            ∙ sym (map-append (size_of w) (drop known items) (x ∷ []))
            ∙ ap (λ z. map (size_of w) z) (sym (drop-append-le known items (x ∷ []) (omega (arith, a.0)))),
      )

  -- the first n of them pass
  pub sizes_passed : (known n : ℕ) (sizes : List ℕ) (items : List (Item T)) → n ≤ length sizes
      → AreSizes w known sizes items → AreSizes w (known + n) (drop n sizes) items
  sizes_passed known n sizes items le a = let l = length-drop n sizes in (
    omega (arith, l, le, a.0),
    ap (λ z. drop n z) a.1 ∙ drop-map (size_of w) n (drop known items)
        ∙ ap (λ z. map (size_of w) z) (drop-drop n known items),
  )

  pub sizes_caught : (upto : ℕ) (old new : Sizes) (items : List (Item T)) → CatchesUp upto old new
      → AreSizes w old.passed old.sizes items → AreSizes w new.passed new.sizes items
  sizes_caught upto old new items p a = subst (λ (b : Sizes). AreSizes w b.passed b.sizes items) (sym p.3)
      (sizes_passed old.passed p.0 old.sizes items p.1 a)
