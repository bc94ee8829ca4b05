-- Ranges of a list that grows.
use Rattle.std.proofs.Common.{◌≡◌, ℕ, ◌-◌, ◌≤◌, Bool, true, false, nat_lt, List, [], ◌++◌, length, take, drop, refl, sym, ap, ◌∙◌, arith, length-drop}
use Rattle.std.proofs.lemmas.Bool.{ltb-true, ltb-false}
use Rattle.std.proofs.lemmas.List.{drop-append-le, take-append-le, take_all, drop_all}
use Rattle.hub_model.specs.Hub.{part}

module _ {X : Type 0} where
  -- what lies within the old list is the same in the longer one
  pub part_more : (all xs : List X) (j k : ℕ) → k ≤ length all → part (all ++ xs) j k ≡ part all j k
  part_more all xs j k within = by_order (nat_lt j k) refl
    where
      by_order : (b : Bool) → nat_lt j k ≡ b → part (all ++ xs) j k ≡ part all j k
      by_order true is =
          let less = ltb-true j k is in
          let long = length-drop j all in
          ap (take (k - j)) (drop-append-le j all xs (omega (arith, less, within)))
          ∙ take-append-le (k - j) (drop j all) xs (omega (arith, less, within, long))
      by_order false is =
          let most = ltb-false j k is in
          let none : k - j ≡ 0 = omega (arith, most) in
          ap (λ n. take n (drop j (all ++ xs))) none ∙ sym (ap (λ n. take n (drop j all)) none)

  -- up to the end it is all from place j on
  pub part_all : (all : List X) (j : ℕ) → part all j (length all) ≡ drop j all
  part_all all j = let long = length-drop j all in take_all (length all - j) (drop j all) (omega (arith, long))

  pub drop_none : (all : List X) → drop (length all) all ≡ []
  drop_none all = drop_all (length all) all (omega arith)
