-- Totals of storages.
use Rattle.std.proofs.Common.{◌≡◌, ℕ, ◌+◌, ◌==◌, Bool, true, false, cond, List, [], ◌∷◌, ◌++◌, Option, Some, None, sym, refl, ap, subst, ◌∙◌, arith, inl, inr}
use Rattle.std.proofs.lemmas.Option.{none-some}
use Rattle.std.proofs.Common.{◌≤◌, ◌-◌, ◌⊎◌, length}
use Rattle.atomic_table.specs.Seated.{TableId}
use Rattle.share_count.specs.Weights.{part}
use Rattle.share_count.specs.Held.{Tally}
use Rattle.buffer_model.specs.Share.{Share, Way, Kind, IsOfStorage, rest_of, part_of, absorbed_in}
use Rattle.buffer_model.specs.Stake.{Stake, Storage, held, counted, is_at, received, weight_at, weight_in, total, IsHeldAt, Agrees, IsOneWay, Keeps, KeepsTotals, KeepsTotalsBeside, IsNumberedIn}
use Rattle.share_count.specs.Numbered.{IsNumbered}
use Rattle.share_count.proofs.Shelves.{find_less}
use Rattle.buffer_model.specs.Minted.{Numbers, NumbersOn, IsBetween, IsNumberedAs, IsNew}
use Rattle.buffer_model.proofs.Storages.{at_or_not}

between_apart : (z : Storage) (a b : Numbers) (n : Option ℕ) (t : Option TableId) → IsBetween a b n → IsNumberedAs b n t
    → (IsNumberedIn a b z → ⊥) → (n ≡ Some z.number) × (t ≡ Some z.table) → ⊥
between_apart z a b None t is there apart e = is
between_apart z a b (Some m) None is there apart e = there
between_apart z a b (Some m) (Some t) is there apart e =
    let same : m ≡ z.number = let n = e.0 in cc in
    let low = is.0 in
    let P : ℕ → Type 0 = λ k. IsNumbered b k z.table in
    let Q : TableId → Type 0 = λ u. IsNumbered b m u in
    let word : t ≡ z.table = let t = e.1 in cc in
    apart (omega (arith, low, same), subst P same (subst Q word there))

-- a hold on a storage that was numbered in a call has nothing of another
between_weight : (z : Storage) (w : ℕ) (a b : Numbers) (n : Option ℕ) (t : Option TableId) → IsBetween a b n → IsNumberedAs b n t
    → (IsNumberedIn a b z → ⊥) → weight_at z n t w ≡ 0
between_weight z w a b None t is there apart = refl
between_weight z w a b (Some m) None is there apart = refl
between_weight z w a b (Some m) (Some t) is there apart =
    elim (at_or_not z m t) [
      | inl same ↦ absurd (between_apart z a b (Some m) (Some t) is there apart (ap (λ x. Some x) same.1, ap (λ x. Some x) same.2))
      | inr not ↦ ap (λ (b : Bool). cond b w 0) not.0
    ]

-- of a longer call, what wasn't numbered in it wasn't numbered in its parts
pub apart_first : (a b c : Numbers) (z : Storage) → NumbersOn b c → (IsNumberedIn a c z → ⊥) → IsNumberedIn a b z → ⊥
apart_first a b c z on apart is = apart (is.0, on.0 z.number z.table is.1)

pub apart_then : (a b c : Numbers) (z : Storage) → NumbersOn a b → (IsNumberedIn a c z → ⊥) → IsNumberedIn b c z → ⊥
apart_then a b c z on apart is = let low = on.1 in let from = is.0 in apart (omega (arith, low, from), is.1)

-- what is shared stays in sum
weight_at-add : (z : Storage) (x y : ℕ) (n : Option ℕ) (t : Option TableId) → weight_at z n t (x + y) ≡ weight_at z n t x + weight_at z n t y
weight_at-add z x y None t = refl
weight_at-add z x y (Some m) None = refl
weight_at-add z x y (Some m) (Some t) = let P : Bool → Type 0 = λ b. cond b (x + y) 0 ≡ cond b x 0 + cond b y 0 in
    elim (is_at z m t) as P [ true ↦ refl | false ↦ refl ]

-- a receipt that is absorbed stays in sum
received_as : (z : Storage) (n : Option ℕ) (t : Option TableId) (r : Tally) → n ≡ Some r.number → t ≡ Some r.table → weight_at z n t r.weight ≡ received z r
received_as z n t r number table = ap (λ x. weight_at z x t r.weight) number ∙ ap (λ x. weight_at z (Some r.number) x r.weight) table

module _ {O : Type 0} where
  -- what stays keeps totals
  pub keeps_same : (xs : List (Stake O)) → KeepsTotals xs xs
  keeps_same xs n = record { total = refl; way = λ kind is. is }

  pub keeps_equal : (xs ys : List (Stake O)) → xs ≡ ys → KeepsTotals xs ys
  keeps_equal xs ys e = let P : List (Stake O) → Type 0 = λ x. KeepsTotals xs x in subst P e (keeps_same xs)

  pub keeps_any : (a b : Numbers) (xs ys : List (Stake O)) → KeepsTotals xs ys → KeepsTotalsBeside a b xs ys
  keeps_any a b xs ys k z h = k z

  pub keeps_then : (xs ys zs : List (Stake O)) → KeepsTotals xs ys → KeepsTotals ys zs → KeepsTotals xs zs
  keeps_then xs ys zs p q n = record { total = (q n).total ∙ (p n).total; way = λ kind is. (q n).way kind ((p n).way kind is) }

  pub total-append : (n : Storage) (xs ys : List (Stake O)) → total n (xs ++ ys) ≡ total n xs + total n ys
  total-append n [] ys = omega arith
  total-append n (x ∷ xs) ys = let more = total-append n xs ys in omega (arith, more)

  pub one_way-append : (n : Storage) (kind : Kind) (xs ys : List (Stake O)) → IsOneWay n kind xs → IsOneWay n kind ys → IsOneWay n kind (xs ++ ys)
  one_way-append n kind [] ys p q = q
  one_way-append n kind (x ∷ xs) ys p q = (p.0, one_way-append n kind xs ys p.1 q)

  pub one_way-front : (n : Storage) (kind : Kind) (xs ys : List (Stake O)) → IsOneWay n kind (xs ++ ys) → IsOneWay n kind xs
  one_way-front n kind [] ys p = tt
  one_way-front n kind (x ∷ xs) ys p = (p.0, one_way-front n kind xs ys p.1)

  pub one_way-back : (n : Storage) (kind : Kind) (xs ys : List (Stake O)) → IsOneWay n kind (xs ++ ys) → IsOneWay n kind ys
  one_way-back n kind [] ys p = p
  one_way-back n kind (x ∷ xs) ys p = one_way-back n kind xs ys p.1

  -- two parts that keep totals keep them together
  pub keeps-append : (n : Storage) (xs ys us vs : List (Stake O)) → Keeps xs us n → Keeps ys vs n → Keeps (xs ++ ys) (us ++ vs) n
  keeps-append n xs ys us vs p q = record {
    total = total-append n us vs ∙ ap (λ (x : ℕ). x + total n vs) p.total ∙ ap (λ (x : ℕ). total n xs + x) q.total ∙ sym (total-append n xs ys);
    way = λ kind is. one_way-append n kind us vs (p.way kind (one_way-front n kind xs ys is)) (q.way kind (one_way-back n kind xs ys is));
  }

  -- a mint that numbered nothing
  pub keeps_all : (m : Numbers) (xs ys : List (Stake O)) → KeepsTotalsBeside m m xs ys → KeepsTotals xs ys
  keeps_all m xs ys keeps z = keeps z (λ is. let low = is.0 in let less = find_less m z.number z.table is.1 in omega (arith, low, less))

  -- keeping totals in a call, and in the next
  pub keeps_beside_then : (a b c : Numbers) (xs ys zs : List (Stake O)) → NumbersOn a b → NumbersOn b c
      → KeepsTotalsBeside a b xs ys → KeepsTotalsBeside b c ys zs → KeepsTotalsBeside a c xs zs
  keeps_beside_then a b c xs ys zs first next p q z h =
      let early = p z (apart_first a b c z next h) in
      let late = q z (apart_then a b c z first h) in
      record { total = late.total ∙ early.total; way = λ kind is. late.way kind (early.way kind is) }

  -- a new storage may stand beside what keeps totals
  pub keeps_beside : (a b : Numbers) (way : Way O) (share : Share O) (xs ys : List (Stake O)) → IsNew a b way share → KeepsTotals xs ys → KeepsTotalsBeside a b xs (held share ∷ ys)
  keeps_beside a b way share xs ys new keeps z h = record {
    total =
        ap (λ (x : ℕ). x + total z ys) (between_weight z (share.weight + share.absorbed) a b share.number share.table new.number new.minted h)
        ∙ (let k = (keeps z).total in omega (arith, k));
    way = λ kind one. ((λ is. absurd (between_apart z a b share.number share.table new.number new.minted h is)), (keeps z).way kind one);
  }

  pub keeps_beside_last : (a b : Numbers) (way : Way O) (s share : Share O) → IsNew a b way share → KeepsTotalsBeside a b (held s ∷ []) (held s ∷ held share ∷ [])
  keeps_beside_last a b way s share new z h = record {
    total = let none = between_weight z (share.weight + share.absorbed) a b share.number share.table new.number new.minted h in omega (arith, none);
    way = λ kind one. (one.0, (λ is. absurd (between_apart z a b share.number share.table new.number new.minted h is), tt));
  }

  -- and alone, where there was nothing
  pub keeps_made : (a b : Numbers) (way : Way O) (share : Share O) → IsNew a b way share → KeepsTotalsBeside a b [] (held share ∷ [])
  keeps_made a b way share new = keeps_beside a b way share [] [] new (keeps_same [])

  -- a hold on wrapped bytes has nothing of any storage
  none_agrees : (z : Storage) (kind : Kind) (s : Share O) → s.number ≡ None → Agrees z kind (held s)
  none_agrees z kind s none is = absurd (none-some z.number (sym none ∙ is.0))

  none_weight : (z : Storage) (s : Share O) → s.number ≡ None → weight_in z (held s) ≡ 0
  none_weight z s none = ap (λ o. weight_at z o s.table (s.weight + s.absorbed)) none

  pub keeps_wrapped_in : (s : Share O) (xs ys : List (Stake O)) → s.number ≡ None → KeepsTotals xs ys → KeepsTotals xs (held s ∷ ys)
  keeps_wrapped_in s xs ys none keeps n = record {
    total = ap (λ (x : ℕ). x + total n ys) (none_weight n s none) ∙ (let k = (keeps n).total in omega arith);
    way = λ kind is. (none_agrees n kind s none, (keeps n).way kind is);
  }

  pub keeps_wrapped_out : (s : Share O) → s.number ≡ None → KeepsTotals (held s ∷ []) []
  keeps_wrapped_out s none n = record {
    total = sym (let none' = none_weight n s none in omega arith);
    way = λ kind is. tt;
  }

  pub share_keeps : (s : Share O) → 2 ≤ s.weight → KeepsTotals (held s ∷ []) (held (rest_of s) ∷ held (part_of s) ∷ [])
  share_keeps s two n = record {
    total =
        let rest = s.weight - part s.weight in let more = part s.weight in
        let all : (rest + s.absorbed) + (more + 0) ≡ s.weight + s.absorbed = omega arith in
        let sum = weight_at-add n (rest + s.absorbed) (more + 0) s.number s.table in
        let same = ap (λ (w : ℕ). weight_at n s.number s.table w) all in
        omega (arith, sum, same);
    way = λ kind is. (is.0, (is.0, tt));
  }

  pub absorb_keeps : (s : Share O) (r : Tally) → IsOfStorage s r → KeepsTotals (held s ∷ counted r ∷ []) (held (absorbed_in r.weight s) ∷ [])
  absorb_keeps s r is n = record {
    total =
        let all : (s.weight + s.absorbed) + r.weight ≡ s.weight + (s.absorbed + r.weight) = omega arith in
        let sum = weight_at-add n (s.weight + s.absorbed) r.weight s.number s.table in
        let same = ap (λ (w : ℕ). weight_at n s.number s.table w) all in
        let there = received_as n s.number s.table r is.0 is.1 in
        omega (arith, sum, same, there);
    way = λ kind one. (one.0, tt);
  }
