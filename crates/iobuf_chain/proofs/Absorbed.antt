-- Receipts that nodes absorb.
use Rattle.std.proofs.Common.{◌≡◌, ℕ, suc, zero, List, [], ◌∷◌, ◌++◌, Option, Some, IsSome, length, slice_get, slice_set, refl, sym, ap, subst, ◌∙◌, arith}
use Rattle.std.proofs.lemmas.Option.{none-some}
use Rattle.share_count.specs.Held.{Tally}
use Rattle.buffer_model.specs.Share.{Share, IsManaged, IsOfStorage}
use Rattle.buffer_model.specs.Segment.{Segment, bytes_of}
use Rattle.buffer_model.specs.Stake.{held, counted, Keeps, KeepsTotals}
use Rattle.buffer_model.specs.Minted.{Numbers, IsReceiptOfMint}
use Rattle.buffer_model.proofs.Totals.{absorb_keeps}
use Rattle.buffer_model.proofs.Minted.{one_mint}
use Rattle.iobuf_chain.specs.Accounts.{held_by}
use Rattle.iobuf_chain.specs.Lists.{TurnsAt}
use Rattle.iobuf_chain.specs.Receipts.{absorbed, AgreesWith, AreOfMint, IsFirstWith, LacksNumber}
use Rattle.iobuf_chain.proofs.Lists.{all_at, length-slice_set}
use Rattle.iobuf_chain.proofs.Copied.{each_map}

module _ {O : Type 0} where
  -- the first node with the number is on the receipt's storage
  pub first_on_storage : (r : Tally) (i : ℕ) (ss : List (Segment O)) → AgreesWith r ss → (f : IsFirstWith r.number i ss) → IsOfStorage f.node.share r
  first_on_storage r i ss agrees f = all_at (λ (s : Segment O). s.share.number ≡ Some r.number → IsOfStorage s.share r) i ss f.node agrees f.there f.has

  absorbs_at : (r : Tally) (i : ℕ) (xs : List (Segment O)) (x : Segment O) → slice_get xs i ≡ Some x → IsOfStorage x.share r
      → KeepsTotals (counted r ∷ held_by xs) (held_by (slice_set xs i (absorbed r.weight x)))
  absorbs_at r i [] x is on n = absurd (none-some x is)
  absorbs_at r zero (z ∷ zs) x is on n =
      let same : z ≡ x = cc in
      let P : Segment O → Type 0 = λ w. Keeps (counted r ∷ held w.share ∷ held_by zs) (held_by (absorbed r.weight x ∷ zs)) n in
      let one = absorb_keeps x.share r on n in
      subst P (sym same) record {
        total = let t = one.total in omega (arith, t);
        way = λ kind all. ((one.way kind (all.1.0, (tt, tt))).0, all.1.1);
      }
  absorbs_at r (suc i) (z ∷ zs) x is on n =
      let more = absorbs_at r i zs x is on n in record {
        total = let t = more.total in omega (arith, t);
        way = λ kind all. (all.1.0, more.way kind (tt, all.1.1));
      }

  -- a receipt that a node absorbs keeps totals
  pub absorbs_keep : (r : Tally) (i : ℕ) (xs ys : List (Segment O)) (x : Segment O) → slice_get xs i ≡ Some x → IsOfStorage x.share r
      → TurnsAt (absorbed r.weight) i xs ys → KeepsTotals (counted r ∷ held_by xs) (held_by ys)
  absorbs_keep r i xs ys x is on turns =
      let there = turns.there in
      let same : turns.item ≡ x = cc in
      let set : ys ≡ slice_set xs i (absorbed r.weight x) = turns.turned ∙ ap (λ z. slice_set xs i (absorbed r.weight z)) same in
      let P : List (Segment O) → Type 0 = λ zs. KeepsTotals (counted r ∷ held_by xs) (held_by zs) in
      subst P (sym set) (absorbs_at r i xs x is on)

  managed_by : (s : Share O) (n : ℕ) → s.number ≡ Some n → IsManaged s
  managed_by s n is = let P : Option ℕ → Type 0 = λ o. IsSome o in subst P (sym is) refl

  pub one_mint_agrees : (mint : Numbers) (r : Tally) (ss : List (Segment O)) → IsReceiptOfMint mint r → AreOfMint mint ss → AgreesWith r ss
  one_mint_agrees mint r ss at all =
      each_map _ _ ss (λ s of same. one_mint mint s.share r (of (managed_by s.share r.number same)) at same) all

  bytes-set : (i : ℕ) (xs : List (Segment O)) (x y : Segment O) → slice_get xs i ≡ Some x → y.window ≡ x.window → bytes_of (slice_set xs i y) ≡ bytes_of xs
  bytes-set i [] x y is e = refl
  bytes-set zero (z ∷ zs) x y is e = let same : x ≡ z = cc in ap (λ bs. bs ++ bytes_of zs) (e ∙ ap (λ (s : Segment O). s.window) same)
  bytes-set (suc i) (z ∷ zs) x y is e = ap (λ bs. z.window ++ bs) (bytes-set i zs x y is e)

  -- no node gains or loses bytes
  pub absorbs_sum : (weight i : ℕ) (xs ys : List (Segment O)) → TurnsAt (absorbed weight) i xs ys → (length ys ≡ length xs) × (bytes_of ys ≡ bytes_of xs)
  absorbs_sum weight i xs ys turns = (
    ap length turns.turned ∙ length-slice_set i (absorbed weight turns.item) xs,
    ap bytes_of turns.turned ∙ bytes-set i xs turns.item (absorbed weight turns.item) turns.there refl,
  )

  pub first_absorbs_keep : (r : Tally) (i : ℕ) (xs vs ys : List (Segment O)) → xs ≡ vs → AgreesWith r vs → IsFirstWith r.number i xs
      → TurnsAt (absorbed r.weight) i xs ys → KeepsTotals (counted r ∷ held_by vs) (held_by ys)
  first_absorbs_keep r i xs vs ys e agrees f turns =
      let P : List (Segment O) → Type 0 = λ zs. AgreesWith r zs in
      let Q : List (Segment O) → Type 0 = λ zs. KeepsTotals (counted r ∷ held_by zs) (held_by ys) in
      subst Q e (absorbs_keep r i xs ys f.node f.there (first_on_storage r i xs (subst P (sym e) agrees) f) turns)

  pub number_is : (n m i : ℕ) (xs : List (Segment O)) → n ≡ m → IsFirstWith n i xs → IsFirstWith m i xs
  number_is n m i xs e f = let P : ℕ → Type 0 = λ k. IsFirstWith k i xs in subst P e f

  -- where no node has the number, they all agree
  pub lacks_agrees : (r : Tally) (n : ℕ) (xs vs : List (Segment O)) → n ≡ r.number → xs ≡ vs → LacksNumber n xs → AgreesWith r vs
  lacks_agrees r n xs vs e view lacks =
      let P : ℕ → Type 0 = λ k. LacksNumber k xs in
      let Q : List (Segment O) → Type 0 = λ zs. AgreesWith r zs in
      subst Q view (each_map _ _ xs (λ s none is. absurd (none is)) (subst P e lacks))
