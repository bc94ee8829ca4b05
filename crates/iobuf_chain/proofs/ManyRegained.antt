-- Shares that are given back to a chain in whatever order: the chain has all that it had.
use Rattle.std.proofs.Common.{◌≡◌, ℕ, suc, zero, ◌+◌, ◌-◌, ◌<◌, ◌≤◌, Bool, cond, eqb, List, [], ◌∷◌, None, refl, sym, ap, subst, ◌∙◌, arith, inl, inr}
use Rattle.std.specs.List.{All, AllZip, sum_by}
use Rattle.std.specs.List.Sorted.{IsPermutation}
use Rattle.std.proofs.lemmas.Bool.Decides.{eqb_tells}
use Rattle.std.proofs.lemmas.List.Sums.{sum_by-cons}
use Rattle.std.proofs.lemmas.List.Sorted.{sum_by-IsPermutation, All-permutation, IsPermutation-sym}
use Rattle.share_count.specs.Weights.{full, part}
use Rattle.buffer_model.specs.Share.{Share, IsWhole}
use Rattle.buffer_model.specs.Segment.{Segment, shared_as}
use Rattle.buffer_model.specs.Minted.{Numbers}
use Rattle.buffer_model.specs.Clones.{Clones}
use Rattle.iobuf_chain.specs.Lists.{Each}
use Rattle.iobuf_chain.specs.Shares.{ClonesEach, Regains, Rejoins, RejoinsEach}
use Rattle.iobuf_chain.specs.Many.{SharesMany, SharesUpTo, RejoinsInTurn, RejoinsAll}
use Rattle.iobuf_chain.proofs.Rejoined.{unmanaged, regains_each}

each_is_all : {X : Type 0} (P : X → Type 0) (xs : List X) → Each P xs → All P xs
each_is_all P [] each k d h = absurd (omega (arith, h))
each_is_all P (x ∷ xs) each zero d h = each.0
each_is_all P (x ∷ xs) each (suc k) d h = each_is_all P xs each.1 k d (omega (arith, h))

all_is_each : {X : Type 0} (P : X → Type 0) (xs : List X) → All P xs → Each P xs
all_is_each P [] all = tt
all_is_each P (x ∷ xs) all = (all 0 x (omega arith), all_is_each P xs (λ k d h. all (suc k) d (omega (arith, h))))

each_permuted : {X : Type 0} (P : X → Type 0) (xs ys : List X) → IsPermutation xs ys → Each P ys → Each P xs
each_permuted P xs ys same each = all_is_each P xs (All-permutation P ys xs (IsPermutation-sym xs ys same) (each_is_all P ys each))

part_below : (w : ℕ) → part w < full
part_below w = omega arith

part_fits : (w : ℕ) → 2 ≤ w → part w ≤ w
part_fits w h = omega arith

module _ {O : Type 0} where
  -- the weight that comes back with a share. A whole one is dropped
  abbrev back : Share O → ℕ
  back s = cond (eqb (s.weight + s.absorbed) full) 0 (s.weight + s.absorbed)

  back_whole : (s : Share O) → IsWhole s → back s ≡ 0
  back_whole s whole = elim (eqb_tells (s.weight + s.absorbed) full) [
    | inl same ↦ ap (λ (b : Bool). cond b 0 (s.weight + s.absorbed)) same.0
    | inr other ↦ absurd (other.1 whole)
  ]

  back_part : (s : Share O) → (IsWhole s → ⊥) → back s ≡ s.weight + s.absorbed
  back_part s part_is = elim (eqb_tells (s.weight + s.absorbed) full) [
    | inl same ↦ absurd (part_is same.1)
    | inr other ↦ ap (λ (b : Bool). cond b 0 (s.weight + s.absorbed)) other.0
  ]

  back_nothing : (s : Share O) → s.weight + s.absorbed ≡ 0 → back s ≡ 0
  back_nothing s none = back_part s (λ whole. omega (arith, none, whole)) ∙ none

  -- a node before and after it gained so much weight
  record Gains (k : ℕ) (n m : Segment O) : Type 0 where
    lists : m ≡ shared_as m.share n
    number : m.share.number ≡ n.share.number
    table : m.share.table ≡ n.share.table
    way : m.share.way ≡ n.share.way
    weight : m.share.weight + m.share.absorbed ≡ n.share.weight + n.share.absorbed + k

  -- each node gained what its place says
  abbrev GainsEach : (ℕ → ℕ) → List (Segment O) → List (Segment O) → Type 0
  GainsEach f [] [] = Unit {0}
  GainsEach f (n ∷ ns) (m ∷ ms) = Gains (f 0) n m × GainsEach (λ i. f (suc i)) ns ms
  GainsEach f _ _ = ⊥

  -- what comes back to a place with the nodes of a share
  back_at : List (Segment O) → ℕ → ℕ
  back_at [] i = 0
  back_at (s ∷ ss) zero = back s.share
  back_at (s ∷ ss) (suc i) = back_at ss i

  all_back : List (List (Segment O)) → ℕ → ℕ
  all_back cs i = sum_by (λ c. back_at c i) cs

  gains_same : (k : ℕ) (n m : Segment O) → m ≡ n → k ≡ 0 → Gains k n m
  gains_same k n m is none =
      let P : Segment O → Type 0 = λ t. Gains k n t in
      subst P (sym is) record { lists = refl; number = refl; table = refl; way = refl; weight = omega (arith, none) }

  -- a node whose share was given back
  gains_back : (n m : Segment O) (s : Share O) → Rejoins n s m → Gains (back s) n m
  gains_back n m s (inl (same, inl nothing)) = gains_same (back s) n m same (back_nothing s nothing)
  gains_back n m s (inl (same, inr whole)) = gains_same (back s) n m same (back_whole s whole)
  gains_back n m s (inr (same, part_is, managed)) =
      let P : Segment O → Type 0 = λ t. Gains (back s) n t in
      let some = back_part s part_is in
      subst P (sym same) record { lists = refl; number = refl; table = refl; way = refl; weight = omega (arith, some) }

  -- a share that was given back somewhere has no weight if it is of wrapped bytes
  abbrev IsSettled : Segment O → Type 0
  IsSettled s = s.share.number ≡ None → back s.share ≡ 0

  settled : (n m s : Segment O) → Rejoins n s.share m → IsSettled s
  settled n m s (inl (same, inl nothing)) none = back_nothing s.share nothing
  settled n m s (inl (same, inr whole)) none = back_whole s.share whole
  settled n m s (inr (same, part_is, managed)) none = absurd (unmanaged s.share none managed)

  -- what a node gave with a clone
  gains_clone : (old new : Numbers) (b n c : Segment O) → Clones old new b n c → IsSettled c → Gains (back c.share) n b
  gains_clone old new b n c is none = elim is.shares [
    | inl (same, splits) ↦ elim splits [
      | inl w ↦
          let nothing = none (ap (λ (s : Share O). s.number) w.2 ∙ w.0) in
          from_share (back c.share) (ap (λ (s : Share O). s.number) w.1) (ap (λ (s : Share O). s.table) w.1) (ap (λ (s : Share O). s.way) w.1)
          (let stays = ap (λ (s : Share O). s.weight + s.absorbed) w.1 in omega (arith, stays, nothing))
      | inr w ↦
          let given : c.share.weight + c.share.absorbed ≡ part b.share.weight + 0 = ap (λ (s : Share O). s.weight + s.absorbed) w.2 in
          let below = part_below b.share.weight in
          let gone = back_part c.share (λ whole. omega (arith, whole, given, below)) in
          let fits = part_fits b.share.weight w.0 in
          let left : n.share.weight + n.share.absorbed ≡ (b.share.weight - part b.share.weight) + b.share.absorbed = ap (λ (s : Share O). s.weight + s.absorbed) w.1 in
          from_share (back c.share) (ap (λ (s : Share O). s.number) w.1) (ap (λ (s : Share O). s.table) w.1) (ap (λ (s : Share O). s.way) w.1)
          (omega (arith, given, gone, fits, left))
    ]
    | inr (adds, renews) ↦
        let w = renews.2.weight in
        let a = renews.2.absorbed in
        let nothing = back_whole c.share (omega (arith, w, a)) in
        from_share (back c.share) (ap (λ (s : Share O). s.number) renews.1) (ap (λ (s : Share O). s.table) renews.1) (ap (λ (s : Share O). s.way) renews.1)
        (let stays = ap (λ (s : Share O). s.weight + s.absorbed) renews.1 in omega (arith, stays, nothing))
  ]
    where
      from_share : (k : ℕ) → n.share.number ≡ b.share.number → n.share.table ≡ b.share.table → n.share.way ≡ b.share.way
          → b.share.weight + b.share.absorbed ≡ n.share.weight + n.share.absorbed + k → Gains k n b
      from_share k number table way weight = record {
        lists = sym (ap (λ (t : Segment O). shared_as b.share t) is.lists);
        number = sym number;
        table = sym table;
        way = sym way;
        weight = weight;
      }

  gains_nothing : (f : ℕ → ℕ) (ns ms : List (Segment O)) → ((i : ℕ) → f i ≡ 0) → ms ≡ ns → GainsEach f ns ms
  gains_nothing f ns ms none is = let P : List (Segment O) → Type 0 = λ xs. GainsEach f ns xs in subst P (sym is) (of_each f ns none)
    where
      of_each : (f : ℕ → ℕ) (xs : List (Segment O)) → ((i : ℕ) → f i ≡ 0) → GainsEach f xs xs
      of_each f [] none = tt
      of_each f (x ∷ xs) none = (gains_same (f 0) x x refl (none 0), of_each (λ i. f (suc i)) xs (λ i. none (suc i)))

  gains_both : (j k l : ℕ) (x y z : Segment O) → Gains j x y → Gains k y z → l ≡ j + k → Gains l x z
  gains_both j k l x y z a b sum = record {
    lists = b.lists ∙ ap (λ t. shared_as z.share t) a.lists;
    number = b.number ∙ a.number;
    table = b.table ∙ a.table;
    way = b.way ∙ a.way;
    weight = let first = a.weight in let second = b.weight in omega (arith, first, second, sum);
  }

  gains_then : (f g h : ℕ → ℕ) (xs ys zs : List (Segment O)) → GainsEach f xs ys → GainsEach g ys zs → ((i : ℕ) → h i ≡ f i + g i) → GainsEach h xs zs
  gains_then f g h [] [] [] a b sum = tt
  gains_then f g h (x ∷ xs) (y ∷ ys) (z ∷ zs) a b sum =
      (gains_both (f 0) (g 0) (h 0) x y z a.0 b.0 (sum 0), gains_then (λ i. f (suc i)) (λ i. g (suc i)) (λ i. h (suc i)) xs ys zs a.1 b.1 (λ i. sum (suc i)))
  gains_then f g h [] [] (z ∷ zs) a b sum = absurd b
  gains_then f g h [] (y ∷ ys) zs a b sum = absurd a
  gains_then f g h (x ∷ xs) [] zs a b sum = absurd a
  gains_then f g h (x ∷ xs) (y ∷ ys) [] a b sum = absurd b

  -- shares that come back
  back_each : (ns ss ms : List (Segment O)) → RejoinsEach ns ss ms → GainsEach (back_at ss) ns ms
  unfolding back_at
  back_each ns [] ms r = gains_nothing (back_at []) ns ms (λ i. refl) r
  back_each [] (s ∷ ss) ms r = absurd r
  back_each (n ∷ ns) (s ∷ ss) [] r = absurd r
  back_each (n ∷ ns) (s ∷ ss) (m ∷ ms) r = (gains_back n m s.share r.0, back_each ns ss ms r.1)

  settled_each : (ns ss ms : List (Segment O)) → RejoinsEach ns ss ms → Each IsSettled ss
  settled_each ns [] ms r = tt
  settled_each [] (s ∷ ss) ms r = absurd r
  settled_each (n ∷ ns) (s ∷ ss) [] r = absurd r
  settled_each (n ∷ ns) (s ∷ ss) (m ∷ ms) r = (settled n m s r.0, settled_each ns ss ms r.1)

  back_more : (c : List (Segment O)) (cs : List (List (Segment O))) (i : ℕ) → all_back (c ∷ cs) i ≡ back_at c i + all_back cs i
  unfolding all_back
  back_more c cs i = sum_by-cons (λ x. back_at x i) c cs

  back_none : (cs : List (List (Segment O))) → cs ≡ [] → (i : ℕ) → all_back cs i ≡ 0
  unfolding all_back
  back_none cs none i = ap (λ xs. all_back xs i) none

  back_in_turn : (before : List (Segment O)) (cs : List (List (Segment O))) (after : List (Segment O)) → RejoinsInTurn before cs after
      → GainsEach (all_back cs) before after
  back_in_turn before [] after r = gains_nothing (all_back []) before after (back_none [] refl) r
  back_in_turn before (c ∷ cs) after r =
      gains_then (back_at c) (all_back cs) (all_back (c ∷ cs)) before r.0 after (back_each before c r.0 r.1) (back_in_turn r.0 cs after r.2) (back_more c cs)

  settled_in_turn : (before : List (Segment O)) (cs : List (List (Segment O))) (after : List (Segment O)) → RejoinsInTurn before cs after
      → Each (Each IsSettled) cs
  settled_in_turn before [] after r = tt
  settled_in_turn before (c ∷ cs) after r = (settled_each before c r.0 r.1, settled_in_turn r.0 cs after r.2)

  -- shares that went
  gone_each : (old new : Numbers) (bs ns cs : List (Segment O)) → ClonesEach old new bs ns cs → Each IsSettled cs → GainsEach (back_at cs) ns bs
  unfolding back_at
  gone_each old new [] [] [] is none = tt
  gone_each old new (b ∷ bs) (n ∷ ns) (c ∷ cs) is none = (gains_clone old is.0 b n c is.1 none.0, gone_each is.0 new bs ns cs is.2 none.1)
  gone_each old new [] [] (z ∷ cs) is none = absurd is
  gone_each old new [] (y ∷ ns) [] is none = absurd is
  gone_each old new [] (y ∷ ns) (z ∷ cs) is none = absurd is
  gone_each old new (x ∷ bs) [] [] is none = absurd is
  gone_each old new (x ∷ bs) [] (z ∷ cs) is none = absurd is
  gone_each old new (x ∷ bs) (y ∷ ns) [] is none = absurd is

  gone_in_turn : (old new : Numbers) (before : List (Segment O)) (cs : List (List (Segment O))) (after : List (Segment O)) → SharesMany old new before cs after
      → Each (Each IsSettled) cs → GainsEach (all_back cs) after before
  gone_in_turn old new before [] after is none = gains_nothing (all_back []) after before (back_none [] refl) (sym is.1)
  gone_in_turn old new before (c ∷ cs) after is none =
      gains_then (all_back cs) (back_at c) (all_back (c ∷ cs)) after is.1 before (gone_in_turn is.0 new is.1 cs after is.3 none.1)
      (gone_each old is.0 before is.1 c is.2 none.0) (λ i. let more = back_more c cs i in omega (arith, more))

  regained_at : (j k : ℕ) (n b m : Segment O) → Gains j n b → Gains k n m → j ≡ k → Regains b m
  regained_at j k n b m a r same = record {
    lists = r.lists ∙ sym (ap (λ t. shared_as m.share t) a.lists);
    number = r.number ∙ sym a.number;
    table = r.table ∙ sym a.table;
    way = r.way ∙ sym a.way;
    weight = let gave = a.weight in let got = r.weight in omega (arith, gave, got, same);
  }

  regained : (f g : ℕ → ℕ) (ns bs ms : List (Segment O)) → GainsEach f ns bs → GainsEach g ns ms → ((i : ℕ) → f i ≡ g i) → AllZip Regains bs ms
  regained f g [] [] [] a r same = tt
  regained f g (n ∷ ns) (b ∷ bs) (m ∷ ms) a r same =
      (regained_at (f 0) (g 0) n b m a.0 r.0 (same 0), regained (λ i. f (suc i)) (λ i. g (suc i)) ns bs ms a.1 r.1 (λ i. same (suc i)))
  regained f g [] [] (m ∷ ms) a r same = absurd r
  regained f g [] (b ∷ bs) ms a r same = absurd a
  regained f g (n ∷ ns) [] ms a r same = absurd a
  regained f g (n ∷ ns) (b ∷ bs) [] a r same = absurd r

  -- nodes that have what they had may have gained nothing
  gains_regained : (n m : Segment O) → Regains n m → Gains 0 m n
  gains_regained n m r = record {
    lists = sym (ap (λ t. shared_as n.share t) r.lists);
    number = sym r.number;
    table = sym r.table;
    way = sym r.way;
    weight = let same = r.weight in omega (arith, same);
  }

  nothing_gained : (ns ms : List (Segment O)) → AllZip Regains ns ms → GainsEach (λ i. 0) ms ns
  nothing_gained [] [] all = tt
  nothing_gained [] (y ∷ ys) all = absurd all
  nothing_gained (x ∷ xs) [] all = absurd all
  nothing_gained (x ∷ xs) (y ∷ ys) all = (gains_regained x y all.0, nothing_gained xs ys all.1)

  same_back : (cs ds : List (List (Segment O))) (i : ℕ) → IsPermutation cs ds → all_back cs i ≡ all_back ds i
  unfolding all_back
  same_back cs ds i same = sym (sum_by-IsPermutation (λ c. back_at c i) cs ds same)

  -- shares that were made up to a refusal, and given back
  pub up_to_regains : (old : Numbers) (before now after : List (Segment O)) (cs : List (List (Segment O))) → SharesUpTo old before cs now → RejoinsAll now cs after
      → AllZip Regains before after
  up_to_regains old before now after cs made back =
      let none = each_permuted (Each IsSettled) cs back.order back.each_once (settled_in_turn now back.order after back.in_turn) in
      let gone = gone_in_turn old made.mid before cs made.last made.made none in
      let from = gains_then (λ i. 0) (all_back cs) (all_back cs) now made.last before (nothing_gained made.last now made.regains) gone (λ i. omega arith) in
      regained (all_back cs) (all_back back.order) now before after from (back_in_turn now back.order after back.in_turn)
      (λ i. same_back cs back.order i back.each_once)

  pub many_are_rejoined : (old new : Numbers) (before mid after : List (Segment O)) (shares : List (List (Segment O))) → SharesMany old new before shares mid
      → RejoinsAll mid shares after → AllZip Regains before after
  many_are_rejoined old new before mid after shares made back =
      up_to_regains old before mid after shares record { mid = new; last = mid; made = made; regains = regains_each mid mid refl } back
