-- Shares that are made of a chain in turn.
use Rattle.std.proofs.Common.{◌≡◌, ℕ, suc, zero, ◌+◌, ◌-◌, ◌*◌, ◌<◌, ◌≤◌, List, [], ◌∷◌, ◌++◌, length, refl, sym, ap, subst, ◌∙◌, append-nil, append_assoc, arith, inl, inr}
use Rattle.std.specs.List.{AllZip}
use Rattle.share_count.specs.Weights.{part}
use Rattle.buffer_model.specs.Share.{Share}
use Rattle.buffer_model.specs.Segment.{Segment, bytes_of}
use Rattle.buffer_model.specs.Stake.{KeepsTotalsBeside}
use Rattle.buffer_model.specs.Minted.{Numbers, NumbersOn, AddsAtMost}
use Rattle.buffer_model.specs.Clones.{Clones}
use Rattle.buffer_model.proofs.Minted.{same_on, on_then, adds_none, adds_then}
use Rattle.buffer_model.proofs.Totals.{keeps_same, keeps_equal, keeps_any, keeps-append, keeps_beside_then}
use Rattle.iobuf_chain.specs.Accounts.{held_by}
use Rattle.iobuf_chain.specs.Lists.{Each}
use Rattle.iobuf_chain.specs.Copies.{HasData, HasStorage, IsSameStorage, WithData, CopiesNoData, IsStout}
use Rattle.iobuf_chain.specs.Shares.{ClonesEach, Regains, AreReturnable}
use Rattle.iobuf_chain.specs.Many.{joined, Lasts, StayOn, SharesMany, SharesUpTo}
use Rattle.iobuf_chain.proofs.Accounts.{held_by-append, swaps_nodes}
use Rattle.iobuf_chain.proofs.Copied.{shares_in_turn, each_map}
use Rattle.iobuf_chain.proofs.Lasting.{each_mint}
use Rattle.iobuf_chain.proofs.Rejoined.{regains_each}
use Rattle.iobuf_chain.proofs.Shared.{each_sum, each_on, each_keeps, first_return}
use Rattle.iobuf_chain.proofs.ManyBack.{stay_then, stay_same, clones_stay, regains_stay, stays_returnable}

no_times : (m : ℕ) → 0 ≡ 0 * m
no_times m = omega arith

more_times : (k m : ℕ) → m + k * m ≡ suc k * m
more_times k m = omega arith

times_more : (k n m : ℕ) → k < n → k * m + m ≤ n * m
times_more k zero m h = absurd (omega (arith, h))
times_more zero (suc n) m h = let more = more_times n m in omega (arith, more)
times_more (suc k) (suc n) m h =
    let more = times_more k n m (omega (arith, h)) in
    let one = more_times n m in
    let other = more_times k m in
    omega (arith, more, one, other)

module _ {O : Type 0} where
  -- the shares so far, and one more
  pub many_push : (old mid new : Numbers) (before now after c : List (Segment O)) (cs more : List (List (Segment O))) → SharesMany old mid before cs now
      → ClonesEach mid new now after c → more ≡ cs ++ c ∷ [] → SharesMany old new before more after
  many_push old mid new before now after c cs more made is e =
      let P : List (List (Segment O)) → Type 0 = λ xs. SharesMany old new before xs after in
      subst P (sym e) (pushed old before cs made)
    where
      pushed : (m : Numbers) (b : List (Segment O)) (xs : List (List (Segment O))) → SharesMany m mid b xs now → SharesMany m new b (xs ++ c ∷ []) after
      pushed m b [] g =
          let P : Numbers → Type 0 = λ k. ClonesEach k new b after c in
          let Q : List (Segment O) → Type 0 = λ xs. ClonesEach mid new xs after c in
          (new, after, subst P g.0 (subst Q g.1 is), (refl, refl))
      pushed m b (x ∷ xs) g = (g.0, g.1, g.2, pushed g.0 g.1 xs g.3)

  pub many_begin : (m : Numbers) (before : List (Segment O)) (cs : List (List (Segment O))) → cs ≡ [] → SharesMany m m before cs before
  many_begin m before cs none = let P : List (List (Segment O)) → Type 0 = λ xs. SharesMany m m before xs before in subst P (sym none) (refl, refl)

  pub many_up_to : (old mid : Numbers) (before now after : List (Segment O)) (cs : List (List (Segment O))) → SharesMany old mid before cs now
      → AllZip Regains now after → SharesUpTo old before cs after
  many_up_to old mid before now after cs made regains = record { mid = mid; last = now; made = made; regains = regains }

  pub up_to_none : (old : Numbers) (before : List (Segment O)) (cs : List (List (Segment O))) → cs ≡ [] → SharesUpTo old before cs before
  up_to_none old before cs none = many_up_to old old before before before cs (many_begin old before cs none) (regains_each before before refl)

  pub many_kept : (old new : Numbers) (before : List (Segment O)) (cs : List (List (Segment O))) (after : List (Segment O)) → SharesMany old new before cs after
      → (length after ≡ length before) × (bytes_of after ≡ bytes_of before)
  many_kept old new before [] after is = (ap length is.1, ap bytes_of is.1)
  many_kept old new before (c ∷ cs) after is =
      let one = each_sum old is.0 before is.1 c is.2 in
      let more = many_kept is.0 new is.1 cs after is.3 in
      (more.0 ∙ one.0, more.1 ∙ one.2)

  pub many_bytes : (old new : Numbers) (before : List (Segment O)) (cs : List (List (Segment O))) (after : List (Segment O)) → SharesMany old new before cs after
      → Each (λ c. bytes_of c ≡ bytes_of before) cs
  many_bytes old new before [] after is = tt
  many_bytes old new before (c ∷ cs) after is =
      let one = each_sum old is.0 before is.1 c is.2 in
      (one.3, each_map _ _ cs (λ x e. e ∙ one.2) (many_bytes is.0 new is.1 cs after is.3))

  pub many_stay : (old new : Numbers) (before : List (Segment O)) (cs : List (List (Segment O))) (after : List (Segment O)) → SharesMany old new before cs after
      → StayOn before after
  many_stay old new before [] after is = stay_same before after is.1
  many_stay old new before (c ∷ cs) after is =
      stay_then before is.1 after (clones_stay old is.0 before is.1 c is.2) (many_stay is.0 new is.1 cs after is.3)

  pub share_returns : (old new : Numbers) (bs ns cs : List (Segment O)) → ClonesEach old new bs ns cs → AreReturnable ns cs
  share_returns old new bs ns cs is =
      first_return old new bs ns cs record {
        done = bs;
        left = ns;
        todo = [];
        before_is = sym (append-nil bs);
        after_is = sym (append-nil ns);
        clones_are = is;
      }

  -- each share may be given back when all are made
  pub many_return : (old new : Numbers) (before : List (Segment O)) (cs : List (List (Segment O))) (after : List (Segment O)) → SharesMany old new before cs after
      → Each (AreReturnable after) cs
  many_return old new before [] after is = tt
  many_return old new before (c ∷ cs) after is = (
    stays_returnable is.1 after c (share_returns old is.0 before is.1 c is.2) (many_stay is.0 new is.1 cs after is.3),
    many_return is.0 new is.1 cs after is.3,
  )

  -- so may those that were made up to a refusal
  pub refused_may : (old : Numbers) (before now : List (Segment O)) (cs : List (List (Segment O))) → SharesUpTo old before cs now → Each (AreReturnable now) cs
  refused_may old before now cs made =
      each_map (AreReturnable made.last) (AreReturnable now) cs (λ x h. stays_returnable made.last now x h (regains_stay made.last now made.regains))
      (many_return old made.mid before cs made.last made.made)

  -- how far the mint went
  pub many_mint : (old new : Numbers) (before : List (Segment O)) (cs : List (List (Segment O))) (after : List (Segment O)) → SharesMany old new before cs after
      → AddsAtMost (length cs * length before) old new
  many_mint old new before [] after is =
      let P : ℕ → Type 0 = λ k. AddsAtMost k old new in subst P (no_times (length before)) (adds_none 0 old new is.0)
  many_mint old new before (c ∷ cs) after is =
      let size = (each_sum old is.0 before is.1 c is.2).0 in
      let P : ℕ → Type 0 = λ k. AddsAtMost (length cs * k) is.0 new in
      let Q : ℕ → Type 0 = λ k. AddsAtMost k old new in
      subst Q (more_times (length cs) (length before))
      (adds_then (length before) (length cs * length before) old is.0 new (each_mint old is.0 before is.1 c is.2)
      (subst P size (many_mint is.0 new is.1 cs after is.3)))

  pub many_mint_of : (n : ℕ) (old new : Numbers) (before : List (Segment O)) (cs : List (List (Segment O))) (after : List (Segment O)) → SharesMany old new before cs after
      → length cs ≡ n → AddsAtMost (n * length before) old new
  many_mint_of n old new before cs after is count =
      let P : ℕ → Type 0 = λ k. AddsAtMost (k * length before) old new in subst P count (many_mint old new before cs after is)

  pub refused_mint : (n : ℕ) (old mid new : Numbers) (before now : List (Segment O)) (cs : List (List (Segment O))) → SharesMany old mid before cs now
      → AddsAtMost (length now) mid new → length cs < n → AddsAtMost (n * length before) old new
  refused_mint n old mid new before now cs is last few =
      let size = (many_kept old mid before cs now is).0 in
      let both = adds_then (length cs * length before) (length now) old mid new (many_mint old mid before cs now is) last in
      let most = times_more (length cs) n (length before) few in
      let low = both.1 in
      let high = both.2 in
      (both.0, low, omega (arith, high, size, most))

  many_on : (old new : Numbers) (before : List (Segment O)) (cs : List (List (Segment O))) (after : List (Segment O)) → SharesMany old new before cs after
      → NumbersOn old new
  many_on old new before [] after is = same_on old new is.0
  many_on old new before (c ∷ cs) after is = on_then old is.0 new (each_on old is.0 before is.1 c is.2) (many_on is.0 new is.1 cs after is.3)

  -- shares keep totals
  pub many_keep : (old new : Numbers) (before : List (Segment O)) (cs : List (List (Segment O))) (after : List (Segment O)) → SharesMany old new before cs after
      → KeepsTotalsBeside old new (held_by before) (held_by (after ++ joined cs))
  many_keep old new before [] after is =
      keeps_any old new _ _ (keeps_equal _ _ (ap held_by (sym is.1 ∙ sym (append-nil after))))
  many_keep old new before (c ∷ cs) after is =
      let mid : Numbers = is.0 in
      let next : List (Segment O) = is.1 in
      let one = each_keeps old mid before next c is.2 in
      let first : NumbersOn old mid = each_on old mid before next c is.2 in
      let more = many_keep mid new next cs after is.3 in
      let beside : KeepsTotalsBeside mid new (held_by (next ++ c)) (held_by (after ++ (c ++ joined cs)))
      = λ z other.
      let start = keeps_equal _ _ (held_by-append next c) z in
      let grown = keeps-append z (held_by next) (held_by c) (held_by (after ++ joined cs)) (held_by c) (more z other) (keeps_same (held_by c) z) in
      let order = keeps_equal _ _ (sym (held_by-append (after ++ joined cs) c) ∙ ap held_by (append_assoc after (joined cs) c)) z in
      let turned = swaps_nodes after (joined cs) c z in
      record {
        total = turned.total ∙ order.total ∙ grown.total ∙ start.total;
        way = λ kind way. turned.way kind (order.way kind (grown.way kind (start.way kind way)));
      } in
      keeps_beside_then old mid new _ _ _ first (many_on mid new next cs after is.3) one beside

  -- a node that lasts for one share more shares its storage with its next clone, and lasts for the others
  clone_lasts : (k : ℕ) (old new : Numbers) (b n c : Segment O) → Clones old new b n c → k ≤ 1024 → Lasts (suc k) b
      → Lasts k n × IsSameStorage c.share b.share
  clone_lasts k old new b n c is few lasts = elim is.shares [
    | inl (same, splits) ↦ elim splits [
      | inl w ↦ (
        elim lasts [
          | inl none ↦ inl (ap (λ (s : Share O). s.weight) w.1 ∙ none)
          | inr more ↦ inr (let stays = ap (λ (s : Share O). s.weight) w.1 in omega (arith, stays, more))
        ],
        (ap (λ (s : Share O). s.number) w.2, ap (λ (s : Share O). s.table) w.2),
      )
      | inr w ↦ (
        elim lasts [
          | inl none ↦ absurd (let two = w.0 in omega (arith, two, none))
          | inr more ↦ inr (
              let rest : n.share.weight ≡ b.share.weight - part b.share.weight = ap (λ (s : Share O). s.weight) w.1 in
              let left = shares_in_turn k b.share.weight few (omega (arith, more)) in
              omega (arith, rest, left))
        ],
        (ap (λ (s : Share O). s.number) w.2, ap (λ (s : Share O). s.table) w.2),
      )
    ]
    | inr (adds, renews) ↦ absurd (
        let one = renews.0 in
        elim lasts [ inl none ↦ omega (arith, one, none) | inr more ↦ omega (arith, one, more) ])
  ]

  same_window : (old new : Numbers) (b n c : Segment O) → Clones old new b n c → (length n.window ≡ length b.window) × (length c.window ≡ length b.window)
  same_window old new b n c is = (ap (λ (t : Segment O). length t.window) is.lists, ap (λ (t : Segment O). length t.window) is.clone_lists)

  clones_last : (k : ℕ) (old new : Numbers) (bs ns cs : List (Segment O)) → ClonesEach old new bs ns cs → k ≤ 1024 → WithData (Lasts (suc k)) bs
      → WithData (Lasts k) ns
  clones_last k old new [] [] [] is few enough = tt
  clones_last k old new (b ∷ bs) (n ∷ ns) (c ∷ cs) is few enough =
      let same = (same_window old is.0 b n c is.1).0 in (
        (λ some. (clone_lasts k old is.0 b n c is.1 few (enough.0 (omega (arith, same, some)))).0),
        clones_last k is.0 new bs ns cs is.2 few enough.1,
      )
  clones_last k old new [] [] (z ∷ cs) is few enough = absurd is
  clones_last k old new [] (y ∷ ns) [] is few enough = absurd is
  clones_last k old new [] (y ∷ ns) (z ∷ cs) is few enough = absurd is
  clones_last k old new (x ∷ bs) [] [] is few enough = absurd is
  clones_last k old new (x ∷ bs) [] (z ∷ cs) is few enough = absurd is
  clones_last k old new (x ∷ bs) (y ∷ ns) [] is few enough = absurd is

  clones_on_storages : (k : ℕ) (old new : Numbers) (bs ns cs : List (Segment O)) → ClonesEach old new bs ns cs → k ≤ 1024 → WithData (Lasts (suc k)) bs
      → CopiesNoData bs cs
  clones_on_storages k old new [] [] [] is few enough = tt
  clones_on_storages k old new (b ∷ bs) (n ∷ ns) (c ∷ cs) is few enough =
      let same = (same_window old is.0 b n c is.1).1 in (
        (λ some.
            let had : HasData b = omega (arith, same, some) in
            let on = (clone_lasts k old is.0 b n c is.1 few (enough.0 had)).1 in
            inl (had, (sym on.0, sym on.1))),
        each_map _ _ cs (λ s h d. inr (h d)) (clones_on_storages k is.0 new bs ns cs is.2 few enough.1),
      )
  clones_on_storages k old new [] [] (z ∷ cs) is few enough = absurd is
  clones_on_storages k old new [] (y ∷ ns) [] is few enough = absurd is
  clones_on_storages k old new [] (y ∷ ns) (z ∷ cs) is few enough = absurd is
  clones_on_storages k old new (x ∷ bs) [] [] is few enough = absurd is
  clones_on_storages k old new (x ∷ bs) [] (z ∷ cs) is few enough = absurd is
  clones_on_storages k old new (x ∷ bs) (y ∷ ns) [] is few enough = absurd is

  -- a storage of nodes that were cloned was theirs before
  storage_before : (k : Share O) (old new : Numbers) (bs ns cs : List (Segment O)) → ClonesEach old new bs ns cs → StayOn bs ns → HasStorage k ns → HasStorage k bs
  storage_before k old new [] [] [] is on has = absurd has
  storage_before k old new (b ∷ bs) (n ∷ ns) (c ∷ cs) is on (inl has) =
      let same = (same_window old is.0 b n c is.1).0 in
      let data_is = has.0 in
      inl (omega (arith, same, data_is), (sym on.0.0 ∙ has.1.0, sym on.0.1 ∙ has.1.1))
  storage_before k old new (b ∷ bs) (n ∷ ns) (c ∷ cs) is on (inr has) = inr (storage_before k is.0 new bs ns cs is.2 on.1 has)
  storage_before k old new [] [] (z ∷ cs) is on has = absurd is
  storage_before k old new [] (y ∷ ns) cs is on has = absurd on
  storage_before k old new (x ∷ bs) [] cs is on has = absurd on
  storage_before k old new (x ∷ bs) (y ∷ ns) [] is on has = absurd is

  pub many_last : (k : ℕ) (old new : Numbers) (before : List (Segment O)) (cs : List (List (Segment O))) (after : List (Segment O)) → SharesMany old new before cs after
      → length cs + k ≤ 1024 → WithData (Lasts (length cs + k)) before → WithData (Lasts k) after
  many_last k old new before [] after is few enough =
      let P : List (Segment O) → Type 0 = λ xs. WithData (Lasts k) xs in
      let Q : ℕ → Type 0 = λ n. WithData (Lasts n) before in
      let same : 0 + k ≡ k = omega arith in
      subst P (sym is.1) (subst Q same enough)
  many_last k old new before (c ∷ cs) after is few enough =
      many_last k is.0 new is.1 cs after is.3 (omega (arith, few)) (clones_last (length cs + k) old is.0 before is.1 c is.2 (omega (arith, few))
      (let Q : ℕ → Type 0 = λ n. WithData (Lasts n) before in let next : suc (length cs) + k ≡ suc (length cs + k) = omega arith in subst Q next enough))

  pub many_last_of : (n k : ℕ) (old new : Numbers) (before : List (Segment O)) (cs : List (List (Segment O))) (after : List (Segment O)) → SharesMany old new before cs after
      → length cs ≡ n → n + k ≤ 1024 → WithData (Lasts (n + k)) before → WithData (Lasts k) after
  many_last_of n k old new before cs after is count few enough =
      let P : ℕ → Type 0 = λ m. WithData (Lasts (m + k)) before in
      many_last k old new before cs after is (omega (arith, count, few)) (subst P (sym count) enough)

  pub many_copy_nothing : (old new : Numbers) (before : List (Segment O)) (cs : List (List (Segment O))) (after : List (Segment O)) → SharesMany old new before cs after
      → length cs ≤ 1024 → WithData (Lasts (length cs)) before → Each (CopiesNoData before) cs
  many_copy_nothing old new before [] after is few enough = tt
  many_copy_nothing old new before (c ∷ cs) after is few enough =
      let next : List (Segment O) = is.1 in
      let on = clones_stay old is.0 before next c is.2 in
      let more = many_copy_nothing is.0 new next cs after is.3 (omega (arith, few)) (clones_last (length cs) old is.0 before next c is.2 (omega (arith, few)) enough) in (
        clones_on_storages (length cs) old is.0 before next c is.2 (omega (arith, few)) enough,
        each_map (CopiesNoData next) (CopiesNoData before) cs
            (λ x h. each_map _ _ x (λ s has d. storage_before s.share old is.0 before next c is.2 on (has d)) h) more,
      )

  pub many_copy_nothing_of : (n : ℕ) (old new : Numbers) (before : List (Segment O)) (cs : List (List (Segment O))) (after : List (Segment O)) → SharesMany old new before cs after
      → length cs ≡ n → n ≤ 1024 → WithData (Lasts n) before → Each (CopiesNoData before) cs
  many_copy_nothing_of n old new before cs after is count few enough =
      let P : ℕ → Type 0 = λ m. WithData (Lasts m) before in
      many_copy_nothing old new before cs after is (omega (arith, count, few)) (subst P (sym count) enough)

  pub stout_lasts : (n : ℕ) (ss : List (Segment O)) → n < 1024 → WithData IsStout ss → WithData (Lasts n) ss
  stout_lasts n ss few all = each_map _ _ ss (λ s stout some. inr (let weight = (stout some).1 in omega (arith, weight, few))) all
