-- Shares without a copy leave the mint as it is.
use Rattle.std.proofs.Common.{◌≡◌, ◌⊎◌, ℕ, suc, ◌+◌, ◌-◌, ◌<◌, ◌≤◌, List, [], ◌∷◌, ◌++◌, length, sym, ap, subst, ◌∙◌, arith, inl, inr}
use Rattle.share_count.specs.Weights.{part}
use Rattle.buffer_model.specs.Share.{Share}
use Rattle.buffer_model.specs.Segment.{Segment}
use Rattle.buffer_model.specs.Minted.{Numbers}
use Rattle.buffer_model.specs.Clones.{Clones}
use Rattle.iobuf_chain.specs.Lists.{Each}
use Rattle.iobuf_chain.specs.Shares.{ClonesEach, ClonesFirst}
use Rattle.iobuf_chain.specs.Many.{Lasts, SharesMany}
use Rattle.iobuf_chain.proofs.Copied.{shares_in_turn, each_before, each_map}

module _ {O : Type 0} where
  clone_same : (k : ℕ) (old new : Numbers) (b n c : Segment O) → Clones old new b n c → k ≤ 1024 → Lasts (suc k) b → (new ≡ old) × Lasts k n
  clone_same k old new b n c is few lasts = elim is.shares [
    | inl (same, splits) ↦ elim splits [
      | inl w ↦ (
        same,
        elim lasts [
          | inl none ↦ inl (ap (λ (s : Share O). s.weight) w.1 ∙ none)
          | inr more ↦ inr (let stays = ap (λ (s : Share O). s.weight) w.1 in omega (arith, stays, more))
        ],
      )
      | inr w ↦ (
        same,
        elim lasts [
          | inl none ↦ absurd (let two = w.0 in omega (arith, two, none))
          | inr more ↦ inr (
              let rest : n.share.weight ≡ b.share.weight - part b.share.weight = ap (λ (s : Share O). s.weight) w.1 in
              let left = shares_in_turn k b.share.weight few (omega (arith, more)) in
              omega (arith, rest, left))
        ],
      )
    ]
    | inr (adds, renews) ↦ absurd (
        let one = renews.0 in
        elim lasts [ inl none ↦ omega (arith, one, none) | inr more ↦ omega (arith, one, more) ])
  ]

  clones_same : (k : ℕ) (old new : Numbers) (bs ns cs : List (Segment O)) → ClonesEach old new bs ns cs → k ≤ 1024 → Each (Lasts (suc k)) bs
      → (new ≡ old) × Each (Lasts k) ns
  clones_same k old new [] [] [] is few enough = (is, tt)
  clones_same k old new (b ∷ bs) (n ∷ ns) (c ∷ cs) is few enough =
      let one = clone_same k old is.0 b n c is.1 few enough.0 in
      let more = clones_same k is.0 new bs ns cs is.2 few enough.1 in
      (more.0 ∙ one.0, (one.1, more.1))
  clones_same k old new [] [] (z ∷ cs) is few enough = absurd is
  clones_same k old new [] (y ∷ ns) [] is few enough = absurd is
  clones_same k old new [] (y ∷ ns) (z ∷ cs) is few enough = absurd is
  clones_same k old new (x ∷ bs) [] [] is few enough = absurd is
  clones_same k old new (x ∷ bs) [] (z ∷ cs) is few enough = absurd is
  clones_same k old new (x ∷ bs) (y ∷ ns) [] is few enough = absurd is

  pub each_same : (old new : Numbers) (bs ns cs : List (Segment O)) → ClonesEach old new bs ns cs → Each (Lasts 1) bs → new ≡ old
  each_same old new bs ns cs is enough = (clones_same 0 old new bs ns cs is (omega arith) enough).0

  pub first_same : (old new : Numbers) (before after clones : List (Segment O)) → ClonesFirst old new before after clones → Each (Lasts 1) before → new ≡ old
  first_same old new before after clones f enough =
      let P : List (Segment O) → Type 0 = λ xs. Each (Lasts 1) xs in
      each_same old new f.done f.left clones f.clones_are (each_before (Lasts 1) f.done f.todo (subst P f.before_is enough))

  fewer : (m n : ℕ) (ss : List (Segment O)) → m ≤ n → Each (Lasts n) ss → Each (Lasts m) ss
  fewer m n ss le all =
      each_map (Lasts n) (Lasts m) ss (λ s lasts. elim lasts [ inl none ↦ inl none | inr more ↦ inr (omega (arith, more, le)) ]) all

  -- so many shares, and as many more that could be made
  many_same : (k : ℕ) (old new : Numbers) (before : List (Segment O)) (cs : List (List (Segment O))) (after : List (Segment O)) → SharesMany old new before cs after
      → length cs + k ≤ 1024 → Each (Lasts (length cs + k)) before → (new ≡ old) × Each (Lasts k) after
  many_same k old new before [] after is few enough =
      let P : List (Segment O) → Type 0 = λ xs. Each (Lasts k) xs in
      (is.0, subst P (sym is.1) (fewer k (0 + k) before (omega arith) enough))
  many_same k old new before (c ∷ cs) after is few enough =
      let start = fewer (suc (length cs + k)) (suc (length cs) + k) before (omega arith) enough in
      let one = clones_same (length cs + k) old is.0 before is.1 c is.2 (omega (arith, few)) start in
      let more = many_same k is.0 new is.1 cs after is.3 (omega (arith, few)) one.1 in
      (more.0 ∙ one.0, more.1)

  pub all_same : (n : ℕ) (old new : Numbers) (before : List (Segment O)) (cs : List (List (Segment O))) (after : List (Segment O)) → SharesMany old new before cs after
      → length cs ≤ n → n ≤ 1024 → Each (Lasts n) before → new ≡ old
  all_same n old new before cs after is few most enough =
      (many_same 0 old new before cs after is (omega (arith, few, most)) (fewer (length cs + 0) n before (omega (arith, few)) enough)).0

  pub refused_same : (n : ℕ) (old mid new : Numbers) (before now : List (Segment O)) (cs : List (List (Segment O))) → SharesMany old mid before cs now
      → (Each (Lasts 1) now → new ≡ mid) → length cs < n → n ≤ 1024 → Each (Lasts n) before → new ≡ old
  refused_same n old mid new before now cs is last few most enough =
      let all = many_same 1 old mid before cs now is (omega (arith, few, most)) (fewer (length cs + 1) n before (omega (arith, few)) enough) in
      last all.1 ∙ all.0

  pub same_from : (old new : Numbers) (xs zs : List (Segment O)) → xs ≡ zs → (Each (Lasts 1) xs → new ≡ old) → Each (Lasts 1) zs → new ≡ old
  same_from old new xs zs e same enough = let P : List (Segment O) → Type 0 = λ w. Each (Lasts 1) w in same (subst P (sym e) enough)
