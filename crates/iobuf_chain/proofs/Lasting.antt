-- What is left to nodes that were shared, and how far the mint went.
use Rattle.std.proofs.Common.{◌≡◌, ℕ, suc, ◌+◌, ◌-◌, ◌<◌, ◌≤◌, List, [], ◌∷◌, ◌++◌, Result, Ok, Err, IfOk, OnErr, length, refl, sym, ap, ◌∙◌, arith, length-append, inl, inr}
use Rattle.std.specs.List.{AllZip}
use Rattle.share_count.specs.Weights.{part}
use Rattle.buffer_model.specs.Share.{Share}
use Rattle.buffer_model.specs.Segment.{Segment, bytes_of}
use Rattle.buffer_model.specs.Minted.{Numbers, AddsAtMost}
use Rattle.buffer_model.specs.Clones.{Clones}
use Rattle.buffer_model.proofs.Minted.{adds_none, adds_at_most, adds_then}
use Rattle.iobuf_chain.specs.Copies.{HasData, HasWeight, WithData}
use Rattle.iobuf_chain.specs.Shares.{ClonesEach, ClonesFirst, Regains}
use Rattle.iobuf_chain.proofs.Copied.{shares_in_turn}
use Rattle.iobuf_chain.proofs.Shared.{each_sum, regains_sum}

module _ {O : Type 0} where
  clone_mint : (old new : Numbers) (b n c : Segment O) → Clones old new b n c → AddsAtMost 1 old new
  clone_mint old new b n c is = elim is.shares [
    | inl (same, s) ↦ adds_none 1 old new same
    | inr (adds, s) ↦ adds_at_most 1 1 old new adds (omega arith)
  ]

  -- a mint numbers one storage for each node at most
  pub each_mint : (old new : Numbers) (bs ns cs : List (Segment O)) → ClonesEach old new bs ns cs → AddsAtMost (length bs) old new
  each_mint old new [] [] [] is = adds_none 0 old new is
  each_mint old new (b ∷ bs) (n ∷ ns) (c ∷ cs) is =
      let all = adds_then 1 (length bs) old is.0 new (clone_mint old is.0 b n c is.1) (each_mint is.0 new bs ns cs is.2) in
      let low = all.1 in
      let high = all.2 in
      (all.0, low, omega (arith, high))
  each_mint old new [] [] (z ∷ cs) is = absurd is
  each_mint old new [] (y ∷ ns) [] is = absurd is
  each_mint old new [] (y ∷ ns) (z ∷ cs) is = absurd is
  each_mint old new (x ∷ bs) [] [] is = absurd is
  each_mint old new (x ∷ bs) [] (z ∷ cs) is = absurd is
  each_mint old new (x ∷ bs) (y ∷ ns) [] is = absurd is

  pub first_mint : (old new : Numbers) (before after clones : List (Segment O)) → ClonesFirst old new before after clones → AddsAtMost (length before) old new
  first_mint old new before after clones f =
      let some = each_mint old new f.done f.left clones f.clones_are in
      let low = some.1 in
      let high = some.2 in
      let size = ap length f.before_is ∙ length-append f.done f.todo in
      (some.0, low, omega (arith, high, size))

  -- a node that can be shared so often can be shared once less afterwards
  clone_left : (k : ℕ) (old new : Numbers) (b n c : Segment O) → Clones old new b n c → k ≤ 1024 → HasWeight (k + 2) b → HasWeight (k + 1) n
  clone_left k old new b n c is few enough = elim is.shares [
    | inl (same, splits) ↦ elim splits [
      | inl w ↦ let stays = ap (λ (s : Share O). s.weight) w.1 in omega (arith, stays, enough)
      | inr w ↦
          let rest : n.share.weight ≡ b.share.weight - part b.share.weight = ap (λ (s : Share O). s.weight) w.1 in
          let more = shares_in_turn k b.share.weight few enough in
          omega (arith, rest, more)
    ]
    | inr (adds, renews) ↦ absurd (let one = renews.0 in omega (arith, one, enough))
  ]

  pub each_left : (k : ℕ) (old new : Numbers) (bs ns cs : List (Segment O)) → ClonesEach old new bs ns cs → k ≤ 1024
      → WithData (HasWeight (k + 2)) bs → WithData (HasWeight (k + 1)) ns
  each_left k old new [] [] [] is few enough = tt
  each_left k old new (b ∷ bs) (n ∷ ns) (c ∷ cs) is few enough =
      let same : length n.window ≡ length b.window = ap (λ (t : Segment O). length t.window) is.1.lists in (
        (λ some. clone_left k old is.0 b n c is.1 few (enough.0 (omega (arith, same, some)))),
        each_left k is.0 new bs ns cs is.2 few enough.1,
      )
  each_left k old new [] [] (z ∷ cs) is few enough = absurd is
  each_left k old new [] (y ∷ ns) [] is few enough = absurd is
  each_left k old new [] (y ∷ ns) (z ∷ cs) is few enough = absurd is
  each_left k old new (x ∷ bs) [] [] is few enough = absurd is
  each_left k old new (x ∷ bs) [] (z ∷ cs) is few enough = absurd is
  each_left k old new (x ∷ bs) (y ∷ ns) [] is few enough = absurd is

  -- nodes that were shared, or weren't, have the bytes that they had
  pub shared_bytes : {E : Type 0} (old new : Numbers) (bs ns vs : List (Segment O)) (r : Result (List (Segment O)) E) → bs ≡ vs
      → IfOk r (λ c. ClonesEach old new bs ns c) → OnErr r (AllZip Regains bs ns) → bytes_of ns ≡ bytes_of vs
  shared_bytes old new bs ns vs (Ok c) view ok err = (each_sum old new bs ns c ok).2 ∙ ap bytes_of view
  shared_bytes old new bs ns vs (Err e) view ok err = (regains_sum bs ns err).1 ∙ ap bytes_of view
