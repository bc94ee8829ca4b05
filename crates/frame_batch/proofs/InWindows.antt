-- Frames as windows: how many there are, those that stay and those that go.
use Rattle.std.proofs.Common.{◌≡◌, ℕ, suc, ◌+◌, ◌-◌, ◌≤◌, List, ◌∷◌, length, take, drop, ap, sym, subst, ◌∙◌, arith, take-take, drop-drop, length-take, length-drop}
use Rattle.std.proofs.lemmas.List.{drop-take, take-map, drop-map, length-map, length-take-le}
use Rattle.storage.specs.declared.release.NoOwner.{NoOwner}
use Rattle.buffer_model.specs.Segment.{Segment, bytes_of}
use Rattle.iobuf_chain.specs.Lists.{between}
use Rattle.frame_batch.specs.declared.window.Window.{Window}
use Rattle.frame_batch.specs.Batches.{Batched, AreIn, batched, frame_in, frames_in}

pub between-length : {X : Type 0} (from to : ℕ) (xs : List X) → to ≤ length xs → length (between from to xs) ≡ to - from
between-length from to xs high =
    let n = length-take (to - from) (drop from xs) in
    let d = length-drop from xs in
    omega (arith, n, d, high)

-- the first k of them
pub between_first : {X : Type 0} (from to k : ℕ) (xs : List X) → k ≤ to - from → between from (from + k) xs ≡ take k (between from to xs)
between_first from to k xs within =
    let size : (from + k) - from ≡ k = omega arith in
    ap (λ (n : ℕ). take n (drop from xs)) size ∙ sym (take-take k (to - from) (drop from xs) within)

-- the others
pub between_rest : {X : Type 0} (from to k : ℕ) (xs : List X) → k ≤ to - from → between (from + k) to xs ≡ drop k (between from to xs)
between_rest from to k xs within =
    let parts : to - from ≡ k + (to - (from + k)) = omega (arith, within) in
    ap (λ us. take (to - (from + k)) us) (sym (drop-drop k from xs))
    ∙ sym (drop-take k (to - (from + k)) (drop from xs))
    ∙ ap (λ (n : ℕ). drop k (take n (drop from xs))) (sym parts)

-- as many as the list is seen to have
pub few : {X : Type 0} (from to k : ℕ) (xs v : List X) → between from to xs ≡ v → to ≤ length xs → k ≤ length v → k ≤ to - from
few from to k xs v is high low =
    let count = between-length from to xs high in
    let l = ap length is in
    omega (arith, count, l, low)

pub first_ones : {X : Type 0} (from to k : ℕ) (xs v : List X) → between from to xs ≡ v → to ≤ length xs → k ≤ length v
    → between from (from + k) xs ≡ take k v
first_ones from to k xs v is high low = between_first from to k xs (few from to k xs v is high low) ∙ ap (λ us. take k us) is

pub other_ones : {X : Type 0} (from to k : ℕ) (xs v : List X) → between from to xs ≡ v → to ≤ length xs → k ≤ length v
    → between (from + k) to xs ≡ drop k v
other_ones from to k xs v is high low = between_rest from to k xs (few from to k xs v is high low) ∙ ap (λ us. drop k us) is

pub rest_in : (all : List ℕ) (w : Window) (ws : List Window) → AreIn all (w ∷ ws) → AreIn all ws
rest_in all w ws are = λ k d lt. are (suc k) d (omega (arith, lt))

-- a batch has as many frames as windows
pub count_is : (chain : List (Segment NoOwner)) (ws : List Window) (v : Batched) → batched chain ws ≡ v → length v.frames ≡ length ws
count_is chain ws v is = ap (λ (b : Batched). length b.frames) (sym is) ∙ length-map ws (λ w. frame_in (bytes_of chain) w)

pub kept_first : (chain : List (Segment NoOwner)) (ws : List Window) (k : ℕ) (v : Batched) → batched chain ws ≡ v
    → batched chain (take k ws) ≡ record v { frames = take k v.frames }
kept_first chain ws k v is =
    ap (λ fs. record (batched chain ws) { frames = fs }) (sym (take-map (λ w. frame_in (bytes_of chain) w) k ws))
    ∙ ap (λ (b : Batched). record b { frames = take k b.frames }) is

pub dropped_first : (chain : List (Segment NoOwner)) (ws : List Window) (k : ℕ) (v : Batched) → batched chain ws ≡ v
    → batched chain (drop k ws) ≡ record v { frames = drop k v.frames }
dropped_first chain ws k v is =
    ap (λ fs. record (batched chain ws) { frames = fs }) (sym (drop-map (λ w. frame_in (bytes_of chain) w) k ws))
    ∙ ap (λ (b : Batched). record b { frames = drop k b.frames }) is

pub has_its_size : (all : List ℕ) (w : Window) → w.place + w.size ≤ length all → length (frame_in all w) ≡ w.size
has_its_size all w within =
    let d = length-drop w.place all in
    length-take-le w.size (drop w.place all) (omega (arith, d, within))

pub narrower : (all : List ℕ) (w : Window) (skip size : ℕ) → skip + size ≤ w.size
    → frame_in all (record { place = w.place + skip; size = size }) ≡ take size (drop skip (frame_in all w))
narrower all w skip size within =
    let rest : w.size ≡ skip + (w.size - skip) = omega (arith, within) in
    ap (λ us. take size us) (sym (drop-drop skip w.place all))
    ∙ sym (take-take size (w.size - skip) (drop skip (drop w.place all)) (omega (arith, within)))
    ∙ ap (λ us. take size us) (sym (drop-take skip (w.size - skip) (drop w.place all)))
    ∙ ap (λ (n : ℕ). take size (drop skip (take n (drop w.place all)))) (sym rest)

pub others_in : (all : List ℕ) (ws us : List Window) (w : Window) → ws ≡ w ∷ us → AreIn all ws → AreIn all us
others_in all ws us w is are = let P : List Window → Type 0 = λ vs. AreIn all vs in rest_in all w us (subst P is are)
