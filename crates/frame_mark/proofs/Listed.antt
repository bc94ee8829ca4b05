-- The windows of the first marks.
use Rattle.std.proofs.Common.{◌≡◌, ℕ, zero, suc, ◌+◌, ◌<◌, List, [], ◌∷◌, ◌++◌, Option, Some, None, length, take, slice_index_or, refl, ap, sym, ◌∙◌, arith, append-nil}
use Rattle.frame_batch.specs.declared.window.Window.{Window}
use Rattle.frame_mark.specs.declared.mark.Mark.{Mark}
use Rattle.frame_mark.specs.Marking.{and_window, window_of, windows_of}

with_one : (o : Option Window) (ws vs : List Window) → and_window o (ws ++ vs) ≡ and_window o ws ++ vs
with_one None ws vs = refl
with_one (Some w) ws vs = refl

-- one mark more
next_windows : (base i : ℕ) (ms : List Mark) (d : Mark) → i < length ms → windows_of base (take (suc i) ms) ≡ windows_of base (take i ms) ++ and_window (window_of base (slice_index_or ms i d)) []
next_windows base i [] d h = absurd (omega (arith, h))
next_windows base zero (m ∷ ms) d h = refl
next_windows base (suc i) (m ∷ ms) d h =
    ap (λ w. and_window (window_of base m) w) (next_windows base i ms d (omega (arith, h))) ∙ with_one (window_of base m) (windows_of base (take i ms)) (and_window (window_of base (slice_index_or ms i d)) [])

pub windows_some : (base i : ℕ) (ms : List Mark) (d : Mark) (w : Window) (o : Option Window) (vs ws : List Window) → i < length ms → vs ≡ windows_of base (take i ms) → o ≡ window_of base (slice_index_or ms i d) → o ≡ Some w → ws ≡ vs ++ w ∷ []
    → ws ≡ windows_of base (take (i + 1) ms)
windows_some base i ms d w o vs ws h list is some more =
    let one : suc i ≡ i + 1 = omega arith in
    more ∙ ap (λ us. us ++ w ∷ []) list ∙ ap (λ p. windows_of base (take i ms) ++ and_window p []) (sym some ∙ is) ∙ sym (next_windows base i ms d h) ∙ ap (λ (n : ℕ). windows_of base (take n ms)) one

pub windows_none : (base i : ℕ) (ms : List Mark) (d : Mark) (o : Option Window) (vs ws : List Window) → i < length ms → vs ≡ windows_of base (take i ms) → o ≡ window_of base (slice_index_or ms i d) → ((w : Window) → o ≡ Some w → ⊥) → ws ≡ vs
    → ws ≡ windows_of base (take (i + 1) ms)
windows_none base i ms d None vs ws h list is not same =
    let one : suc i ≡ i + 1 = omega arith in
    same ∙ list ∙ sym (append-nil (windows_of base (take i ms))) ∙ ap (λ p. windows_of base (take i ms) ++ and_window p []) is ∙ sym (next_windows base i ms d h) ∙ ap (λ (n : ℕ). windows_of base (take n ms)) one
windows_none base i ms d (Some w) vs ws h list is not same = absurd (not w refl)
