-- The bytes of a frame without its edges.
use Rattle.std.proofs.Common.{◌≡◌, ℕ, ◌+◌, ◌-◌, ◌≤◌, List, length, take, drop, ap, sym, ◌∙◌, arith, take-take, drop-drop, length-take}
use Rattle.std.proofs.lemmas.List.{drop-take}
use Rattle.frame_rule.specs.Scanning.{inner}

-- the first bytes are taken off first, and then the last
pub inner_parts : (front back k : ℕ) (xs : List ℕ) → front + back ≤ k → k ≤ length xs → inner front back (take k xs) ≡ take (k - front - back) (drop front xs)
inner_parts front back k xs fits there =
    let size : length (take k xs) ≡ k = (let s = length-take k xs in omega (arith, s, there)) in
    ap (λ (n : ℕ). drop front (take (n - back) (take k xs))) size
    ∙ ap (λ w. drop front w) (take-take (k - back) k xs (omega arith))
    ∙ ap (λ (n : ℕ). drop front (take n xs)) (let e : k - back ≡ front + (k - front - back) = omega (arith, fits) in e)
    ∙ drop-take front (k - front - back) xs
