-- The items of words, one after another.
use Rattle.std.proofs.Common.{◌≡◌, ℕ, ◌+◌, ◌-◌, Bool, true, false, List, [], ◌∷◌, length, map, if◌then◌else◌, sym, ap, ◌∙◌, arith}
use Rattle.relay_words.specs.Item.{Item}
use Rattle.relay_words.specs.Items.{items, takes, one_word, two_words}

chosen : (b c : Bool) (x y : List Item) → b ≡ c → (if b then x else y) ≡ (if c then x else y)
chosen b c x y e = ap (λ b. if b then x else y) e

-- an option and its value
pub two_first : {X : Type 0} (f : X → List ℕ) (at : ℕ) (words : List X) (w next : X) (behind more : List X) (i : Item) → words ≡ w ∷ behind → behind ≡ next ∷ more
    → takes (f w) (f next) ≡ true → i ≡ two_words at (f w) (f next) → items at (map f words) ≡ i ∷ items (at + (length words - length more)) (map f more)
two_first f at words w next behind more i first second taken is =
    let all : words ≡ w ∷ next ∷ more = first ∙ ap (λ l. w ∷ l) second in
    let place : at + 2 ≡ at + (length words - length more) = omega (arith, ap length all) in
    ap (λ l. items at (map f l)) all ∙ chosen (takes (f w) (f next)) true (two_words at (f w) (f next) ∷ items (at + 2) (map f more)) (one_word at (f w) ∷ items (at + 1) (f next ∷ map f more)) taken
    ∙ ap (λ j. j ∷ items (at + 2) (map f more)) (sym is) ∙ ap (λ k. i ∷ items k (map f more)) place

-- one word before others
pub one_first : {X : Type 0} (f : X → List ℕ) (at : ℕ) (words : List X) (w next : X) (behind more : List X) (i : Item) → words ≡ w ∷ behind → behind ≡ next ∷ more
    → takes (f w) (f next) ≡ false → i ≡ one_word at (f w) → items at (map f words) ≡ i ∷ items (at + (length words - length behind)) (map f behind)
one_first f at words w next behind more i first second taken is =
    let all : words ≡ w ∷ next ∷ more = first ∙ ap (λ l. w ∷ l) second in
    let place : at + 1 ≡ at + (length words - length behind) = omega (arith, ap length first) in
    ap (λ l. items at (map f l)) all ∙ chosen (takes (f w) (f next)) false (two_words at (f w) (f next) ∷ items (at + 2) (map f more)) (one_word at (f w) ∷ items (at + 1) (f next ∷ map f more)) taken
    ∙ ap (λ j. j ∷ items (at + 1) (map f (next ∷ more))) (sym is) ∙ ap (λ k. i ∷ items k (map f (next ∷ more))) place
    ∙ ap (λ l. i ∷ items (at + (length words - length behind)) (map f l)) (sym second)

-- the last word
pub one_last : {X : Type 0} (f : X → List ℕ) (at : ℕ) (words : List X) (w : X) (behind : List X) (i : Item) → words ≡ w ∷ behind → length behind ≡ 0
    → i ≡ one_word at (f w) → items at (map f words) ≡ i ∷ items (at + (length words - length behind)) (map f behind)
one_last f at words w [] i first none is = ap (λ l. items at (map f l)) first ∙ ap (λ j. j ∷ []) (sym is)
one_last f at words w (x ∷ behind) i first none is = absurd (omega arith)
