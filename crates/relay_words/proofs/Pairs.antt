-- Pairs of hexadecimal digits.
use Rattle.std.proofs.Common.{◌≡◌, ℕ, ◌-◌, ◌≤◌, List, [], ◌∷◌, ◌++◌, Option, Some, None, length, take, drop, get_or, refl, ap, ◌∙◌, arith, append_assoc}
use Rattle.std.specs.Prelude.{option_map}
use Rattle.std.proofs.lemmas.List.{take_all}
use Rattle.relay_words.specs.Parts.{with}
use Rattle.relay_words.specs.Hex.{hex_byte, hex_bytes}

one_more : (xs : List ℕ) (b : ℕ) (o : Option (List ℕ)) → option_map (λ bs. (xs ++ b ∷ []) ++ bs) o ≡ option_map (λ bs. xs ++ bs) (option_map (λ bs. b ∷ bs) o)
one_more xs b None = refl
one_more xs b (Some bs) = ap (λ l. Some l) (append_assoc xs (b ∷ []) bs)

-- the digits behind a pair
pub pair_read : (xs ys rest w : List ℕ) (b : ℕ) → 2 ≤ length rest → Some b ≡ hex_byte (get_or rest 0 0) (get_or rest 1 0) → ys ≡ xs ++ b ∷ []
    → option_map (λ bs. xs ++ bs) (hex_bytes rest) ≡ hex_bytes w → option_map (λ bs. ys ++ bs) (hex_bytes (take (length rest - 2) (drop 2 rest))) ≡ hex_bytes w
pair_read xs ys [] w b two is more kept = absurd (omega arith)
pair_read xs ys (x ∷ []) w b two is more kept = absurd (omega arith)
pair_read xs ys (high ∷ low ∷ rest) w b two is more kept =
    let all : take (length (high ∷ low ∷ rest) - 2) rest ≡ rest = take_all (length (high ∷ low ∷ rest) - 2) rest (omega arith) in
    ap (λ l. option_map (λ bs. ys ++ bs) (hex_bytes l)) all ∙ ap (λ l. option_map (λ bs. l ++ bs) (hex_bytes rest)) more ∙ one_more xs b (hex_bytes rest)
    ∙ ap (λ o. option_map (λ bs. xs ++ bs) (with o (λ b. option_map (λ bs. b ∷ bs) (hex_bytes rest)))) is ∙ kept
