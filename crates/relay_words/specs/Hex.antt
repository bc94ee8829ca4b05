-- Bytes in hexadecimal.
use Rattle.std.specs.Prelude.{ℕ, ◌+◌, ◌-◌, ◌*◌, Bool, ◌&&◌, ◌||◌, ◌==◌, List, [], ◌∷◌, Option, Some, None, nat_le, option_map, if◌then◌else◌}
use Rattle.std.specs.List.{slice_split}
use Rattle.relay_words.specs.Numbers.{is_digit}
use Rattle.relay_words.specs.Parts.{with}

-- a lower-case hexadecimal digit
abbrev pub is_hex_digit : ℕ → Bool
is_hex_digit b = is_digit b || nat_le 97 b && nat_le b 102

abbrev pub hex_value : ℕ → ℕ
hex_value b = if is_digit b then b - 48 else b - 87

abbrev pub hex_byte : ℕ → ℕ → Option ℕ
hex_byte high low = if is_hex_digit high && is_hex_digit low then Some (16 * hex_value high + hex_value low) else None

-- the bytes that pairs of digits are
abbrev pub hex_bytes : List ℕ → Option (List ℕ)
hex_bytes [] = Some []
hex_bytes (x ∷ []) = None
hex_bytes (high ∷ low ∷ w) = with (hex_byte high low) (λ b. option_map (λ bs. b ∷ bs) (hex_bytes w))

-- what `f` makes of each, where it makes something of all
abbrev pub of_each : {A B : Type 0} → (A → Option B) → List A → Option (List B)
of_each f [] = Some []
of_each f (x ∷ xs) = with (f x) (λ y. option_map (λ ys. y ∷ ys) (of_each f xs))

-- delimiters that bars separate; no text is none of them
abbrev pub hex_list : List ℕ → Option (List (List ℕ))
hex_list [] = Some []
hex_list (x ∷ w) = of_each hex_bytes (slice_split (λ b. b == 124) (x ∷ w))
