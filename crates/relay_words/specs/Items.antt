-- The words behind a command, in items.
use Rattle.std.specs.Prelude.{ℕ, ◌+◌, Bool, ◌&&◌, ◌==◌, not, List, [], ◌∷◌, Some, None, drop, length, nat_lt, slice_index, if◌then◌else◌}
use Rattle.std.specs.List.{before_first}
use Rattle.relay_words.specs.Item.{Item}

abbrev pub begins_with_dash : List ℕ → Bool
begins_with_dash w = slice_index w 0 == 45

-- the name of an option: all before its first `=`
abbrev pub option_name : List ℕ → List ℕ
option_name w = before_first (λ b. b == 61) w

abbrev pub has_equals : List ℕ → Bool
has_equals w = nat_lt (length (option_name w)) (length w)

-- an option without `=` takes the next word as its value, where that doesn't begin with `-`
abbrev pub takes : List ℕ → List ℕ → Bool
takes w next = begins_with_dash w && not (has_equals w) && not (begins_with_dash next)

-- an option and its value in two words, of which the first has this place
abbrev pub two_words : ℕ → List ℕ → List ℕ → Item
two_words at w next = record { at = at; name = w; value = Some next; value_at = at + 1 }

-- an item of one word at this place
abbrev pub one_word : ℕ → List ℕ → Item
one_word at w =
    if not (begins_with_dash w) then record { at = at; name = []; value = Some w; value_at = at }
    else if has_equals w then record {
      at = at;
      name = option_name w;
      value = Some (drop (length (option_name w) + 1) w);
      value_at = at;
    }
    else record { at = at; name = w; value = None; value_at = at }

-- the items of some words, the first of which has this place
abbrev pub items : ℕ → List (List ℕ) → List Item
items at [] = []
items at (w ∷ []) = one_word at w ∷ []
items at (w ∷ next ∷ words) =
    if takes w next then two_words at w next ∷ items (at + 2) words
    else one_word at w ∷ items (at + 1) (next ∷ words)
