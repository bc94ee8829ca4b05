-- The parts of a word, each a key with a value.
use Rattle.std.specs.Prelude.{ℕ, Bool, ◌&&◌, ◌==◌, List, [], ◌∷◌, Option, Some, None, count_by, drop, length, nat_eq, nat_le, if◌then◌else◌}
use Rattle.std.specs.List.{list_all, list_any, slice_split, starts_with}
use Rattle.std.specs.Option.{option_or}

-- what stands between commas
abbrev pub between_commas : List ℕ → List (List ℕ)
between_commas w = slice_split (λ b. b == 44) w

-- a word of a kind: the kind, and the parts behind commas
pub record OfKind : Type 0 where
  pub kind : List ℕ
  pub parts : List (List ℕ)

-- what the kind and the parts of a word name; each word has a kind, if an empty one
abbrev pub by_kind : {A : Type 0} → (List ℕ → List (List ℕ) → Option A) → List (List ℕ) → Option A
by_kind named [] = None
by_kind named (kind ∷ parts) = named kind parts

-- a part has a key, which stands with its `=`
abbrev pub has_key : List ℕ → List ℕ → Bool
has_key key part = starts_with nat_eq part key

-- each part has one of the keys, and no key comes twice
unfoldable pub is_keyed : List (List ℕ) → List (List ℕ) → Bool
is_keyed keys parts = list_all (λ part. list_any (λ key. has_key key part) keys) parts
    && list_all (λ key. nat_le (count_by (λ part. has_key key part) parts) 1) keys

abbrev pub part_value : List ℕ → List ℕ → Option (List ℕ)
part_value key part = if has_key key part then Some (drop (length key) part) else None

-- the value of a key among some parts
abbrev pub value_of : List ℕ → List (List ℕ) → Option (List ℕ)
value_of key [] = None
value_of key (part ∷ parts) = option_or (part_value key part) (value_of key parts)

-- the form of a value where it is given, and else its default
abbrev pub given_or : {A : Type 0} → A → (List ℕ → Option A) → Option (List ℕ) → Option A
given_or default form None = Some default
given_or default form (Some w) = form w

-- what parts name, where each has one of the keys and none comes twice
abbrev pub where_keyed : {A : Type 0} → List (List ℕ) → List (List ℕ) → Option A → Option A
where_keyed keys parts o = if is_keyed keys parts then o else None

-- what `f` makes of a value, where it is there
abbrev pub with : {A B : Type 0} → Option A → (A → Option B) → Option B
with None f = None
with (Some x) f = f x
