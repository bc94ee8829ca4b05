-- Counts, and lists where they are told.
use Rattle.std.specs.Prelude.{ℕ, ◌+◌, ◌-◌, ◌^◌, Bool, not, nat_lt, nat_eq, if◌then◌else◌}
use Rattle.std.specs.Prelude.{List, ◌++◌, Option, Some, None}
use Rattle.std.specs.List.{filter, list_any}
use Rattle.std.specs.Set.{remove_key}
use Rattle.std.specs.Str.{bytes_eq}

-- a count with one more; it stands still at the end of 64 bits
abbrev pub counted : ℕ → ℕ
counted n = if nat_lt n (2 ^ 64 - 1) then n + 1 else n

-- how many calls came after the first that failed, with one call more; before it so many failed, and so many came after
abbrev pub calls_after : ℕ → ℕ → ℕ
calls_after faults after = if nat_eq faults 0 then after else counted after

-- what is told, with these at its end
abbrev pub grown : {X : Type 0} → Option (List X) → List X → Option (List X)
grown None xs = None
grown (Some ys) xs = Some (ys ++ xs)

-- what is told, with these before it
abbrev pub prefixed : {X : Type 0} → List X → Option (List X) → Option (List X)
prefixed xs None = None
prefixed xs (Some ys) = Some (xs ++ ys)

-- names, without the first that is this one
abbrev pub without_name : List ℕ → List (List ℕ) → List (List ℕ)
without_name name names = remove_key (bytes_eq name) names

-- the names that are told, without the first that is this one
abbrev pub taken_out : List ℕ → Option (List (List ℕ)) → Option (List (List ℕ))
taken_out name None = None
taken_out name (Some names) = Some (without_name name names)

-- whether a name is among these
abbrev pub has_name : List ℕ → List (List ℕ) → Bool
has_name name names = list_any (bytes_eq name) names

-- numbers, without this one
abbrev pub without_number : ℕ → List ℕ → List ℕ
without_number number numbers = filter (λ n. not (nat_eq number n)) numbers
