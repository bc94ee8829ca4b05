-- What a caller sees of a crew.
use Rattle.std.specs.Prelude.{ℕ, List, refl}
use Rattle.std.specs.Coded.{Coded, code_by, coded×, coded_ℕ, coded_list}

-- how many threads it has, and the items that are out with them, in their order
pub record Crewed (J : Type 0) : Type 0 where
  pub threads : ℕ
  pub out : List J

-- it is stored as the pair of its fields
abbrev pub crewed_code : {J : Type 0} → Coded J → Coded (Crewed J)
crewed_code {J} items =
    code_by
    (ℕ × List J)
    (coded× coded_ℕ (coded_list items))
    (λ c. (c.threads, c.out))
    (λ p. record { threads = p.0; out = p.1 })
    (λ _. refl)

abbrev pub crewed : {J : Type 0} → ℕ → List J → Crewed J
crewed n items = record { threads = n; out = items }
