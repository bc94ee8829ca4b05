-- What contracts see of a unit and of a receipt.
use Rattle.std.specs.Prelude.{◌≡◌, ◌+◌, ◌-◌, ℕ, Bool, false, ◌==◌}
use Rattle.std.specs.Coded.{Coded, coded×, coded_ℕ, coded_bool}
use base.Stored.{coded_via}
use Rattle.atomic_table.specs.Seated.{TableId, table_id_coded}
use Rattle.share_count.specs.Weights.{full, part}

-- a unit: its storage and the number of that; its weight, and the weight that it absorbed; how often it looked, and
-- the weight of all live units as it was last found; whether the payload is its own; and the payload
pub record Owned (X : Type 0) : Type 0 where
  pub table : TableId
  pub number : ℕ
  pub weight : ℕ
  pub absorbed : ℕ
  pub loads : ℕ
  pub note : ℕ
  pub alone : Bool
  pub payload : X

abbrev pub owned_coded : {X : Type 0} → Coded X → Coded (Owned X)
owned_coded {X} c = coded_via (coded× table_id_coded
    (coded× coded_ℕ (coded× coded_ℕ (coded× coded_ℕ (coded× coded_ℕ (coded× coded_ℕ (coded× coded_bool c)))))))
    (λ (z : Owned X). (z.table, (z.number, (z.weight, (z.absorbed, (z.loads, (z.note, (z.alone, z.payload))))))))
    (λ x y e i. record {
      table = (e i).0;
      number = (e i).1.0;
      weight = (e i).1.1.0;
      absorbed = (e i).1.1.1.0;
      loads = (e i).1.1.1.1.0;
      note = (e i).1.1.1.1.1.0;
      alone = (e i).1.1.1.1.1.1.0;
      payload = (e i).1.1.1.1.1.1.1;
    })

-- a receipt for weight that was given back: the storage and its number, the weight, and how many of those that gave
-- it back were the last
pub record Tally : Type 0 where
  pub table : TableId
  pub number : ℕ
  pub weight : ℕ
  pub lasts : ℕ

abbrev pub tally_coded : Coded Tally
tally_coded = coded_via (coded× table_id_coded (coded× coded_ℕ (coded× coded_ℕ coded_ℕ)))
    (λ (z : Tally). (z.table, (z.number, (z.weight, z.lasts))))
    (λ x y e i. record { table = (e i).0; number = (e i).1.0; weight = (e i).1.1.0; lasts = (e i).1.1.1 })

abbrev pub owned : {X : Type 0} → TableId → ℕ → ℕ → ℕ → ℕ → ℕ → Bool → X → Owned X
owned t n w a k f l x = record {
  table = t;
  number = n;
  weight = w;
  absorbed = a;
  loads = k;
  note = f;
  alone = l;
  payload = x;
}

abbrev pub tally : TableId → ℕ → ℕ → ℕ → Tally
tally t n w l = record { table = t; number = n; weight = w; lasts = l }

-- the receipt for all that a unit has
abbrev pub receipt_of : {X : Type 0} → Owned X → ℕ → Tally
receipt_of u lasts = tally u.table u.number (u.weight + u.absorbed) lasts

-- it has all weight of its storage
abbrev pub IsWhole : {X : Type 0} → Owned X → Type 0
IsWhole u = u.weight + u.absorbed ≡ full

-- the unit after a look that found n
abbrev pub looked : {X : Type 0} → Owned X → ℕ → Owned X
looked u n = record u { loads = u.loads + 1; note = n }

-- the same where the payload was taken home if nobody else was found
abbrev pub claimed : {X : Type 0} → Owned X → ℕ → Owned X
claimed u n = record u { loads = u.loads + 1; note = n; alone = n == u.weight }

-- the unit with another payload
abbrev pub with_payload : {X : Type 0} → Owned X → X → Owned X
with_payload u x = record u { payload = x }

-- what stays with a unit that was shared, and what the share is
abbrev pub sharer : {X : Type 0} → Owned X → Owned X
sharer u = record u { weight = u.weight - part u.weight; alone = false }

abbrev pub share_of : {X : Type 0} → Owned X → Owned X
share_of u = owned u.table u.number (part u.weight) 0 0 0 false u.payload
