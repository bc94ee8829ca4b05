-- The rule of the word that counts what was taken.
use Rattle.std.specs.Prelude.{◌≡◌, ℕ, ◌≤◌, Bool, true, List, [], ◌∷◌}
use mathlib.Core.Option.{some}
use lib.ListN.{get_elem?}
use Rattle.atomic_table.specs.Seated.{TableId}
use Rattle.atomic_table.specs.Table.{State, Me}
use Rattle.atomic_table.specs.declared.shared.Seat.{Seat}
use Rattle.sub_queue.specs.declared.taking.Mark.{Mark}

abbrev pub mark : Bool → ℕ → ℕ → Mark
mark tells told heard = record { tells = tells; told = told; heard = heard }

-- the one seat that tells knows the number in the word, and no seat has heard of a greater one
abbrev pub Heeds : ℕ → ℕ → ℕ → Mark → Type 0
Heeds teller n id v = (v.tells ≡ true → (id ≡ teller) × (v.told ≡ n)) × (v.heard ≤ n)

abbrev pub Counts : State (Unit {0}) Mark → Type 0
Counts s = (n : ℕ) × (teller : ℕ) × (s.words ≡ n ∷ [])
    × ((id : ℕ) (v : Mark) → get_elem? s.views id ≡ some v → Heeds teller n id v)

-- a load: the seat has heard of the number found, which is no less than what it had heard of, and is what it told
abbrev pub Hears : Me (Unit {0}) Mark → ℕ → Me (Unit {0}) Mark → Type 0
Hears me found after = (after ≡ (mark me.0.tells me.0.told found, me.1)) × (me.0.heard ≤ found)
    × (me.0.tells ≡ true → me.0.told ≡ found)

-- a store by the seat that tells
abbrev pub Tells : Me (Unit {0}) Mark → ℕ → Me (Unit {0}) Mark → Type 0
Tells me stored after = after ≡ (mark true stored me.0.heard, me.1)

-- the seat is of this table, which has one word
abbrev pub SitsAt : Seat (Unit {0}) Mark → TableId → Type 0
SitsAt seat count = (seat.table_id ≡ count) × (seat.table_id.words ≡ 1) × (seat.me.1 ≡ [])

-- the seat tells, and told this number last
abbrev pub TellsAt : Seat (Unit {0}) Mark → TableId → ℕ → Type 0
TellsAt seat count told = SitsAt seat count × (seat.me.0.tells ≡ true) × (seat.me.0.told ≡ told)

-- what contracts see of the side that hears and of the side that tells: the table, and the number
pub record Count : Type 0 where
  pub table : TableId
  pub number : ℕ
