-- What ties the seat of a unit, or of a receipt, to its word.
use Rattle.std.specs.Prelude.{◌≡◌, ℕ, []}
use Rattle.std.specs.Global.{Global}
use Rattle.atomic_table.specs.Seated.{TableId}
use Rattle.atomic_table.specs.declared.shared.Seat.{Seat}
use Rattle.counted_payload.specs.declared.Entry.{Entry}
use Rattle.share_count.specs.Cutting.{IsUnit, IsReceipt}
use Rattle.share_count.specs.Held.{Owned, owned}
use Rattle.share_count.specs.Homes.{Houses, payload_in, is_own}
use Rattle.share_count.specs.declared.home.Home.{Home}

-- the seat is of the word's table, which has one word, and no slot is out with it
abbrev pub SitsAt : Seat (Unit {0}) Entry → TableId → Type 0
SitsAt seat word = (seat.table_id ≡ word) × (seat.table_id.words ≡ 1) × (seat.me.1 ≡ [])

-- of a unit: its seat knows what it has, and its home goes with that
abbrev pub SeatsUnit : {X : Type 0} → Seat (Unit {0}) Entry → TableId → ℕ → ℕ → Global → Home X → Type 0
SeatsUnit seat word weight absorbed alloc home = SitsAt seat word × IsUnit weight absorbed seat.me.0
    × Houses seat.table_id weight seat.me.0 alloc home

-- of a receipt
abbrev pub SeatsReceipt : Seat (Unit {0}) Entry → TableId → ℕ → ℕ → Type 0
SeatsReceipt seat word weight lasts = SitsAt seat word × IsReceipt weight lasts seat.me.0

-- what contracts see of a unit
abbrev pub seen : {X : Type 0} → Seat (Unit {0}) Entry → ℕ → ℕ → ℕ → Home X → Owned X
seen seat number weight absorbed home =
    owned seat.table_id number weight absorbed seat.me.0.loads seat.me.0.note (is_own home) (payload_in home)
