-- Where a unit has its payload.
use Rattle.std.specs.Prelude.{◌≡◌, ◌≢◌, ℕ, ◌-◌, ◌<◌, ◌≤◌, ◌^◌, Bool, true, false}
use Rattle.atomic_table.specs.Seated.{TableId}
use Rattle.std.specs.Global.{Global}
use Rattle.counted_payload.specs.declared.Entry.{Entry}
use Rattle.counted_payload.specs.declared.Returned.{Returned}
use Rattle.counted_payload.specs.declared.Kept.{Kept}
use Rattle.share_count.specs.declared.home.Home.{Home}
use Rattle.share_count.specs.declared.home.Home.TheVariants.{Own, Lent, Moving}

module _ {X : Type 0} where
  abbrev pub payload_in : Home X → X
  payload_in (Own boxed) = boxed.value
  payload_in (Lent loan) = loan.value
  payload_in (Moving trace) = trace.value

  abbrev pub is_own : Home X → Bool
  is_own (Own boxed) = true
  is_own (Lent loan) = false
  is_own (Moving trace) = false

  abbrev pub IsMoving : Home X → Type 0
  IsMoving (Own boxed) = ⊥
  IsMoving (Lent loan) = ⊥
  IsMoving (Moving trace) = Unit {0}

  abbrev pub IsLent : Home X → Type 0
  IsLent (Own boxed) = ⊥
  IsLent (Lent loan) = Unit {0}
  IsLent (Moving trace) = ⊥

  -- it is lent, and some parts can be cut off so that others stay
  abbrev pub IsLentOver : ℕ → Home X → Type 0
  IsLentOver k (Own boxed) = ⊥
  IsLentOver k (Lent loan) = (0 < k) × (k < loan.count) × (loan.count ≤ 2 ^ 62)
  IsLentOver k (Moving trace) = ⊥

  -- k parts of the home go to another home
  abbrev pub Splits : ℕ → Home X → Home X → Home X → Type 0
  Splits k (Lent loan) (Lent stays) (Lent goes) = (stays ≡ record loan { count = loan.count - k })
      × (goes.value ≡ loan.value) × (goes.table_id ≡ loan.table_id) × (goes.count ≡ k) × (goes.pool ≡ loan.pool)
      × (goes.alloc ≡ loan.alloc)
  Splits k _ _ _ = ⊥

  -- the home with another payload, where it is its own
  abbrev pub home_with : Home X → X → Home X
  home_with (Own boxed) x = Own (record boxed { value = x })
  home_with (Lent loan) x = Lent loan
  home_with (Moving trace) x = Moving trace

  -- a unit of this weight on this table, whose seat knows v, has its payload so: it is its own, and the seat has no
  -- parts; or it is lent, and the seat has as many parts as weight, out of the pool of the loan
  abbrev pub Houses : TableId → ℕ → Entry → Global → Home X → Type 0
  Houses t weight v alloc (Own boxed) = (v.parts ≡ 0) × (boxed.alloc ≡ alloc)
  Houses t weight v alloc (Lent loan) = (loan.table_id ≡ t) × (loan.count ≡ weight) × (v.parts ≡ weight)
      × (v.pool ≡ loan.pool) × (loan.alloc ≡ alloc)
  Houses t weight v alloc (Moving trace) = ⊥

  -- both halves of a claim of this weight, which found this word
  abbrev pub MaySettle : Returned X Global → Kept X Global → ℕ → ℕ → Global → Type 0
  MaySettle r k found weight alloc = (r.found ≡ found) × (r.count ≡ weight) × (r.alloc ≡ alloc) × (k.found ≡ found)
      × (k.count ≡ weight)

  -- what a claim comes to: the payload is home where the weight was found, and else it is lent as before
  abbrev pub Settles : Returned X Global → Kept X Global → Home X → Type 0
  Settles r k (Own boxed) = (k.found ≡ k.count) × (boxed.value ≡ r.value) × (boxed.alloc ≡ r.alloc)
  Settles r k (Lent loan) = (k.found ≢ k.count) × (loan.value ≡ k.value) × (loan.table_id ≡ k.table_id)
      × (loan.count ≡ k.count) × (loan.pool ≡ k.pool) × (loan.alloc ≡ k.alloc)
  Settles r k (Moving trace) = ⊥
