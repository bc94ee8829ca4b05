-- What the calls on a loan ask and tell.
use Rattle.std.specs.Prelude.{◌≡◌, ℕ, ◌-◌, ◌^◌, ◌<◌, ◌≤◌}
use Rattle.std_alloc.specs.declared.boxed.Box.{Box}
use Rattle.atomic_table.specs.Seated.{TableId}
use Rattle.atomic_table.specs.declared.shared.Seat.{Seat}
use Rattle.counted_payload.specs.declared.Entry.{Entry}
use Rattle.counted_payload.specs.declared.Loan.{Loan}
use Rattle.counted_payload.specs.declared.Kept.{Kept}
use Rattle.counted_payload.specs.declared.Returned.{Returned}
use Rattle.counted_payload.specs.declared.Part.{Part}
use Rattle.counted_payload.specs.declared.Deed.{Deed}
use Rattle.counted_payload.specs.Accounts.{Leaves, Lends, ClaimTaken, ClaimKept, returned, lent, claimed, Gave}

-- the seat of a counted word
abbrev pub Sitter : Type 0
Sitter = Seat (Unit {0}) Entry

module _ {X A : Type 0} where
  -- the box is all parts, and the right to have it back
  abbrev pub Freezes : Box X A → Deed X A × Part X → Type 0
  Freezes whole r = (r.1.ptr ≡ r.0.ptr) × (r.0.alloc ≡ whole.alloc) × (r.0.value ≡ whole.value)
      × (r.1.value ≡ whole.value) × (r.1.round ≡ r.0.round) × (r.1.count ≡ 2 ^ 62)

  -- all parts of the deed's payload, and a seat that may lend it in k of them
  abbrev pub MayLend : Deed X A → Part X → TableId → Sitter → ℕ → Type 0
  MayLend deed all word seat k = (seat.table_id ≡ word) × (0 < word.words) × (0 < k) × (k ≤ 2 ^ 62)
      × (all.ptr ≡ deed.ptr) × (all.value ≡ deed.value) × (all.round ≡ deed.round) × (all.count ≡ 2 ^ 62)
      × Lends seat.id seat.me.0 k

  abbrev pub IsLent : Deed X A → TableId → Sitter → Sitter → ℕ → A × Loan X A → Type 0
  IsLent deed word old new k r = (new.table_id ≡ old.table_id) × (new.id ≡ old.id)
      × (new.me ≡ (lent old.me.0 k r.1.pool, old.me.1)) × (r.0 ≡ deed.alloc)
      × (r.1.alloc ≡ deed.alloc) × (r.1.value ≡ deed.value) × (r.1.table_id ≡ word) × (r.1.count ≡ k)

  -- the loan and the seat are of the word, both have k, and the accounts allow the claim
  abbrev pub MayClaim : Sitter → TableId → Loan X A → ℕ → Type 0
  MayClaim seat word loan k = (seat.table_id ≡ loan.table_id) × (word ≡ loan.table_id) × (0 < loan.table_id.words)
      × (loan.count ≡ k) × (0 < k) × (k ≤ 2 ^ 62)
      × ClaimTaken seat.id seat.me.0 k loan.pool × ClaimKept seat.id seat.me.0 k

  -- what comes out and what stays are of the same loan, and know the word that was found, as the seat does
  abbrev pub IsClaimed : Sitter → Sitter → Loan X A → ℕ → ℕ × Returned X A × Kept X A → Type 0
  IsClaimed old new loan k r = (new.table_id ≡ old.table_id) × (new.id ≡ old.id)
      × (new.me ≡ (claimed old.me.0 k r.0, old.me.1)) × Gave old.me.0 k r.0
      × (r.1.found ≡ r.0) × (r.1.value ≡ loan.value) × (r.1.alloc ≡ loan.alloc) × (r.1.count ≡ k)
      × (r.2.found ≡ r.0) × (r.2.value ≡ loan.value) × (r.2.alloc ≡ loan.alloc) × (r.2.table_id ≡ loan.table_id)
      × (r.2.pool ≡ loan.pool) × (r.2.count ≡ k)

  -- the loan as it was before a claim that found another word
  abbrev pub IsLoanOf : Kept X A → Loan X A → Type 0
  IsLoanOf kept r = (r.value ≡ kept.value) × (r.alloc ≡ kept.alloc) × (r.table_id ≡ kept.table_id)
      × (r.pool ≡ kept.pool) × (r.count ≡ kept.count)

  -- k parts were cut off
  abbrev pub IsSplit : Loan X A → Loan X A → ℕ → Loan X A → Type 0
  IsSplit old new k r = (new ≡ record old { count = old.count - k }) × (r.value ≡ old.value) × (r.alloc ≡ old.alloc)
      × (r.table_id ≡ old.table_id) × (r.pool ≡ old.pool) × (r.count ≡ k)

  -- the loan and the seat are of the word, both have k, and the accounts allow the give back
  abbrev pub MayLeave : Sitter → TableId → Loan X A → ℕ → Type 0
  MayLeave seat word loan k = (seat.table_id ≡ loan.table_id) × (word ≡ loan.table_id) × (0 < loan.table_id.words)
      × (loan.count ≡ k) × (0 < k) × Leaves seat.id seat.me.0 k loan.pool

  -- what is left is of the same loan, and knows the word that was found, as the seat does
  abbrev pub HasLeft : Sitter → Sitter → Loan X A → ℕ → ℕ × Returned X A → Type 0
  HasLeft old new loan k r = (new.table_id ≡ old.table_id) × (new.id ≡ old.id)
      × (new.me ≡ (returned old.me.0 k r.0, old.me.1)) × Gave old.me.0 k r.0
      × (r.1.found ≡ r.0) × (r.1.value ≡ loan.value) × (r.1.alloc ≡ loan.alloc) × (r.1.round ≡ loan.round)
      × (r.1.count ≡ k)
