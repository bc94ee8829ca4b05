-- The same for the table of the counted word.
use Rattle.std.specs.Prelude.{ℕ}
use mir.Syntax.{Ty}
use base.Stored.{Coded}
use base.Fml.{Fml}
use denote.RattleType.{RattleType}
use denote.RawPtr.{Ptr}
use denote.Builtin.{unit}
use Rattle.atomic_table.specs.Seated.{TableId, place}
use Rattle.counted_payload.specs.declared.Entry.{Entry}
use Rattle.counted_payload.specs.declared.Loan.{Loan}
use Rattle.counted_payload.specs.declared.Kept.{Kept}
use Rattle.counted_payload.specs.contracts.Entry as entry
use Rattle.counted_payload.specs.Accounts.{Accounted, out_of}
use Rattle.counted_payload.specs.Loans.{loan_owns, kept_owns, known}

abbrev pub entry_code : Coded Entry
entry_code = entry.the_row.coded

abbrev pub counted_loan : (Ty → Ptr → Fml) → (R : RattleType) → Ptr → Ptr → R.Denot → TableId → ℕ → ℕ → ℕ → Fml
counted_loan = loan_owns unit entry_code.code Accounted out_of

abbrev pub pool_known : Ptr → TableId → ℕ → ℕ → Fml → Fml
pool_known w z a pool deed = known unit entry_code.code Accounted out_of w (place z) z a pool deed

abbrev pub counted_kept : (Ty → Ptr → Fml) → (R : RattleType) → Ptr → Ptr → R.Denot → TableId → ℕ → ℕ → ℕ → ℕ → Fml
counted_kept = kept_owns unit entry_code.code Accounted out_of

-- what a loan, and what stays of one, owns by its fields
abbrev pub loaned : {A : Type 0} → (A → Ty → Ptr → Fml) → (R : RattleType) → Loan R.Denot A → Fml
loaned frees R d = counted_loan (frees d.alloc) R d.word d.at d.value d.table_id d.round d.pool d.count

abbrev pub kept_back : {A : Type 0} → (A → Ty → Ptr → Fml) → (R : RattleType) → Kept R.Denot A → Fml
kept_back frees R d = counted_kept (frees d.alloc) R d.word d.at d.value d.table_id d.round d.pool d.count d.found
