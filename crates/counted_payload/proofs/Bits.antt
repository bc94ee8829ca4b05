-- Structs of pointers and markers own no memory: their fields say what bits they have, and bits that fit side by side
-- are a struct's. Assumes `Logic`.
use Rattle.std.proofs.Common.{◌≡◌, T, List, [], ◌∷◌, refl, ℕ, ◌<◌, ◌^◌, w64}
use seplogic.Ra.Ura.{Ura}
use mir.Syntax.{Ty, ty_ptr, ty_int, ty_struct, tcons, tnil}
use mir.Val.{Val, vint, vstruct, vcons, vnil, of_list, has_ty, WT}
use base.Logic.{ent, emp}
use types.Logic.{Logic, sem}
use denote.RattleType.{RattleType, owns}
use denote.Laws.{Is, Typed, valss}
use denote.Opens.{Opens}
use denote.Copied.{Struct-Copied}
use denote.RawPtr.{Ptr, InBlock, ptr_val}
use denote.Shadow.{makes_shadow}
use denote.Struct.Laws.{Copyables, RawPtr-copy, field_copy, copy_spells, copy_Tellss, alones, copieds}
use denote.Struct.Struct.{Struct, Plains, AreAll, machine, Struct-Tells, Struct-Pure, to_tys, as_fields}
use denote.Struct.Owning.{Owning, shape, fields}
use Rattle.core.specs.declared.alloc.Allocator.{Ghosts}
use Rattle.core.specs.contracts.marker.PhantomData as marker
use Rattle.atomic_table.proofs.Fields.{hand_of, hand_good, Ptr-Good}
use Rattle.counted_payload.specs.contracts.Part as part
use Rattle.counted_payload.specs.contracts.Loan as loan
use Rattle.counted_payload.specs.contracts.Returned as returned
use Rattle.counted_payload.specs.contracts.Kept as kept

-- T's fields are all such as can be copied
module _ (T : Owning) (cs : Copyables T.parts) where
  abbrev pub Data : RattleType
  Data = Struct (shape T)

  abbrev pub bits : Data.Denot → Val
  bits a = machine (shape T) (copy_spells T.parts cs) a

  -- the fields' values say the bits
  pub told : (a : Data.Denot) (vs : List Val) → Is Data a vs → vs ≡ bits a ∷ []
  told a vs is = Struct-Tells (shape T) (copy_spells T.parts cs) (copy_Tellss T.parts cs) a vs is

  module _ {M : Type 1} {𝓤 : Ura M} (𝓛 : Logic 𝓤) where
    -- the bits are all there is to own, where no field owns more
    pub made : Plains (fields T) → (a : Data.Denot) → AreAll (fields T) a (valss (fields T) (copy_spells T.parts cs) a) → ent 𝓤 (emp 𝓤) (sem 𝓛 (Data.own_val a (bits a ∷ [])))
    made plain a are = makes_shadow 𝓛 (Data.own_val a (bits a ∷ [])) (Struct-Pure (shape T) plain a (bits a ∷ [])) (valss (fields T) (copy_spells T.parts cs) a, (refl, are))

    pub opened : Opens 𝓛 Data
    opened = (Struct-Copied 𝓛 (shape T) (alones T.parts cs) (copieds 𝓛 T.parts cs)).opens

abbrev pub part_bits : Ptr → Val
part_bits p = vstruct (vcons (ptr_val p) vnil)

abbrev pub returned_bits : Ptr → Val
returned_bits p = vstruct (vcons (ptr_val p) (vcons (vstruct vnil) vnil))

module _ (R : RattleType) where
  abbrev pub PartData : RattleType
  PartData = Data (part.the_type R) (RawPtr-copy, tt)

  pub part_told : (p : Ptr) (vs : List Val) → Is PartData (p, tt) vs → vs ≡ part_bits p ∷ []
  part_told p vs is = told (part.the_type R) (RawPtr-copy, tt) (p, tt) vs is

  pub part_made : {M : Type 1} {𝓤 : Ura M} (𝓛 : Logic 𝓤) (p : Ptr) → ent 𝓤 (emp 𝓤) (sem 𝓛 (PartData.own_val (p, tt) (part_bits p ∷ [])))
  part_made 𝓛 p = made (part.the_type R) (RawPtr-copy, tt) 𝓛 ((λ _ _. tt), tt) (p, tt) (refl, tt)

module _ (R P : RattleType) (g : Ghosts P.Denot) where
  abbrev loan_fields : Copyables (loan.the_type R P g).parts
  loan_fields = (RawPtr-copy, (RawPtr-copy, (field_copy (marker.the_type P) tt, tt)))

  abbrev kept_fields : Copyables (kept.the_type R P g).parts
  kept_fields = (RawPtr-copy, (RawPtr-copy, (field_copy (marker.the_type P) tt, tt)))

  abbrev returned_fields : Copyables (returned.the_type R P g).parts
  returned_fields = (RawPtr-copy, (field_copy (marker.the_type P) tt, tt))

  abbrev pub LoanData : RattleType
  LoanData = Data (loan.the_type R P g) loan_fields

  abbrev pub KeptData : RattleType
  KeptData = Data (kept.the_type R P g) kept_fields

  abbrev pub ReturnedData : RattleType
  ReturnedData = Data (returned.the_type R P g) returned_fields

  pub loan_told : (p w : Ptr) (vs : List Val) → Is LoanData (p, (w, (tt, tt))) vs → vs ≡ hand_of p w ∷ []
  loan_told p w vs is = told (loan.the_type R P g) loan_fields (p, (w, (tt, tt))) vs is

  pub kept_told : (p w : Ptr) (vs : List Val) → Is KeptData (p, (w, (tt, tt))) vs → vs ≡ hand_of p w ∷ []
  kept_told p w vs is = told (kept.the_type R P g) kept_fields (p, (w, (tt, tt))) vs is

  pub returned_told : (p : Ptr) (vs : List Val) → Is ReturnedData (p, (tt, tt)) vs → vs ≡ returned_bits p ∷ []
  returned_told p vs is = told (returned.the_type R P g) returned_fields (p, (tt, tt)) vs is

  module _ {M : Type 1} {𝓤 : Ura M} (𝓛 : Logic 𝓤) where
    pub loan_made : (p w : Ptr) → ent 𝓤 (emp 𝓤) (sem 𝓛 (LoanData.own_val (p, (w, (tt, tt))) (hand_of p w ∷ [])))
    loan_made p w = made (loan.the_type R P g) loan_fields 𝓛 ((λ _ _. tt), ((λ _ _. tt), ((λ _ _ _. (tt, tt)), tt))) (p, (w, (tt, tt))) (refl, (refl, ((tt, (refl, tt)), tt)))

    pub kept_made : (p w : Ptr) → ent 𝓤 (emp 𝓤) (sem 𝓛 (KeptData.own_val (p, (w, (tt, tt))) (hand_of p w ∷ [])))
    kept_made p w = made (kept.the_type R P g) kept_fields 𝓛 ((λ _ _. tt), ((λ _ _. tt), ((λ _ _ _. (tt, tt)), tt))) (p, (w, (tt, tt))) (refl, (refl, ((tt, (refl, tt)), tt)))

    pub returned_made : (p : Ptr) → ent 𝓤 (emp 𝓤) (sem 𝓛 (ReturnedData.own_val (p, (tt, tt)) (returned_bits p ∷ [])))
    returned_made p = made (returned.the_type R P g) returned_fields 𝓛 ((λ _ _. tt), ((λ _ _ _. (tt, tt)), tt)) (p, (tt, tt)) (refl, ((tt, (refl, tt)), tt))

    pub loan_opened : Opens 𝓛 LoanData
    loan_opened = opened (loan.the_type R P g) loan_fields 𝓛

-- ---- that the results fit: one after another, from what each of their parts fits
abbrev marker_ty : Ty
marker_ty = ty_struct [] tnil

abbrev returned_ty : Ty
returned_ty = ty_struct [] (tcons ty_ptr (tcons marker_ty tnil))

abbrev hand_ty : Ty
hand_ty = ty_struct [] (tcons ty_ptr (tcons ty_ptr (tcons marker_ty tnil)))

-- a value of a type
abbrev Fits : Ty → Val → Type 0
Fits τ v = T (has_ty τ v) × WT v

abbrev row_of : List Val → Val
row_of vs = vstruct (of_list vs)

abbrev pub found_returned : ℕ → Ptr → Val
found_returned n p = row_of (vint w64 n ∷ returned_bits p ∷ [])

abbrev pub found_returned_kept : ℕ → Ptr → Ptr → Val
found_returned_kept n p w = row_of (vint w64 n ∷ returned_bits p ∷ hand_of p w ∷ [])

abbrev pub handle_loan : Val → Ptr → Ptr → Val
handle_loan h p w = row_of (h ∷ hand_of p w ∷ [])

pub side_by_side : (τs : List Ty) (vs : List Val) → Typed τs vs → Fits (ty_struct [] (to_tys τs)) (row_of vs)
side_by_side τs vs typed = as_fields τs vs typed

pub number_fits : (n : ℕ) → n < 2 ^ 64 → Fits (ty_int w64) (vint w64 n)
number_fits n small = (tt, record { fits = small })

pub returned_fits : (p : Ptr) → InBlock p → Fits returned_ty (returned_bits p)
returned_fits p inside = side_by_side (ty_ptr ∷ marker_ty ∷ []) (ptr_val p ∷ vstruct vnil ∷ []) (Ptr-Good p inside, ((tt, tt), tt))

module _ (n : ℕ) (p w : Ptr) (small : n < 2 ^ 64) (inside : InBlock p) where
  pub found_returned_fits : Fits (ty_struct [] (tcons (ty_int w64) (tcons returned_ty tnil))) (found_returned n p)
  found_returned_fits = side_by_side (ty_int w64 ∷ returned_ty ∷ []) (vint w64 n ∷ returned_bits p ∷ []) (number_fits n small, (returned_fits p inside, tt))

  pub found_returned_kept_fits : InBlock w → Fits (ty_struct [] (tcons (ty_int w64) (tcons returned_ty (tcons hand_ty tnil)))) (found_returned_kept n p w)
  found_returned_kept_fits at_word = side_by_side (ty_int w64 ∷ returned_ty ∷ hand_ty ∷ []) (vint w64 n ∷ returned_bits p ∷ hand_of p w ∷ [])
      (number_fits n small, (returned_fits p inside, (hand_good p w inside at_word, tt)))

pub handle_loan_fits : (τ : Ty) (h : Val) (p w : Ptr) → InBlock p → InBlock w → Fits τ h → Fits (ty_struct [] (tcons τ (tcons hand_ty tnil))) (handle_loan h p w)
handle_loan_fits τ h p w inside at_word fits = side_by_side (τ ∷ hand_ty ∷ []) (h ∷ hand_of p w ∷ []) (fits, (hand_good p w inside at_word, tt))
