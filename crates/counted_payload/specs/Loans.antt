-- A boxed value that is lent for a lifetime a of its own, in 2 ^ 62 parts. A pool keeps the parts that are not out,
-- beside a seat of a counted table whose view says how many are.
use Rattle.std.specs.Prelude.{◌≡◌, ℕ, ◌-◌, ◌^◌, ◌<◌, [], ◌∷◌}
use mir.Syntax.{Ty}
use base.Stored.{Gv}
use base.Share.{three_quarters}
use base.Fml.{Fml, ftrue, fsep, fex, fall, fbor, fnamed}
use denote.RattleType.{RattleType}
use denote.Struct.Lending.{lent_at}
use denote.RawPtr.{Ptr}
use Rattle.atomic_table.specs.Table.{State}
use Rattle.atomic_table.specs.Seated.{TableId, seen, fact, inner, age, place, Placed}
use Rattle.counted_payload.specs.Parted.{tokens, pile, part_owns, deed_owns}

module _ {V : Type 0} (c : V → Gv) (out : V → ℕ) (z : TableId) (a pool : ℕ) (deed : Fml) where
  -- while some are out, the pool has the others, and the right to have the value back
  abbrev pub others : V → Fml
  others u = fall (0 < out u) (λ _. fsep (pile a (2 ^ 62 - out u)) deed)

  abbrev pub pooled : V → Fml
  pooled u = fsep (seen c z.views_name pool three_quarters u) (others u)

  abbrev pub Pool : Fml
  Pool = fex V pooled

-- the table's invariant and the pool's, by number
module _ (S : RattleType) {V : Type 0} (c : V → Gv) (holds : State S.Denot V → Type 0) (out : V
    → ℕ) (w q : Ptr) (z : TableId) (a pool : ℕ) (deed : Fml) where
  abbrev pub numbered : ℕ × ℕ → Fml
  numbered i = fsep (fact ((¬ (i.1 ≡ i.0)) × Placed S w q z))
      (fsep (fnamed i.0 (fbor (age z) (inner S c holds w q z))) (fnamed i.1 (Pool c out z a pool deed)))

  abbrev pub known : Fml
  known = fex (ℕ × ℕ) numbered

-- k parts of the value x at p, and what they need to be given back
abbrev pub loan_owns : (S : RattleType) {V : Type 0} → (V → Gv) → (State S.Denot V → Type 0) → (V → ℕ)
    → (Ty → Ptr → Fml) → (R : RattleType) → Ptr → Ptr → R.Denot → TableId → ℕ → ℕ → ℕ → Fml
loan_owns S c holds out frees R w p x z a pool k =
    fsep (part_owns R p x a k) (known S c holds out w (place z) z a pool (deed_owns frees R p x a))

-- where the word was the weight, all parts, and the right to have the value back
abbrev pub returned_owns : (Ty → Ptr → Fml) → (R : RattleType) → Ptr → R.Denot → ℕ → ℕ → ℕ → Fml
returned_owns frees R p x a k n = fall (n ≡ k) (λ _. fsep (tokens a (2 ^ 62)) (deed_owns frees R p x a))

-- where a load found another word, the parts as they were, and what they need to be given back
abbrev pub kept_owns : (S : RattleType) {V : Type 0} → (V → Gv) → (State S.Denot V → Type 0) → (V → ℕ)
    → (Ty → Ptr → Fml) → (R : RattleType) → Ptr → Ptr → R.Denot → TableId → ℕ → ℕ → ℕ → ℕ → Fml
kept_owns S c holds out frees R w p x z a pool k n =
    fsep (fall (¬ (n ≡ k)) (λ _. tokens a k)) (fsep (lent_at R p x (a ∷ []))
    (known S c holds out w (place z) z a pool (deed_owns frees R p x a)))
