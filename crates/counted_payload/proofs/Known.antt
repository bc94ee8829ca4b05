-- What a loan knows can be copied. Assumes `Logic`.
use Rattle.std.proofs.Common.{◌≡◌, ℕ, [], ◌∷◌}
use seplogic.Ra.Ura.{Ura}
use base.Stored.{Coded}
use base.Logic.{ent, sep, guard}
use base.Fml.{Fml, ftrue, fbor, fnamed}
use types.Logic.{Logic, sem}
use types.Kit.{‵, ◌⊛◌, ◌$◌, ◌∵◌, !, qed, move, drop, split, fsplit3, fjoin3, fpick, fpack, check, use1, done}
use denote.RattleType.{RattleType}
use denote.RawPtr.{Ptr, InBlock}
use denote.Steps.{nothing}
use Rattle.atomic_table.specs.Table.{State}
use Rattle.atomic_table.specs.Seated.{TableId, Placed, age, inner}
use Rattle.counted_payload.specs.Loans.{Pool, numbered, known}

module _ {M : Type 1} {𝓤 : Ura M} (𝓛 : Logic 𝓤) (S : RattleType) {V : Type 0} (cv : Coded V) (holds : State S.Denot V → Type 0) (out : V → ℕ) (w q : Ptr) (z : TableId) (a pool : ℕ) (deed : Fml) where
  abbrev K : Fml
  K = known S cv.code holds out w q z a pool deed

  abbrev PI : Fml
  PI = fbor (age z) (inner S cv.code holds w q z)

  abbrev PJ : Fml
  PJ = Pool cv.code out z a pool deed

  pub known_twice : ent 𝓤 (sem 𝓛 K) (guard 𝓤 (InBlock w) (sep 𝓤 (sem 𝓛 K) (sem 𝓛 K)))
  known_twice = let F = numbered S cv.code holds out w q z a pool deed in qed 𝓛 (‵ K ∷ []) ∵ fpick ! (λ ij. fsplit3 ! $ fpick ! (λ near. drop ! $ check ! near.1.0 $
      use1 𝓛 (‵ (fnamed ij.0 PI) ⊛ ‵ (fnamed ij.0 PI)) (𝓛.invs.named_dup ij.0 PI) $ split ! $ move ! (2 ∷ []) $ use1 𝓛 (‵ (fnamed ij.1 PJ) ⊛ ‵ (fnamed ij.1 PJ)) (𝓛.invs.named_dup ij.1 PJ) $ split ! $
      move ! (2 ∷ 0 ∷ []) $ nothing ! $ fpack ! ((¬ (ij.1 ≡ ij.0)) × Placed S w q z) (λ _. ftrue) near $ fjoin3 ! $ fpack ! (ℕ × ℕ) F ij $
      move ! (2 ∷ 1 ∷ []) $ nothing ! $ fpack ! ((¬ (ij.1 ≡ ij.0)) × Placed S w q z) (λ _. ftrue) near $ fjoin3 ! $ fpack ! (ℕ × ℕ) F ij $ done !))
