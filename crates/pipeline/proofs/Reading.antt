-- Stages that read a frame one after another.
use Rattle.std.proofs.Common.{◌≡◌, ℕ, suc, zero, ◌+◌, ◌<◌, List, [], ◌∷◌, ◌++◌, Option, Some, None, Result, length, get_or, refl, sym, ap, subst, ◌∙◌, arith, slice_get, slice_set}
use Rattle.std.proofs.lemmas.List.{append-nil, map-set, length-map}
use Rattle.storage.specs.declared.release.NoOwner.{NoOwner}
use Rattle.storage.specs.declared.back.Back.{Back}
use Rattle.storage.specs.Back.{stakes_in}
use Rattle.buffer_model.specs.Segment.{Segment}
use Rattle.buffer_model.specs.Minted.{Numbers}
use Rattle.buffer_model.specs.Stake.{Stake, Keeps, KeepsTotalsBeside}
use Rattle.iobuf_chain.specs.Accounts.{held_by}
use Rattle.pipeline.specs.Plain.{Said, pass, skip, fail}
use Rattle.pipeline.specs.Meanings.{Machine, says}
use Rattle.pipeline.specs.Nodes.{AreWhole, Works, listed, stakes_back}
use Rattle.pipeline.specs.Stages.{meaning_of, meanings, said_of, Gives, IsList}
use Rattle.pipeline.specs.declared.stage.Stage.{Stage}
use Rattle.pipeline.specs.declared.step.Step.{Step}

pub no_skip : (x z : List ℕ) → skip x ≡ pass z → ⊥
no_skip x z e = cc

pub no_fail : (n : ℕ) (x z : List ℕ) → fail n x ≡ pass z → ⊥
no_fail n x z e = cc

-- what a step says, and its frame, by what it is
pub said_as : (a b : Step) (s : Said) → a ≡ b → said_of a ≡ s → said_of b ≡ s
said_as a b s e h = ap (λ t. said_of t) (sym e) ∙ h

module _ {H : Type 0} (machine : H → Machine) where
  pub at_stage : (stages : List (Stage H)) (i : ℕ) (d : Stage H) → i < length stages
      → slice_get (meanings machine stages) i ≡ Some (meaning_of machine (get_or stages i d))
  at_stage [] i d low = absurd (omega arith)
  at_stage (s ∷ ss) zero d low = refl
  at_stage (s ∷ ss) (suc i) d low = at_stage ss i d (omega arith)

  pub stage_there : (stages : List (Stage H)) (i : ℕ) (s : Stage H) → i < length stages → s ≡ get_or stages i s
      → slice_get (meanings machine stages) i ≡ Some (meaning_of machine s)
  stage_there stages i s low is = at_stage stages i s low ∙ ap (λ t. Some (meaning_of machine t)) (sym is)

  pub set_stage : (stages : List (Stage H)) (i : ℕ) (s : Stage H)
      → meanings machine (slice_set stages i s) ≡ slice_set (meanings machine stages) i (meaning_of machine s)
  set_stage stages i s = map-set (λ t. meaning_of machine t) stages i s

  pub stages_length : (stages : List (Stage H)) → length (meanings machine stages) ≡ length stages
  stages_length stages = length-map stages (λ t. meaning_of machine t)

  -- what a stage answers, by what it is
  pub gives_as : (a b : Stage H) (x : List ℕ) (r : Result Step (List (Segment NoOwner))) → a ≡ b → Gives (says (meaning_of machine b) x) x r
      → Gives (says (meaning_of machine a) x) x r
  gives_as a b x r e h = let P : Stage H → Type 0 = λ s. Gives (says (meaning_of machine s) x) x r in subst P (sym e) h

-- all that was handed back stands in the answer
stakes_listed : {O : Type 0} (now : List (Back O)) (ret : Option (List (Back O))) → IsList now ret → stakes_back ret ≡ stakes_in now
stakes_listed now None is = ap (λ bs. stakes_in bs) (sym is)
stakes_listed now (Some ys) is = ap (λ bs. stakes_in bs) is.0

pub whole_count : {O : Type 0} (a b : Numbers) (before after : List (Segment O)) (backs now : List (Back O)) (ret : Option (List (Back O))) → backs ≡ []
    → Works a b before after backs now → IsList now ret → AreWhole before → length before ≡ length after + length (listed ret)
whole_count a b before after backs now None none w is all =
    let e = (w.whole all).1 in
    let f = ap length none in
    let g = ap length is in
    omega (arith, e, f, g)
whole_count a b before after backs now (Some ys) none w is all =
    let e = (w.whole all).1 in
    let f = ap length none in
    let g = ap length is.0 in
    omega (arith, e, f, g)

pub whole_totals : {O : Type 0} (a b : Numbers) (before after : List (Segment O)) (backs now : List (Back O)) (ret : Option (List (Back O))) → backs ≡ []
    → Works a b before after backs now → IsList now ret → KeepsTotalsBeside a b (held_by before) (held_by after ++ stakes_back ret)
whole_totals {O} a b before after backs now ret none w is z apart =
    let P : List (Stake O) → Type 0 = λ ss. Keeps ss (held_by after ++ stakes_in now) z in
    let Q : List (Stake O) → Type 0 = λ ss. Keeps (held_by before) (held_by after ++ ss) z in
    subst Q (sym (stakes_listed now ret is))
    (subst P (ap (λ bs. held_by before ++ stakes_in bs) none ∙ append-nil (held_by before)) (w.totals z apart))
