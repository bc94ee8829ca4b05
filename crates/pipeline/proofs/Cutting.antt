-- What strips and keeps read.
use Rattle.std.proofs.Common.{◌≡◌, ℕ, ◌+◌, ◌-◌, ◌≤◌, min, List, [], ◌∷◌, ◌++◌, Ok, Err, IfSome, length, take, drop, refl, sym, ap, subst, ◌∙◌, arith, slice_get, length-append, true, false}
use Rattle.storage.specs.declared.release.NoOwner.{NoOwner}
use Rattle.storage.specs.declared.back.Back.{Back}
use Rattle.storage.specs.Back.{stakes_in}
use Rattle.buffer_model.specs.Segment.{Segment, bytes_of}
use Rattle.buffer_model.specs.Minted.{Numbers}
use Rattle.buffer_model.specs.Stake.{KeepsTotals}
use Rattle.buffer_model.proofs.Totals.{keeps_same, keeps-append}
use Rattle.iobuf_chain.specs.Accounts.{held_by}
use Rattle.pipeline.specs.Plain.{Plain, strip, keep, pass}
use Rattle.pipeline.specs.Nodes.{Sheds, Works}
use Rattle.pipeline.specs.Stages.{ReadsCut}
use Rattle.pipeline.specs.declared.step.Step.TheVariants.{Pass}
use Rattle.pipeline.proofs.Meanings.{all_behind}
use Rattle.pipeline.proofs.Thinning.{sheds_self}
use Rattle.pipeline.proofs.Working.{works_same, works_shed}

pub works_as : {O : Type 0} (m : Numbers) (ns : List (Segment O)) (backs now : List (Back O)) → now ≡ backs → Works m m ns ns backs now
works_as {O} m ns backs now e = let P : List (Back O) → Type 0 = λ bs. Works m m ns ns backs bs in subst P (sym e) (works_same m ns backs)

-- the list was only given room before
pub works_from : {O : Type 0} (a b : Numbers) (ns ms : List (Segment O)) (backs roomy now : List (Back O)) → roomy ≡ backs → Works a b ns ms roomy now
    → Works a b ns ms backs now
works_from {O} a b ns ms backs roomy now e w = let P : List (Back O) → Type 0 = λ bs. Works a b ns ms bs now in subst P e w

pub totals_from : {O : Type 0} (ns ms : List (Segment O)) (backs roomy now : List (Back O)) → roomy ≡ backs
    → KeepsTotals (held_by ns ++ stakes_in roomy) (held_by ms ++ stakes_in now) → KeepsTotals (held_by ns ++ stakes_in backs) (held_by ms ++ stakes_in now)
totals_from {O} ns ms backs roomy now e k =
    let P : List (Back O) → Type 0 = λ bs. KeepsTotals (held_by ns ++ stakes_in bs) (held_by ms ++ stakes_in now) in subst P e k

pub totals_beside : {O : Type 0} (ns ms : List (Segment O)) (backs : List (Back O)) → KeepsTotals (held_by ns) (held_by ms)
    → KeepsTotals (held_by ns ++ stakes_in backs) (held_by ms ++ stakes_in backs)
totals_beside ns ms backs k z = keeps-append z (held_by ns) (stakes_in backs) (held_by ms) (stakes_in backs) (k z) (keeps_same (stakes_in backs) z)

pub one_fits : {O : Type 0} (n : ℕ) (ns : List (Segment O)) → length ns ≡ 1 → n ≤ length (bytes_of ns) → IfSome (slice_get ns 0) (λ s. n ≤ length s.window)
one_fits n [] one le = absurd (omega (arith, one))
one_fits n (s ∷ []) one le = let size = length-append s.window [] in omega (arith, size, le)
one_fits n (s ∷ t ∷ ts) one le = absurd (omega (arith, one))

pub strip_reads : (n at len : ℕ) (before after : List (Segment NoOwner)) (backs now : List (Back NoOwner)) → len ≡ length (bytes_of before)
    → at ≡ min len n → bytes_of after ≡ take (len - at) (drop at (bytes_of before)) → Sheds before after
    → length before + length backs ≡ length after + length now → KeepsTotals (held_by before ++ stakes_in backs) (held_by after ++ stakes_in now)
    → ReadsCut (strip n) before backs now (Ok (Pass after))
strip_reads n at len before after backs now size is bytes sheds count keeps =
    let same : at ≡ min n (length (bytes_of before)) = omega (arith, size, is) in
    record {
      reads = λ mint. record {
        gives =
            ap (λ bs. pass bs)
            (bytes ∙ ap (λ (k : ℕ). take (k - at) (drop at (bytes_of before))) size
            ∙ sym (all_behind at (bytes_of before)) ∙ ap (λ (k : ℕ). drop k (bytes_of before)) same);
        works = works_shed mint before after backs now sheds count keeps;
      };
      sheds = sheds;
      memory = λ one. refl;
    }

pub keep_reads : (n many len : ℕ) (before after : List (Segment NoOwner)) (backs now : List (Back NoOwner)) → len ≡ length (bytes_of before)
    → many ≡ min len n → bytes_of after ≡ take many (bytes_of before) → Sheds before after
    → length before + length backs ≡ length after + length now → KeepsTotals (held_by before ++ stakes_in backs) (held_by after ++ stakes_in now)
    → ReadsCut (keep n) before backs now (Ok (Pass after))
keep_reads n many len before after backs now size is bytes sheds count keeps =
    let same : many ≡ min n (length (bytes_of before)) = omega (arith, size, is) in
    record {
      reads = λ mint. record {
        gives = ap (λ bs. pass bs) (bytes ∙ ap (λ (k : ℕ). take k (bytes_of before)) same);
        works = works_shed mint before after backs now sheds count keeps;
      };
      sheds = sheds;
      memory = λ one. refl;
    }

-- a cut that was refused
pub refused_reads : (p : Plain) (before after : List (Segment NoOwner)) (backs now : List (Back NoOwner)) → (after ≡ before) × (now ≡ backs)
    → (length before ≡ 1 → false ≡ true) → ReadsCut p before backs now (Err after)
refused_reads p before after backs now same one =
    let P : List (Segment NoOwner) → Type 0 = λ ns. ReadsCut p before backs now (Err ns) in
    subst P (sym same.0) record {
      reads = λ mint. record { gives = refl; works = works_as mint before backs now same.1 };
      sheds = sheds_self before;
      memory = one;
    }
