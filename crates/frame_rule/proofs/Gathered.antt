-- Units that are added in turn.
use Rattle.std.proofs.Common.{◌≡◌, ℕ, ◌-◌, true, false, None, Result, Ok, Err, OnOk, List, [], ◌++◌, length, ap, sym, ◌∙◌, append_assoc, append-nil, arith}
use Rattle.storage.specs.declared.release.NoOwner.{NoOwner}
use Rattle.buffer_model.specs.Segment.{Segment}
use Rattle.buffer_model.specs.Stake.{Stake, KeepsTotals, KeepsTotalsBeside}
use Rattle.buffer_model.specs.Minted.{Numbers}
use Rattle.buffer_model.proofs.Totals.{keeps_same, keeps_equal, keeps_then, keeps-append}
use Rattle.iobuf_chain.specs.Accounts.{held_by}
use Rattle.iobuf_chain.proofs.Accounts.{held_by-append}
use Rattle.frame_head.specs.declared.codecs.Codec.{Codec}
use Rattle.frame_head.specs.Codecs.{fault_of}
use Rattle.frame_head.specs.Heads.{FramingUnit}
use Rattle.frame_head.specs.Units.{units, ended, rest, units_of_end}
use Rattle.frame_head.proofs.Cases.{passed_steady}
use Rattle.frame_head.proofs.Cutting.{extends}
use Rattle.frame_rule.specs.declared.unit.FrameUnit.{FrameUnit}
use Rattle.frame_rule.specs.declared.decoder.FeedFault.{FeedFault}
use Rattle.frame_rule.specs.Decoding.{Decoding, Ended}
use Rattle.frame_rule.specs.Units.{Grew, GrewPartly, units_of}
use Rattle.frame_rule.proofs.Passing.{units_of-append}
use Rattle.frame_rule.proofs.Moving.{behind_first}

pub grew_none : (some : List FramingUnit) (us : List FrameUnit) → Grew some some us us
grew_none some us = record { added = []; units = sym (append-nil some); haul = sym (append-nil us) }

pub grew_further : (a b c : List FramingUnit) (us vs ws : List FrameUnit) → Grew a b us vs → Grew b c vs ws → Grew a c us ws
grew_further a b c us vs ws p q = record {
  added = p.added ++ q.added;
  units = q.units ∙ ap (λ w. w ++ units_of q.added) p.units ∙ append_assoc a (units_of p.added) (units_of q.added) ∙ ap (λ w. a ++ w) (sym (units_of-append p.added q.added));
  haul = q.haul ∙ ap (λ w. w ++ q.added) p.haul ∙ append_assoc us p.added q.added;
}

-- the first of the units behind those that were found
pub partly_further : (a b c : List FramingUnit) (us vs ws : List FrameUnit) → Grew a b us vs → GrewPartly b c vs ws → GrewPartly a c us ws
partly_further a b c us vs ws p q = record {
  added = p.added ++ q.added;
  missing = q.missing;
  units = q.units ∙ ap (λ w. w ++ q.missing) (ap (λ w. w ++ units_of q.added) p.units ∙ append_assoc a (units_of p.added) (units_of q.added) ∙ ap (λ w. a ++ w) (sym (units_of-append p.added q.added)));
  haul = q.haul ∙ ap (λ w. w ++ q.added) p.haul ∙ append_assoc us p.added q.added;
}

-- of a longer list more are missing
pub partly_longer : (a b c more : List FramingUnit) (us vs : List FrameUnit) → GrewPartly a b us vs → c ≡ b ++ more → GrewPartly a c us vs
partly_longer a b c more us vs p longer = record {
  added = p.added;
  missing = p.missing ++ more;
  units = longer ∙ ap (λ w. w ++ more) p.units ∙ append_assoc (a ++ units_of p.added) p.missing more;
  haul = p.haul;
}

-- all that came before are the first
pub grew_partly : (a b : List FramingUnit) (us vs ws : List FrameUnit) → Grew a b us vs → ws ≡ vs → GrewPartly a b us ws
grew_partly a b us vs ws p same = record {
  added = p.added;
  missing = [];
  units = p.units ∙ sym (append-nil (a ++ units_of p.added));
  haul = same ∙ p.haul;
}

-- the units at the end of a stream begin with those of its first bytes
pub ended_longer : (c : Codec) → fault_of c ≡ None → (s r : List ℕ) → (more : List FramingUnit) × (ended c (s ++ r) ≡ units c s ++ more)
ended_longer c checked s r =
    let e = extends c (passed_steady c checked) s r in
    let last : List FramingUnit = units_of_end c (length (s ++ r) - length (rest c (s ++ r))) (rest c (s ++ r)) in
    (e.0 ++ last, ap (λ w. w ++ last) e.1 ∙ append_assoc (units c s) e.0 last)

-- nodes that wait beside those that a call takes stay as they are
pub aside : (a b : Numbers) (xs ys zs : List (Segment NoOwner)) (h k : List (Stake NoOwner)) → KeepsTotalsBeside a b (held_by xs ++ h) (held_by ys ++ k) → KeepsTotalsBeside a b (held_by (xs ++ zs) ++ h) (held_by (ys ++ zs) ++ k)
aside a b xs ys zs h k keeps n lt =
    let z : List (Stake NoOwner) = held_by zs in
    let to : KeepsTotals (held_by (xs ++ zs) ++ h) (z ++ (held_by xs ++ h)) =
    keeps_then _ _ _ (keeps_equal _ _ (ap (λ w. w ++ h) (held_by-append xs zs) ∙ append_assoc (held_by xs) z h))
    (keeps_then _ _ _ (behind_first (held_by xs) z h) (keeps_equal _ _ (append_assoc z (held_by xs) h))) in
    let from : KeepsTotals (z ++ (held_by ys ++ k)) (held_by (ys ++ zs) ++ k) =
    keeps_then _ _ _ (behind_first z (held_by ys) k) (keeps_equal _ _ (ap (λ w. w ++ k) (sym (held_by-append ys zs)))) in
    let mid = keeps-append n z (held_by xs ++ h) z (held_by ys ++ k) (keeps_same z n) (keeps n lt) in record {
      total = (from n).total ∙ mid.total ∙ (to n).total;
      way = λ kind is. (from n).way kind (mid.way kind ((to n).way kind is));
    }

pub ended_ok : {U : Type 0} (old new : Decoding) (r : Result U FeedFault) → Ended old new r → OnOk r ((old.dead ≡ false) × (new ≡ record old { kept = []; dead = true }))
ended_ok old new (Ok u) is = is
ended_ok old new (Err e) is = tt
