-- What stages mean, one after another.
use Rattle.std.proofs.Common.{◌≡◌, ℕ, suc, ◌-◌, ◌<◌, ◌≤◌, List, [], ◌∷◌, ◌++◌, length, take, drop, min, refl, sym, ap, arith, Bool, cond}
use Rattle.std.proofs.lemmas.List.{length-drop, take_all}
use Rattle.std.proofs.lemmas.Bool.{lt-ltb, le-ltb}
use Rattle.pipeline.specs.Plain.{Plain, strip, keep, upper, least, pass, skip, fail, made, begin_of, size_of, plain_says}
use Rattle.pipeline.specs.Meanings.{Meaning, IsCut, plain, answer, says, later, then_says, later_all, then_later}

pub answers_join : (front behind : List Meaning) (x : List ℕ) → answer (front ++ behind) x ≡ then_says (answer front x) (answer behind)
answers_join [] behind x = refl
answers_join (m ∷ ms) behind x =
    elim (says m x) as (λ s. then_says s (answer (ms ++ behind)) ≡ then_says (then_says s (answer ms)) (answer behind)) [
      | pass y ↦ answers_join ms behind y
      | skip y ↦ refl
      | fail n y ↦ refl
    ]

pub states_join : (front behind : List Meaning) (x : List ℕ)
    → later_all (front ++ behind) x ≡ later_all front x ++ then_later (answer front x) (later_all behind) behind
states_join [] behind x = refl
states_join (m ∷ ms) behind x =
    ap (λ ks. later m x ∷ ks)
    (elim (says m x) as (λ s. then_later s (later_all (ms ++ behind)) (ms ++ behind)
    ≡ then_later s (later_all ms) ms ++ then_later (then_says s (answer ms)) (later_all behind) behind) [
      | pass y ↦ states_join ms behind y
      | skip y ↦ refl
      | fail n y ↦ refl
    ])

-- no stage comes or goes
pub length-later_all : (ms : List Meaning) (x : List ℕ) → length (later_all ms x) ≡ length ms
length-later_all [] x = refl
length-later_all (m ∷ ms) x =
    ap (λ (n : ℕ). suc n)
    (elim (says m x) as (λ s. length (then_later s (later_all ms) ms) ≡ length ms) [
      | pass y ↦ length-later_all ms y
      | skip y ↦ refl
      | fail n y ↦ refl
    ])

-- a list without its first bytes is so long
pub all_behind : (n : ℕ) (x : List ℕ) → drop n x ≡ take (length x - n) (drop n x)
all_behind n x = sym (take_all (length x - n) (drop n x) (let l = length-drop n x in omega (arith, l)))

pub cuts_are_windows : (p : Plain) (x : List ℕ) → IsCut (plain p) → made p x ≡ take (size_of p (length x)) (drop (begin_of p (length x)) x)
cuts_are_windows (strip n) x is = all_behind (min n (length x)) x
cuts_are_windows (keep n) x is = refl
cuts_are_windows upper x is = absurd is
cuts_are_windows (least n) x is = sym (take_all (length x) x (omega arith))

-- a frame of fewer bytes, and another
pub under : (n : ℕ) (x : List ℕ) → length x < n → skip x ≡ plain_says (least n) x
under n x h = ap (λ (b : Bool). cond b (skip x) (pass x)) (sym (lt-ltb (length x) n h))

pub not_under : (n : ℕ) (x : List ℕ) → n ≤ length x → pass x ≡ plain_says (least n) x
not_under n x h = ap (λ (b : Bool). cond b (skip x) (pass x)) (sym (le-ltb (length x) n h))
