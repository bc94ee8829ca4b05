-- Frames of one size: their heads stay.
use Rattle.std.proofs.Common.{◌≡◌, ℕ, zero, suc, ◌<◌, Bool, true, false, List, [], ◌++◌, None, length, take, nat_lt, if◌then◌else◌, refl, ap, arith, length-append, ltb-false, le-ltb, lt-ltb}
use Rattle.std.proofs.lemmas.List.{take-append-le}
use Rattle.frame_head.specs.declared.codecs.Codec.TheVariants.{Fixed}
use Rattle.frame_head.specs.Checks.{size_fault}
use Rattle.frame_head.specs.Heads.{More, Whole, UsesAtLeast}
use Rattle.frame_head.proofs.Steady.{Steady}

-- a size that is passed isn't 0
pub some_size : (n : ℕ) → size_fault n ≡ None → 0 < n
some_size zero checked = absurd (cc)
some_size (suc n) checked = omega arith

stays_by : (short still : Bool) (a b : List ℕ) (n : ℕ) → (short ≡ false → still ≡ false) → (short ≡ false → b ≡ a) → ((if short then More else Whole a n) ≡ More → ⊥)
    → (if still then More else Whole b n) ≡ (if short then More else Whole a n)
stays_by true still a b n long same some = absurd (some refl)
stays_by false still a b n long same some = rw (long refl, same refl) refl

uses_by : (short : Bool) (a : List ℕ) (n : ℕ) → 0 < n → UsesAtLeast 1 (if short then More else Whole a n)
uses_by true a n some = tt
uses_by false a n some = omega arith

pub fixed_steady : (size : ℕ) → 0 < size → Steady (Fixed size)
fixed_steady size some = record {
  stable = λ s r there.
      stays_by (nat_lt (length s) size) (nat_lt (length (s ++ r)) size) (take size s) (take size (s ++ r)) size
      (λ e. le-ltb (length (s ++ r)) size (omega (arith, ltb-false (length s) size e, length-append s r)))
      (λ e. take-append-le size s r (ltb-false (length s) size e)) there;
  advances = λ s. uses_by (nat_lt (length s) size) (take size s) size some;
  opens = ap (λ b. if b then More else Whole (take size []) size) (lt-ltb 0 size some);
}
