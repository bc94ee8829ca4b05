-- What a reader has given, step by step.
use Rattle.std.proofs.Common.{◌≡◌, ℕ, zero, suc, ◌+◌, ◌-◌, ◌≤◌, ◌<◌, ◌^◌, length, take, drop, length-append, arith, List, [], ◌∷◌, ◌++◌, Option, Some, None, Result, Ok, Err, refl, sym, ap, ◌∙◌, subst, append_assoc, append-nil}
use Rattle.std.specs.Prelude.{reverse}
use Rattle.std.proofs.lemmas.List.{length-map, reverse-reverse}
use Rattle.std.specs.Result.{OnErr}
use Rattle.std.specs.Io.KnownBytes.{Consumes, IsAtEnd}
use Rattle.std.proofs.KnownBytes.{Consumes-trans}
use Rattle.frame_head.specs.declared.codecs.Codec.{Codec}
use Rattle.frame_head.specs.Codecs.{fault_of, head}
use Rattle.frame_head.specs.Heads.{Head, More, Whole, Bad, FramingUnit}
use Rattle.frame_head.specs.Units.{units, ended, rest, unit_and, units_from, units_of_end}
use Rattle.frame_head.specs.Laws.{Extends, StableUnits}
use Rattle.frame_rule.specs.declared.unit.FrameUnit.{FrameUnit}
use Rattle.frame_rule.specs.Units.{GrewPartly, unit_of, units_of}
use Rattle.frame_rule.specs.Decoding.{Decoding, TakesPartly}
use Rattle.frame_reader.specs.declared.reader.Phase.{Phase}
use Rattle.frame_reader.specs.declared.reader.Phase.TheVariants as phase
use Rattle.frame_reader.specs.declared.reader.FrameError.{FrameError}
use Rattle.frame_reader.specs.declared.reader.FrameError.TheVariants.{Input, NoMemory, TooLong}
use Rattle.frame_reader.specs.Frames.{Counts, FoundBefore, FrameReading, HasGiven, SoFar, Takes, Stays}

pub on_err : {T E : Type 0} (r : Result T E) {P : Type 0} → P → OnErr r P
on_err (Ok x) p = tt
on_err (Err e) p = p

-- memory was refused before anything was fed
pub none_taken : (stood : List ℕ → Type 0) (codec : Codec) (p : List ℕ) (new : List FrameUnit) → StableUnits → ((h : List ℕ) → stood h → fault_of codec ≡ None) → new ≡ []
    → TakesPartly stood codec p [] new
none_taken stood codec p new stable checked none h st =
    let more = (stable codec (checked h st) h p).1 in
    record { added = []; missing = more.0; units = more.1 ∙ ap (λ w. w ++ more.0) (sym (append-nil (units codec h))); haul = none }

module _ {R D : Type 0} (remaining : R → Option (List ℕ)) (state : D → Decoding) (stands : D → List ℕ → Type 0) where
  -- a block was read and taken in
  pub block_on : {left : Option (List ℕ)} {codec : Codec} {given : List FramingUnit} (old : FrameReading R D) (i j : R) (d e f : D) (next : Phase) (us added : List FrameUnit) (n k : ℕ) (bytes taken : List ℕ)
      → HasGiven remaining state stands left codec given old → old.phase ≡ phase.Reading → old.waiting ≡ []
      → Consumes (remaining old.input) (remaining j) bytes → bytes ≡ taken → i ≡ j
      → Takes state stands f e taken added next → f ≡ old.decoder → d ≡ e → us ≡ added → (next ≡ phase.Ended → IsAtEnd (remaining j))
      → HasGiven remaining state stands left codec given (record { input = i; decoder = d; waiting = us; phase = next; read = n; given = k })
  block_on {left} {codec} {given} old i j d e f next us added n k bytes taken s reading empty came same_bytes same_input takes first same_decoder same_units ends =
      let P : Phase → Type 0 = λ p. SoFar state stands p old.decoder codec s.h (given ++ units_of old.waiting) in
      let Q : List FramingUnit → Type 0 = λ w. SoFar state stands phase.Reading old.decoder codec s.h w in
      let before : SoFar state stands phase.Reading old.decoder codec s.h given = subst Q (ap (λ w. given ++ units_of w) empty ∙ append-nil given) (subst P reading s.found) in
      let A : D → Type 0 = λ x. SoFar state stands phase.Reading x codec s.h given in
      let after : SoFar state stands next e codec (s.h ++ taken) (given ++ units_of added) = takes codec s.h given (subst A (sym first) before) in
      let C : R → Type 0 = λ x. Consumes left (remaining x) (s.h ++ taken) in
      let E : R → Type 0 = λ x. IsAtEnd (remaining x) in
      let F : D → Type 0 = λ x. SoFar state stands next x codec (s.h ++ taken) (given ++ units_of added) in
      let G : List FrameUnit → Type 0 = λ w. SoFar state stands next d codec (s.h ++ taken) (given ++ units_of w) in
      let B : List ℕ → Type 0 = λ w. Consumes (remaining old.input) (remaining j) w in
      record {
        h = s.h ++ taken;
        came = subst C (sym same_input) (Consumes-trans _ _ _ _ _ s.came (subst B same_bytes came));
        found = subst G (sym same_units) (subst F (sym same_decoder) after);
        to_end = λ is. subst E (sym same_input) (ends is);
      }

unit_few : (at : ℕ) (d : Head) (behind : ℕ → List FramingUnit) (n : ℕ) → ((u : ℕ) → length (behind u) ≤ n) → length (unit_and at d behind) ≤ suc n
unit_few at More behind n few = omega arith
unit_few at (Whole bytes used) behind n few = let l = few used in omega (arith, l)
unit_few at (Bad kind used) behind n few = let l = few used in omega (arith, l)

units_from_few : (c : Codec) (n at : ℕ) (s : List ℕ) → length (units_from c n at s) ≤ n
units_from_few c zero at s = omega arith
units_from_few c (suc n) at s = unit_few at (head c s) (λ used. units_from c n (at + used) (drop used s)) n (λ used. units_from_few c n (at + used) (drop used s))

-- no more units than bytes
pub units_few : (c : Codec) (s : List ℕ) → length (units c s) ≤ length s
units_few c s = units_from_few c (length s) 0 s

end_few : (c : Codec) (at : ℕ) (s : List ℕ) → length (units_of_end c at s) ≤ 1
end_few c at [] = omega arith
end_few c at (x ∷ s) = omega arith

pub ended_few : (c : Codec) (s : List ℕ) → length (ended c s) ≤ length s + 1
ended_few c s =
    let few = units_few c s in
    let last = end_few c (length s - length (rest c s)) (rest c s) in
    let sum = length-append (units c s) (units_of_end c (length s - length (rest c s)) (rest c s)) in
    omega (arith, few, last, sum)

take_most : (n : ℕ) (xs : List ℕ) → length (take n xs) ≤ n
take_most zero xs = omega arith
take_most (suc n) [] = omega arith
take_most (suc n) (x ∷ xs) = let l = take_most n xs in omega (arith, l)

-- so many of the bytes of a block
pub block_most : (n m : ℕ) (xs : List ℕ) → n ≤ m → length (take n xs) ≤ m
block_most n m xs most = let l = take_most n xs in omega (arith, l, most)

none_in : (us : List FrameUnit) → reverse us ≡ [] → length us ≡ 0
none_in us none = ap length (sym (reverse-reverse us) ∙ ap reverse none)

abbrev IsReading : Phase → Type 0
IsReading phase.Reading = Unit {0}
IsReading (phase.Failed e) = ⊥
IsReading phase.Ended = ⊥

found_before_few : (e : FrameError) (all found : List FramingUnit) → FoundBefore e all found → length found ≤ length all
found_before_few (Input kind) all found is = let l = ap length is in omega (arith, l)
found_before_few NoMemory all found (missing, is) = let l = ap length is ∙ length-append found missing in omega (arith, l)
found_before_few TooLong all found is = let l = ap length is in omega (arith, l)

module _ {D : Type 0} (state : D → Decoding) (stands : D → List ℕ → Type 0) where
  counts_by : (p : Phase) (d : D) (codec : Codec) (all : List ℕ) (found : List FramingUnit) (m : ℕ)
      → m ≡ length found → length all + 1 ≤ 2 ^ 62 → SoFar state stands p d codec all found → Counts state stands p d m
  counts_by phase.Reading d codec all found m is few so = record {
    most = let l = units_few codec all in let e = ap length so.2 in omega (arith, is, few, l, e);
    all = λ reading. (all, so.0, is ∙ ap length (sym so.2) ∙ ap (λ c. length (units c all)) (sym so.1));
  }
  counts_by (phase.Failed e) d codec all found m is few so = record {
    most = let l = units_few codec all in let f = found_before_few e (units codec all) found so in omega (arith, is, few, l, f);
    all = λ reading. absurd (subst IsReading (sym reading) tt);
  }
  counts_by phase.Ended d codec all found m is few so = record {
    most = let l = ended_few codec all in let e = ap length so in omega (arith, is, few, l, e);
    all = λ reading. absurd (subst IsReading (sym reading) tt);
  }

  -- the units of a block are counted too
  pub counts_on : (p : Phase) (old e d : D) (next : Phase) (given m : ℕ) (us added : List FrameUnit) (taken : List ℕ)
      → Counts state stands p old (given + length us) → p ≡ phase.Reading → reverse us ≡ []
      → ((h : List ℕ) → stands old h → (state old).fed ≡ length h) → (state old).fed < 2 ^ 61 → length taken ≤ 65536
      → Takes state stands old e taken added next → d ≡ e → m ≡ given + length added → Counts state stands next d m
  counts_on p old e d next given m us added taken c reading none fed room most takes same is =
      let now = c.all reading in
      let h : List ℕ = now.0 in
      let before : List FramingUnit = units (state old).codec h in
      let so : SoFar state stands next e (state old).codec (h ++ taken) (before ++ units_of added) =
      takes (state old).codec h before (now.1, refl, refl) in
      let N : D → Type 0 = λ x. Counts state stands next x m in
      let long = length-append h taken in
      let long_fed = fed h now.1 in
      let sum = length-append before (units_of added) in
      let each = length-map added unit_of in
      let zero_in = none_in us none in
      let first = now.2 in
      subst N (sym same) (counts_by next e (state old).codec (h ++ taken) (before ++ units_of added) m
      (let q : m ≡ length (before ++ units_of added) = omega (arith, is, sum, each, zero_in, first) in q)
      (let q : length (h ++ taken) + 1 ≤ 2 ^ 62 = omega (arith, long, long_fed, room, most) in q)
      so)
