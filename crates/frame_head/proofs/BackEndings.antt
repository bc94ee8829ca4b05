-- Frames before an ending are told by the codec with this ending alone.
use Rattle.std.proofs.Common.{◌≡◌, ℕ, zero, suc, ◌+◌, ◌-◌, ◌<◌, ◌≤◌, true, false, inl, inr, List, [], ◌∷◌, ◌++◌, Option, Some, None, length, take, reverse, nat_lt, if◌then◌else◌, All, refl, ap, sym, ◌∙◌, subst, arith, append_assoc, length-append, le-ltb}
use Rattle.std.proofs.Math.Seq.{take-append_seam, take-append-add}
use Rattle.std.proofs.lemmas.Bool.{cases_lt}
use Rattle.std.proofs.lemmas.List.{take-append-le, reverse-append}
use Rattle.std.proofs.lemmas.List.Elements.{All-head, All-tail, All-take}
use Rattle.std.specs.List.{Contains}
use Rattle.std.specs.Option.{MatchOption}
use Rattle.frame_head.specs.declared.codecs.FaultKind.TheVariants.{TooLong}
use Rattle.frame_head.specs.declared.codecs.LineEnd.TheVariants.{Lf, Crlf}
use Rattle.frame_head.specs.declared.out.Out.TheVariants.{Line, Delim}
use Rattle.frame_head.specs.Endings.{EndsWith, NoneEnds, IsFirstEnding, first_ended}
use Rattle.frame_head.specs.Heads.{Whole, Bad, terminated}
use Rattle.frame_head.specs.ReadingBack.{EndsOnce, line_codec, delim_codec, LinesReadBack, DelimitedReadBack, EndingsOnce}
use Rattle.frame_head.proofs.Ended.{line_steady, delim_steady}
use Rattle.frame_head.proofs.FirstEnding.{first_ending}
use Rattle.frame_head.proofs.Back.{reads_back}

abbrev alone : List ℕ → List (List ℕ)
alone m = m ∷ []

alone_is : (m x : List ℕ) → Contains (alone m) x → x ≡ m
alone_is m x (zero, below, is) = sym is
alone_is m x (suc k, below, is) = absurd (omega arith)

alone_has : (m : List ℕ) → Contains (alone m) m
alone_has m = (0, omega arith, refl)

-- what is found isn't behind the ending
not_longer : (m f r front ending : List ℕ) → IsFirstEnding (alone m) (f ++ m ++ r) front ending → length front ≤ length (f ++ m)
not_longer m f r front ending found =
    elim (cases_lt (length (f ++ m)) (length front)) [
      | inr within ↦ within
      | inl more ↦
          let P : List ℕ → Type 0 = λ w. EndsWith w m in
          let whole : f ++ m ≡ take (length (f ++ m)) (f ++ m ++ r) = sym (take-append_seam (f ++ m) r) in
          let ends : EndsWith (f ++ m) m = (f, refl) in
          absurd (found.least (length (f ++ m)) more m (alone_has m) (subst P whole ends))
    ]

-- what is found is a front of the stream
found_front : (m f r front ending : List ℕ) → IsFirstEnding (alone m) (f ++ m ++ r) front ending → front ≡ take (length front) (f ++ m ++ r)
found_front m f r front ending found =
    sym (ap (λ w. take (length front) w) found.is_front.1 ∙ take-append_seam front found.is_front.0)

-- nor before it, where it stands once
not_shorter : (m f r front ending : List ℕ) → EndsOnce m f → IsFirstEnding (alone m) (f ++ m ++ r) front ending → length (f ++ m) ≤ length front
not_shorter m f r front ending once found =
    elim (cases_lt (length front) (length (f ++ m))) [
      | inr within ↦ within
      | inl less ↦
          let P : List ℕ → Type 0 = λ w. EndsWith w ending in
          let Q : List ℕ → Type 0 = λ w. EndsWith (take (length front) (f ++ m)) w in
          let e : front ≡ take (length front) (f ++ m) = found_front m f r front ending found ∙ take-append-le (length front) (f ++ m) r (omega arith) in
          absurd (once (length front) less (subst Q (alone_is m ending found.among) (subst P e found.ends)))
    ]

abbrev both : List ℕ → List ℕ → Option (List ℕ × List ℕ)
both front ending = Some (front, ending)

-- what the search finds in a text whose ending stands once
once_by : (m f r : List ℕ) (o : Option (List ℕ × List ℕ)) → EndsOnce m f
    → MatchOption o ((n : ℕ) → NoneEnds (alone m) (take n (f ++ m ++ r))) (λ p. IsFirstEnding (alone m) (f ++ m ++ r) p.0 p.1)
    → o ≡ Some (f ++ m, m)
once_by m f r None once none =
    let P : List ℕ → Type 0 = λ w. EndsWith w m in
    let whole : f ++ m ≡ take (length (f ++ m)) (f ++ m ++ r) = sym (take-append_seam (f ++ m) r) in
    let ends : EndsWith (f ++ m) m = (f, refl) in
    absurd (none (length (f ++ m)) m (alone_has m) (subst P whole ends))
once_by m f r (Some p) once found =
    let size : length p.0 ≡ length (f ++ m) = omega (arith, not_longer m f r p.0 p.1 found, not_shorter m f r p.0 p.1 once found) in
    let front : p.0 ≡ f ++ m = found_front m f r p.0 p.1 found ∙ ap (λ w. take w (f ++ m ++ r)) size ∙ take-append_seam (f ++ m) r in
    ap (λ w. both w p.1) front ∙ ap (λ w. both (f ++ m) w) (alone_is m p.1 found.among)

ends_found : (m f r : List ℕ) → 0 < length m → EndsOnce m f → first_ended (alone m) [] (f ++ m ++ r) ≡ Some (f ++ m, m)
ends_found m f r some once =
    once_by m f r (first_ended (alone m) [] (f ++ m ++ r)) once
    (first_ending (alone m) (λ x there. omega (arith, some, ap (λ (w : List ℕ). length w) (alone_is m x there))) (f ++ m ++ r))

terminated_whole : (max : ℕ) (m f : List ℕ) → length f ≤ max → terminated true max (Some (f ++ m, m)) ≡ Whole f (length (f ++ m))
terminated_whole max m f within =
    let n = length (f ++ m) in
    let size : length (f ++ m) - length m ≡ length f = omega (arith, length-append f m) in
    let content : take (length (f ++ m) - length m) (f ++ m) ≡ f = ap (λ w. take w (f ++ m)) size ∙ take-append_seam f m in
    ap (λ c. if nat_lt max (length c) then Bad TooLong n else if true then Whole c n else Whole (f ++ m) n) content
    ∙ ap (λ b. if b then Bad TooLong n else Whole f n) (le-ltb max (length f) within)

-- the head of a text whose ending stands once
ended_whole : (max : ℕ) (m f r : List ℕ) → 0 < length m → length f ≤ max → EndsOnce m f → terminated true max (first_ended (alone m) [] (f ++ m ++ r)) ≡ Whole f (length (f ++ m))
ended_whole max m f r some within once = ap (λ w. terminated true max w) (ends_found m f r some once) ∙ terminated_whole max m f within

pub lines_read_back : LinesReadBack
lines_read_back true max frames short once =
    reads_back (line_codec true max) (line_steady Crlf true max) (Line true) frames
    (λ k d below r. ended_whole max (13 ∷ 10 ∷ []) _ r (omega arith) (short k d below) (once k d below))
lines_read_back false max frames short once =
    reads_back (line_codec false max) (line_steady Lf true max) (Line false) frames
    (λ k d below r. ended_whole max (10 ∷ []) _ r (omega arith) (short k d below) (once k d below))

pub delimited_read_back : DelimitedReadBack
delimited_read_back mark max frames some short once =
    reads_back (delim_codec mark max) (delim_steady (mark ∷ []) true max) (Delim mark) frames
    (λ k d below r. ended_whole max mark _ r some (short k d below) (once k d below))

last_of : (P : ℕ → Type 0) (front : List ℕ) (b : ℕ) → All P (front ++ b ∷ []) → P b
last_of P [] b all = All-head P b [] all
last_of P (x ∷ front) b all = last_of P front b (All-tail P x (front ++ b ∷ []) all)

byte_once : (b : ℕ) (frame : List ℕ) → All (λ x. x ≡ b → ⊥) frame → EndsOnce (b ∷ []) frame
byte_once b frame none = λ k less ends.
    let P : ℕ → Type 0 = λ x. x ≡ b → ⊥ in
    let Q : List ℕ → Type 0 = λ w. All (λ x. x ≡ b → ⊥) w in
    let e : take k frame ≡ ends.0 ++ b ∷ [] = sym (take-append-le k frame (b ∷ []) (omega (arith, length-append frame (b ∷ [])))) ∙ ends.1 in
    last_of P ends.0 b (subst Q e (All-take P k frame none)) refl

same_last : (a b : List ℕ) (x y : ℕ) → a ++ x ∷ [] ≡ b ++ y ∷ [] → x ≡ y
same_last a b x y is =
    let turned : x ∷ reverse a ≡ y ∷ reverse b = sym (reverse-append a (x ∷ [])) ∙ ap (λ w. reverse w) is ∙ reverse-append b (y ∷ []) in
    cc

crlf_by : (frame : List ℕ) (k : ℕ) → ((j : ℕ) → EndsWith (take j frame) (13 ∷ 10 ∷ []) → ⊥) → k < length (frame ++ 13 ∷ 10 ∷ []) → EndsWith (take k (frame ++ 13 ∷ 10 ∷ [])) (13 ∷ 10 ∷ []) → ⊥
crlf_by frame k none less ends =
    elim (cases_lt (length frame) k) [
      | inr within ↦
          let P : List ℕ → Type 0 = λ w. EndsWith w (13 ∷ 10 ∷ []) in
          none k (subst P (take-append-le k frame (13 ∷ 10 ∷ []) within) ends)
      | inl more ↦
          let size : k ≡ length frame + 1 = omega (arith, length-append frame (13 ∷ 10 ∷ [])) in
          let front : take k (frame ++ 13 ∷ 10 ∷ []) ≡ frame ++ 13 ∷ [] = ap (λ w. take w (frame ++ 13 ∷ 10 ∷ [])) size ∙ take-append-add frame (13 ∷ 10 ∷ []) 1 in
          let ending : frame ++ 13 ∷ [] ≡ (ends.0 ++ 13 ∷ []) ++ 10 ∷ [] = sym front ∙ ends.1 ∙ sym (append_assoc ends.0 (13 ∷ []) (10 ∷ [])) in
          omega (arith, same_last frame (ends.0 ++ 13 ∷ []) 13 10 ending)
    ]

pub endings_once : EndingsOnce
endings_once = record { byte = byte_once; crlf = λ frame none k less ends. crlf_by frame k none less ends }
