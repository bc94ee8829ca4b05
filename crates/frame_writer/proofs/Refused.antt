-- When frames are refused.
use Rattle.std.proofs.Common.{◌≡◌, ℕ, Bool, true, false, not, List, [], ◌∷◌, Option, Some, None, length, nat_lt, if◌then◌else◌, All, ◌↔◌, refl}
use Rattle.std.proofs.lemmas.List.Elements.{All-nil, All-cons, All-head, All-tail}
use Rattle.frame_head.specs.declared.out.Out.{Out}
use Rattle.frame_head.specs.declared.out.Out.TheVariants.{Length, Line, Delim, Raw}
use Rattle.frame_head.specs.Longest.{most_in_field}
use Rattle.frame_head.specs.Framed.{fits_field}
use Rattle.frame_writer.specs.declared.over.FrameOver.{FrameOver}
use Rattle.frame_writer.specs.Over.{over_of, first_of, first_over}
use Rattle.frame_writer.specs.Laws.{RefusedFrames}

over_by : (x : Bool) (f : FrameOver) → ((if x then Some f else None) ≡ None) ↔ (not x ≡ true)
over_by true f = (λ e. absurd (cc), λ e. absurd (cc))
over_by false f = (λ e. refl, λ e. refl)

alone : (out : Out) (size : ℕ) → (over_of out size ≡ None) ↔ (fits_field out size ≡ true)
alone (Length field little) size = over_by (nat_lt (most_in_field field) size) (record { size = size; most = most_in_field field })
alone (Line crlf) size = (λ e. refl, λ e. refl)
alone (Delim mark) size = (λ e. refl, λ e. refl)
alone Raw size = (λ e. refl, λ e. refl)

first_none : (o p : Option FrameOver) → first_of o p ≡ None → (o ≡ None) × (p ≡ None)
first_none None p e = (refl, e)
first_none (Some f) p e = absurd (cc)

none_both : (o p : Option FrameOver) → o ≡ None → p ≡ None → first_of o p ≡ None
none_both None p e g = g
none_both (Some f) p e g = absurd (cc)

all_fit : (out : Out) (frames : List (List ℕ)) → first_over out frames ≡ None → All (λ frame. fits_field out (length frame) ≡ true) frames
all_fit out [] none = All-nil (λ frame. fits_field out (length frame) ≡ true)
all_fit out (frame ∷ frames) none =
    let both = first_none (over_of out (length frame)) (first_over out frames) none in
    All-cons (λ f. fits_field out (length f) ≡ true) frame frames ((alone out (length frame)).0 both.0) (all_fit out frames both.1)

none_over : (out : Out) (frames : List (List ℕ)) → All (λ frame. fits_field out (length frame) ≡ true) frames → first_over out frames ≡ None
none_over out [] fit = refl
none_over out (frame ∷ frames) fit =
    none_both (over_of out (length frame)) (first_over out frames)
    ((alone out (length frame)).1 (All-head (λ f. fits_field out (length f) ≡ true) frame frames fit))
    (none_over out frames (All-tail (λ f. fits_field out (length f) ≡ true) frame frames fit))

pub refused_frames : RefusedFrames
refused_frames = record { alone = alone; listed = λ out frames. (λ none. all_fit out frames none, λ fit. none_over out frames fit) }
