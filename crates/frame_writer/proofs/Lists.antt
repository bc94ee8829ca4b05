-- Lists that grow by one element.
use Rattle.std.proofs.Common.{◌≡◌, ℕ, zero, suc, ◌+◌, ◌<◌, List, [], ◌∷◌, ◌++◌, Some, length, take, drop, slice_get, Option, None, flat_map, map, arith, get_or, ap, sym, ◌∙◌}
use Rattle.std.proofs.lemmas.List.{take_more, flat_map_more, map-append}
use Rattle.std.proofs.lemmas.Option.{none-some}
use Rattle.buffered_io.specs.Writing.{Outlet, PrintsTo}
use Rattle.buffered_io.proofs.Prints.{prints_both, prints_nothing, prints_same}
use Rattle.frame_head.specs.declared.out.Out.{Out}
use Rattle.frame_head.specs.Framed.{framed, framed_text}
use Rattle.frame_head.proofs.Written.{framed_pieces}
use Rattle.frame_writer.specs.declared.over.FrameOver.{FrameOver}
use Rattle.frame_writer.specs.Over.{first_of, first_over, over_of}

-- the joined bytes of one part more
pub joined_next : {X : Type 0} (f : X → List ℕ) (xs : List X) (i : ℕ) (d : X) → i < length xs
    → flat_map f (take i xs) ++ f (get_or xs i d) ≡ flat_map f (take (i + 1) xs)
joined_next f xs i d within = flat_map_more f [] (take i xs) (get_or xs i d) ∙ sym (ap (λ w. flat_map f w) (take_more xs i d within))

-- the framed text of one frame more
pub text_next : {X : Type 0} (out : Out) (f : X → List ℕ) (xs : List X) (i : ℕ) (d : X) → i < length xs
    → framed_text out (map f (take i xs)) ++ framed out (f (get_or xs i d)) ≡ framed_text out (map f (take (i + 1) xs))
text_next out f xs i d within =
    sym (framed_pieces.more out (map f (take i xs)) (f (get_or xs i d)))
    ∙ sym (ap (λ w. framed_text out w) (ap (λ w. map f w) (take_more xs i d within) ∙ map-append f (take i xs) (get_or xs i d ∷ [])))

-- what is left to print of a text: whoever prints that has printed the text
abbrev pub PrintsLeft : List ℕ → List ℕ → Outlet → Outlet → Type 0
PrintsLeft left text start now = (end : Outlet) → PrintsTo left now end → PrintsTo text start end

-- the next bytes were printed
pub left_next : {left next text : List ℕ} {start now then : Outlet} (bytes : List ℕ) → PrintsLeft left text start now → left ≡ bytes ++ next → PrintsTo bytes now then → PrintsLeft next text start then
left_next bytes h is printed end rest = h end (prints_same (sym is) (prints_both printed rest))

-- no bytes are left
pub left_none : {left text : List ℕ} {start now : Outlet} → PrintsLeft left text start now → left ≡ [] → PrintsTo text start now
left_none {left} {text} {start} {now} h none = h now (prints_same (sym none) (prints_nothing now))

-- a list is refused by the frame at a place, or else by those behind it
pub first_next : (out : Out) (frames : List (List ℕ)) (frame : List ℕ) (i : ℕ) → slice_get frames i ≡ Some frame
    → first_over out (drop i frames) ≡ first_of (over_of out (length frame)) (first_over out (drop (i + 1) frames))
first_next out [] frame i is = absurd (none-some frame is)
first_next out (x ∷ xs) frame zero is = let same : x ≡ frame = cc in ap (λ w. first_of (over_of out (length w)) (first_over out xs)) same
first_next out (x ∷ xs) frame (suc i) is =
    first_next out xs frame i is
    ∙ ap (λ (n : ℕ). first_of (over_of out (length frame)) (first_over out (drop n (x ∷ xs)))) (let e : suc (i + 1) ≡ suc i + 1 = omega arith in e)

-- a list of which the first frames aren't refused is refused as the others are
pub none_before : (f : Option FrameOver) (others all : Option FrameOver) (before : Option FrameOver) → before ≡ first_of f others → before ≡ all → f ≡ None → others ≡ all
none_before f others all before is same none = ap (λ g. first_of g others) (sym none) ∙ sym is ∙ same

-- the first that is refused
pub some_here : (f others all before : Option FrameOver) (fault : FrameOver) → before ≡ first_of f others → before ≡ all → f ≡ Some fault → all ≡ Some fault
some_here f others all before fault is same some = sym same ∙ is ∙ ap (λ g. first_of g others) some
