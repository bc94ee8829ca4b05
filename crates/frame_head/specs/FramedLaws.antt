-- What holds of framed text.
use Rattle.std.specs.Prelude.{◌≡◌, ℕ, ◌+◌, ◌-◌, ◌%◌, ◌^◌, ◌<◌, ◌≤◌, Bool, true, List, [], ◌∷◌, ◌++◌, None, All, length, take, drop}
use Rattle.frame_head.specs.declared.out.Out.{Out}
use Rattle.frame_head.specs.declared.out.Out.TheVariants.{Length}
use Rattle.frame_head.specs.Numbers.{number_in_order}
use Rattle.frame_head.specs.Outs.{out_fault}
use Rattle.frame_head.specs.Framed.{header_of, fits_field, has_known_field, framed, framed_text, whole_frames}

-- a way of writing that isn't refused has a field of a known size, if it has one
abbrev pub KnownFields : Type 0
KnownFields = (out : Out) → out_fault out ≡ None → has_known_field out ≡ true

-- the field before a frame has its size, and holds the frame's length where that fits, or else its remainder
pub record FieldNumbers : Type 0 where
  pub size : (field : ℕ) (little : Bool) (n : ℕ) → length (header_of (Length field little) n) ≡ field
  pub bytes : (field : ℕ) (little : Bool) (n : ℕ) → All (λ b. b < 256) (header_of (Length field little) n)
  pub told : (field : ℕ) (little : Bool) (n : ℕ) → fits_field (Length field little) n ≡ true
      → number_in_order little (header_of (Length field little) n) ≡ n
  pub number : (field : ℕ) (little : Bool) (n : ℕ)
      → number_in_order little (header_of (Length field little) n) ≡ n % 256 ^ field

-- the text of joined lists, of one frame more, and of the first frames with that of the others
pub record FramedPieces : Type 0 where
  pub joined : (out : Out) (frames others : List (List ℕ))
      → framed_text out (frames ++ others) ≡ framed_text out frames ++ framed_text out others
  pub more : (out : Out) (frames : List (List ℕ)) (frame : List ℕ)
      → framed_text out (frames ++ frame ∷ []) ≡ framed_text out frames ++ framed out frame
  pub parts : (out : Out) (frames : List (List ℕ)) (k : ℕ)
      → framed_text out frames ≡ framed_text out (take k frames) ++ framed_text out (drop k frames)

-- `count` is the greatest number of first frames whose text has at most `n` bytes
pub record IsWholeCount (out : Out) (frames : List (List ℕ)) (n count : ℕ) : Type 0 where
  pub within : count ≤ length frames
  pub fits : length (framed_text out (take count frames)) ≤ n
  pub most : (k : ℕ) → k ≤ length frames → length (framed_text out (take k frames)) ≤ n → k ≤ count

-- the first `n` bytes of a framed text: the text of its first `count` frames, and a front of what follows it
abbrev pub IsFrontWith : Out → List (List ℕ) → ℕ → ℕ → Type 0
IsFrontWith out frames n count =
    let whole = framed_text out (take count frames) in
    take n (framed_text out frames) ≡ whole ++ take (n - length whole) (framed_text out (drop count frames))

-- the whole frames within the first bytes of a framed text
pub record WholeFrames : Type 0 where
  pub count : (out : Out) (frames : List (List ℕ)) (n : ℕ) → IsWholeCount out frames n (whole_frames out frames n)
  pub front : (out : Out) (frames : List (List ℕ)) (n : ℕ) → IsFrontWith out frames n (whole_frames out frames n)
  pub all : (out : Out) (frames : List (List ℕ)) (n : ℕ) → length (framed_text out frames) ≤ n
      → whole_frames out frames n ≡ length frames
  pub monotone : (out : Out) (frames : List (List ℕ)) (n m : ℕ) → n ≤ m
      → whole_frames out frames n ≤ whole_frames out frames m
  pub joined : (out : Out) (frames others : List (List ℕ)) (n : ℕ)
      → whole_frames out (frames ++ others) (length (framed_text out frames) + n)
      ≡ length frames + whole_frames out others n
