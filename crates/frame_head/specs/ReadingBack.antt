-- Framed text reads back: the codec that fits a way of writing tells the frames that were written.
use Rattle.std.specs.Prelude.{◌≡◌, ℕ, ◌+◌, ◌<◌, ◌≤◌, pos, Bool, true, List, [], ◌∷◌, ◌++◌, None, All, length, take, if◌then◌else◌}
use Rattle.frame_head.specs.declared.codecs.Codec.{Codec}
use Rattle.frame_head.specs.declared.codecs.Codec.TheVariants.{Length as LengthCodec, Line as LineCodec, Delim as DelimCodec}
use Rattle.frame_head.specs.declared.codecs.LineEnd.TheVariants.{Lf, Crlf}
use Rattle.frame_head.specs.declared.out.Out.{Out}
use Rattle.frame_head.specs.declared.out.Out.TheVariants.{Length, Line, Delim}
use Rattle.frame_head.specs.Endings.{EndsWith}
use Rattle.frame_head.specs.Heads.{FramingUnit, FrameAt}
use Rattle.frame_head.specs.Codecs.{fault_of}
use Rattle.frame_head.specs.Units.{units, units_from, ended}
use Rattle.frame_head.specs.Framed.{ending_of, fits_field, framed, framed_text}

-- frames with the offsets at which their own texts begin, where the first begins at `at`
abbrev pub frames_at : Out → ℕ → List (List ℕ) → List FramingUnit
frames_at out at [] = []
frames_at out at (frame ∷ frames) = FrameAt at frame ∷ frames_at out (at + length (framed out frame)) frames

-- a codec reads back what is written of some frames
pub record ReadsBack (codec : Codec) (out : Out) (frames : List (List ℕ)) : Type 0 where
  -- whatever stands behind their text, the units are these frames, and then the units of what stands behind
  pub before : (r : List ℕ) → units codec (framed_text out frames ++ r)
      ≡ frames_at out 0 frames ++ units_from codec (length r) (length (framed_text out frames)) r
  -- a stream that ends behind their text has these frames alone
  pub alone : ended codec (framed_text out frames) ≡ frames_at out 0 frames

-- the codecs for each way of writing: what was written about a frame isn't handed on
abbrev pub length_codec : ℕ → Bool → ℕ → Codec
length_codec field little max = LengthCodec field 0 (pos 0) field little max

abbrev pub line_codec : Bool → ℕ → Codec
line_codec crlf max = LineCodec (if crlf then Crlf else Lf) true max

abbrev pub delim_codec : List ℕ → ℕ → Codec
delim_codec mark max = DelimCodec (mark ∷ []) true max

-- frames of at most `n` bytes behind their lengths, where `n` fits the field, and with it the codec's maximum
abbrev pub LengthsReadBack : Type 0
LengthsReadBack = (field : ℕ) (little : Bool) (max n : ℕ) (frames : List (List ℕ))
    → fault_of (length_codec field little max) ≡ None → fits_field (Length field little) n ≡ true → n + field ≤ max
    → All (λ frame. length frame ≤ n) frames → ReadsBack (length_codec field little max) (Length field little) frames

-- behind a frame the ending stands once: no front of both that is shorter ends with it
abbrev pub EndsOnce : List ℕ → List ℕ → Type 0
EndsOnce ending frame = (k : ℕ) → k < length (frame ++ ending) → EndsWith (take k (frame ++ ending)) ending → ⊥

-- lines of at most `max` bytes whose ending stands once
abbrev pub LinesReadBack : Type 0
LinesReadBack = (crlf : Bool) (max : ℕ) (frames : List (List ℕ)) → All (λ frame. length frame ≤ max) frames
    → All (EndsOnce (ending_of (Line crlf))) frames → ReadsBack (line_codec crlf max) (Line crlf) frames

-- frames of at most `max` bytes whose delimiter, which isn't empty, stands once
abbrev pub DelimitedReadBack : Type 0
DelimitedReadBack = (mark : List ℕ) (max : ℕ) (frames : List (List ℕ)) → 0 < length mark
    → All (λ frame. length frame ≤ max) frames → All (EndsOnce mark) frames
    → ReadsBack (delim_codec mark max) (Delim mark) frames

-- when an ending stands once: one of a byte, where the frame doesn't have it; CRLF, where the frame doesn't have that
pub record EndingsOnce : Type 0 where
  pub byte : (b : ℕ) (frame : List ℕ) → All (λ x. x ≡ b → ⊥) frame → EndsOnce (b ∷ []) frame
  pub crlf : (frame : List ℕ) → ((k : ℕ) → EndsWith (take k frame) (13 ∷ 10 ∷ []) → ⊥)
      → EndsOnce (13 ∷ 10 ∷ []) frame
