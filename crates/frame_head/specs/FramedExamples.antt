-- Worked examples of framed text.
use Rattle.std.specs.Prelude.{◌≡◌, ℕ, true, false, List, [], ◌∷◌}
use Rattle.frame_head.specs.declared.out.Out.TheVariants.{Length, Line, Delim, Raw}
use Rattle.frame_head.specs.Framed.{header_of, fits_field, framed_text, whole_frames}

-- the frames `abc` and `x`
abbrev pub two_frames : List (List ℕ)
two_frames = (97 ∷ 98 ∷ 99 ∷ []) ∷ (120 ∷ []) ∷ []

pub record FramedExamples : Type 0 where
  pub lengths : framed_text (Length 1 false) two_frames ≡ 3 ∷ 97 ∷ 98 ∷ 99 ∷ 1 ∷ 120 ∷ []
  pub wide_lengths : framed_text (Length 4 false) ((71 ∷ 69 ∷ []) ∷ [] ∷ [])
      ≡ 0 ∷ 0 ∷ 0 ∷ 2 ∷ 71 ∷ 69 ∷ 0 ∷ 0 ∷ 0 ∷ 0 ∷ []
  pub little_lengths : framed_text (Length 2 true) two_frames ≡ 3 ∷ 0 ∷ 97 ∷ 98 ∷ 99 ∷ 1 ∷ 0 ∷ 120 ∷ []
  pub lines : framed_text (Line false) two_frames ≡ 97 ∷ 98 ∷ 99 ∷ 10 ∷ 120 ∷ 10 ∷ []
  pub crlf_lines : framed_text (Line true) two_frames ≡ 97 ∷ 98 ∷ 99 ∷ 13 ∷ 10 ∷ 120 ∷ 13 ∷ 10 ∷ []
  pub delimited : framed_text (Delim (0 ∷ 255 ∷ [])) two_frames ≡ 97 ∷ 98 ∷ 99 ∷ 0 ∷ 255 ∷ 120 ∷ 0 ∷ 255 ∷ []
  pub raw : framed_text Raw two_frames ≡ 97 ∷ 98 ∷ 99 ∷ 120 ∷ []
  pub big_header : header_of (Length 2 false) 258 ≡ 1 ∷ 2 ∷ []
  pub little_header : header_of (Length 2 true) 258 ≡ 2 ∷ 1 ∷ []
  pub header_over : header_of (Length 1 false) 256 ≡ 0 ∷ []
  pub field_full : fits_field (Length 1 false) 255 ≡ true
  pub field_over : fits_field (Length 1 false) 256 ≡ false
  pub none_whole : whole_frames (Length 1 false) two_frames 3 ≡ 0
  pub one_whole : whole_frames (Length 1 false) two_frames 5 ≡ 1
  pub both_whole : whole_frames (Length 1 false) two_frames 6 ≡ 2
  pub empty_raw : whole_frames Raw ([] ∷ [] ∷ []) 0 ≡ 2
