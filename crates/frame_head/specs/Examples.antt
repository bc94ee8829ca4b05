-- Worked examples of the grammar.
use Rattle.std.specs.Prelude.{◌≡◌, ℕ, ℤ, pos, negsuc, Bool, true, false, List, [], ◌∷◌}
use Rattle.frame_head.specs.declared.codecs.Codec.{Codec}
use Rattle.frame_head.specs.declared.codecs.Codec.TheVariants.{Length, Line, Delim, Fixed}
use Rattle.frame_head.specs.declared.codecs.LineEnd.TheVariants.{Any, Lf, Crlf}
use Rattle.frame_head.specs.declared.codecs.FaultKind.TheVariants.{TooSmall, TooLong, StripOver, Cut}
use Rattle.frame_head.specs.Heads.{FrameAt, FaultAt}
use Rattle.frame_head.specs.Units.{ended}

-- a codec with a field of so many bytes at the beginning, most weighty byte first
abbrev pub by_field : ℕ → ℤ → ℕ → ℕ → Codec
by_field field adjust strip max = Length field 0 adjust strip false max

-- delimiters of some bytes, which are handed on or not
abbrev pub by_marks : List (List ℕ) → Bool → Codec
by_marks list strip = Delim list strip 1048576

pub record Examples : Type 0 where
  pub two_frames : ended (by_field 1 (pos 0) 1 1048576) (3 ∷ 97 ∷ 98 ∷ 99 ∷ 1 ∷ 120 ∷ []) ≡ FrameAt 0
      (97 ∷ 98 ∷ 99 ∷ []) ∷ FrameAt 4 (120 ∷ []) ∷ []
  pub no_input : ended (by_field 1 (pos 0) 1 1048576) [] ≡ []
  pub cut_field : ended (by_field 2 (pos 0) 0 1048576) (0 ∷ 5 ∷ 97 ∷ 98 ∷ []) ≡ FaultAt 0 Cut ∷ []
  pub field_over_all : ended (by_field 8 (pos 0) 0 16)
      (255 ∷ 255 ∷ 255 ∷ 255 ∷ 255 ∷ 255 ∷ 255 ∷ 255 ∷ 97 ∷ []) ≡ FaultAt 0 TooLong ∷ []
  pub behind_long_frame : ended (by_field 1 (pos 0) 1 3)
      (4 ∷ 97 ∷ 98 ∷ 99 ∷ 100 ∷ 2 ∷ 120 ∷ 121 ∷ []) ≡ FaultAt 0 TooLong ∷ FrameAt 5 (120 ∷ 121 ∷ []) ∷ []
  pub too_small : ended (by_field 1 (negsuc 2) 0 1048576)
      (1 ∷ 1 ∷ 97 ∷ []) ≡ FaultAt 0 TooSmall ∷ FaultAt 1 TooSmall ∷ FaultAt 2 Cut ∷ []
  pub strip_over : ended (by_field 1 (pos 0) 3 1048576) (1 ∷ 97 ∷ []) ≡ FaultAt 0 StripOver ∷ []
  pub little_end_first : ended (Length 2 1 (negsuc 0) 3 true 1048576)
      (9 ∷ 3 ∷ 0 ∷ 97 ∷ 98 ∷ 9 ∷ 1 ∷ 0 ∷ []) ≡ FrameAt 0 (97 ∷ 98 ∷ []) ∷ FrameAt 5 [] ∷ []
  pub any_lines : ended (Line Any true 1048576) (97 ∷ 13 ∷ 10 ∷ 98 ∷ 10 ∷ []) ≡ FrameAt 0 (97 ∷ []) ∷ FrameAt 3
      (98 ∷ []) ∷ []
  pub any_lines_kept : ended (Line Any false 1048576) (97 ∷ 13 ∷ 10 ∷ 98 ∷ 10 ∷ []) ≡ FrameAt 0
      (97 ∷ 13 ∷ 10 ∷ []) ∷ FrameAt 3 (98 ∷ 10 ∷ []) ∷ []
  pub crlf_lines : ended (Line Crlf true 1048576) (97 ∷ 10 ∷ 98 ∷ 13 ∷ 10 ∷ []) ≡ FrameAt 0 (97 ∷ 10 ∷ 98 ∷ []) ∷ []
  pub lf_leaves_return : ended (Line Lf true 1048576) (97 ∷ 13 ∷ 10 ∷ 10 ∷ []) ≡ FrameAt 0
      (97 ∷ 13 ∷ []) ∷ FrameAt 3 [] ∷ []
  pub long_line : ended (Line Lf true 2) (97 ∷ 98 ∷ 99 ∷ 100 ∷ 10 ∷ 101 ∷ []) ≡ FaultAt 0 TooLong ∷ FrameAt 5
      (101 ∷ []) ∷ []
  pub full_line : ended (Line Any false 2) (97 ∷ 98 ∷ 13 ∷ 10 ∷ []) ≡ FrameAt 0 (97 ∷ 98 ∷ 13 ∷ 10 ∷ []) ∷ []
  pub last_line_with_return : ended (Line Any true 2) (10 ∷ 97 ∷ 13 ∷ []) ≡ FrameAt 0 [] ∷ FrameAt 1 (97 ∷ 13 ∷ []) ∷ []
  pub last_line_too_long : ended (Line Any true 2) (97 ∷ 10 ∷ 98 ∷ 99 ∷ 13 ∷ []) ≡ FrameAt 0
      (97 ∷ []) ∷ FaultAt 2 TooLong ∷ []
  pub delimiters : ended (by_marks ((0 ∷ []) ∷ (0 ∷ 0 ∷ []) ∷ []) true) (97 ∷ 0 ∷ 0 ∷ 98 ∷ 0 ∷ []) ≡ FrameAt 0
      (97 ∷ []) ∷ FrameAt 2 [] ∷ FrameAt 3 (98 ∷ []) ∷ []
  pub delimiters_kept : ended (by_marks ((0 ∷ []) ∷ (0 ∷ 0 ∷ []) ∷ []) false) (97 ∷ 0 ∷ 0 ∷ 98 ∷ 0 ∷ []) ≡ FrameAt 0
      (97 ∷ 0 ∷ []) ∷ FrameAt 2 (0 ∷ []) ∷ FrameAt 3 (98 ∷ 0 ∷ []) ∷ []
  pub longest_delimiter : ended (by_marks ((10 ∷ []) ∷ (13 ∷ 10 ∷ []) ∷ []) true)
      (97 ∷ 13 ∷ 10 ∷ 98 ∷ 10 ∷ []) ≡ FrameAt 0 (97 ∷ []) ∷ FrameAt 3 (98 ∷ []) ∷ []
  pub half_delimiter : ended (Delim ((0 ∷ 0 ∷ []) ∷ []) true 1) (97 ∷ 0 ∷ 97 ∷ 0 ∷ 0 ∷ []) ≡ FaultAt 0 TooLong ∷ []
  pub cut_delimited : ended (by_marks ((44 ∷ []) ∷ []) true) (97 ∷ 44 ∷ 98 ∷ []) ≡ FrameAt 0
      (97 ∷ []) ∷ FaultAt 2 Cut ∷ []
  pub sizes : ended (Fixed 2) (97 ∷ 98 ∷ 99 ∷ 100 ∷ 101 ∷ []) ≡ FrameAt 0 (97 ∷ 98 ∷ []) ∷ FrameAt 2
      (99 ∷ 100 ∷ []) ∷ FaultAt 4 Cut ∷ []
