-- Texts of joined lists.
use Rattle.std.proofs.Common.{append-nil, append_assoc, ◌≡◌, ℕ, ◌+◌, Some, get_or, ◌<◌, List, [], ◌∷◌, ◌++◌, length, take, sym, ap, ◌∙◌}
use Rattle.std.specs.Prelude.{codes, slice_get}
use Rattle.std.proofs.lemmas.Grind.{flat_map-append}
use Rattle.std.proofs.lemmas.List.{take_more, map-append}
use Rattle.std.proofs.lemmas.Option.{get_or_from_slice_get}
use Rattle.hex.specs.Hex.{encode_lower}
use Rattle.frame_head.specs.Heads.{FramingUnit}
use Rattle.frame_rule.specs.declared.unit.FrameUnit.{FrameUnit}
use Rattle.frame_rule.specs.Units.{unit_of, units_of}
use Rattle.buffer_model.specs.Segment.{Segment, bytes_of}
use Rattle.buffer_model.proofs.Windows.{bytes_of-append}
use Rattle.buffered_io.proofs.Digits.{encode-append}
use Rattle.relay_app.specs.Text.{unit_line, unit_lines}

pub nodes_further : {O : Type 0} (c : List (Segment O)) (i : ℕ) (s : Segment O) → i < length c → slice_get c i ≡ Some s
    → encode_lower (bytes_of (take (i + 1) c)) ≡ encode_lower (bytes_of (take i c)) ++ encode_lower s.window
nodes_further c i s below is =
    ap (λ w. encode_lower (bytes_of w)) (take_more c i s below ∙ ap (λ w. take i c ++ w ∷ []) (get_or_from_slice_get c i s s is))
    ∙ ap encode_lower (bytes_of-append (take i c) (s ∷ []) ∙ ap (λ w. bytes_of (take i c) ++ w) (append-nil s.window))
    ∙ encode-append (bytes_of (take i c)) s.window

pub units_further : (us : List FrameUnit) (i : ℕ) (u : FrameUnit) → i < length us → u ≡ get_or us i u → units_of (take (i + 1) us) ≡ units_of (take i us) ++ unit_of u ∷ []
units_further us i u below is =
    ap units_of (take_more us i u below) ∙ map-append unit_of (take i us) (get_or us i u ∷ []) ∙ ap (λ w. units_of (take i us) ++ unit_of w ∷ []) (sym is)

pub lines-append : (us vs : List FramingUnit) → unit_lines (us ++ vs) ≡ unit_lines us ++ unit_lines vs
lines-append us vs = flat_map-append unit_line us vs

-- the head of a frame's line
pub frame_head : (a b : List ℕ) → (((codes "F " ++ a) ++ codes " ") ++ b) ++ codes " " ≡ 70 ∷ 32 ∷ (a ++ 32 ∷ (b ++ 32 ∷ []))
frame_head a b =
    ap (λ w. 70 ∷ 32 ∷ (w ++ 32 ∷ [])) (append_assoc a (32 ∷ []) b) ∙ ap (λ w. 70 ∷ 32 ∷ w) (append_assoc a (32 ∷ b) (32 ∷ []))
