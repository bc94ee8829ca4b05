-- What a decoder keeps.
use Rattle.std.proofs.Common.{◌≡◌, ℕ, ◌+◌, Bool, false, List, Option, Some, None, length, length-append, ap, subst, sym, ◌∙◌, arith}
use Rattle.storage.specs.declared.release.NoOwner.{NoOwner}
use Rattle.buffer_model.specs.Segment.{Segment, bytes_of}
use Rattle.iobuf_chain.proofs.Bytes.{bytes_of-append}
use Rattle.frame_head.specs.declared.codecs.Codec.{Codec}
use Rattle.frame_rule.specs.Framing.{Framing, StandsFor}
use Rattle.frame_rule.specs.Hauls.{all_kept, nodes_if}
use Rattle.frame_mark.specs.declared.marking.Marking.{Marking}
use Rattle.frame_mark.specs.declared.mark.Mark.{Mark}
use Rattle.frame_mark.specs.declared.pieces.Marked.{Marked}
use Rattle.frame_mark.specs.Marking.{holding, holding_of}
use Rattle.frame_mark.specs.Pieces.{MarksPiece, TakesPart}

-- without a refused piece
pub kept_alone : (kept refused : Option (List (Segment NoOwner))) → refused ≡ None → all_kept kept refused ≡ nodes_if kept
kept_alone kept refused none = ap (λ w. all_kept kept w) none

pub kept_as : (kept refused k r : Option (List (Segment NoOwner))) → kept ≡ k → refused ≡ r → all_kept kept refused ≡ all_kept k r
kept_as kept refused k r is other = ap (λ w. all_kept w refused) is ∙ ap (λ w. all_kept k w) other

-- how many bytes are kept
pub kept_length : (kept refused : Option (List (Segment NoOwner)))
    → length (bytes_of (nodes_if kept)) + length (bytes_of (nodes_if refused)) ≡ length (bytes_of (all_kept kept refused))
kept_length kept None = omega arith
kept_length kept (Some piece) = omega (arith, ap length (bytes_of-append (nodes_if kept) piece), length-append (bytes_of (nodes_if kept)) (bytes_of piece))

-- a decoder that is alive, by its nodes
pub alive_as : {S : Type 0} (codec_of : S → Codec) (saw : S → List ℕ → Type 0) (p : Marking S) (kept refused : Option (List (Segment NoOwner))) (dead : Bool) (d : Framing S NoOwner) → refused ≡ None → dead ≡ false
    → holding_of codec_of saw p (all_kept kept refused) dead ≡ d → holding codec_of saw p (nodes_if kept) ≡ d
alive_as codec_of saw p kept refused dead d none alive is =
    ap (λ b. holding_of codec_of saw p (nodes_if kept) b) (sym alive) ∙ ap (λ w. holding_of codec_of saw p w dead) (sym (kept_alone kept refused none)) ∙ is

-- what a decoder is seen as took a part of a piece
pub marks_piece : {S : Type 0} (codec_of : S → Codec) (saw : S → List ℕ → Type 0) (old new : Marking S) (kept now piece : List (Segment NoOwner)) (m : Marked) (marks : List Mark) (d e : Framing S NoOwner)
    → TakesPart codec_of saw old new kept now piece m marks → holding codec_of saw old kept ≡ d → holding codec_of saw new now ≡ e
    → MarksPiece (StandsFor codec_of saw d) (StandsFor codec_of saw e) (codec_of d.scanner) piece m marks
marks_piece codec_of saw old new kept now piece m marks d e t is to =
    let P : Framing _ NoOwner → Type 0 = λ w. MarksPiece (StandsFor codec_of saw w) (StandsFor codec_of saw e) (codec_of w.scanner) piece m marks in
    let Q : Framing _ NoOwner → Type 0 = λ w. MarksPiece (StandsFor codec_of saw (holding codec_of saw old kept)) (StandsFor codec_of saw w) (codec_of old.scanner) piece m marks in
    subst P is (subst Q to (record {
      taken = t.taken;
      parts = t.parts;
      added = t.added;
      marked = t.marked;
      frames = t.frames;
      stands = t.took.stands;
      grew = t.took.grew;
    }))
