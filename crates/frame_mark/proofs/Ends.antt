-- What the end of a stream adds.
use Rattle.std.proofs.Common.{◌≡◌, ℕ, ◌-◌, ◌<◌, ◌≤◌, List, [], ◌∷◌, Option, Some, None, length, refl, ap, sym, subst, ◌∙◌, arith}
use Rattle.storage.specs.declared.release.NoOwner.{NoOwner}
use Rattle.buffer_model.specs.Segment.{Segment, bytes_of}
use Rattle.frame_head.specs.declared.codecs.Codec.{Codec}
use Rattle.frame_head.specs.declared.codecs.FaultKind.{FaultKind}
use Rattle.frame_head.specs.Codecs.{fault_of, last_unit}
use Rattle.frame_head.specs.Heads.{FrameAt, FaultAt}
use Rattle.frame_batch.specs.Batches.{Batched}
use Rattle.frame_rule.specs.Framing.{StandsFor}
use Rattle.frame_rule.specs.Scanning.{last_of}
use Rattle.frame_rule.proofs.Steps.{ended_closed, ended_fault, ended_frame, kept_at_end, unread_fed}
use Rattle.frame_mark.specs.declared.mark.Mark.{Mark}
use Rattle.frame_mark.specs.declared.mark.Mark.TheVariants as M
use Rattle.frame_mark.specs.declared.marking.Marking.{Marking}
use Rattle.frame_mark.specs.Marking.{StandsOn, holding}
use Rattle.frame_mark.specs.Pieces.{MarksEnd, frames_if}

module _ {S : Type 0} (codec_of : S → Codec) (saw : S → List ℕ → Type 0) (checked : (s : S) (r : List ℕ) → saw s r → fault_of (codec_of s) ≡ None) where
  abbrev pub FindsLast : Marking S → Option FaultKind → Type 0
  FindsLast p last = (r : List ℕ) (at : ℕ) → length r ≡ p.unread → saw p.scanner r → last_unit (codec_of p.scanner) at r ≡ last_of at r last

  pub open_fed : (p : Marking S) (kept : List (Segment NoOwner)) → StandsOn codec_of saw p kept → p.unread ≤ p.fed
  open_fed p kept st = unread_fed codec_of saw checked (holding codec_of saw p kept) st.0 st.1

  pub ends_closed : (p : Marking S) (kept : List (Segment NoOwner)) (marks : List Mark) → p.unread ≡ 0 → marks ≡ [] → MarksEnd (StandsFor codec_of saw (holding codec_of saw p kept)) (codec_of p.scanner) None marks
  ends_closed p kept marks none is =
      let P : List Mark → Type 0 = λ w. MarksEnd (StandsFor codec_of saw (holding codec_of saw p kept)) (codec_of p.scanner) None w in
      subst P (sym is) (record { added = []; marked = tt; frames = refl; grew = λ h st. ended_closed codec_of saw checked (holding codec_of saw p kept) h st none })

  pub ends_fault : (p : Marking S) (kept : List (Segment NoOwner)) (kind : FaultKind) (marks : List Mark) → 0 < p.unread → FindsLast p (Some kind) → marks ≡ M.Fault (p.fed - p.unread) kind ∷ []
      → MarksEnd (StandsFor codec_of saw (holding codec_of saw p kept)) (codec_of p.scanner) None marks
  ends_fault p kept kind marks some finds is =
      let P : List Mark → Type 0 = λ w. MarksEnd (StandsFor codec_of saw (holding codec_of saw p kept)) (codec_of p.scanner) None w in
      subst P (sym is) (record {
        added = FaultAt (p.fed - p.unread) kind ∷ [];
        marked = ((refl, refl), tt);
        frames = refl;
        grew = λ h st. ended_fault codec_of saw checked (holding codec_of saw p kept) h kind st some finds;
      })

  pub ends_frame : (p : Marking S) (kept : List (Segment NoOwner)) (batch : Option Batched) (marks : List Mark) → StandsOn codec_of saw p kept → 0 < p.unread → FindsLast p None
      → marks ≡ M.Frame (p.fed - p.unread) (p.fed - p.unread) p.fed ∷ [] → frames_if batch ≡ bytes_of kept ∷ []
      → MarksEnd (StandsFor codec_of saw (holding codec_of saw p kept)) (codec_of p.scanner) batch marks
  ends_frame p kept batch marks st some finds is frames =
      let d = holding codec_of saw p kept in
      let all = ap length (kept_at_end codec_of saw checked d st.0 p.lost refl st.1 finds) in
      let size = st.1.unread in
      let fed = open_fed p kept st in
      let P : List Mark → Type 0 = λ w. MarksEnd (StandsFor codec_of saw d) (codec_of p.scanner) batch w in
      subst P (sym is) (record {
        added = FrameAt (p.fed - p.unread) (bytes_of kept) ∷ [];
        marked = ((refl, omega (arith, all, size, fed)), tt);
        frames = frames;
        grew = λ h s. ended_frame codec_of saw checked d h s some finds;
      })

  -- nodes are kept of an open unit that becomes a frame
  pub last_kept : (p : Marking S) (kept : List (Segment NoOwner)) → StandsOn codec_of saw p kept → 0 < p.unread → FindsLast p None → 0 < length kept
  last_kept p kept st some finds =
      let all = kept_at_end codec_of saw checked (holding codec_of saw p kept) st.0 p.lost refl st.1 finds in
      let size : p.unread ≡ length (bytes_of kept) = st.1.unread ∙ ap length (sym all) in
      some_nodes kept (omega (arith, some, size)) where
        some_nodes : (nodes : List (Segment NoOwner)) → 0 < length (bytes_of nodes) → 0 < length nodes
        some_nodes [] h = h
        some_nodes (x ∷ nodes) h = omega arith
