-- Framed text reads back, where each frame is told from its own text whatever stands behind.
use Rattle.std.proofs.Common.{◌≡◌, ℕ, suc, ◌+◌, ◌-◌, List, [], ◌∷◌, ◌++◌, length, drop, All, refl, ap, sym, ◌∙◌, arith, append_assoc, append-nil, length-append}
use Rattle.std.proofs.Math.Seq.{drop-append_seam}
use Rattle.std.proofs.lemmas.List.Elements.{All-head, All-tail}
use Rattle.frame_head.specs.declared.codecs.Codec.{Codec}
use Rattle.frame_head.specs.declared.out.Out.{Out}
use Rattle.frame_head.specs.Heads.{Whole, FrameAt}
use Rattle.frame_head.specs.Codecs.{head}
use Rattle.frame_head.specs.Units.{unit_and, left_by, units_from, rest_after, units, rest, units_of_end}
use Rattle.frame_head.specs.Framed.{framed, framed_text}
use Rattle.frame_head.specs.ReadingBack.{frames_at, ReadsBack}
use Rattle.frame_head.proofs.Steady.{Steady, same}

-- a frame is the first unit of its text, whatever stands behind that
abbrev pub Tells : Codec → Out → List ℕ → Type 0
Tells c out frame = (r : List ℕ) → head c (framed out frame ++ r) ≡ Whole frame (length (framed out frame))

-- the units of a stream that begins with a text which tells its frame
record Passed (c : Codec) (at : ℕ) (frame t q : List ℕ) : Type 0 where
  units : units_from c (length (t ++ q)) at (t ++ q) ≡ FrameAt at frame ∷ units_from c (length q) (at + length t) q
  rest : rest c (t ++ q) ≡ rest c q

pass : (c : Codec) → Steady c → (at : ℕ) (frame t q : List ℕ) → head c (t ++ q) ≡ Whole frame (length t) → Passed c at frame t q
pass c steady at frame t q is =
    let n = length (t ++ q) in
    let more = same c steady (length (t ++ q)) (suc (length (t ++ q))) at (t ++ q) (omega arith) (omega arith) in
    let fewer = same c steady (length (t ++ q)) (length q) (at + length t) q (omega (arith, length-append t q)) (omega arith) in
    let behind : drop (length t) (t ++ q) ≡ q = drop-append_seam t q in
    record {
      units = more.units ∙ ap (λ h. unit_and at h (λ u. units_from c n (at + u) (drop u (t ++ q)))) is
          ∙ ap (λ w. FrameAt at frame ∷ units_from c n (at + length t) w) behind ∙ ap (λ w. FrameAt at frame ∷ w) fewer.units;
      rest = more.rest ∙ ap (λ h. left_by (t ++ q) h (λ u. rest_after c n (drop u (t ++ q)))) is
          ∙ ap (λ w. rest_after c n w) behind ∙ fewer.rest;
    }

-- the units of the text of some frames, with something behind it
record Read (c : Codec) (out : Out) (frames : List (List ℕ)) (at : ℕ) (r : List ℕ) : Type 0 where
  units : units_from c (length (framed_text out frames ++ r)) at (framed_text out frames ++ r)
      ≡ frames_at out at frames ++ units_from c (length r) (at + length (framed_text out frames)) r
  rest : rest c (framed_text out frames ++ r) ≡ rest c r

read : (c : Codec) → Steady c → (out : Out) (frames : List (List ℕ)) → All (Tells c out) frames → (at : ℕ) (r : List ℕ) → Read c out frames at r
read c steady out [] all at r =
    let e : at ≡ at + 0 = omega arith in
    record { units = ap (λ w. units_from c (length r) w r) e; rest = refl }
read c steady out (frame ∷ frames) all at r =
    let t = framed out frame in
    let q = framed_text out frames ++ r in
    let joined : framed_text out (frame ∷ frames) ++ r ≡ t ++ q = append_assoc (framed out frame) (framed_text out frames) r in
    let p = pass c steady at frame t q (All-head (Tells c out) frame frames all q) in
    let later = read c steady out frames (All-tail (Tells c out) frame frames all) (at + length t) r in
    let place : at + length t + length (framed_text out frames) ≡ at + length (framed_text out (frame ∷ frames)) = omega (arith, length-append (framed out frame) (framed_text out frames)) in
    record {
      units = ap (λ w. units_from c (length w) at w) joined ∙ p.units ∙ ap (λ w. FrameAt at frame ∷ w) later.units
          ∙ ap (λ w. frames_at out at (frame ∷ frames) ++ units_from c (length r) w r) place;
      rest = ap (λ w. rest c w) joined ∙ p.rest ∙ later.rest;
    }

pub reads_back : (c : Codec) → Steady c → (out : Out) (frames : List (List ℕ)) → All (Tells c out) frames → ReadsBack c out frames
reads_back c steady out frames all =
    let t = framed_text out frames in
    let none = read c steady out frames all 0 [] in
    let left : rest c (framed_text out frames) ≡ [] = ap (λ w. rest c w) (sym (append-nil t)) ∙ none.rest in
    let whole : units c (framed_text out frames) ≡ frames_at out 0 frames =
    ap (λ w. units c w) (sym (append-nil t)) ∙ none.units ∙ append-nil (frames_at out 0 frames) in
    record {
      before = λ r.
          let e : 0 + length (framed_text out frames) ≡ length (framed_text out frames) = omega arith in
          (read c steady out frames all 0 r).units ∙ ap (λ w. frames_at out 0 frames ++ units_from c (length r) w r) e;
      alone = ap (λ w. units c t ++ units_of_end c (length t - length w) w) left ∙ append-nil (units c t) ∙ whole;
    }
