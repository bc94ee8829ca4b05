-- Parts of pieces.
use Rattle.std.proofs.Common.{◌≡◌, ◌⊎◌, inl, inr, ℕ, ◌<◌, ◌≤◌, List, [], ◌∷◌, ◌++◌, Option, Some, None, length, take, drop, refl, ap, sym, subst, ◌∙◌, arith, append-nil, length-drop}
use Rattle.std.proofs.lemmas.List.{take-append-drop, take_at, drop_at}
use Rattle.storage.specs.declared.release.NoOwner.{NoOwner}
use Rattle.buffer_model.specs.Segment.{Segment, bytes_of, whole_window}
use Rattle.buffer_model.specs.Share.{wrapped}
use Rattle.iobuf_chain.specs.Copies.{WithData, CopiesNoData, HasData, IsHeavy, IsStout}
use Rattle.iobuf_chain.specs.Lists.{Each}
use Rattle.iobuf_chain.proofs.Copied.{each_append, each_before, own_storages}
use Rattle.frame_head.specs.declared.codecs.Codec.{Codec}
use Rattle.frame_head.specs.Codecs.{fault_of}
use Rattle.frame_rule.specs.Framing.{Took}
use Rattle.frame_rule.specs.Hauls.{CutsShare, IsTight, nodes_if}
use Rattle.frame_rule.proofs.Steps.{stands_on, took_nothing}
use Rattle.frame_mark.specs.declared.mark.Mark.{Mark}
use Rattle.frame_mark.specs.declared.marking.Marking.{Marking}
use Rattle.frame_mark.specs.declared.pieces.Marked.{Marked}
use Rattle.frame_mark.specs.Marking.{CutsUp, holding}
use Rattle.frame_mark.specs.Pieces.{SharesData, StaysTight, StopsAt, TakesPart, chain_if, frames_if}
use Rattle.frame_mark.proofs.Lying.{no_bytes}

pub front_is : (first : ℕ) (kept piece chain : List (Segment NoOwner)) → chain ≡ kept ++ piece → first ≡ length kept → take first chain ≡ kept
front_is first kept piece chain is at = ap (λ w. take first w) is ∙ take_at kept piece first (sym at)

pub behind_is : (first : ℕ) (kept piece chain : List (Segment NoOwner)) → chain ≡ kept ++ piece → first ≡ length kept → drop first chain ≡ piece
behind_is first kept piece chain is at = ap (λ w. drop first w) is ∙ drop_at kept piece first (sym at)

-- all bytes were taken
pub none_left : (n : ℕ) (w : List ℕ) → length w ≤ n → drop n w ≡ []
none_left n w h = no_bytes (drop n w) (let d = length-drop n w in omega (arith, d, h))

module _ {S : Type 0} (codec_of : S → Codec) (saw : S → List ℕ → Type 0) (checked : (s : S) (r : List ℕ) → saw s r → fault_of (codec_of s) ≡ None) where
  -- what stays is kept, or handed back
  pub takes_part : (old new : Marking S) (kept now : List (Segment NoOwner)) (piece front behind : List (Segment NoOwner)) (n : ℕ) (left : List ℕ) (m : Marked) (marks : List Mark) (frames : List (List ℕ))
      → front ≡ kept → behind ≡ piece → (u : CutsUp codec_of saw old new front (bytes_of behind) n left marks frames) → frames_if m.batch ≡ frames
      → bytes_of now ≡ u.opened → bytes_of (nodes_if m.rest) ≡ drop n (bytes_of piece) → TakesPart codec_of saw old new kept now piece m marks
  takes_part old new kept now piece front behind n left m marks frames is same u framed opened rest =
      let K : List (Segment NoOwner) → Type 0 = λ w. Took codec_of saw (holding codec_of saw old w) (holding codec_of saw new (whole_window u.opened wrapped ∷ [])) (take n (bytes_of piece)) u.units in
      let B : List (Segment NoOwner) → Type 0 =
      λ w. Took codec_of saw (holding codec_of saw old front) (holding codec_of saw new (whole_window u.opened wrapped ∷ [])) (take n (bytes_of w)) u.units in
      let took = subst K is (subst B same u.took) in record {
        taken = take n (bytes_of piece);
        parts = sym (take-append-drop n (bytes_of piece)) ∙ ap (λ w. take n (bytes_of piece) ++ w) (sym rest);
        added = u.units;
        marked = u.marked;
        frames = framed ∙ u.frames_are;
        took = record {
          stands = λ h st. stands_on codec_of saw checked (holding codec_of saw new (whole_window u.opened wrapped ∷ [])) (holding codec_of saw new now) (h ++ take n (bytes_of piece)) refl
              (opened ∙ sym (append-nil u.opened)) (took.stands h st);
          grew = took.grew;
          codec = took.codec;
          fed = took.fed;
        };
      }

  -- nothing of a piece without bytes
  pub takes_none : (p : Marking S) (kept piece : List (Segment NoOwner)) (m : Marked) → bytes_of piece ≡ [] → frames_if m.batch ≡ [] → nodes_if m.rest ≡ []
      → TakesPart codec_of saw p p kept kept piece m []
  takes_none p kept piece m none framed rest = record {
    taken = [];
    parts = none ∙ ap (λ w. bytes_of w) (sym rest);
    added = [];
    marked = tt;
    frames = framed;
    took = took_nothing codec_of saw checked (holding codec_of saw p kept);
  }

-- the rest is what stays, where nothing is open
pub left_rest : (opened rest left : List ℕ) → left ≡ opened ++ rest → opened ≡ [] → left ≡ rest
left_rest opened rest left is none = is ∙ ap (λ w. w ++ rest) none

-- what stays is open, where nothing is left
pub left_open : (opened rest left : List ℕ) → left ≡ opened ++ rest → rest ≡ [] → left ≡ opened
left_open opened rest left is none = is ∙ ap (λ w. opened ++ w) none ∙ append-nil opened

pub stops_at : (n : ℕ) (most : ℕ) (w : List ℕ) (rest : List (Segment NoOwner)) (marks : List Mark) → bytes_of rest ≡ drop n w → n < length w → (n < length w → length marks ≡ most) → StopsAt most (Some rest) marks
stops_at n most w rest marks is less full = (let d = ap length is ∙ length-drop n w in omega (arith, d, less), full less)

-- nothing was copied
pub shares_rest : (had chain : List (Segment NoOwner)) (m : Marked) → CutsShare had (chain_if m.batch) chain → nodes_if m.rest ≡ chain → SharesData had [] m
shares_rest had chain m c is =
    let P : List (Segment NoOwner) → Type 0 = λ w. CopiesNoData had (chain_if m.batch ++ w) in
    let Q : List (Segment NoOwner) → Type 0 = λ w. WithData IsHeavy w in record {
      copies = subst P (sym is) (each_append _ (chain_if m.batch) chain c.front_copies c.rest_copies);
      heavy = subst Q (sym is) c.heavy;
      stout = c.stout;
    }

pub shares_kept : (had chain now : List (Segment NoOwner)) (m : Marked) → CutsShare had (chain_if m.batch) chain → nodes_if m.rest ≡ []
    → ((now ≡ chain) × (0 < length (bytes_of chain))) ⊎ ((now ≡ []) × (bytes_of chain ≡ [])) → SharesData had now m
shares_kept had chain now m c is (inl some) =
    let P : List (Segment NoOwner) → Type 0 = λ w. CopiesNoData had (w ++ (chain_if m.batch ++ nodes_if m.rest)) in
    let R : List (Segment NoOwner) → Type 0 = λ w. CopiesNoData had (chain ++ (chain_if m.batch ++ w)) in
    let T : List (Segment NoOwner) → Type 0 = λ w. CopiesNoData had (chain ++ w) in
    let Q : List (Segment NoOwner) → Type 0 = λ w. WithData IsHeavy (now ++ w) in
    let U : List (Segment NoOwner) → Type 0 = λ w. WithData IsHeavy w in record {
      copies = subst P (sym some.0) (subst R (sym is) (subst T (sym (append-nil (chain_if m.batch))) (each_append _ chain (chain_if m.batch) c.rest_copies c.front_copies)));
      heavy = subst Q (sym is) (subst U (sym (append-nil now)) (subst U (sym some.0) c.heavy));
      stout = c.stout;
    }
shares_kept had chain now m c is (inr none) =
    let P : List (Segment NoOwner) → Type 0 = λ w. CopiesNoData had (w ++ (chain_if m.batch ++ nodes_if m.rest)) in
    let R : List (Segment NoOwner) → Type 0 = λ w. CopiesNoData had (chain_if m.batch ++ w) in
    let T : List (Segment NoOwner) → Type 0 = λ w. CopiesNoData had w in
    let Q : List (Segment NoOwner) → Type 0 = λ w. WithData IsHeavy (now ++ w) in
    let U : List (Segment NoOwner) → Type 0 = λ w. WithData IsHeavy w in record {
      copies = subst P (sym none.0) (subst R (sym is) (subst T (sym (append-nil (chain_if m.batch))) c.front_copies));
      heavy = subst Q (sym is) (subst U (sym (append-nil now)) (subst U (sym none.0) tt));
      stout = c.stout;
    }

-- a piece without bytes
pub shares_none : (kept piece : List (Segment NoOwner)) (m : Marked) → WithData IsHeavy (kept ++ piece) → chain_if m.batch ≡ [] → nodes_if m.rest ≡ [] → SharesData (kept ++ piece) kept m
shares_none kept piece m heavy none rest =
    let P : List (Segment NoOwner) → Type 0 = λ w. CopiesNoData (kept ++ piece) (kept ++ (w ++ nodes_if m.rest)) in
    let R : List (Segment NoOwner) → Type 0 = λ w. CopiesNoData (kept ++ piece) (kept ++ w) in
    let T : List (Segment NoOwner) → Type 0 = λ w. CopiesNoData (kept ++ piece) w in
    let Q : List (Segment NoOwner) → Type 0 = λ w. WithData IsHeavy (kept ++ w) in
    let U : List (Segment NoOwner) → Type 0 = λ w. WithData IsHeavy w in record {
      copies = subst P (sym none) (subst R (sym rest) (subst T (sym (append-nil kept)) (each_before _ kept piece (own_storages (kept ++ piece)))));
      heavy = subst Q (sym rest) (subst U (sym (append-nil kept)) (each_before _ kept piece heavy));
      stout = let V : List (Segment NoOwner) → Type 0 = λ w. WithData IsStout w in subst V (sym none) tt;
    }

-- where the batch is the front, or nothing is
pub cut_shares : (had front rest nodes : List (Segment NoOwner)) → CutsShare had front rest → (nodes ≡ front) ⊎ (nodes ≡ []) → CutsShare had nodes rest
cut_shares had front rest nodes c (inl is) = let P : List (Segment NoOwner) → Type 0 = λ w. CutsShare had w rest in subst P (sym is) c
cut_shares had front rest nodes c (inr is) =
    let P : List (Segment NoOwner) → Type 0 = λ w. CutsShare had w rest in
    subst P (sym is) (record { front_copies = tt; rest_copies = c.rest_copies; stout = tt; heavy = c.heavy })

-- what is kept has the bytes that stay
pub kept_bytes : (chain now : List (Segment NoOwner)) → ((now ≡ chain) × (0 < length (bytes_of chain))) ⊎ ((now ≡ []) × (bytes_of chain ≡ [])) → bytes_of now ≡ bytes_of chain
kept_bytes chain now (inl some) = ap (λ w. bytes_of w) some.0
kept_bytes chain now (inr none) = ap (λ w. bytes_of w) none.0 ∙ sym none.1

-- nodes of which each has data, where they have bytes
tight_data : (nodes : List (Segment NoOwner)) → IsTight nodes → 0 < length (bytes_of nodes) → Each HasData nodes
tight_data nodes (inr is) some = is
tight_data [] (inl one) some = tt
tight_data (s ∷ []) (inl one) some = (let e = ap length (append-nil s.window) in omega (arith, some, e), tt)
tight_data (s ∷ t ∷ ss) (inl one) some = absurd (omega (arith, one))

pub tight_batch : (front nodes : List (Segment NoOwner)) → (nodes ≡ front) ⊎ (nodes ≡ []) → IsTight front → IsTight nodes
tight_batch front nodes (inl is) tight = let P : List (Segment NoOwner) → Type 0 = λ w. IsTight w in subst P (sym is) tight
tight_batch front nodes (inr is) tight = inr (let P : List (Segment NoOwner) → Type 0 = λ w. Each HasData w in subst P (sym is) tt)

pub tight_rest : (now : Option (List (Segment NoOwner))) (m : Marked) (chain : List (Segment NoOwner)) → now ≡ None → m.rest ≡ Some chain → IsTight (chain_if m.batch) → IsTight chain → 0 < length (bytes_of chain) → StaysTight (nodes_if now) m
tight_rest now m chain none is batch tight some =
    let P : Option (List (Segment NoOwner)) → Type 0 = λ w. Each HasData (nodes_if w) in record {
      kept_data = subst P (sym none) tt;
      rest_data = subst P (sym is) (tight_data chain tight some);
      batch_tight = batch;
    }

kept_tight : (chain now : List (Segment NoOwner)) → ((now ≡ chain) × (0 < length (bytes_of chain))) ⊎ ((now ≡ []) × (bytes_of chain ≡ [])) → IsTight chain → Each HasData now
kept_tight chain now (inl some) tight = let P : List (Segment NoOwner) → Type 0 = λ w. Each HasData w in subst P (sym some.0) (tight_data chain tight some.1)
kept_tight chain now (inr none) tight = let P : List (Segment NoOwner) → Type 0 = λ w. Each HasData w in subst P (sym none.0) tt

pub tight_kept : (chain now : List (Segment NoOwner)) (m : Marked) → ((now ≡ chain) × (0 < length (bytes_of chain))) ⊎ ((now ≡ []) × (bytes_of chain ≡ [])) → m.rest ≡ None → IsTight (chain_if m.batch) → IsTight chain → StaysTight now m
tight_kept chain now m kept is batch tight =
    let P : Option (List (Segment NoOwner)) → Type 0 = λ w. Each HasData (nodes_if w) in record {
      kept_data = kept_tight chain now kept tight;
      rest_data = subst P (sym is) tt;
      batch_tight = batch;
    }

-- a piece without bytes
pub tight_none : (kept piece : List (Segment NoOwner)) (m : Marked) → Each HasData (kept ++ piece) → m.rest ≡ None → chain_if m.batch ≡ [] → StaysTight kept m
tight_none kept piece m tight rest none =
    let P : Option (List (Segment NoOwner)) → Type 0 = λ w. Each HasData (nodes_if w) in
    let Q : List (Segment NoOwner) → Type 0 = λ w. Each HasData w in record {
      kept_data = each_before HasData kept piece tight;
      rest_data = subst P (sym rest) tt;
      batch_tight = inr (subst Q (sym none) tt);
    }
