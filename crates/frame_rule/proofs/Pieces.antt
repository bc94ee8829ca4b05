-- Pieces that are fed in turn.
use Rattle.std.proofs.Common.{◌≡◌, ℕ, true, false, Result, Ok, Err, OnOk, List, [], ◌∷◌, ◌++◌, refl, ap, sym, subst, ◌∙◌, append_assoc, append-nil}
use Rattle.std.specs.Prelude.{IsErrOf}
use Rattle.storage.specs.declared.release.NoOwner.{NoOwner}
use Rattle.buffer_model.specs.Segment.{Segment}
use Rattle.iobuf_chain.specs.Copies.{HasData, CopiesNoData, IsHeavy, IsStout, WithData}
use Rattle.iobuf_chain.specs.Lists.{Each}
use Rattle.iobuf_chain.proofs.Copied.{each_append, each_before, each_behind, own_storages}
use Rattle.frame_rule.specs.declared.decoder.FeedFault.{FeedFault}
use Rattle.frame_rule.specs.declared.decoder.FeedFault.TheVariants.{NoMemory, Dead}
use Rattle.frame_rule.specs.declared.haul.Haul.{Haul}
use Rattle.frame_rule.specs.declared.unit.FrameUnit.{FrameUnit}
use Rattle.frame_rule.specs.Decoding.{Decoding, Fed, Ended, IsLost}
use Rattle.frame_rule.specs.Hauls.{AddsTight, ReturnsFirst, ReturnsPiece, SameHaul, SharesData}
use Rattle.frame_rule.specs.Units.{nodes_in}
use Rattle.frame_rule.proofs.Moving.{copies_further, nodes_in-append}
use Rattle.frame_rule.proofs.Tight.{adds_further, adds_none}

pub fed_dead : {U : Type 0} (n : ℕ) (old new : Decoding) (r : Result U FeedFault) → IsErrOf r Dead → Fed n old new r → (old.dead ≡ true) × (new ≡ old)
fed_dead n old new (Ok u) is fed = absurd (cc is)
fed_dead n old new (Err NoMemory) is fed = absurd (cc is)
fed_dead n old new (Err Dead) is fed = fed

pub fed_lost : {U : Type 0} (n : ℕ) (old new : Decoding) (r : Result U FeedFault) → IsErrOf r NoMemory → Fed n old new r → IsLost old new
fed_lost n old new (Ok u) is fed = absurd (cc is)
fed_lost n old new (Err NoMemory) is fed = (ap (λ (d : Decoding). d.dead) fed.1, ap (λ (d : Decoding). d.codec) fed.1)
fed_lost n old new (Err Dead) is fed = absurd (cc is)

pub ended_dead : {U : Type 0} (old new : Decoding) (r : Result U FeedFault) → IsErrOf r Dead → Ended old new r → (old.dead ≡ true) × (new ≡ old)
ended_dead old new (Ok u) is end = absurd (cc is)
ended_dead old new (Err NoMemory) is end = absurd (cc is)
ended_dead old new (Err Dead) is end = end

pub ended_lost : {U : Type 0} (old new : Decoding) (r : Result U FeedFault) → IsErrOf r NoMemory → Ended old new r → IsLost old new
ended_lost old new (Ok u) is end = absurd (cc is)
ended_lost old new (Err NoMemory) is end = (ap (λ (d : Decoding). d.dead) end.1, ap (λ (d : Decoding). d.codec) end.1)
ended_lost old new (Err Dead) is end = absurd (cc is)

-- of the first piece that was refused
pub returns_first : (piece : List (Segment NoOwner)) (pieces rest : List (List (Segment NoOwner))) (h j k : Haul) → pieces ≡ piece ∷ rest → j ≡ h
    → ReturnsPiece piece j k → ReturnsFirst pieces h k
returns_first piece pieces rest h j k is same returns =
    let P : List (List (Segment NoOwner)) → Type 0 = λ ps. ReturnsFirst ps h k in
    let Q : Haul → Type 0 = λ x. ReturnsPiece piece x k in
    subst P (sym is) (subst Q same returns)

-- there was no piece
pub returns_none : (pieces : List (List (Segment NoOwner))) (h j k : Haul) → pieces ≡ [] → j ≡ h → SameHaul j k → ReturnsFirst pieces h k
returns_none pieces h j k is same returns =
    let P : List (List (Segment NoOwner)) → Type 0 = λ ps. ReturnsFirst ps h k in
    let Q : Haul → Type 0 = λ x. SameHaul x k in
    subst P (sym is) (subst Q same returns)

-- nothing was taken yet
pub shares_begin : (had : List (Segment NoOwner)) (us : List FrameUnit) → WithData IsHeavy had → SharesData had had us us
shares_begin had us heavy = record {
  added = [];
  haul = sym (append-nil us);
  copies = let P : List (Segment NoOwner) → Type 0 = λ w. CopiesNoData had w in subst P (sym (append-nil had)) (own_storages had);
  heavy = heavy;
  stout = tt;
}

-- the next piece was taken, and others wait behind it
pub shares_next : (had kept piece rest now : List (Segment NoOwner)) (us vs ws : List FrameUnit) → SharesData had ((kept ++ piece) ++ rest) us vs
    → (WithData IsHeavy (kept ++ piece) → SharesData (kept ++ piece) now vs ws) → SharesData had (now ++ rest) us ws
shares_next had kept piece rest now us vs ws p next =
    let both : List (Segment NoOwner) = kept ++ piece in
    let ps : List (Segment NoOwner) = nodes_in p.added in
    let q = next (each_before _ both rest p.heavy) in
    let qs : List (Segment NoOwner) = nodes_in q.added in
    let all = each_before _ (both ++ rest) ps p.copies in
    let far = copies_further had both (now ++ qs) (each_before _ both rest all) q.copies in
    let nodes : nodes_in (p.added ++ q.added) ≡ ps ++ qs = nodes_in-append p.added q.added in
    let P : List (Segment NoOwner) → Type 0 = λ w. CopiesNoData had ((now ++ rest) ++ w) in
    let Q : List (Segment NoOwner) → Type 0 = λ w. WithData IsStout w in record {
      added = p.added ++ q.added;
      haul = q.haul ∙ ap (λ w. w ++ q.added) p.haul ∙ append_assoc us p.added q.added;
      copies = subst P (sym nodes)
          (each_append _ (now ++ rest) (ps ++ qs) (each_append _ now rest (each_before _ now qs far) (each_behind _ both rest all))
          (each_append _ ps qs (each_behind _ (both ++ rest) ps p.copies) (each_behind _ now qs far)));
      heavy = each_append _ now rest q.heavy (each_behind _ both rest p.heavy);
      stout = subst Q (sym nodes) (each_append _ ps qs p.stout q.stout);
    }

pub on_ok_both : {A E P Q R : Type 0} (r : Result A E) → OnOk r P → OnOk r Q → (P → Q → R) → OnOk r R
on_ok_both (Ok a) p q f = f p q
on_ok_both (Err e) p q f = tt

pub shares_as : (had xs ys : List (Segment NoOwner)) (us vs : List FrameUnit) → xs ≡ ys → SharesData had xs us vs → SharesData had ys us vs
shares_as had xs ys us vs same p = let P : List (Segment NoOwner) → Type 0 = λ w. SharesData had w us vs in subst P same p

pub tight_next : (kept piece rest now : List (Segment NoOwner)) (us vs ws : List FrameUnit) → Each HasData ((kept ++ piece) ++ rest) × AddsTight us vs
    → (Each HasData (kept ++ piece) → Each HasData now × AddsTight vs ws) → Each HasData (now ++ rest) × AddsTight us ws
tight_next kept piece rest now us vs ws p next =
    let q = next (each_before HasData (kept ++ piece) rest p.0) in
    (each_append HasData now rest q.0 (each_behind HasData (kept ++ piece) rest p.0), adds_further us vs ws p.1 q.1)
