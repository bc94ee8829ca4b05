-- Pieces that are taken in, and the end of the stream.
use Rattle.std.proofs.Common.{◌≡◌, inl, inr, ℕ, ◌+◌, ◌-◌, ◌<◌, ◌≤◌, Bool, true, false, List, [], ◌∷◌, ◌++◌, Option, Some, None, Result, Ok, Err, OnOk, OnErr, length, length-append, take, drop, if◌then◌else◌, refl, ap, sym, subst, ◌∙◌, append_assoc, append-nil, arith}
use Rattle.std.specs.Result.{is_err}
use Rattle.std.proofs.lemmas.List.{take_all, take_at, drop_at}
use Rattle.storage.specs.declared.release.NoOwner.{NoOwner}
use Rattle.buffer_model.specs.Segment.{Segment, bytes_of}
use Rattle.buffer_model.specs.Stake.{Stake, KeepsTotals, KeepsTotalsBeside}
use Rattle.buffer_model.specs.Minted.{Numbers}
use Rattle.buffer_model.proofs.Totals.{keeps_same, keeps_equal, keeps_then, keeps-append}
use Rattle.iobuf_chain.specs.Accounts.{held_by}
use Rattle.iobuf_chain.specs.Copies.{WithData, CopiesNoData, IsHeavy, IsStout}
use Rattle.iobuf_chain.proofs.Accounts.{held_by-append}
use Rattle.iobuf_chain.proofs.Bytes.{bytes_of-append}
use Rattle.iobuf_chain.proofs.Copied.{each_before, each_behind, each_map, own_storages, heavy_is_stout}
use Rattle.frame_head.specs.declared.codecs.Codec.{Codec}
use Rattle.frame_head.specs.Codecs.{last_unit, fault_of}
use Rattle.frame_head.specs.Units.{units}
use Rattle.frame_rule.specs.declared.haul.Haul.{Haul}
use Rattle.frame_rule.specs.declared.progress.Progress.{Progress}
use Rattle.frame_rule.specs.declared.unit.FrameUnit.{FrameUnit}
use Rattle.frame_rule.specs.declared.unit.FrameUnit.TheVariants.{Frame}
use Rattle.frame_rule.specs.Scanning.{last_of}
use Rattle.frame_rule.specs.Decoding.{TakesEnd}
use Rattle.frame_rule.specs.Units.{units_of, nodes_in}
use Rattle.frame_rule.specs.Hauls.{Settles, SharesData, all_kept, hauled, nodes_if}
use Rattle.frame_rule.specs.Framing.{Framing, StandsFor, Took, Halted, Stands, Passes, Stops, StopsAt, TakesAll, framing, framing_of}
use Rattle.frame_rule.proofs.Steps.{ended_frame, halted_now, kept_at_end, stands_on}
use Rattle.frame_rule.proofs.Passing.{kept_of, open_fed}

pub on_ok : {A E P Q : Type 0} (r : Result A E) → OnOk r P → (P → Q) → OnOk r Q
on_ok (Ok a) p f = f p
on_ok (Err e) p f = tt

pub at_ok : {A E P : Type 0} (r : Result A E) → is_err r ≡ false → OnOk r P → P
at_ok (Ok a) is p = p
at_ok (Err e) is p = absurd (cc is)

pub at_err : {A E P : Type 0} (r : Result A E) → is_err r ≡ true → OnErr r P → P
at_err (Ok a) is p = absurd (cc is)
at_err (Err e) is p = p

none_behind : {X : Type 0} (xs : List X) → drop (length xs) xs ≡ []
none_behind [] = refl
none_behind (x ∷ xs) = none_behind xs

-- what the nodes before a piece have stays before it
pub front_nodes : (i : ℕ) (kept piece : List (Segment NoOwner)) → i ≡ length kept → (take i (kept ++ piece) ≡ kept) × (drop i (kept ++ piece) ≡ piece)
front_nodes i kept piece at = (take_at kept piece i (sym at), drop_at kept piece i (sym at))

-- without a refused piece
pub kept_alone : (kept refused : Option (List (Segment NoOwner))) → refused ≡ None → all_kept kept refused ≡ nodes_if kept
kept_alone kept refused none = ap (λ w. all_kept kept w) none

pub kept_as : (kept refused k r : Option (List (Segment NoOwner))) → kept ≡ k → refused ≡ r → all_kept kept refused ≡ all_kept k r
kept_as kept refused k r is other = ap (λ w. all_kept w refused) is ∙ ap (λ w. all_kept k w) other

-- how many bytes are kept
pub kept_length : (kept refused : Option (List (Segment NoOwner)))
    → length (bytes_of (nodes_if kept)) + length (bytes_of (nodes_if refused)) ≡ length (bytes_of (all_kept kept refused))
kept_length kept None = omega arith
kept_length kept (Some piece) = omega (arith, ap length (bytes_of-append (nodes_if kept) piece), length-append (bytes_of (nodes_if kept)) (bytes_of piece))

-- nothing of a piece was taken, and it is kept behind the nodes that are kept
pub refused_totals : (a b : Numbers) (kept now : Option (List (Segment NoOwner))) (piece refused : List (Segment NoOwner)) (h : Haul) → now ≡ kept → refused ≡ piece
    → KeepsTotalsBeside a b (held_by (nodes_if kept ++ piece) ++ hauled h) (held_by (all_kept now (Some refused)) ++ hauled h)
refused_totals a b kept now piece refused h stay same n lt =
    keeps_equal _ _ (ap (λ w. held_by (nodes_if w ++ piece) ++ hauled h) (sym stay) ∙ ap (λ w. held_by (nodes_if now ++ w) ++ hauled h) (sym same)) n

-- nodes that were kept, or handed over, went into the haul
pub given_totals : (kept now : Option (List (Segment NoOwner))) (nodes : List (Segment NoOwner)) (h k : Haul) → kept ≡ Some nodes → now ≡ None → KeepsTotals (held_by nodes ++ hauled h) (hauled k)
    → KeepsTotals (held_by (nodes_if kept) ++ hauled h) (held_by (nodes_if now) ++ hauled k)
given_totals kept now nodes h k is none keeps =
    let P : Option (List (Segment NoOwner)) → Type 0 = λ w. KeepsTotals (held_by (nodes_if w) ++ hauled h) (held_by (nodes_if now) ++ hauled k) in
    let Q : Option (List (Segment NoOwner)) → Type 0 = λ w. KeepsTotals (held_by nodes ++ hauled h) (held_by (nodes_if w) ++ hauled k) in
    subst P (sym is) (subst Q (sym none) keeps)

-- and a fault was added
pub fault_totals : (xs : List (Stake NoOwner)) (nodes : List (Segment NoOwner)) (k l : Haul) → KeepsTotals xs (held_by nodes ++ hauled k) → hauled l ≡ hauled k → KeepsTotals xs (held_by nodes ++ hauled l)
fault_totals xs nodes k l keeps same = let P : List (Stake NoOwner) → Type 0 = λ w. KeepsTotals xs (held_by nodes ++ w) in subst P (sym same) keeps

-- from the same nodes and the same haul
pub start_totals : (a b : Numbers) (nodes xs : List (Segment NoOwner)) (h k : Haul) (ys : List (Stake NoOwner)) → xs ≡ nodes → k ≡ h → KeepsTotalsBeside a b (held_by xs ++ hauled k) ys → KeepsTotalsBeside a b (held_by nodes ++ hauled h) ys
start_totals a b nodes xs h k ys same stay keeps =
    let P : List (Segment NoOwner) → Type 0 = λ w. KeepsTotalsBeside a b (held_by w ++ hauled h) ys in
    let Q : Haul → Type 0 = λ w. KeepsTotalsBeside a b (held_by xs ++ hauled w) ys in
    subst P same (subst Q stay keeps)

pub start_shares : (nodes xs after : List (Segment NoOwner)) (h k : Haul) (vs : List FrameUnit) → xs ≡ nodes → k ≡ h → WithData IsHeavy nodes → (WithData IsHeavy xs → SharesData xs after k.units.items vs) → SharesData nodes after h.units.items vs
start_shares nodes xs after h k vs same stay heavy shares =
    let P : List (Segment NoOwner) → Type 0 = λ w. SharesData w after h.units.items vs in
    let Q : Haul → Type 0 = λ w. SharesData xs after w.units.items vs in
    let H : List (Segment NoOwner) → Type 0 = λ w. WithData IsHeavy w in
    subst P same (subst Q stay (shares (subst H (sym same) heavy)))

-- nodes that were settled
pub shares_settled : (had after now : List (Segment NoOwner)) (us : List FrameUnit) (h k : Haul) → SharesData had after us h.units.items → Settles after now h k → SharesData had now us k.units.items
shares_settled had after now us h k shares (inl (same, some, stay)) =
    let P : List (Segment NoOwner) → Type 0 = λ w. SharesData had w us k.units.items in
    let Q : Haul → Type 0 = λ w. SharesData had after us w.units.items in
    subst P (sym same) (subst Q (sym stay) shares)
shares_settled had after now us h k shares (inr (none, no_bytes, given)) =
    let P : List (Segment NoOwner) → Type 0 = λ w. SharesData had w us k.units.items in
    let Q : List FrameUnit → Type 0 = λ w. SharesData had [] us w in
    subst P (sym none) (subst Q (sym given.units) (record {
      added = shares.added;
      haul = shares.haul;
      copies = each_behind _ after (nodes_in shares.added) shares.copies;
      heavy = tt;
      stout = shares.stout;
    }))

-- what is kept has data
pub settled_some : (nodes now : List (Segment NoOwner)) (h k : Haul) → Settles nodes now h k → bytes_of now ≡ [] → now ≡ []
settled_some nodes now h k (inl (same, some, stay)) none = absurd (let e = ap length (ap (λ w. bytes_of w) (sym same) ∙ none) in omega (arith, some, e))
settled_some nodes now h k (inr (empty, no_bytes, given)) none = empty

-- a piece without bytes is given back: what is kept stays
pub beside_totals : (kept piece : List (Segment NoOwner)) (h k : Haul) → KeepsTotals (held_by piece ++ hauled h) (hauled k) → KeepsTotals (held_by (kept ++ piece) ++ hauled h) (held_by kept ++ hauled k)
beside_totals kept piece h k given =
    let apart : held_by (kept ++ piece) ++ hauled h ≡ held_by kept ++ (held_by piece ++ hauled h) = ap (λ w. w ++ hauled h) (held_by-append kept piece) ∙ append_assoc (held_by kept) (held_by piece) (hauled h) in
    keeps_then _ _ _ (keeps_equal _ _ apart) (λ n. keeps-append n (held_by kept) (held_by piece ++ hauled h) (held_by kept) (hauled k) (keeps_same (held_by kept) n) (given n))

pub beside_shares : (kept piece : List (Segment NoOwner)) (us vs : List FrameUnit) → WithData IsHeavy (kept ++ piece) → vs ≡ us → SharesData (kept ++ piece) kept us vs
beside_shares kept piece us vs heavy same =
    let P : List (Segment NoOwner) → Type 0 = λ w. CopiesNoData (kept ++ piece) w in record {
      added = [];
      haul = same ∙ sym (append-nil us);
      copies = subst P (sym (append-nil kept)) (each_before _ kept piece (own_storages (kept ++ piece)));
      heavy = each_before _ kept piece heavy;
      stout = tt;
    }

-- the nodes that are kept are the last frame
pub shares_last : (kept : List (Segment NoOwner)) (us vs : List FrameUnit) (at : ℕ) → WithData IsHeavy kept → vs ≡ us ++ Frame at kept ∷ [] → SharesData kept [] us vs
shares_last kept us vs at heavy more =
    let P : List (Segment NoOwner) → Type 0 = λ w. CopiesNoData kept w in
    let Q : List (Segment NoOwner) → Type 0 = λ w. WithData IsStout w in record {
      added = Frame at kept ∷ [];
      haul = more;
      copies = subst P (sym (append-nil kept)) (own_storages kept);
      heavy = tt;
      stout = subst Q (sym (append-nil kept)) (each_map _ _ kept (λ s is some. heavy_is_stout s (is some)) heavy);
    }

module _ {S : Type 0} (codec_of : S → Codec) (saw : S → List ℕ → Type 0) (checked : (s : S) (r : List ℕ) → saw s r → fault_of (codec_of s) ≡ None) where
  -- no more is kept than was fed
  pub kept_fed : (p : Progress S) (nodes : List (Segment NoOwner)) → Stands codec_of saw p nodes → length (bytes_of nodes) ≤ p.fed
  kept_fed p nodes st = kept_by p.lost (kept_of codec_of saw checked p nodes st) (open_fed codec_of saw checked p nodes st) where
    kept_by : (lost : Bool) → (if lost then 0 else p.unread) ≡ length (bytes_of nodes) → p.unread ≤ p.fed → length (bytes_of nodes) ≤ p.fed
    kept_by true e l = omega (arith, e, l)
    kept_by false e l = omega (arith, e, l)

  -- a piece behind the nodes that are kept stands behind the open unit
  pub stands_front : (p : Progress S) (i : ℕ) (kept piece chain : List (Segment NoOwner)) → chain ≡ kept ++ piece → i ≡ length kept → Stands codec_of saw p kept → Stands codec_of saw p (take i chain)
  stands_front p i kept piece chain is at st =
      let P : List (Segment NoOwner) → Type 0 = λ w. Stands codec_of saw p w in
      subst P (sym (ap (take i) is ∙ (front_nodes i kept piece at).0)) st

  pub bytes_front : (i : ℕ) (kept piece chain : List (Segment NoOwner)) → chain ≡ kept ++ piece → i ≡ length kept → bytes_of (drop i chain) ≡ bytes_of piece
  bytes_front i kept piece chain is at = ap (λ w. bytes_of w) (ap (drop i) is ∙ (front_nodes i kept piece at).1)

  -- all nodes of a piece were passed over
  pub takes_all : (old new : Progress S) (i : ℕ) (kept piece before after : List (Segment NoOwner)) (us vs : List FrameUnit) → before ≡ kept ++ piece → i ≡ length kept
      → Passes codec_of saw old new i (length after) before after us vs → TakesAll codec_of saw old new kept after (bytes_of piece) us vs
  takes_all old new i kept piece before after us vs is at p =
      let front : take i before ≡ kept = ap (take i) is ∙ (front_nodes i kept piece at).0 in
      let taken : p.taken ≡ bytes_of piece = sym (p.bytes ∙ ap (λ w. p.taken ++ bytes_of w) (none_behind after) ∙ append-nil p.taken) ∙ bytes_front i kept piece before is at in
      let F : List (Segment NoOwner) → Type 0 = λ w. Took codec_of saw (framing codec_of saw old w) (framing codec_of saw new after) (bytes_of piece) (units_of p.added) in
      let A : List (Segment NoOwner) → Type 0 = λ w. Took codec_of saw (framing codec_of saw old (take i before)) (framing codec_of saw new w) (bytes_of piece) (units_of p.added) in
      let T : List ℕ → Type 0 = λ w. Took codec_of saw (framing codec_of saw old (take i before)) (framing codec_of saw new (take (length after) after)) w (units_of p.added) in record {
        added = p.added;
        haul = p.haul;
        took = subst F front (subst A (take_all (length after) after (omega arith)) (subst T taken p.took));
      }

  pub stops_at : (old new : Progress S) (i : ℕ) (kept piece before : List (Segment NoOwner)) (us vs : List FrameUnit) → before ≡ kept ++ piece → i ≡ length kept
      → Stops codec_of saw old new i before us vs → StopsAt codec_of saw old new kept (bytes_of piece) us vs
  stops_at old new i kept piece before us vs is at p =
      let C : Framing S NoOwner = record (framing codec_of saw new []) { dead = true } in
      let F : List (Segment NoOwner) → Type 0 = λ w. Halted codec_of saw (framing codec_of saw old w) C (bytes_of piece) (units_of p.added) in
      let T : List ℕ → Type 0 = λ w. Halted codec_of saw (framing codec_of saw old (take i before)) C w (units_of p.added) in record {
        added = p.added;
        haul = p.haul;
        halted = subst F (ap (take i) is ∙ (front_nodes i kept piece at).0) (subst T (bytes_front i kept piece before is at) p.halted);
      }

  -- nothing of the piece was taken
  pub stops_first : (p : Progress S) (kept : List (Segment NoOwner)) (bytes : List ℕ) (us vs : List FrameUnit) → vs ≡ us → StopsAt codec_of saw p p kept bytes us vs
  stops_first p kept bytes us vs same = record {
    added = [];
    haul = same ∙ sym (append-nil us);
    halted = halted_now codec_of saw checked (framing codec_of saw p kept) (record (framing codec_of saw p []) { dead = true }) bytes refl refl;
  }

  -- nothing of it is to be taken
  pub takes_nothing : (p : Progress S) (kept : List (Segment NoOwner)) (bytes : List ℕ) (us vs : List FrameUnit) → bytes ≡ [] → vs ≡ us → TakesAll codec_of saw p p kept kept bytes us vs
  takes_nothing p kept bytes us vs none same =
      let d : Framing S NoOwner = framing codec_of saw p kept in
      let T : List ℕ → Type 0 = λ w. Took codec_of saw d d w [] in
      let took : Took codec_of saw d d [] [] = record {
        stands = λ h st. let P : List ℕ → Type 0 = λ w. StandsFor codec_of saw d w in subst P (sym (append-nil h)) st;
        grew = λ h st. ap (λ w. units (codec_of p.scanner) w) (append-nil h) ∙ sym (append-nil (units (codec_of p.scanner) h));
        codec = refl;
        fed = omega arith;
      } in record { added = []; haul = same ∙ sym (append-nil us); took = subst T (sym none) took }

  -- all of it was taken, but not settled
  pub stops_last : (old new : Progress S) (kept after : List (Segment NoOwner)) (p : List ℕ) (us vs ws : List FrameUnit) → TakesAll codec_of saw old new kept after p us vs → ws ≡ vs → StopsAt codec_of saw old new kept p us ws
  stops_last old new kept after p us vs ws t same = record {
    added = t.added;
    haul = same ∙ t.haul;
    halted = record {
      grew = λ h st. ([], t.took.grew h st ∙ sym (append-nil (units (codec_of old.scanner) h ++ units_of t.added)));
      codec = t.took.codec;
      dead = refl;
    };
  }

  -- and settled
  pub takes_settled : (old new : Progress S) (kept after now : List (Segment NoOwner)) (p : List ℕ) (us : List FrameUnit) (h k : Haul) → TakesAll codec_of saw old new kept after p us h.units.items → Settles after now h k
      → TakesAll codec_of saw old new kept now p us k.units.items
  takes_settled old new kept after now p us h k t (inl (same, some, stay)) =
      let P : List (Segment NoOwner) → Type 0 = λ w. TakesAll codec_of saw old new kept w p us k.units.items in
      let Q : Haul → Type 0 = λ w. TakesAll codec_of saw old new kept after p us w.units.items in
      subst P (sym same) (subst Q (sym stay) t)
  takes_settled old new kept after now p us h k t (inr (none, no_bytes, given)) =
      let a : Framing S NoOwner = framing codec_of saw new after in
      let b : Framing S NoOwner = framing codec_of saw new now in record {
        added = t.added;
        haul = given.units ∙ t.haul;
        took = record {
          stands = λ w st. stands_on codec_of saw checked a b (w ++ p) refl (ap (λ v. bytes_of v) none ∙ sym no_bytes) (t.took.stands w st);
          grew = t.took.grew;
          codec = t.took.codec;
          fed = t.took.fed;
        };
      }

  -- the last bytes are a frame
  pub ends_frame : (p : Progress S) (kept : List (Segment NoOwner)) (us vs : List FrameUnit) → 0 < p.unread
      → ((r : List ℕ) (at : ℕ) → length r ≡ p.unread → saw p.scanner r → last_unit (codec_of p.scanner) at r ≡ last_of at r None)
      → vs ≡ us ++ Frame (p.fed - p.unread) kept ∷ [] → TakesEnd (StandsFor codec_of saw (framing codec_of saw p kept)) (codec_of p.scanner) us vs
  ends_frame p kept us vs some finds more h st = record {
    added = Frame (p.fed - p.unread) kept ∷ [];
    units = ended_frame codec_of saw checked (framing codec_of saw p kept) h st some finds;
    haul = more;
  }

  -- and they are kept
  pub last_kept : (p : Progress S) (kept : List (Segment NoOwner)) → Stands codec_of saw p kept → 0 < p.unread
      → ((r : List ℕ) (at : ℕ) → length r ≡ p.unread → saw p.scanner r → last_unit (codec_of p.scanner) at r ≡ last_of at r None) → 0 < length kept
  last_kept p kept st some finds =
      let all = kept_at_end codec_of saw checked (framing codec_of saw p kept) st.0 p.lost refl st.1 finds in
      let size : p.unread ≡ length (bytes_of kept) = st.1.unread ∙ ap length (sym all) in
      some_nodes kept (omega (arith, some, size)) where
        some_nodes : (nodes : List (Segment NoOwner)) → 0 < length (bytes_of nodes) → 0 < length nodes
        some_nodes [] h = h
        some_nodes (x ∷ nodes) h = omega arith

  -- a decoder that is alive, by its nodes
  pub alive_as : (p : Progress S) (kept refused : Option (List (Segment NoOwner))) (dead : Bool) (d : Framing S NoOwner) → refused ≡ None → dead ≡ false → framing_of codec_of saw p (all_kept kept refused) dead ≡ d
      → framing codec_of saw p (nodes_if kept) ≡ d
  alive_as p kept refused dead d none alive is =
      ap (λ b. framing_of codec_of saw p (nodes_if kept) b) (sym alive) ∙ ap (λ w. framing_of codec_of saw p w dead) (sym (kept_alone kept refused none)) ∙ is
