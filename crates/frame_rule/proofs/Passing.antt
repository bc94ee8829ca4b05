-- Nodes of a chain that are passed over.
use Rattle.std.proofs.Common.{◌≡◌, ◌⊎◌, inl, inr, ℕ, ◌+◌, ◌-◌, ◌<◌, ◌≤◌, Bool, true, false, List, [], ◌∷◌, ◌++◌, Some, None, length, take, drop, if◌then◌else◌, slice_get, refl, ap, sym, subst, ◌∙◌, append_assoc, append-nil, arith, length-append, length-take-le}
use Rattle.std.specs.Option.{ForSome}
use Rattle.std.proofs.lemmas.List.{take-append-drop, take-append-le, drop-append-le}
use Rattle.std.proofs.Math.Seq.{take-append-add, drop-append-add, take-add}
use Rattle.storage.specs.declared.release.NoOwner.{NoOwner}
use Rattle.buffer_model.specs.Segment.{Segment, bytes_of}
use Rattle.iobuf_chain.proofs.Bytes.{bytes_of-append}
use Rattle.iobuf_chain.proofs.Lists.{drop_there}
use Rattle.frame_head.specs.declared.codecs.Codec.{Codec}
use Rattle.frame_head.specs.declared.codecs.FaultKind.{FaultKind}
use Rattle.frame_head.specs.Codecs.{fault_of}
use Rattle.frame_head.specs.Heads.{FramingUnit, FrameAt, FaultAt}
use Rattle.frame_head.specs.Units.{rest}
use Rattle.frame_rule.specs.declared.scanner.Scan.{Scan}
use Rattle.frame_rule.specs.declared.scanner.Scan.TheVariants.{Open, Hopeless, Frame, Fault}
use Rattle.frame_rule.specs.declared.progress.Progress.{Progress}
use Rattle.frame_rule.specs.declared.unit.FrameUnit.{FrameUnit}
use Rattle.frame_rule.specs.Scanning.{Scanned, inner}
use Rattle.frame_rule.specs.Units.{unit_of, units_of, Gives}
use Rattle.frame_rule.specs.Framing.{Framing, Took, Halted, Stands, Passes, Advances, Stops, framing}
use Rattle.frame_rule.proofs.Steps.{took_nothing, took_further, took_open, took_hopeless, took_frame, took_fault, took_skipped, halted_now, halted_further, stands_on, kept_bytes, skips_none, unread_fed, frame_used, fault_used, not_lost}

-- units in two parts
pub units_of-append : (us vs : List FrameUnit) → units_of (us ++ vs) ≡ units_of us ++ units_of vs
units_of-append [] vs = refl
units_of-append (u ∷ us) vs = ap (λ ws. unit_of u ∷ ws) (units_of-append us vs)

-- a node at its place
taken_there : {X : Type 0} (i : ℕ) (xs : List X) (x : X) → slice_get xs i ≡ Some x → take (i + 1) xs ≡ take i xs ++ x ∷ []
taken_there i xs x is = take-add i 1 xs ∙ ap (λ ys. take i xs ++ take 1 ys) (drop_there i xs x is)

-- the bytes before a node, in it and behind it
bytes_there : (i : ℕ) (xs : List (Segment NoOwner)) (s : Segment NoOwner) → slice_get xs i ≡ Some s
    → bytes_of (drop i xs) ≡ s.window ++ bytes_of (drop (i + 1) xs)
bytes_there i xs s is = ap (λ ys. bytes_of ys) (drop_there i xs s is)

bytes_up_to : (i : ℕ) (xs : List (Segment NoOwner)) (s : Segment NoOwner) → slice_get xs i ≡ Some s
    → bytes_of (take (i + 1) xs) ≡ bytes_of (take i xs) ++ s.window
bytes_up_to i xs s is = ap (λ ys. bytes_of ys) (taken_there i xs s is) ∙ bytes_of-append (take i xs) (s ∷ []) ∙ ap (λ w. bytes_of (take i xs) ++ w) (append-nil s.window)

bytes_all : (i : ℕ) (xs : List (Segment NoOwner)) (s : Segment NoOwner) → slice_get xs i ≡ Some s
    → bytes_of xs ≡ bytes_of (take i xs) ++ (s.window ++ bytes_of (drop (i + 1) xs))
bytes_all i xs s is = ap (λ ys. bytes_of ys) (sym (take-append-drop i xs)) ∙ bytes_of-append (take i xs) (drop i xs) ∙ ap (λ w. bytes_of (take i xs) ++ w) (bytes_there i xs s is)

-- bytes that leave behind those that are kept
pub left_behind : (i k n : ℕ) (xs ys : List (Segment NoOwner)) (s : Segment NoOwner) → slice_get xs i ≡ Some s → k ≡ length (bytes_of (take i xs)) → n ≤ length s.window
    → bytes_of ys ≡ drop (k + n) (bytes_of xs) → bytes_of (drop i xs) ≡ take n s.window ++ bytes_of ys
left_behind i k n xs ys s at size within is =
    let kept : List ℕ = bytes_of (take i xs) in
    let behind : List ℕ = bytes_of (drop (i + 1) xs) in
    let left : bytes_of ys ≡ drop n s.window ++ behind =
    is ∙ ap (λ w. drop (k + n) w) (bytes_all i xs s at) ∙ ap (λ (m : ℕ). drop (m + n) (kept ++ (s.window ++ behind))) size
    ∙ drop-append-add kept (s.window ++ behind) n ∙ drop-append-le n s.window behind within in
    bytes_there i xs s at ∙ ap (λ w. w ++ behind) (sym (take-append-drop n s.window)) ∙ append_assoc (take n s.window) (drop n s.window) behind ∙ ap (λ w. take n s.window ++ w) (sym left)

-- the bytes of a unit that ends in a node
pub up_to : (i k n : ℕ) (xs : List (Segment NoOwner)) (s : Segment NoOwner) → slice_get xs i ≡ Some s → k ≡ length (bytes_of (take i xs)) → n ≤ length s.window
    → take (k + n) (bytes_of xs) ≡ bytes_of (take i xs) ++ take n s.window
up_to i k n xs s at size within =
    let kept : List ℕ = bytes_of (take i xs) in
    let behind : List ℕ = bytes_of (drop (i + 1) xs) in
    ap (λ w. take (k + n) w) (bytes_all i xs s at) ∙ ap (λ (m : ℕ). take (m + n) (kept ++ (s.window ++ behind))) size
    ∙ take-append-add kept (s.window ++ behind) n ∙ ap (λ w. kept ++ w) (take-append-le n s.window behind within)

-- a node has no more bytes than stand behind the open unit
pub window_behind : (i : ℕ) (before : List (Segment NoOwner)) (s : Segment NoOwner) → slice_get before i ≡ Some s → length s.window ≤ length (bytes_of (drop i before))
window_behind i before s at =
    let e = ap length (bytes_there i before s at) in
    let m = length-append s.window (bytes_of (drop (i + 1) before)) in
    omega (arith, e, m)

-- a node that has data
pub has_data : (i : ℕ) (xs : List (Segment NoOwner)) (s : Segment NoOwner) → slice_get xs i ≡ Some s → ForSome (slice_get xs i) (λ t. 0 < length t.window) → 0 < length s.window
has_data i xs s at some = some s at

-- a node without data changes no bytes
pub no_bytes : (w : List ℕ) → length w ≡ 0 → w ≡ []
no_bytes [] h = refl
no_bytes (x ∷ w) h = absurd (omega (arith, h))

pub empty_node : (i : ℕ) (xs : List (Segment NoOwner)) (s : Segment NoOwner) → slice_get xs i ≡ Some s → length s.window ≡ 0
    → (bytes_of (take (i + 1) xs) ≡ bytes_of (take i xs)) × (bytes_of (drop (i + 1) xs) ≡ bytes_of (drop i xs))
empty_node i xs s at none =
    let e : s.window ≡ [] = no_bytes s.window none in
    (bytes_up_to i xs s at ∙ ap (λ w. bytes_of (take i xs) ++ w) e ∙ append-nil (bytes_of (take i xs)), sym (bytes_there i xs s at ∙ ap (λ w. w ++ bytes_of (drop (i + 1) xs)) e))

take_whole : (w : List ℕ) → take (length w) w ≡ w
take_whole [] = refl
take_whole (x ∷ w) = ap (λ v. x ∷ v) (take_whole w)

module _ {S : Type 0} (codec_of : S → Codec) (saw : S → List ℕ → Type 0) (checked : (s : S) (r : List ℕ) → saw s r → fault_of (codec_of s) ≡ None) where
  -- what a scanner found in a node
  abbrev pub FindsIn : Progress S → S → Segment NoOwner → Scan → Type 0
  FindsIn old after s scan = (r : List ℕ) → length r ≡ old.unread → saw old.scanner r → Scanned (codec_of old.scanner) r s.window scan (saw after)

  pub found_in : (old : Progress S) (after : S) (s : Segment NoOwner) (bytes : List ℕ) (scan : Scan) → bytes ≡ s.window
      → ((r : List ℕ) → length r ≡ old.unread → saw old.scanner r → Scanned (codec_of old.scanner) r bytes scan (saw after)) → FindsIn old after s scan
  found_in old after s bytes scan is finds r size seen = let P : List ℕ → Type 0 = λ w. Scanned (codec_of old.scanner) r w scan (saw after) in subst P is (finds r size seen)

  -- how many bytes are kept of the open unit
  pub kept_of : (p : Progress S) (nodes : List (Segment NoOwner)) → Stands codec_of saw p nodes → (if p.lost then 0 else p.unread) ≡ length (bytes_of nodes)
  kept_of p nodes st = sym (kept_bytes codec_of saw checked (framing codec_of saw p nodes) st.0 st.1 p.lost refl)

  -- the node joins the open unit
  pub joins : (old new : Progress S) (i : ℕ) (before : List (Segment NoOwner)) (s : Segment NoOwner) (us : List FrameUnit)
      → slice_get before i ≡ Some s → i < length before → 0 < length s.window → FindsIn old new.scanner s Open → codec_of new.scanner ≡ codec_of old.scanner → old.skip ≡ 0 → old.lost ≡ false
      → new.fed ≡ old.fed + length s.window → new.unread ≡ old.unread + length s.window → new.lost ≡ old.lost → new.skip ≡ old.skip
      → Advances codec_of saw old new i (i + 1) before before us us
  joins old new i before s us at there some finds codec still kept fed unread lost skip = record {
    passes = record {
      taken = s.window;
      added = [];
      bytes = bytes_there i before s at;
      within = omega (arith, there);
      haul = sym (append-nil us);
      took = took_open codec_of saw checked (framing codec_of saw old (take i before)) (framing codec_of saw new (take (i + 1) before)) s.window still finds codec refl fed unread lost (skip ∙ still)
          (λ not. bytes_up_to i before s at) (λ gone. absurd (let clash : true ≡ false = sym gone ∙ kept in cc clash));
    };
    shorter = let e = ap length (bytes_there i before s at) in let l = length-append s.window (bytes_of (drop (i + 1) before)) in omega (arith, e, l, some);
  }

  -- bytes leave behind those that are kept: no node of the open unit stays
  leaves : (old new : Progress S) (i n : ℕ) (before after : List (Segment NoOwner)) (s : Segment NoOwner) (us vs added : List FrameUnit)
      → slice_get before i ≡ Some s → Stands codec_of saw old (take i before) → 0 < n → n ≤ length s.window
      → bytes_of after ≡ drop ((if old.lost then 0 else old.unread) + n) (bytes_of before) → vs ≡ us ++ added
      → Took codec_of saw (framing codec_of saw old (take i before)) (framing codec_of saw new []) (take n s.window) (units_of added)
      → Advances codec_of saw old new i 0 before after us vs
  leaves old new i n before after s us vs added at st some within is grown took =
      let parts = left_behind i (if old.lost then 0 else old.unread) n before after s at (kept_of old (take i before) st) within is in record {
        passes = record {
          taken = take n s.window;
          added = added;
          bytes = parts;
          within = omega arith;
          haul = grown;
          took = took;
        };
        shorter = let e = ap length parts in let l = length-append (take n s.window) (bytes_of after) in let m = length-take-le n s.window within in omega (arith, e, l, m, some);
      }

  -- the bytes that a call leaves lie in the chain
  pub within_chain : (old : Progress S) (i n : ℕ) (before : List (Segment NoOwner)) (s : Segment NoOwner) → slice_get before i ≡ Some s
      → Stands codec_of saw old (take i before) → n ≤ length s.window → (if old.lost then 0 else old.unread) + n ≤ length (bytes_of before)
  within_chain old i n before s at st within =
      let size = kept_of old (take i before) st in
      let e = ap length (bytes_all i before s at) in
      let l = length-append (bytes_of (take i before)) (s.window ++ bytes_of (drop (i + 1) before)) in
      let m = length-append s.window (bytes_of (drop (i + 1) before)) in
      omega (arith, size, e, l, m, within)

  pub advances_as : (old now new : Progress S) (i j : ℕ) (before after : List (Segment NoOwner)) (us vs : List FrameUnit) → new ≡ now
      → Advances codec_of saw old now i j before after us vs → Advances codec_of saw old new i j before after us vs
  advances_as old now new i j before after us vs is advances = let P : Progress S → Type 0 = λ p. Advances codec_of saw old p i j before after us vs in subst P (sym is) advances

  -- bytes are skipped
  pub skips : (old new : Progress S) (i n : ℕ) (before after : List (Segment NoOwner)) (s : Segment NoOwner) (us vs : List FrameUnit)
      → slice_get before i ≡ Some s → Stands codec_of saw old (take i before) → 0 < old.skip → 0 < n → n ≤ old.skip → n ≤ length s.window
      → bytes_of after ≡ drop ((if old.lost then 0 else old.unread) + n) (bytes_of before) → vs ≡ us
      → new ≡ record old { fed = old.fed + n; skip = old.skip - n } → Advances codec_of saw old new i 0 before after us vs
  skips old new i n before after s us vs at st skipping some most within is same now =
      let a : Framing S NoOwner = framing codec_of saw old (take i before) in
      let b : Framing S NoOwner = record a { skip = old.skip - n; fed = old.fed + n } in
      let e : Framing S NoOwner = framing codec_of saw new [] in
      let took = took_skipped codec_of saw checked a (take n s.window) n skipping most (length-take-le n s.window within) in
      let none = skips_none codec_of saw checked a st.0 st.1 skipping old.lost refl in
      let is_now : e ≡ record b { kept = [] } = ap (λ (p : Progress S). framing codec_of saw p []) now in
      leaves old new i n before after s us vs [] at st some within is (same ∙ sym (append-nil us))
      (record {
        stands = λ h stood. stands_on codec_of saw checked b e (h ++ take n s.window) is_now (sym none) (took.stands h stood);
        grew = took.grew;
        codec = ap (λ (f : Framing S NoOwner). codec_of f.scanner) is_now ∙ took.codec;
        fed = ap (λ (f : Framing S NoOwner). f.fed) is_now ∙ took.fed;
      })

  -- the node's bytes are lost: no frame comes of the open unit
  pub loses : (old new : Progress S) (i : ℕ) (before after : List (Segment NoOwner)) (s : Segment NoOwner) (us vs : List FrameUnit) (scan : Scan)
      → slice_get before i ≡ Some s → Stands codec_of saw old (take i before) → 0 < length s.window → FindsIn old new.scanner s scan → (scan ≡ Hopeless) ⊎ ((scan ≡ Open) × (old.lost ≡ true))
      → codec_of new.scanner ≡ codec_of old.scanner → old.skip ≡ 0
      → bytes_of after ≡ drop ((if old.lost then 0 else old.unread) + length s.window) (bytes_of before) → vs ≡ us
      → new.fed ≡ old.fed + length s.window → new.unread ≡ old.unread + length s.window → new.lost ≡ true → new.skip ≡ 0
      → Advances codec_of saw old new i 0 before after us vs
  loses old new i before after s us vs scan at st some finds which codec still is same fed unread lost skip =
      let a : Framing S NoOwner = framing codec_of saw old (take i before) in
      let e : Framing S NoOwner = framing codec_of saw new [] in
      let took : Took codec_of saw a e s.window [] = elim which [
        | inl hopeless ↦ (let P : Scan → Type 0 = λ w. FindsIn old new.scanner s w in
            took_hopeless codec_of saw checked a e s.window still (subst P hopeless finds) codec refl fed unread lost skip refl)
        | inr (is_open, gone) ↦ (let P : Scan → Type 0 = λ w. FindsIn old new.scanner s w in
            took_open codec_of saw checked a e s.window still (subst P is_open finds) codec refl fed unread (lost ∙ sym gone) skip
            (λ not. absurd (let clash : true ≡ false = sym gone ∙ not in cc clash)) (λ gone. refl))
      ] in
      let W : List ℕ → Type 0 = λ w. Took codec_of saw a e w [] in
      leaves old new i (length s.window) before after s us vs [] at st some (omega arith) is (same ∙ sym (append-nil us)) (subst W (sym (take_whole s.window)) took)

  -- one unit was added
  given_units : (u : FramingUnit) (us vs : List FrameUnit) (g : Gives u us vs) → units_of (g.unit ∷ []) ≡ u ∷ []
  given_units u us vs g = ap (λ w. w ∷ []) g.is

  -- the unit ends in the node, as a frame
  pub gives_frame : (old new : Progress S) (i used front back : ℕ) (before after : List (Segment NoOwner)) (s : Segment NoOwner) (us vs : List FrameUnit)
      → slice_get before i ≡ Some s → Stands codec_of saw old (take i before) → FindsIn old new.scanner s (Frame used front back)
      → codec_of new.scanner ≡ codec_of old.scanner → old.skip ≡ 0
      → bytes_of after ≡ drop (old.unread + used) (bytes_of before)
      → Gives (FrameAt (old.fed - old.unread) (inner front back (take (old.unread + used) (bytes_of before)))) us vs
      → new.fed ≡ old.fed + used → new.unread ≡ 0 → new.lost ≡ old.lost → new.skip ≡ 0
      → Advances codec_of saw old new i 0 before after us vs
  gives_frame old new i used front back before after s us vs at st finds codec still is gives fed unread lost skip =
      let a : Framing S NoOwner = framing codec_of saw old (take i before) in
      let e : Framing S NoOwner = framing codec_of saw new [] in
      let bytes : List ℕ = inner front back (take (old.unread + used) (bytes_of before)) in
      let told = finds (rest (codec_of old.scanner) st.0) (sym st.1.unread) st.1.seen in
      let kept = not_lost codec_of saw checked a st.0 s.window used front back new.scanner st.1 old.lost refl told in
      let size : old.unread ≡ (if old.lost then 0 else old.unread) = ap (λ (b : Bool). if b then 0 else old.unread) (sym kept) in
      let sized : old.unread ≡ length (bytes_of (take i before)) = size ∙ kept_of old (take i before) st in
      let uses = frame_used codec_of saw checked a st.0 s.window used front back new.scanner st.1 finds in
      let content : bytes ≡ inner front back (bytes_of (take i before) ++ take used s.window) = ap (λ w. inner front back w) (up_to i old.unread used before s at sized uses.1) in
      let took = took_frame codec_of saw checked a e used front back s.window bytes uses.1 still finds codec content refl fed unread refl lost skip in
      let T : List FramingUnit → Type 0 = λ w. Took codec_of saw a e (take used s.window) w in
      leaves old new i used before after s us vs (gives.unit ∷ []) at st uses.0 uses.1
      (is ∙ ap (λ (k : ℕ). drop (k + used) (bytes_of before)) size) gives.haul
      (subst T (sym (given_units (FrameAt (old.fed - old.unread) bytes) us vs gives)) took)

  -- what is cut out of a frame lies in it, and the frame in the chain
  pub frame_fits : (old : Progress S) (after : S) (i used front back : ℕ) (before : List (Segment NoOwner)) (s : Segment NoOwner)
      → slice_get before i ≡ Some s → Stands codec_of saw old (take i before) → FindsIn old after s (Frame used front back)
      → (used ≤ length s.window) × (old.unread + used ≤ length (bytes_of before)) × (front + back ≤ old.unread + used)
  frame_fits old after i used front back before s at st finds =
      let a : Framing S NoOwner = framing codec_of saw old (take i before) in
      let told = finds (rest (codec_of old.scanner) st.0) (sym st.1.unread) st.1.seen in
      let kept = not_lost codec_of saw checked a st.0 s.window used front back after st.1 old.lost refl told in
      let size : old.unread ≡ (if old.lost then 0 else old.unread) = ap (λ (b : Bool). if b then 0 else old.unread) (sym kept) in
      let lies = within_chain old i used before s at st told.0 in
      let open_size = st.1.unread in
      (told.0, omega (arith, lies, size), omega (arith, told.1, open_size))

  -- the unit ends in the node, as a fault
  pub gives_fault : (old new : Progress S) (i used over : ℕ) (kind : FaultKind) (before after : List (Segment NoOwner)) (s : Segment NoOwner) (us vs : List FrameUnit)
      → slice_get before i ≡ Some s → Stands codec_of saw old (take i before) → FindsIn old new.scanner s (Fault kind used over)
      → codec_of new.scanner ≡ codec_of old.scanner → old.skip ≡ 0
      → bytes_of after ≡ drop ((if old.lost then 0 else old.unread) + used) (bytes_of before)
      → Gives (FaultAt (old.fed - old.unread) kind) us vs
      → new.fed ≡ old.fed + used → new.unread ≡ 0 → new.lost ≡ false → new.skip ≡ over
      → Advances codec_of saw old new i 0 before after us vs
  gives_fault old new i used over kind before after s us vs at st finds codec still is gives fed unread lost skip =
      let a : Framing S NoOwner = framing codec_of saw old (take i before) in
      let e : Framing S NoOwner = framing codec_of saw new [] in
      let uses = fault_used codec_of saw checked a st.0 s.window kind used over new.scanner st.1 finds in
      let took = took_fault codec_of saw checked a e kind used over s.window uses.1 still finds codec refl fed unread refl lost skip in
      let T : List FramingUnit → Type 0 = λ w. Took codec_of saw a e (take used s.window) w in
      leaves old new i used before after s us vs (gives.unit ∷ []) at st uses.0 uses.1 is gives.haul
      (subst T (sym (given_units (FaultAt (old.fed - old.unread) kind) us vs gives)) took)

  pub fault_fits : (old : Progress S) (after : S) (i used over : ℕ) (kind : FaultKind) (before : List (Segment NoOwner)) (s : Segment NoOwner)
      → slice_get before i ≡ Some s → Stands codec_of saw old (take i before) → FindsIn old after s (Fault kind used over)
      → (used ≤ length s.window) × ((if old.lost then 0 else old.unread) + used ≤ length (bytes_of before))
  fault_fits old after i used over kind before s at st finds =
      let told = finds (rest (codec_of old.scanner) st.0) (sym st.1.unread) st.1.seen in
      (told.0, within_chain old i used before s at st told.0)

  -- no more is open than was fed
  pub open_fed : (old : Progress S) (nodes : List (Segment NoOwner)) → Stands codec_of saw old nodes → old.unread ≤ old.fed
  open_fed old nodes st = unread_fed codec_of saw checked (framing codec_of saw old nodes) st.0 st.1

  -- nothing was passed over but nodes without data
  pub passes_none : (old : Progress S) (i j : ℕ) (nodes : List (Segment NoOwner)) (us : List FrameUnit) → bytes_of (take j nodes) ≡ bytes_of (take i nodes) → bytes_of (drop j nodes) ≡ bytes_of (drop i nodes) → j ≤ length nodes
      → Passes codec_of saw old old i j nodes nodes us us
  passes_none old i j nodes us same behind within =
      let a : Framing S NoOwner = framing codec_of saw old (take i nodes) in
      let b : Framing S NoOwner = framing codec_of saw old (take j nodes) in
      let took = took_nothing codec_of saw checked a in record {
        taken = [];
        added = [];
        bytes = sym behind;
        within = within;
        haul = sym (append-nil us);
        took = record {
          stands = λ h st. stands_on codec_of saw checked a b (h ++ []) refl same (took.stands h st);
          grew = took.grew;
          codec = refl;
          fed = took.fed;
        };
      }

  -- one part after another
  pub passes_further : (a b c : Progress S) (i j k : ℕ) (x y z : List (Segment NoOwner)) (us vs ws : List FrameUnit) → Passes codec_of saw a b i j x y us vs → Passes codec_of saw b c j k y z vs ws → Passes codec_of saw a c i k x z us ws
  passes_further a b c i j k x y z us vs ws p q =
      let T : List FramingUnit → Type 0 = λ w. Took codec_of saw (framing codec_of saw a (take i x)) (framing codec_of saw c (take k z)) (p.taken ++ q.taken) w in record {
        taken = p.taken ++ q.taken;
        added = p.added ++ q.added;
        bytes = p.bytes ∙ ap (λ w. p.taken ++ w) q.bytes ∙ sym (append_assoc p.taken q.taken (bytes_of (drop k z)));
        within = q.within;
        haul = q.haul ∙ ap (λ w. w ++ q.added) p.haul ∙ append_assoc us p.added q.added;
        took = subst T (sym (units_of-append p.added q.added)) (took_further codec_of saw checked _ _ _ p.taken q.taken (units_of p.added) (units_of q.added) p.took q.took);
      }

  -- it still stands for a stream
  pub stands_later : (a b : Progress S) (i j : ℕ) (x y : List (Segment NoOwner)) (us vs : List FrameUnit) → Passes codec_of saw a b i j x y us vs → Stands codec_of saw a (take i x) → Stands codec_of saw b (take j y)
  stands_later a b i j x y us vs p st = (st.0 ++ p.taken, p.took.stands st.0 st.1)

  -- what is left still has room
  pub room_later : (a b : Progress S) (i j : ℕ) (x y : List (Segment NoOwner)) (us vs : List FrameUnit) → Passes codec_of saw a b i j x y us vs → a.fed + length (bytes_of (drop i x)) ≡ b.fed + length (bytes_of (drop j y))
  room_later a b i j x y us vs p =
      let e = ap length p.bytes in let l = length-append p.taken (bytes_of (drop j y)) in let f = p.took.fed in omega (arith, e, l, f)

  -- memory is refused behind some part
  pub stops_after : (a b c : Progress S) (i j : ℕ) (x y : List (Segment NoOwner)) (us vs ws : List FrameUnit) → Passes codec_of saw a b i j x y us vs → codec_of c.scanner ≡ codec_of b.scanner → ws ≡ vs → Stops codec_of saw a c i x us ws
  stops_after a b c i j x y us vs ws p codec same =
      let A : Framing S NoOwner = framing codec_of saw a (take i x) in
      let B : Framing S NoOwner = framing codec_of saw b (take j y) in
      let C : Framing S NoOwner = record (framing codec_of saw c []) { dead = true } in
      let halted = halted_further codec_of saw checked A B C p.taken (bytes_of (drop j y)) (units_of p.added) [] p.took (halted_now codec_of saw checked B C (bytes_of (drop j y)) codec refl) in
      let W : List ℕ → Type 0 = λ w. Halted codec_of saw A C w (units_of p.added) in
      let U : List FramingUnit → Type 0 = λ w. Halted codec_of saw A C (p.taken ++ bytes_of (drop j y)) w in record {
        added = p.added;
        haul = same ∙ p.haul;
        halted = subst W (sym p.bytes) (subst U (append-nil (units_of p.added)) halted);
      }
