-- What steps of a decoder do to the streams for which it stands.
use Rattle.std.proofs.Common.{◌≡◌, ℕ, zero, suc, ◌+◌, ◌-◌, ◌<◌, ◌≤◌, Bool, true, false, List, [], ◌∷◌, ◌++◌, Option, Some, None, length, take, if◌then◌else◌, refl, ap, sym, subst, ◌∙◌, append_assoc, append-nil, arith, length-append, length-take-le}
use Rattle.buffer_model.specs.Segment.{bytes_of}
use Rattle.frame_head.specs.declared.codecs.Codec.{Codec}
use Rattle.frame_head.specs.declared.codecs.FaultKind.{FaultKind}
use Rattle.frame_head.specs.Codecs.{head, last_unit, fault_of, most_kept}
use Rattle.frame_head.specs.Heads.{Head, More, Whole, Bad, UsesAtLeast, FramingUnit, FrameAt, FaultAt}
use Rattle.frame_head.specs.Units.{unit_and, left_by, overrun_by, units, rest, overrun, ended, units_of_end}
use Rattle.frame_head.proofs.Steady.{Steady, shorter, rest_open}
use Rattle.frame_head.proofs.Cases.{passed_steady}
use Rattle.frame_head.proofs.Cutting.{absorbed, passed, extends}
use Rattle.frame_rule.specs.declared.scanner.Scan.{Scan}
use Rattle.frame_rule.specs.declared.scanner.Scan.TheVariants.{Open, Hopeless, Frame, Fault}
use Rattle.frame_rule.specs.Scanning.{IsNoFrame, IsFault, IsHopeless, Scanned, inner, last_of}
use Rattle.frame_rule.specs.Framing.{Framing, StandsFor, Took, Halted, fresh}

-- what the end adds where nothing is open, and where something is
nothing_open : (c : Codec) (at : ℕ) (r : List ℕ) → length r ≡ 0 → units_of_end c at r ≡ []
nothing_open c at [] none = refl
nothing_open c at (x ∷ r) none = absurd (omega arith)

something_open : (c : Codec) (at : ℕ) (r : List ℕ) → 0 < length r → units_of_end c at r ≡ last_unit c at r ∷ []
something_open c at [] some = absurd (omega arith)
something_open c at (x ∷ r) some = refl

-- an open unit ends behind a byte more at least
frame_ends : (c : Codec) (r s bytes : List ℕ) (used n : ℕ) → head c r ≡ More → head c (r ++ take used s) ≡ Whole bytes n → 0 < used
frame_ends c r s bytes zero n still is = absurd (let clash : More ≡ Whole bytes n = sym still ∙ ap (λ w. head c w) (sym (append-nil r)) ∙ is in cc clash)
frame_ends c r s bytes (suc used) n still is = omega arith

fault_ends : (c : Codec) (r s : List ℕ) (kind : FaultKind) (used n : ℕ) → head c r ≡ More → head c (r ++ take used s) ≡ Bad kind n → 0 < used
fault_ends c r s kind zero n still is = absurd (let clash : More ≡ Bad kind n = sym still ∙ ap (λ w. head c w) (sym (append-nil r)) ∙ is in cc clash)
fault_ends c r s kind (suc used) n still is = omega arith

-- what is kept of an open unit, where a frame may still come or not
bounded_by : (c : Codec) (old r s new : List ℕ) (lost now : Bool) → now ≡ lost → (now ≡ false → old ≡ r) → (now ≡ false → new ≡ old ++ s) → (now ≡ true → new ≡ []) → length r + length s ≤ most_kept c → length new ≤ most_kept c
bounded_by c old r s new false now is same kept none within = omega (arith, ap (λ w. length w) (kept is), ap (λ w. length w) (same is), length-append old s)
bounded_by c old r s new true now is same kept none within = omega (arith, ap (λ w. length w) (none is))

module _ {S O : Type 0} (codec_of : S → Codec) (saw : S → List ℕ → Type 0) (checked : (s : S) (r : List ℕ) → saw s r → fault_of (codec_of s) ≡ None) where
  -- the scanner of a decoder that stands for something is by a codec that is passed
  steady_for : (d : Framing S O) (h : List ℕ) → StandsFor codec_of saw d h → Steady (codec_of d.scanner)
  steady_for d h st = passed_steady (codec_of d.scanner) (checked d.scanner (rest (codec_of d.scanner) h) st.seen)

  -- a fresh decoder stands for no bytes
  pub fresh_stands : (scanner : S) → saw scanner [] → StandsFor codec_of saw (fresh {S = S} {O = O} scanner) []
  fresh_stands scanner seen = record {
    alive = refl;
    fed = refl;
    unread = refl;
    seen = seen;
    skip = refl;
    kept = λ not. refl;
    none = λ gone. refl;
    hopeless = λ gone. absurd (cc gone);
    bounded = omega arith;
  }

  -- what is open isn't more than what was fed
  pub unread_fed : (d : Framing S O) (h : List ℕ) → StandsFor codec_of saw d h → d.unread ≤ d.fed
  unread_fed d h st = omega (arith, st.unread, st.fed, shorter (codec_of d.scanner) (length h) h)

  -- nothing was taken
  pub took_nothing : (d : Framing S O) → Took codec_of saw d d [] []
  took_nothing d = record {
    stands = λ h st. let P : List ℕ → Type 0 = λ w. StandsFor codec_of saw d w in subst P (sym (append-nil h)) st;
    grew = λ h st. ap (λ w. units (codec_of d.scanner) w) (append-nil h) ∙ sym (append-nil (units (codec_of d.scanner) h));
    codec = refl;
    fed = omega arith;
  }

  -- two parts were taken
  pub took_further : (a b c : Framing S O) (p q : List ℕ) (x y : List FramingUnit) → Took codec_of saw a b p x → Took codec_of saw b c q y → Took codec_of saw a c (p ++ q) (x ++ y)
  took_further a b c p q x y first second = record {
    stands = λ h st. let P : List ℕ → Type 0 = λ w. StandsFor codec_of saw c w in subst P (append_assoc h p q) (second.stands (h ++ p) (first.stands h st));
    grew = λ h st.
        let P : Codec → Type 0 = λ k. units k ((h ++ p) ++ q) ≡ units k (h ++ p) ++ y in
        let more = subst P first.codec (second.grew (h ++ p) (first.stands h st)) in
        ap (λ w. units (codec_of a.scanner) w) (sym (append_assoc h p q)) ∙ more ∙ ap (λ w. w ++ y) (first.grew h st) ∙ append_assoc (units (codec_of a.scanner) h) x y;
    codec = second.codec ∙ first.codec;
    fed = omega (arith, first.fed, second.fed, length-append p q);
  }

  -- a part was taken, and then a part of the rest
  pub halted_further : (a b c : Framing S O) (p q : List ℕ) (x y : List FramingUnit) → Took codec_of saw a b p x → Halted codec_of saw b c q y → Halted codec_of saw a c (p ++ q) (x ++ y)
  halted_further a b c p q x y first second = record {
    grew = λ h st.
        let part = second.grew (h ++ p) (first.stands h st) in
        let P : Codec → Type 0 = λ k. units k ((h ++ p) ++ q) ≡ (units k (h ++ p) ++ y) ++ part.0 in
        let more = subst P first.codec part.1 in (
          part.0,
          ap (λ w. units (codec_of a.scanner) w) (sym (append_assoc h p q)) ∙ more ∙ ap (λ w. (w ++ y) ++ part.0) (first.grew h st) ∙ ap (λ w. w ++ part.0) (append_assoc (units (codec_of a.scanner) h) x y),
        );
    codec = second.codec ∙ first.codec;
    dead = second.dead;
  }

  -- nothing was taken, and the decoder is dead
  pub halted_now : (a b : Framing S O) (q : List ℕ) → codec_of b.scanner ≡ codec_of a.scanner → b.dead ≡ true → Halted codec_of saw a b q []
  halted_now a b q codec dead = record {
    grew = λ h st. let more = extends (codec_of a.scanner) (steady_for a h st) h q in (more.0, more.1 ∙ ap (λ w. w ++ more.0) (sym (append-nil (units (codec_of a.scanner) h))));
    codec = codec;
    dead = dead;
  }

  -- a part was taken, of which some was left
  pub halted_longer : (a b : Framing S O) (p q : List ℕ) (x : List FramingUnit) → Halted codec_of saw a b p x → Halted codec_of saw a b (p ++ q) x
  halted_longer a b p q x halted = record {
    grew = λ h st.
        let part = halted.grew h st in
        let more = extends (codec_of a.scanner) (steady_for a h st) (h ++ p) q in (
          part.0 ++ more.0,
          ap (λ w. units (codec_of a.scanner) w) (sym (append_assoc h p q)) ∙ more.1 ∙ ap (λ w. w ++ more.0) part.1 ∙ append_assoc (units (codec_of a.scanner) h ++ x) part.0 more.0,
        );
    codec = halted.codec;
    dead = halted.dead;
  }

  -- bytes were skipped
  pub took_skipped : (old : Framing S O) (q : List ℕ) (n : ℕ) → 0 < old.skip → n ≤ old.skip → length q ≡ n → Took codec_of saw old (record old { skip = old.skip - n; fed = old.fed + n }) q []
  took_skipped old q n some within size = record {
    stands = λ h st.
        let p = passed (codec_of old.scanner) (steady_for old h st) h q (omega (arith, st.skip)) (omega (arith, st.skip, size)) in
        let same : rest (codec_of old.scanner) h ≡ rest (codec_of old.scanner) (h ++ q) = p.1 ∙ sym p.2 in
        let W : List ℕ → Type 0 = λ w. saw old.scanner w in
        let H : List ℕ → Type 0 = λ w. IsHopeless (codec_of old.scanner) w in record {
          alive = st.alive;
          fed = omega (arith, st.fed, length-append h q, size);
          unread = st.unread ∙ ap (λ w. length w) same;
          seen = subst W same st.seen;
          skip = ap (λ k. k - n) st.skip ∙ ap (λ k. overrun (codec_of old.scanner) h - k) (sym size) ∙ sym p.3;
          kept = λ not. st.kept not ∙ same;
          none = st.none;
          hopeless = λ lost. subst H same (st.hopeless lost);
          bounded = st.bounded;
        };
    grew = λ h st.
        let p = passed (codec_of old.scanner) (steady_for old h st) h q (omega (arith, st.skip)) (omega (arith, st.skip, size)) in
        p.0 ∙ sym (append-nil (units (codec_of old.scanner) h));
    codec = refl;
    fed = ap (λ k. old.fed + k) (sym size);
  }

  -- other nodes of the same bytes are kept
  pub stands_on : (d e : Framing S O) (h : List ℕ) → e ≡ record d { kept = e.kept } → bytes_of e.kept ≡ bytes_of d.kept → StandsFor codec_of saw d h → StandsFor codec_of saw e h
  stands_on d e h is same st =
      let P : Framing S O → Type 0 = λ w. StandsFor codec_of saw w h in
      subst P (sym is) (record {
        alive = st.alive;
        fed = st.fed;
        unread = st.unread;
        seen = st.seen;
        skip = st.skip;
        kept = λ not. same ∙ st.kept not;
        none = λ gone. same ∙ st.none gone;
        hopeless = st.hopeless;
        bounded = omega (arith, ap length same, st.bounded);
      })

  -- how many bytes are kept
  pub kept_bytes : (d : Framing S O) (h : List ℕ) → StandsFor codec_of saw d h → (lost : Bool) → d.lost ≡ lost → length (bytes_of d.kept) ≡ (if lost then 0 else d.unread)
  kept_bytes d h st false is = ap length (st.kept is) ∙ sym st.unread
  kept_bytes d h st true is = ap length (st.none is)

  -- nothing is kept where bytes are skipped
  pub skips_none : (d : Framing S O) (h : List ℕ) → StandsFor codec_of saw d h → 0 < d.skip → (lost : Bool) → d.lost ≡ lost → bytes_of d.kept ≡ []
  skips_none d h st some false is =
      let p = passed (codec_of d.scanner) (steady_for d h st) h [] (omega (arith, st.skip)) (omega arith) in
      st.kept is ∙ p.1
  skips_none d h st some true is = st.none is

  -- what bytes that their head uses all do to a stream for which a decoder stands
  settled : (d : Framing S O) (h q : List ℕ) (u : Head) → StandsFor codec_of saw d h → d.skip ≡ 0 → head (codec_of d.scanner) (rest (codec_of d.scanner) h ++ q) ≡ u
      → UsesAtLeast (length (rest (codec_of d.scanner) h ++ q)) u
      → (units (codec_of d.scanner) (h ++ q) ≡ units (codec_of d.scanner) h ++ unit_and (d.fed - d.unread) u (λ n. []))
      × (rest (codec_of d.scanner) (h ++ q) ≡ left_by (rest (codec_of d.scanner) h ++ q) u (λ n. []))
      × (overrun (codec_of d.scanner) (h ++ q) ≡ overrun_by (rest (codec_of d.scanner) h ++ q) u (λ n. 0))
  settled d h q u st still is all =
      let c = codec_of d.scanner in
      let place : length h - length (rest c h) ≡ d.fed - d.unread = omega (arith, st.fed, st.unread) in
      let a = absorbed c (steady_for d h st) h q (rest c h ++ q) u refl (sym st.skip ∙ still) is all in
      (a.0 ∙ ap (λ n. units c h ++ unit_and n u (λ n. [])) place, a.1, a.2)

  -- what a scanner found, at a stream for which the decoder stands
  abbrev pub Finds : Framing S O → S → List ℕ → Scan → Type 0
  Finds old after s scan = (r : List ℕ) → length r ≡ old.unread → saw old.scanner r → Scanned (codec_of old.scanner) r s scan (saw after)

  -- the unit goes on behind all bytes
  pub took_open : (old new : Framing S O) (s : List ℕ) → old.skip ≡ 0 → Finds old new.scanner s Open → codec_of new.scanner ≡ codec_of old.scanner
      → new.dead ≡ false → new.fed ≡ old.fed + length s → new.unread ≡ old.unread + length s → new.lost ≡ old.lost → new.skip ≡ 0
      → (old.lost ≡ false → bytes_of new.kept ≡ bytes_of old.kept ++ s) → (old.lost ≡ true → bytes_of new.kept ≡ []) → Took codec_of saw old new s []
  took_open old new s still finds codec alive fed unread lost skip kept none = record {
    stands = λ h st.
        let c = codec_of old.scanner in
        let told = finds (rest c h) (sym st.unread) st.seen in
        let a = settled old h s More st still told.0 tt in
        let left : rest (codec_of new.scanner) (h ++ s) ≡ rest c h ++ s = ap (λ k. rest k (h ++ s)) codec ∙ a.1 in
        let W : List ℕ → Type 0 = λ w. saw new.scanner w in record {
          alive = alive;
          fed = omega (arith, fed, st.fed, length-append h s);
          unread = omega (arith, unread, st.unread, ap (λ w. length w) left, length-append (rest c h) s);
          seen = subst W (sym left) told.2;
          skip = skip ∙ sym (ap (λ k. overrun k (h ++ s)) codec ∙ a.2);
          kept = λ not. kept (sym lost ∙ not) ∙ ap (λ w. w ++ s) (st.kept (sym lost ∙ not)) ∙ sym left;
          none = λ gone. none (sym lost ∙ gone);
          hopeless = λ gone t.
              let hope = st.hopeless (sym lost ∙ gone) (s ++ t) in
              let joined : rest c h ++ (s ++ t) ≡ rest (codec_of new.scanner) (h ++ s) ++ t = sym (append_assoc (rest c h) s t) ∙ ap (λ w. w ++ t) (sym left) in
              let H : Codec → List ℕ → Type 0 = λ k w. IsNoFrame (head k w) × ((at : ℕ) → IsFault (last_unit k at w)) in
              let K : Codec → Type 0 = λ k. H k (rest c h ++ (s ++ t)) in
              let L : List ℕ → Type 0 = λ w. H (codec_of new.scanner) w in
              subst L joined (subst K (sym codec) hope);
          bounded = let M : Codec → Type 0 = λ k. length (bytes_of new.kept) ≤ most_kept k in subst M (sym codec) (bounded_by c (bytes_of old.kept) (rest c h) s (bytes_of new.kept) old.lost old.lost refl (λ not. st.kept not) kept (λ gone. none gone) told.1);
        };
    grew = λ h st. (settled old h s More st still (finds (rest (codec_of old.scanner) h) (sym st.unread) st.seen).0 tt).0;
    codec = codec;
    fed = fed;
  }

  -- the unit goes on behind all bytes, and becomes no frame
  pub took_hopeless : (old new : Framing S O) (s : List ℕ) → old.skip ≡ 0 → Finds old new.scanner s Hopeless → codec_of new.scanner ≡ codec_of old.scanner
      → new.dead ≡ false → new.fed ≡ old.fed + length s → new.unread ≡ old.unread + length s → new.lost ≡ true → new.skip ≡ 0 → bytes_of new.kept ≡ [] → Took codec_of saw old new s []
  took_hopeless old new s still finds codec alive fed unread lost skip none = record {
    stands = λ h st.
        let c = codec_of old.scanner in
        let told = finds (rest c h) (sym st.unread) st.seen in
        let a = settled old h s More st still told.0 tt in
        let left : rest (codec_of new.scanner) (h ++ s) ≡ rest c h ++ s = ap (λ k. rest k (h ++ s)) codec ∙ a.1 in
        let W : List ℕ → Type 0 = λ w. saw new.scanner w in
        let K : Codec → Type 0 = λ k. IsHopeless k (rest c h ++ s) in
        let L : List ℕ → Type 0 = λ w. IsHopeless (codec_of new.scanner) w in record {
          alive = alive;
          fed = omega (arith, fed, st.fed, length-append h s);
          unread = omega (arith, unread, st.unread, ap (λ w. length w) left, length-append (rest c h) s);
          seen = subst W (sym left) told.2;
          skip = skip ∙ sym (ap (λ k. overrun k (h ++ s)) codec ∙ a.2);
          kept = λ not. absurd (let clash : true ≡ false = sym lost ∙ not in cc clash);
          none = λ gone. none;
          hopeless = λ gone. subst L (sym left) (subst K (sym codec) told.1);
          bounded = omega (arith, ap length none);
        };
    grew = λ h st. (settled old h s More st still (finds (rest (codec_of old.scanner) h) (sym st.unread) st.seen).0 tt).0;
    codec = codec;
    fed = fed;
  }

  -- a decoder that has nothing open stands for a stream whose units use all of it, or more
  stands_empty : (new : Framing S O) (c : Codec) (w : List ℕ) → codec_of new.scanner ≡ c → new.dead ≡ false → new.fed ≡ length w → new.unread ≡ 0 → bytes_of new.kept ≡ [] → new.lost ≡ false → saw new.scanner []
      → rest c w ≡ [] → new.skip ≡ overrun c w → StandsFor codec_of saw new w
  stands_empty new c w codec alive fed unread none lost seen empty skip =
      let left : rest (codec_of new.scanner) w ≡ [] = ap (λ k. rest k w) codec ∙ empty in
      let W : List ℕ → Type 0 = λ v. saw new.scanner v in record {
        alive = alive;
        fed = fed;
        unread = unread ∙ sym (ap (λ v. length v) left);
        seen = subst W (sym left) seen;
        skip = skip ∙ sym (ap (λ k. overrun k w) codec);
        kept = λ not. none ∙ sym left;
        none = λ gone. none;
        hopeless = λ gone. absurd (let clash : true ≡ false = sym gone ∙ lost in cc clash);
        bounded = omega (arith, ap length none);
      }

  -- hopeless bytes begin no frame
  pub not_lost : (old : Framing S O) (h s : List ℕ) (used front back : ℕ) (after : S) → StandsFor codec_of saw old h → (lost : Bool) → old.lost ≡ lost
      → Scanned (codec_of old.scanner) (rest (codec_of old.scanner) h) s (Frame used front back) (saw after) → old.lost ≡ false
  not_lost old h s used front back after st false is told = is
  not_lost old h s used front back after st true is told =
      let N : Head → Type 0 = IsNoFrame in
      absurd (subst N told.2 (st.hopeless is (take used s)).0)

  -- what is cut out of the bytes that are kept lies within them
  pub frame_within : (old : Framing S O) (h s : List ℕ) (used front back : ℕ) (after : S) → StandsFor codec_of saw old h → Finds old after s (Frame used front back)
      → (used ≤ length s) × (front + back ≤ length (bytes_of old.kept) + used)
  frame_within old h s used front back after st finds =
      let told = finds (rest (codec_of old.scanner) h) (sym st.unread) st.seen in
      let all = st.kept (not_lost old h s used front back after st old.lost refl told) in
      (told.0, omega (arith, told.1, ap (λ w. length w) all))

  pub frame_used : (old : Framing S O) (h s : List ℕ) (used front back : ℕ) (after : S) → StandsFor codec_of saw old h → Finds old after s (Frame used front back) → (0 < used) × (used ≤ length s)
  frame_used old h s used front back after st finds =
      let c = codec_of old.scanner in
      let told = finds (rest c h) (sym st.unread) st.seen in
      (frame_ends c (rest c h) s _ used _ (rest_open c (steady_for old h st) (length h) h (omega arith)) told.2, told.0)

  pub fault_used : (old : Framing S O) (h s : List ℕ) (kind : FaultKind) (used over : ℕ) (after : S) → StandsFor codec_of saw old h → Finds old after s (Fault kind used over) → (0 < used) × (used ≤ length s)
  fault_used old h s kind used over after st finds =
      let c = codec_of old.scanner in
      let told = finds (rest c h) (sym st.unread) st.seen in
      (fault_ends c (rest c h) s kind used _ (rest_open c (steady_for old h st) (length h) h (omega arith)) told.1, told.0)

  -- the unit ends as a frame
  pub took_frame : (old new : Framing S O) (used front back : ℕ) (s bytes : List ℕ) → used ≤ length s → old.skip ≡ 0 → Finds old new.scanner s (Frame used front back) → codec_of new.scanner ≡ codec_of old.scanner
      → bytes ≡ inner front back (bytes_of old.kept ++ take used s)
      → new.dead ≡ false → new.fed ≡ old.fed + used → new.unread ≡ 0 → bytes_of new.kept ≡ [] → new.lost ≡ old.lost → new.skip ≡ 0
      → Took codec_of saw old new (take used s) (FrameAt (old.fed - old.unread) bytes ∷ [])
  took_frame old new used front back s bytes within still finds codec content alive fed unread none lost skip = record {
    stands = λ h st.
        let c = codec_of old.scanner in
        let r = rest c h in
        let told = finds r (sym st.unread) st.seen in
        let size : length (take used s) ≡ used = length-take-le used s told.0 in
        let all : length (r ++ take used s) ≡ length r + used = length-append r (take used s) ∙ ap (λ n. length r + n) size in
        let a = settled old h (take used s) (Whole (inner front back (r ++ take used s)) (length r + used)) st still told.2 (omega (arith, all)) in
        let over : overrun_by (r ++ take used s) (Whole (inner front back (r ++ take used s)) (length r + used)) (λ n. 0) ≡ 0 = omega (arith, all) in
        stands_empty new c (h ++ take used s) codec alive (omega (arith, fed, st.fed, length-append h (take used s), size)) unread none (lost ∙ not_lost old h s used front back new.scanner st old.lost refl told) told.3 a.1 (skip ∙ sym over ∙ sym a.2);
    grew = λ h st.
        let c = codec_of old.scanner in
        let r = rest c h in
        let told = finds r (sym st.unread) st.seen in
        let size : length (take used s) ≡ used = length-take-le used s told.0 in
        let all : length (r ++ take used s) ≡ length r + used = length-append r (take used s) ∙ ap (λ n. length r + n) size in
        let a = settled old h (take used s) (Whole (inner front back (r ++ take used s)) (length r + used)) st still told.2 (omega (arith, all)) in
        let is : bytes ≡ inner front back (r ++ take used s) = content ∙ ap (λ w. inner front back (w ++ take used s)) (st.kept (not_lost old h s used front back new.scanner st old.lost refl told)) in
        a.0 ∙ ap (λ b. units c h ++ FrameAt (old.fed - old.unread) b ∷ []) (sym is);
    codec = codec;
    fed = fed ∙ ap (λ n. old.fed + n) (sym (length-take-le used s within));
  }

  -- the unit is a fault
  pub took_fault : (old new : Framing S O) (kind : FaultKind) (used over : ℕ) (s : List ℕ) → used ≤ length s → old.skip ≡ 0 → Finds old new.scanner s (Fault kind used over) → codec_of new.scanner ≡ codec_of old.scanner
      → new.dead ≡ false → new.fed ≡ old.fed + used → new.unread ≡ 0 → bytes_of new.kept ≡ [] → new.lost ≡ false → new.skip ≡ over
      → Took codec_of saw old new (take used s) (FaultAt (old.fed - old.unread) kind ∷ [])
  took_fault old new kind used over s within still finds codec alive fed unread none lost skip = record {
    stands = λ h st.
        let c = codec_of old.scanner in
        let r = rest c h in
        let told = finds r (sym st.unread) st.seen in
        let size : length (take used s) ≡ used = length-take-le used s told.0 in
        let all : length (r ++ take used s) ≡ length r + used = length-append r (take used s) ∙ ap (λ n. length r + n) size in
        let a = settled old h (take used s) (Bad kind (length r + used + over)) st still told.1 (omega (arith, all)) in
        let left : overrun_by (r ++ take used s) (Bad kind (length r + used + over)) (λ n. 0) ≡ over = omega (arith, all) in
        stands_empty new c (h ++ take used s) codec alive (omega (arith, fed, st.fed, length-append h (take used s), size)) unread none lost told.2 a.1 (skip ∙ sym left ∙ sym a.2);
    grew = λ h st.
        let c = codec_of old.scanner in
        let r = rest c h in
        let told = finds r (sym st.unread) st.seen in
        let size : length (take used s) ≡ used = length-take-le used s told.0 in
        let all : length (r ++ take used s) ≡ length r + used = length-append r (take used s) ∙ ap (λ n. length r + n) size in
        (settled old h (take used s) (Bad kind (length r + used + over)) st still told.1 (omega (arith, all))).0;
    codec = codec;
    fed = fed ∙ ap (λ n. old.fed + n) (sym (length-take-le used s within));
  }

  -- the end of a stream that leaves nothing open adds nothing
  pub ended_closed : (d : Framing S O) (h : List ℕ) → StandsFor codec_of saw d h → d.unread ≡ 0 → ended (codec_of d.scanner) h ≡ units (codec_of d.scanner) h ++ []
  ended_closed d h st none =
      let c = codec_of d.scanner in
      ap (λ w. units c h ++ w) (nothing_open c (length h - length (rest c h)) (rest c h) (sym st.unread ∙ none))

  -- what the end of a stream makes of an open unit
  last_open : (d : Framing S O) (h : List ℕ) (last : Option FaultKind) → StandsFor codec_of saw d h → 0 < d.unread
      → ((r : List ℕ) (at : ℕ) → length r ≡ d.unread → saw d.scanner r → last_unit (codec_of d.scanner) at r ≡ last_of at r last)
      → ended (codec_of d.scanner) h ≡ units (codec_of d.scanner) h ++ last_of (d.fed - d.unread) (rest (codec_of d.scanner) h) last ∷ []
  last_open d h last st some finds =
      let c = codec_of d.scanner in
      let place : length h - length (rest c h) ≡ d.fed - d.unread = omega (arith, st.fed, st.unread) in
      ap (λ w. units c h ++ w) (something_open c (length h - length (rest c h)) (rest c h) (omega (arith, st.unread)))
      ∙ ap (λ u. units c h ++ u ∷ []) (finds (rest c h) (length h - length (rest c h)) (sym st.unread) st.seen ∙ ap (λ n. last_of n (rest c h) last) place)

  -- the end of a stream makes a fault of an open unit
  pub ended_fault : (d : Framing S O) (h : List ℕ) (kind : FaultKind) → StandsFor codec_of saw d h → 0 < d.unread
      → ((r : List ℕ) (at : ℕ) → length r ≡ d.unread → saw d.scanner r → last_unit (codec_of d.scanner) at r ≡ last_of at r (Some kind))
      → ended (codec_of d.scanner) h ≡ units (codec_of d.scanner) h ++ FaultAt (d.fed - d.unread) kind ∷ []
  ended_fault d h kind st some finds = last_open d h (Some kind) st some finds

  pub kept_at_end : (d : Framing S O) (h : List ℕ) (lost : Bool) → d.lost ≡ lost → StandsFor codec_of saw d h
      → ((r : List ℕ) (at : ℕ) → length r ≡ d.unread → saw d.scanner r → last_unit (codec_of d.scanner) at r ≡ last_of at r None) → bytes_of d.kept ≡ rest (codec_of d.scanner) h
  kept_at_end d h false is st finds = st.kept is
  kept_at_end d h true is st finds =
      let c = codec_of d.scanner in
      let F : List ℕ → Type 0 = λ w. IsFault (last_unit c 0 w) in
      let G : FramingUnit → Type 0 = IsFault in
      absurd (subst G (finds (rest c h) 0 (sym st.unread) st.seen) (subst F (append-nil (rest c h)) ((st.hopeless is []).1 0)))

  -- the end of a stream makes a frame of an open unit
  pub ended_frame : (d : Framing S O) (h : List ℕ) → StandsFor codec_of saw d h → 0 < d.unread
      → ((r : List ℕ) (at : ℕ) → length r ≡ d.unread → saw d.scanner r → last_unit (codec_of d.scanner) at r ≡ last_of at r None)
      → ended (codec_of d.scanner) h ≡ units (codec_of d.scanner) h ++ FrameAt (d.fed - d.unread) (bytes_of d.kept) ∷ []
  ended_frame d h st some finds =
      last_open d h None st some finds ∙ ap (λ b. units (codec_of d.scanner) h ++ FrameAt (d.fed - d.unread) b ∷ []) (sym (kept_at_end d h d.lost refl st finds))
