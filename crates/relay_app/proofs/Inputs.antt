-- An input that is read, and what a run makes of it.
use Rattle.std.proofs.Common.{◌≡◌, ℕ, ◌+◌, ◌<◌, ◌≤◌, Bool, true, false, List, [], ◌∷◌, ◌++◌, Option, Some, None, Result, Ok, Err, length, take, refl, sym, ap, ◌∙◌, subst, append_assoc, append-nil, arith, length-append, inl, inr}
use Rattle.std.specs.Prelude.{◌⊎◌, nat_lt, nat_le, ◌==◌, ◌&&◌, IfSome, if◌then◌else◌}
use Rattle.std.specs.Result.{OnErr}
use Rattle.std.proofs.lemmas.Bool.{lt-ltb, le-ltb, le-leb, lt-leb, ne_eqb}
use Rattle.std.proofs.lemmas.List.{take_all}
use Rattle.std.proofs.Math.Seq.{take-append_seam}
use Rattle.frame_head.specs.declared.codecs.Codec.{Codec}
use Rattle.frame_head.specs.Codecs.{fault_of}
use Rattle.frame_head.specs.Laws.{StableUnits}
use Rattle.frame_head.specs.Units.{units}
use Rattle.frame_rule.specs.Decoding.{Decoding}
use Rattle.relay_ports.specs.States.{SourceState, SinkState, IsFreshSource}
use Rattle.relay_ports.specs.Told.{counted, grown}
use Rattle.buffered_io.specs.declared.reading.Filled.{Filled}
use Rattle.buffered_io.specs.declared.reading.Filled.TheVariants.{Full, Ended, Broken}
use Rattle.buffered_io.specs.declared.reading.Stop.{Stop}
use Rattle.buffered_io.specs.declared.reading.Stop.TheVariants.{End, Failure, Limit}
use Rattle.buffered_io.specs.Reading.{Read, ReadFailing, IsAtEnd}
use Rattle.buffered_io.proofs.Prints.{wrote_nothing}
use Rattle.input_pieces.specs.declared.reader.NoPiece.{NoPiece}
use Rattle.input_pieces.specs.declared.reader.NoPiece.TheVariants.{Stopped, NoMemory}
use Rattle.input_pieces.specs.Pieces.{Reading, HasRead, ReadsNone, ReadsSoFar, ReadsTo, new_reading, stop_behind}
use Rattle.relay_app.specs.declared.status.Status.{Status}
use Rattle.relay_app.specs.declared.status.Status.TheVariants as status
use Rattle.relay_app.specs.Cutting.{Cutting, HasCut, Interrupted, IsStopOf, Closes, ReadsAndReports, is_end, status_at}
use Rattle.relay_app.specs.Framing.{framing}
use Rattle.relay_app.specs.Inputs.{intake, is_whole, none_left, status_of, stream_or}
use Rattle.relay_app.specs.Reports.{Reports, ReportsPart, report_status}
use Rattle.relay_app.specs.Runs.{Command, ReportsText, fault_in, text_of}
use Rattle.relay_app.specs.Text.{unit_lines}
use Rattle.relay_app.proofs.Cuts.{part_reported, same_part, text_from}

pub on_err : {T E : Type 0} (r : Result T E) {P : Type 0} → P → OnErr r P
on_err (Ok x) {P} p = tt
on_err (Err e) {P} p = p

module _ {S : Type 0} {at : S → SourceState} where
  -- a reading that stopped
  pub stopped_so : {block limit : ℕ} {s : SourceState} {h : List ℕ} (r : Reading S) (stop : Stop) → r.stop ≡ Some stop → HasRead at block limit s h r → ReadsTo block limit stop h s (at r.input)
  stopped_so {block} {limit} {s} {h} r stop is has = let P : Option Stop → Type 0 = λ o. ReadsSoFar block limit o h s (at r.input) in subst P is has.came

  -- no more than the limit was read
  pub within_limit : {block limit : ℕ} {s : SourceState} {h : List ℕ} (r : Reading S) → HasRead at block limit s h r → r.read ≤ limit
  within_limit {block} {limit} {s} {h} r has = omega (arith, has.bytes, by r.stop has.came)
    where
      by : (o : Option Stop) → ReadsSoFar block limit o h s (at r.input) → length h ≤ limit
      by None c = c.1
      by (Some End) c = c.2
      by (Some Failure) c = c.1
      by (Some Limit) c = omega (arith, c.2)

  -- a new reader has read nothing, by its own sizes
  pub own_read : (r : Reading S) (input : S) (block limit : ℕ) → r ≡ new_reading input block limit → HasRead at block limit (at input) [] r → HasRead at r.block r.limit (at r.input) [] r
  own_read r input block limit is has =
      let P : Reading S → Type 0 = λ x. HasRead at x.block x.limit (at x.input) [] x in
      let Q : Reading S → Type 0 = λ x. HasRead at block limit (at input) [] x in
      subst P (sym is) (subst Q is has)

module _ {D : Type 0} {state : D → Decoding} {stands : D → List ℕ → Type 0} where
  -- the codec under another name
  pub recode : {codec : Codec} {w : SinkState} {h : List ℕ} {c : Cutting D} {v : SinkState} → HasCut state stands codec w h c v → HasCut state stands (state c.decoder).codec w h c v
  recode {codec} {w} {h} {c} {v} s = let P : Codec → Type 0 = λ x. HasCut state stands x w h c v in subst P (sym s.codec_same) s

  -- what was read when memory was refused for the pieces of a piece
  pub interrupted : {S : Type 0} {at : S → SourceState} {codec : Codec} {block limit : ℕ} {w : SinkState} {h : List ℕ} {c : Cutting D} {v u : SinkState} {s : SourceState} (r : Reading S) (bytes : List ℕ) (filled : Filled)
      → HasCut state stands codec w h c v → u ≡ v → r.stop ≡ stop_behind filled → HasRead at block limit s (h ++ bytes) r → Interrupted codec block limit s (at r.input) w u
  interrupted {at = at} {codec} {block} {limit} {w} {h} {c} {v} {u} {s} r bytes filled cut same stop has =
      let P : SinkState → Type 0 = λ x. ReportsPart (unit_lines (units codec h)) w x in
      let O : Option Stop → Type 0 = λ o. ReadsSoFar block limit o (h ++ bytes) s (at r.input) in
      let come = came filled (subst O stop has.came) in
      record {
        h = h;
        more = bytes;
        read = come.0;
        within = come.1;
        part = subst P (sym same) (same_part (append-nil (unit_lines (units codec h))) (part_reported [] cut.found.printed));
      }
    where
      came : (f : Filled) → ReadsSoFar block limit (stop_behind f) (h ++ bytes) s (at r.input) → (Read block (h ++ bytes) s (at r.input) ⊎ ReadFailing block (h ++ bytes) s (at r.input)) × (length (h ++ bytes) ≤ limit)
      came Full b = (inl b.0, b.1)
      came Ended b = (inl b.0, b.2)
      came Broken b = (inr b.0, b.1)

  -- memory was refused before a piece
  pub interrupted_before : {S : Type 0} {at : S → SourceState} {codec : Codec} {block limit : ℕ} {w : SinkState} {h : List ℕ} {c : Cutting D} {v : SinkState} {s : SourceState} (r : Reading S)
      → HasCut state stands codec w h c v → r.stop ≡ None → HasRead at block limit s h r → Interrupted codec block limit s (at r.input) w v
  interrupted_before {at = at} {codec} {block} {limit} {w} {h} {c} {v} {s} r cut on has =
      let H : List ℕ → Type 0 = λ x. HasRead at block limit s x r in
      interrupted r [] Full cut refl on (subst H (sym (append-nil h)) has)

  -- there was no piece, and not since the reading stopped
  pub interrupted_none : {S E : Type 0} {at : S → SourceState} {codec : Codec} {block limit : ℕ} {w : SinkState} {h : List ℕ} {c : Cutting D} {v : SinkState} {s : SourceState} (old new : Reading S) (none : NoPiece) (r : Result Stop E)
      → IsStopOf none r → ReadsNone at none old new → HasCut state stands codec w h c v → HasRead at block limit s h old → OnErr r (Interrupted codec block limit s (at new.input) w v)
  interrupted_none old new (Stopped stop) (Ok why) is none cut has = tt
  interrupted_none old new (Stopped stop) (Err e) is none cut has = absurd is
  interrupted_none old new NoMemory (Ok why) is none cut has = absurd is
  interrupted_none {S} {E} {at} {codec} {block} {limit} {w} {h} {c} {v} {s} old new NoMemory (Err e) is none cut has =
      let P : Reading S → Type 0 = λ x. Interrupted codec block limit s (at x.input) w v in
      subst P (sym none.0) (interrupted_before old cut none.1 has)

-- what an input gave that had given nothing before
told_of : (s t : SourceState) (bytes : List ℕ) → IsFreshSource s → t.given ≡ grown s.given bytes → IfSome t.given (λ xs. xs ≡ bytes)
told_of s t bytes fresh is = by s.given fresh.0 t.given is
  where
    by : (a : Option (List ℕ)) → IfSome a (λ xs. xs ≡ []) → (b : Option (List ℕ)) → b ≡ grown a bytes → IfSome b (λ xs. xs ≡ bytes)
    by None none b e = let P : Option (List ℕ) → Type 0 = λ o. IfSome o (λ xs. xs ≡ bytes) in subst P (sym e) tt
    by (Some ys) none b e = let P : Option (List ℕ) → Type 0 = λ o. IfSome o (λ xs. xs ≡ bytes) in subst P (sym e) (ap (λ y. y ++ bytes) none)

-- the whole input was read
whole_at_end : (limit : ℕ) (given : List ℕ) (t : SourceState) → t.faults ≡ 0 → length given ≤ limit → IsAtEnd t → is_whole (intake limit given t) ≡ true
whole_at_end limit given t none within at_end = by (t.faults == 0) (nat_le (length given) limit) t.left (rw none refl) (le-leb (length given) limit within) at_end
  where
    by : (a b : Bool) (left : Option (List ℕ)) → a ≡ true → b ≡ true → IfSome left (λ xs. xs ≡ []) → ((a && b) && none_left left) ≡ true
    by a b None x y z = rw (x, y) refl
    by a b (Some xs) x y z = rw (x, y, z) refl

not_whole : (a b : Bool) (d : Bool) → (a ≡ false) ⊎ (b ≡ false) → ((a && b) && d) ≡ false
not_whole false b d h = refl
not_whole true false d h = refl
not_whole true true d (inl h) = absurd (cc h)
not_whole true true d (inr h) = absurd (cc h)

-- the report and the status of a run are those of where its reading stopped
pub record Agrees (c : Command) (limit : ℕ) (stop : Stop) (h given : List ℕ) (t : SourceState) : Type 0 where
  pub text_is : c.text h (is_end stop) ≡ text_of c (intake limit given t)
  pub status_is : (next : Status) → status_at stop (c.fault h (is_end stop)) next ≡ status_of (intake limit given t) (fault_in c (intake limit given t)) next
  pub most : length given ≤ limit + 1
  pub to_end : t.faults ≡ 0 → length given ≤ limit → IsAtEnd t

same_text : (c : Command) (limit : ℕ) (whole : Bool) (h given : List ℕ) (t : SourceState) → take limit given ≡ h → is_whole (intake limit given t) ≡ whole → c.text h whole ≡ text_of c (intake limit given t)
same_text c limit whole h given t read is = sym (ap (λ r. c.text r (is_whole (intake limit given t))) read ∙ ap (λ b. c.text h b) is)

same_fault : (c : Command) (limit : ℕ) (whole : Bool) (h given : List ℕ) (t : SourceState) → take limit given ≡ h → is_whole (intake limit given t) ≡ whole → c.fault h whole ≡ c.fault (take limit given) (is_whole (intake limit given t))
same_fault c limit whole h given t read is = sym (ap (λ r. c.fault r (is_whole (intake limit given t))) read ∙ ap (λ b. c.fault h b) is)

-- the first of the statuses
not_first : (a b : Bool) (x y : Status) → a ≡ false → b ≡ false → x ≡ y → x ≡ (if a then status.Source else if b then status.Limit else y)
not_first a b x y p q e = rw (p, q) e

is_source : (a : Bool) (y : Status) → a ≡ true → status.Source ≡ (if a then status.Source else y)
is_source a y e = rw e refl

is_limit : (a b : Bool) (y : Status) → a ≡ false → b ≡ true → status.Limit ≡ (if a then status.Source else if b then status.Limit else y)
is_limit a b y p q = rw (p, q) refl

pub agrees_end : (c : Command) (limit : ℕ) (h : List ℕ) (t : SourceState) → t.faults ≡ 0 → length h ≤ limit → IsAtEnd t → Agrees c limit End h h t
agrees_end c limit h t none within at_end =
    let read : take limit h ≡ h = take_all limit h within in
    let whole : is_whole (intake limit h t) ≡ true = whole_at_end limit h t none within at_end in
    record {
      text_is = same_text c limit true h h t read whole;
      status_is = λ next. not_first (nat_lt 0 t.faults) (nat_lt limit (length h)) _ _ (rw none refl) (le-ltb limit (length h) within) (ap (λ f. stream_or next f) (same_fault c limit true h h t read whole));
      most = omega (arith, within);
      to_end = λ _ _. at_end;
    }

agrees_failure : (c : Command) (limit : ℕ) (h : List ℕ) (t : SourceState) → 0 < t.faults → length h ≤ limit → Agrees c limit Failure h h t
agrees_failure c limit h t some within =
    let read : take limit h ≡ h = take_all limit h within in
    let whole : is_whole (intake limit h t) ≡ false = not_whole (t.faults == 0) (nat_le (length h) limit) (none_left t.left) (inl (ne_eqb t.faults 0 (λ q. omega (arith, q, some)))) in
    let first : nat_lt 0 t.faults ≡ true = lt-ltb 0 t.faults some in
    record {
      text_is = same_text c limit false h h t read whole;
      status_is = λ next. is_source (nat_lt 0 t.faults) _ first;
      most = omega (arith, within);
      to_end = λ none _. absurd (omega (arith, none, some));
    }

agrees_limit : (c : Command) (limit : ℕ) (h : List ℕ) (x : ℕ) (t : SourceState) → t.faults ≡ 0 → length h ≡ limit → Agrees c limit Limit h (h ++ x ∷ []) t
agrees_limit c limit h x t none full =
    let long : length (h ++ x ∷ []) ≡ limit + 1 = omega (arith, length-append h (x ∷ []), full) in
    let read : take limit (h ++ x ∷ []) ≡ h = ap (λ n. take n (h ++ x ∷ [])) (sym full) ∙ take-append_seam h (x ∷ []) in
    let whole : is_whole (intake limit (h ++ x ∷ []) t) ≡ false = not_whole (t.faults == 0) (nat_le (length (h ++ x ∷ [])) limit) (none_left t.left) (inr (lt-leb (length (h ++ x ∷ [])) limit (omega (arith, long)))) in
    record {
      text_is = same_text c limit false h (h ++ x ∷ []) t read whole;
      status_is = λ next. is_limit (nat_lt 0 t.faults) (nat_lt limit (length (h ++ x ∷ []))) _ (rw none refl) (lt-ltb limit (length (h ++ x ∷ [])) (omega (arith, long)));
      most = omega (arith, long);
      to_end = λ _ within. absurd (omega (arith, within, long));
    }

-- a run that ends as its reading stopped
run_from : {c : Command} {limit : ℕ} {stop : Stop} {h given : List ℕ} (s t : SourceState) {w v : SinkState} {status : Status}
    → IsFreshSource s → t.given ≡ grown s.given given → t.after ≡ s.after → Agrees c limit stop h given t → Closes c stop h w v status → ReadsAndReports c limit t w v status
run_from {c} {limit} {stop} {h} {given} s t {w} {v} {status} fresh gave after a closes = (
  given,
  record {
    told = told_of s t given fresh gave;
    most = a.most;
    after = after ∙ fresh.2;
    to_end = λ none within. inr (a.to_end none within);
  },
  by closes,
)
  where
    by : Closes c stop h w v status → ReportsText c (intake limit given t) w v status
    by (inl done) = let R : List ℕ → Type 0 = λ x. Reports done.failed x w v in inl (record {
      failed = done.failed;
      reports = subst R a.text_is done.reports;
      named = done.named ∙ a.status_is (report_status done.failed);
    })
    by (inr part) = inr (record { part = same_part a.text_is part.part; memory = part.memory })

-- an input was read as far as it went, and the report was closed
pub closing : (c : Command) (block limit : ℕ) (stop : Stop) (h : List ℕ) (s t : SourceState) {w v : SinkState} {status : Status}
    → IsFreshSource s → ReadsTo block limit stop h s t → Closes c stop h w v status → ReadsAndReports c limit t w v status
closing c block limit End h s t {w} {v} {status} fresh r closes =
    run_from s t fresh (ap (λ (x : SourceState). x.given) r.0.state) (r.0.after fresh.1)
    (agrees_end c limit h t (ap (λ (x : SourceState). x.faults) r.0.state ∙ fresh.1) r.2 r.1) closes
closing c block limit Failure h s t {w} {v} {status} fresh r closes =
    run_from s t fresh (ap (λ (x : SourceState). x.given) r.0.state) (r.0.after fresh.1)
    (agrees_failure c limit h t (omega (arith, ap (λ (x : SourceState). x.faults) r.0.state ∙ ap counted fresh.1)) r.1) closes
closing c block limit Limit h s t {w} {v} {status} fresh r closes =
    run_from s t fresh (ap (λ (x : SourceState). x.given) r.1.state) (r.1.after fresh.1)
    (agrees_limit c limit h r.0 t (ap (λ (x : SourceState). x.faults) r.1.state ∙ fresh.1) r.2) closes

-- memory was refused before the first read
pub starved_at_once : (c : Command) (limit : ℕ) (t : SourceState) (w : SinkState) → IsFreshSource t → ReadsAndReports c limit t w w status.Memory
starved_at_once c limit t w fresh = (
  [],
  record { told = fresh.0; most = omega arith; after = fresh.2; to_end = λ _ _. inl refl },
  inr (record {
    part = record { front = []; lost = text_of c (intake limit [] t); both = refl; failed = false; reports = wrote_nothing w };
    memory = refl;
  }),
)

-- memory was refused later
pub starved_on : (codec : Codec) {block limit : ℕ} (s : SourceState) {t : SourceState} {w v : SinkState} → StableUnits → fault_of codec ≡ None
    → IsFreshSource s → Interrupted codec block limit s t w v → ReadsAndReports (framing codec) limit t w v status.Memory
starved_on codec {block} {limit} s {t} {w} {v} stable checked fresh i =
    let given : List ℕ = i.h ++ i.more in
    let read : take limit given ≡ given = take_all limit given i.within in
    let longer = text_from codec i.h given (is_whole (intake limit given t)) (stable codec checked i.h i.more).1 in (
      given,
      record {
        told = told_of s t given fresh (gave i.read);
        most = omega (arith, i.within);
        after = silent i.read ∙ fresh.2;
        to_end = λ _ _. inl refl;
      },
      inr (record {
        part = same_part (longer.1 ∙ same_text (framing codec) limit (is_whole (intake limit given t)) given given t read refl) (more longer.0);
        memory = refl;
      }),
    )
  where
    gave : Read block (i.h ++ i.more) s t ⊎ ReadFailing block (i.h ++ i.more) s t → t.given ≡ grown s.given (i.h ++ i.more)
    gave (inl r) = ap (λ (x : SourceState). x.given) r.state
    gave (inr r) = ap (λ (x : SourceState). x.given) r.state

    silent : Read block (i.h ++ i.more) s t ⊎ ReadFailing block (i.h ++ i.more) s t → t.after ≡ s.after
    silent (inl r) = r.after fresh.1
    silent (inr r) = r.after fresh.1

    more : (xs : List ℕ) → ReportsPart (unit_lines (units codec i.h) ++ xs) w v
    more xs = record {
      front = i.part.front;
      lost = i.part.lost ++ xs;
      both = ap (λ x. x ++ xs) i.part.both ∙ append_assoc i.part.front i.part.lost xs;
      failed = i.part.failed;
      reports = i.part.reports;
    }
