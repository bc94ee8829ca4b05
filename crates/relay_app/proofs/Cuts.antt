-- A stream that is being cut.
use Rattle.std.proofs.Common.{◌≡◌, ℕ, ◌+◌, ◌-◌, Bool, true, false, List, [], ◌∷◌, ◌++◌, Option, Result, Ok, Err, length, refl, sym, ap, ◌∙◌, subst, append_assoc, append-nil, length-append, inl, inr}
use Rattle.std.specs.Result.{OnErr, OnOk, is_err}
use Rattle.frame_head.specs.declared.codecs.Codec.{Codec}
use Rattle.frame_head.specs.Laws.{Extends}
use Rattle.frame_head.specs.Heads.{FramingUnit}
use Rattle.frame_head.specs.Units.{units, ended, units_of_end, rest}
use Rattle.frame_rule.specs.declared.decoder.FeedFault.{FeedFault}
use Rattle.frame_rule.specs.declared.unit.FrameUnit.{FrameUnit}
use Rattle.frame_rule.specs.Decoding.{Decoding, Fed, TakesIn, TakesEnd}
use Rattle.frame_rule.specs.Units.{Grew, units_of}
use Rattle.relay_ports.specs.States.{SinkState}
use Rattle.buffered_io.specs.declared.reading.Stop.{Stop}
use Rattle.buffered_io.specs.Writing.{Waiting, PrintsTo, outlet}
use Rattle.buffered_io.proofs.Prints.{prints_both, prints_nothing, prints_same, same_wrote}
use Rattle.relay_app.specs.declared.status.Status.{Status}
use Rattle.relay_app.specs.declared.status.Status.TheVariants.{Memory}
use Rattle.relay_app.specs.declared.stream_fault.StreamFault.{StreamFault}
use Rattle.relay_app.specs.Cutting.{Cutting, HasUnits, HasCut, TakesUnits, Closes, is_end, status_at, unprinted}
use Rattle.relay_app.specs.Framing.{framing, units_read}
use Rattle.relay_app.specs.Noting.{fault_after, first_fault}
use Rattle.relay_app.specs.Reports.{Reports, ReportsPart, report_status}
use Rattle.relay_app.specs.Text.{unit_line, unit_lines, end_line}
use Rattle.relay_app.proofs.Noted.{fault_after-append, fault_after_nothing, first_fault-append}
use Rattle.relay_app.proofs.Texts.{lines-append}

module _ {D : Type 0} where
  -- no units were taken
  pub takes_nothing : (c : Cutting D) (v : SinkState) → TakesUnits [] c v c v
  takes_nothing c v = record { state = λ i. record c { fault = fault_after_nothing c.fault i }; prints = prints_nothing (outlet c.waiting v) }

  -- one unit more was taken
  pub takes_more : {us : List FramingUnit} {c : Cutting D} {v : SinkState} (dec : D) (p q : Waiting) (f g : Option StreamFault) (read held : ℕ) {u t : SinkState} (unit : FramingUnit)
      → TakesUnits us c v (record { decoder = dec; waiting = p; fault = f; read = read; held = held }) u
      → PrintsTo (unit_line unit) (outlet p u) (outlet q t) → g ≡ fault_after f (unit ∷ [])
      → TakesUnits (us ++ unit ∷ []) c v (record { decoder = dec; waiting = q; fault = g; read = read; held = held }) t
  takes_more {us} {c} {v} dec p q f g read held {u} {t} unit takes prints fault = record {
    state = λ i. record {
      decoder = ap (λ (x : Cutting D). x.decoder) takes.state i;
      waiting = q;
      fault = (fault ∙ ap (λ x. fault_after x (unit ∷ [])) (ap (λ (x : Cutting D). x.fault) takes.state) ∙ fault_after-append c.fault us (unit ∷ [])) i;
      read = ap (λ (x : Cutting D). x.read) takes.state i;
      held = ap (λ (x : Cutting D). x.held) takes.state i;
    };
    prints = prints_same (ap (λ w. unit_lines us ++ w) (sym (append-nil (unit_line unit))) ∙ sym (lines-append us (unit ∷ []))) (prints_both takes.prints prints);
  }

  -- more units were printed and noted
  pub units_on : {w : SinkState} {us vs all : List FramingUnit} {c d : Cutting D} {v u : SinkState} → HasUnits w us c v → TakesUnits vs c v d u → all ≡ us ++ vs → HasUnits w all d u
  units_on {w} {us} {vs} {all} {c} {d} {v} {u} has takes is = record {
    printed = prints_same (sym (lines-append us vs) ∙ ap unit_lines (sym is)) (prints_both has.printed takes.prints);
    noted = ap (λ (x : Cutting D). x.fault) takes.state ∙ ap (λ f. fault_after f vs) has.noted ∙ sym (first_fault-append us vs) ∙ ap first_fault (sym is);
  }

-- the units that a decoder added
added : {some all : List FramingUnit} {start found : List FrameUnit} → start ≡ [] → Grew some all start found → all ≡ some ++ units_of found
added {some} {all} {start} {found} none grew = grew.units ∙ ap (λ w. some ++ units_of w) (sym (grew.haul ∙ ap (λ w. w ++ grew.added) none))

-- a decoder that took a piece goes by the same codec
pub codec_stays : {U : Type 0} (n : ℕ) (old new : Decoding) (r : Result U FeedFault) → false ≡ is_err r → Fed n old new r → new.codec ≡ old.codec
codec_stays n old new (Ok u) is fed = ap (λ (d : Decoding). d.codec) fed.1
codec_stays n old new (Err e) is fed = absurd (cc is)

module _ {D : Type 0} {state : D → Decoding} {stands : D → List ℕ → Type 0} where
  -- a block was cut
  pub cut_on : {codec : Codec} {w : SinkState} {h : List ℕ} {c d e : Cutting D} {v u : SinkState} {bytes : List ℕ} {found shown : List FrameUnit} (count held : ℕ)
      → HasCut state stands codec w h c v → d ≡ record c { decoder = d.decoder; held = 0 } → (state d.decoder).codec ≡ (state c.decoder).codec
      → TakesIn (stands c.decoder) (stands d.decoder) (state c.decoder).codec bytes [] found
      → shown ≡ found → TakesUnits (units_of shown) d v e u → count ≡ length bytes
      → HasCut state stands codec w (h ++ bytes) (record e { read = e.read + count; held = held }) u
  cut_on {codec} {w} {h} {c} {d} {e} {v} {u} {bytes} {found} {shown} count held s same kept took same_found takes counted =
      let C : Codec → Type 0 = λ x. Grew (units x h) (units x (h ++ bytes)) [] found in
      let M : D → Type 0 = λ x. stands x (h ++ bytes) in
      let P : Cutting D → Type 0 = λ x. PrintsTo (unit_lines (units codec h)) (unprinted w) (outlet x.waiting v) in
      let decoded : e.decoder ≡ d.decoder = ap (λ (x : Cutting D). x.decoder) takes.state in
      let before : HasUnits w (units codec h) d v = record { printed = subst P (sym same) s.found.printed; noted = ap (λ (x : Cutting D). x.fault) same ∙ s.found.noted } in
      let has : HasUnits w (units codec (h ++ bytes)) e u = units_on before takes (added refl (subst C s.codec_same (took.grew h s.fed)) ∙ ap (λ us. units codec h ++ units_of us) (sym same_found)) in
      record {
        codec_same = ap (λ x. (state x).codec) decoded ∙ kept ∙ s.codec_same;
        fed = subst M (sym decoded) (took.stands h s.fed);
        found = record { printed = has.printed; noted = has.noted };
        read = ap (λ n. n + count) (ap (λ (x : Cutting D). x.read) takes.state ∙ ap (λ (x : Cutting D). x.read) same ∙ s.read) ∙ ap (λ n. length h + n) counted ∙ sym (length-append h bytes);
      }

  -- what the last piece left was let go
  pub let_go : {codec : Codec} {w : SinkState} {h : List ℕ} (c d : Cutting D) {v : SinkState} → d ≡ record c { held = 0 } → HasCut state stands codec w h c v → HasCut state stands codec w h d v
  let_go {codec} {w} {h} c d {v} is s =
      let P : Cutting D → Type 0 = λ x. HasCut state stands codec w h x v in
      subst P (sym is) (record {
        codec_same = s.codec_same;
        fed = s.fed;
        found = record { printed = s.found.printed; noted = s.found.noted };
        read = s.read;
      })

  -- the end added its units
  pub end_on : {codec : Codec} {w : SinkState} {h : List ℕ} (dec after : D) (p : Waiting) (f : Option StreamFault) (read held : ℕ) {mid : Cutting D} {v u : SinkState} {start found shown : List FrameUnit}
      → start ≡ [] → HasCut state stands codec w h (record { decoder = dec; waiting = p; fault = f; read = read; held = held }) v
      → TakesEnd (stands dec) (state dec).codec start found
      → shown ≡ found → TakesUnits (units_of shown) (record { decoder = after; waiting = p; fault = f; read = read; held = held }) v mid u
      → HasUnits w (ended codec h) mid u
  end_on {codec} {w} {h} dec after p f read held {mid} {v} {u} {start} {found} {shown} none s grew same_found takes =
      let C : Codec → Type 0 = λ c. Grew (units c h) (ended c h) start found in
      units_on {c = record { decoder = after; waiting = p; fault = f; read = read; held = held }} (record { printed = s.found.printed; noted = s.found.noted }) takes (added none (subst C s.codec_same (grew h s.fed)) ∙ ap (λ us. units codec h ++ units_of us) (sym same_found))

-- all was printed, and what waited is written out
pub all_reported : {w v : SinkState} {p : Waiting} {text : List ℕ} → PrintsTo text (unprinted w) (outlet p v) → (p.failed ≡ false → p.text ≡ []) → Reports p.failed text w v
all_reported {w} {v} {p} {text} prints empty = by p.failed refl
  where
    by : (b : Bool) → p.failed ≡ b → Reports b text w v
    by true bad = prints.broke refl bad
    by false fine =
        let waits = prints.waits refl fine in
        same_wrote (sym (waits.1 ∙ ap (λ t. waits.0 ++ t) (empty fine) ∙ append-nil waits.0)) waits.2

-- the front of a longer text was printed
pub part_reported : {w v : SinkState} {p : Waiting} {text : List ℕ} (more : List ℕ) → PrintsTo text (unprinted w) (outlet p v) → ReportsPart (text ++ more) w v
part_reported {w} {v} {p} {text} more prints = by p.failed refl
  where
    by : (b : Bool) → p.failed ≡ b → ReportsPart (text ++ more) w v
    by true bad = record { front = text; lost = more; both = refl; failed = true; reports = prints.broke refl bad }
    by false fine =
        let waits = prints.waits refl fine in
        record {
          front = waits.0;
          lost = p.text ++ more;
          both = ap (λ t. t ++ more) waits.1 ∙ append_assoc waits.0 p.text more;
          failed = false;
          reports = waits.2;
        }

-- a report begins with the lines of the units of what was read first
pub text_from : (codec : Codec) (h g : List ℕ) (whole : Bool) → Extends (units codec h) (units codec g) → (more : List ℕ) × (unit_lines (units codec h) ++ more ≡ (framing codec).text g whole)
text_from codec h g true e =
    let last : List FramingUnit = units_of_end codec (length g - length (rest codec g)) (rest codec g) in (
      unit_lines (e.0 ++ last) ++ end_line (length g),
      sym (append_assoc (unit_lines (units codec h)) (unit_lines (e.0 ++ last)) (end_line (length g)))
          ∙ ap (λ t. t ++ end_line (length g)) (sym (lines-append (units codec h) (e.0 ++ last)) ∙ ap unit_lines (sym (append_assoc (units codec h) e.0 last) ∙ ap (λ t. t ++ last) (sym e.1))),
    )
text_from codec h g false e = (
  unit_lines e.0 ++ end_line (length g),
  sym (append_assoc (unit_lines (units codec h)) (unit_lines e.0) (end_line (length g)))
      ∙ ap (λ t. t ++ end_line (length g)) (sym (lines-append (units codec h) e.0) ∙ ap unit_lines (sym e.1)),
)

pub same_part : {w v : SinkState} {xs ys : List ℕ} → xs ≡ ys → ReportsPart xs w v → ReportsPart ys w v
same_part {w} {v} {xs} {ys} e r = let P : List ℕ → Type 0 = λ t. ReportsPart t w v in subst P e r

module _ {D : Type 0} {state : D → Decoding} {stands : D → List ℕ → Type 0} where
  -- memory was refused before the lines of the end
  pub closed_early : {codec : Codec} {w : SinkState} {h : List ℕ} {c : Cutting D} {v : SinkState} (stop : Stop) → HasCut state stands codec w h c v → Closes (framing codec) stop h w v Memory
  closed_early {codec} {w} {h} {c} {v} stop s =
      let more = text_from codec h h (is_end stop) ([], sym (append-nil (units codec h))) in
      inr (record { part = same_part more.1 (part_reported more.0 s.found.printed); memory = refl })

-- the report was closed
pub closed_on : (codec : Codec) {w : SinkState} (h : List ℕ) {D : Type 0} {c : Cutting D} {v u : SinkState} {p : Waiting} (stop : Stop) {status : Status}
    → HasUnits w (units_read codec h (is_end stop)) c v → PrintsTo (end_line (length h)) (outlet c.waiting v) (outlet p u) → (p.failed ≡ false → p.text ≡ [])
    → status ≡ status_at stop c.fault (report_status p.failed) → Closes (framing codec) stop h w u status
closed_on codec {w} h {D} {c} {v} {u} {p} stop {status} has last empty named =
    inl (record {
      failed = p.failed;
      reports = all_reported (prints_both has.printed last) empty;
      named = named ∙ ap (λ f. status_at stop f (report_status p.failed)) has.noted;
    })

pub at_err : {T E : Type 0} (r : Result T E) {P : Type 0} → true ≡ is_err r → OnErr r P → P
at_err (Ok x) {P} is h = absurd (cc is)
at_err (Err e) {P} is h = h

pub at_ok : {T E : Type 0} (r : Result T E) {P : Type 0} → false ≡ is_err r → OnOk r P → P
at_ok (Ok x) {P} is h = h
at_ok (Err e) {P} is h = absurd (cc is)
