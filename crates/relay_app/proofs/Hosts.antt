-- A run over a host.
use Rattle.std.proofs.Common.{◌≡◌, ℕ, ◌+◌, Bool, true, false, List, [], ◌∷◌, ◌++◌, Option, Some, None, length, refl, sym, ap, ◌∙◌, subst, append-nil, arith, inl, inr}
use Rattle.std.specs.Prelude.{nat_lt, if◌then◌else◌}
use Rattle.std.specs.Str.{bytes_eq}
use Rattle.std.proofs.lemmas.Slice.Eq.{bytes_eq-Decides}
use Rattle.relay_ports.specs.States.{SourceState, SinkState, HostState}
use Rattle.relay_ports.specs.Calls.{OpenedInput, FinishedInput, SetReport}
use Rattle.relay_ports.specs.Told.{prefixed, taken_out}
use Rattle.relay_app.specs.declared.status.Status.{Status}
use Rattle.relay_app.specs.declared.status.Status.TheVariants.{Usage, Source, Limit}
use Rattle.relay_app.specs.declared.stream_fault.StreamFault.{StreamFault}
use Rattle.relay_words.specs.declared.faults.UsageKind.{UsageKind}
use Rattle.relay_app.specs.Cutting.{ReadsAndReports}
use Rattle.relay_app.specs.Inputs.{intake, stream_or}
use Rattle.relay_app.specs.Reports.{report_status}
use Rattle.relay_app.specs.Runs.{Answers, Command, ReportsText, RunsInput, fault_in, no_effects}

-- a name that was put in front is taken out again
taken_back : (name : List ℕ) (told : Option (List (List ℕ))) → taken_out name (prefixed (name ∷ []) told) ≡ told
taken_back name None = refl
taken_back name (Some names) = let same : bytes_eq name name ≡ true = (bytes_eq-Decides name name).1 refl in ap Some (rw same refl)

-- an input was opened, read and finished
pub finishing : (c : Command) (name : List ℕ) {limit : ℕ} (h i j k : HostState) (input : SourceState) {w v : SinkState} {status : Status}
    → OpenedInput name h i → w ≡ i.report → SetReport v i j → FinishedInput name input j k → ReadsAndReports c limit input w v status → RunsInput (Answers c) name limit h k status
finishing c name {limit} h i j k input {w} {v} {status} opened lent set finished reads =
    let P : SinkState → Type 0 = λ x. ReportsText c (intake limit reads.0 input) x v status in
    let Q : SinkState → Type 0 = λ x. ReportsText c (intake limit reads.0 input) h.report x status in
    let report : k.report ≡ v = ap (λ (x : HostState). x.report) finished ∙ ap (λ (x : HostState). x.report) set in
    let no_lends : h.lends ≡ h.lends + 0 = omega arith in
    inr (record {
      given = reads.0;
      input = input;
      reads = reads.1;
      effects = no_effects;
      state = λ n. record {
        faults = (ap (λ (x : HostState). x.faults) finished ∙ ap (λ (x : HostState). x.faults) set ∙ ap (λ (x : HostState). x.faults) opened) n;
        refused = (ap (λ (x : HostState). x.refused) finished ∙ ap (λ (x : HostState). x.refused) set ∙ ap (λ (x : HostState). x.refused) opened) n;
        open_inputs = (ap (λ (x : HostState). x.open_inputs) finished ∙ ap (λ (x : HostState). taken_out name x.open_inputs) set ∙ ap (λ (x : HostState). taken_out name x.open_inputs) opened
            ∙ taken_back name h.open_inputs) n;
        open_outputs = (ap (λ (x : HostState). x.open_outputs) finished ∙ ap (λ (x : HostState). x.open_outputs) set ∙ ap (λ (x : HostState). x.open_outputs) opened) n;
        inputs = (ap (λ (x : HostState). x.inputs) finished ∙ ap (λ (x : HostState). x.inputs ++ record { name = name; state = input } ∷ []) set
            ∙ ap (λ (x : HostState). x.inputs ++ record { name = name; state = input } ∷ []) opened) n;
        outputs = (ap (λ (x : HostState). x.outputs) finished ∙ ap (λ (x : HostState). x.outputs) set ∙ ap (λ (x : HostState). x.outputs) opened ∙ sym (append-nil h.outputs)) n;
        lent = (ap (λ (x : HostState). x.lent) finished ∙ ap (λ (x : HostState). x.lent) set ∙ ap (λ (x : HostState). x.lent) opened) n;
        lends = (ap (λ (x : HostState). x.lends) finished ∙ ap (λ (x : HostState). x.lends) set ∙ ap (λ (x : HostState). x.lends) opened ∙ no_lends) n;
        report = k.report;
      };
      answered = (refl, subst Q (sym report) (subst P (lent ∙ ap (λ (x : HostState). x.report) opened) reads.2));
    })

-- a run never finds fault with the words
no_usage : (word : ℕ) (kind : UsageKind) (a b failed : Bool) (f : Option StreamFault) → Usage word kind ≡ (if a then Source else if b then Limit else stream_or (report_status failed) f) → ⊥
no_usage word kind true b failed f e = cc e
no_usage word kind false true failed f e = cc e
no_usage word kind false false true None e = cc e
no_usage word kind false false false None e = cc e
no_usage word kind false false failed (Some f) e = cc e

pub never_usage : (c : Command) (name : List ℕ) (limit : ℕ) (h k : HostState) {status : Status} (word : ℕ) (kind : UsageKind) → RunsInput (Answers c) name limit h k status → status ≡ Usage word kind → ⊥
never_usage c name limit h k {status} word kind (inl (inl n)) e = cc (n.0, e)
never_usage c name limit h k {status} word kind (inl (inr n)) e = cc (n.0, e)
never_usage c name limit h k {status} word kind (inr f) e = by f.answered.1
  where
    by : ReportsText c (intake limit f.given f.input) h.report k.report status → ⊥
    by (inl done) =
        no_usage word kind (nat_lt 0 f.input.faults) (nat_lt limit (length f.given)) done.failed (fault_in c (intake limit f.given f.input)) (sym e ∙ done.named)
    by (inr part) = cc (part.memory, e)
