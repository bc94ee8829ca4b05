-- Runs of commands whose report is a function of what was read.
use Rattle.std.proofs.Common.{◌≡◌, ℕ, ◌+◌, List, [], ◌∷◌, ◌++◌, sym, ◌∙◌, subst, append-nil, arith, inl, inr}
use Rattle.std.specs.Prelude.{◌⊎◌}
use Rattle.buffered_io.specs.Reading.{IsAtEnd}
use Rattle.relay_app.specs.declared.status.Status.TheVariants.{Memory}
use Rattle.relay_app.specs.Reports.{Reports, report_status}
use Rattle.relay_app.specs.Runs.{Answers, AnswersWhole, Command, Effects, IsComplete, LeavesTheRest, ReportsText, after_run}
use Rattle.relay_app.proofs.Inputs.{agrees_end}

pub complete : (c : Command) → IsComplete (Answers c) (AnswersWhole c)
complete c i effects w v status reads none within answered = by (reads.to_end none within) answered.1
  where
    by : (status ≡ Memory) ⊎ IsAtEnd i.input → ReportsText c i w v status → (status ≡ Memory) ⊎ AnswersWhole c i.given effects w v status
    by at (inr part) = inl part.memory
    by (inl memory) (inl done) = inl memory
    by (inr at_end) (inl done) =
        let a = agrees_end c i.limit i.given i.input none within at_end in
        let R : List ℕ → Type 0 = λ x. Reports done.failed x w v in
        inr (
          answered.0,
          record {
            failed = done.failed;
            reports = subst R (sym a.text_is) done.reports;
            named = done.named ∙ sym (a.status_is (report_status done.failed));
          },
        )

pub rest_stays : (c : Command) → LeavesTheRest c
rest_stays c name limit h k status f =
    let P : Effects → Type 0 = λ e. k ≡ after_run name f.input e k.report h in
    let no_lends : h.lends + 0 ≡ h.lends = omega arith in
    subst P f.answered.0 f.state
    ∙ (λ n. record h {
      inputs = h.inputs ++ record { name = name; state = f.input } ∷ [];
      outputs = append-nil h.outputs n;
      lends = no_lends n;
      report = k.report;
    })
