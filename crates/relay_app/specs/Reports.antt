-- What was written to a report, and the status that belongs to it.
use Rattle.std.specs.Prelude.{◌≡◌, ◌⊎◌, ℕ, Bool, List, ◌++◌, if◌then◌else◌}
use Rattle.std.specs.Bool.{MatchBool}
use Rattle.relay_ports.specs.States.{SinkState}
use Rattle.buffered_io.specs.Writing.{Wrote, Broke}
use Rattle.relay_app.specs.declared.status.Status.{Status}
use Rattle.relay_app.specs.declared.status.Status.TheVariants.{Fine, Memory, Report}

-- a text was written, or its front where the sink failed
abbrev pub Reports : Bool → List ℕ → SinkState → SinkState → Type 0
Reports failed text w v = MatchBool failed (Broke text w v) (Wrote text w v)

-- the front of a text was written, or the front of that where the sink failed
pub record ReportsPart (text : List ℕ) (w v : SinkState) : Type 0 where
  pub front : List ℕ
  pub lost : List ℕ
  pub both : text ≡ front ++ lost
  pub failed : Bool
  pub reports : Reports failed front w v

-- a run came to its end, with this report and the status that belongs to whether the report failed
pub record Completed (text : List ℕ) (named_by : Bool → Status) (w v : SinkState) (status : Status) : Type 0 where
  pub failed : Bool
  pub reports : Reports failed text w v
  pub named : status ≡ named_by failed

-- memory was refused, when the front of this report was printed
pub record Starved (text : List ℕ) (w v : SinkState) (status : Status) : Type 0 where
  pub part : ReportsPart text w v
  pub memory : status ≡ Memory

-- a run came to its end, or memory was refused
abbrev pub Ends : List ℕ → (Bool → Status) → SinkState → SinkState → Status → Type 0
Ends text named_by w v status = Completed text named_by w v status ⊎ Starved text w v status

-- the last status of all: by whether the report failed
abbrev pub report_status : Bool → Status
report_status failed = if failed then Report else Fine
