-- A stream that is being cut, and what comes of it.
use Rattle.std.specs.Prelude.{◌≡◌, ◌⊎◌, ℕ, ◌≤◌, Bool, true, false, List, [], ◌∷◌, ◌++◌, Option, Result, Ok, Err, length}
use Rattle.frame_head.specs.declared.codecs.Codec.{Codec}
use Rattle.frame_head.specs.Heads.{FramingUnit}
use Rattle.frame_head.specs.Units.{units}
use Rattle.frame_rule.specs.Decoding.{Decoding}
use Rattle.relay_ports.specs.States.{SourceState, SinkState}
use Rattle.buffered_io.specs.declared.reading.Stop.{Stop}
use Rattle.buffered_io.specs.declared.reading.Stop.TheVariants.{End, Failure, Limit}
use Rattle.buffered_io.specs.Reading.{Read, ReadFailing}
use Rattle.buffered_io.specs.Writing.{Waiting, Outlet, PrintsTo, outlet}
use Rattle.input_pieces.specs.declared.reader.NoPiece.{NoPiece}
use Rattle.input_pieces.specs.declared.reader.NoPiece.TheVariants.{Stopped, NoMemory}
use Rattle.input_pieces.specs.Pieces.{ReadsTo}
use Rattle.relay_app.specs.declared.status.Status.{Status}
use Rattle.relay_app.specs.declared.status.Status.TheVariants as status
use Rattle.relay_app.specs.declared.stream_fault.StreamFault.{StreamFault}
use Rattle.relay_app.specs.Framing.{framing, units_read}
use Rattle.relay_app.specs.Noting.{fault_after, first_fault}
use Rattle.relay_app.specs.Inputs.{ReadsInput, intake, stream_or}
use Rattle.relay_app.specs.Reports.{Ends, ReportsPart, report_status}
use Rattle.relay_app.specs.Runs.{Command, ReportsText}
use Rattle.relay_app.specs.Text.{unit_lines}

abbrev pub is_end : Stop → Bool
is_end End = true
is_end Failure = false
is_end Limit = false

-- a cutter: its decoder, the text that waits, the first fault, how many bytes were cut, and how many units and
-- receipts of the last piece weren't let go yet
pub record Cutting (D : Type 0) : Type 0 where
  pub decoder : D
  pub waiting : Waiting
  pub fault : Option StreamFault
  pub read : ℕ
  pub held : ℕ

-- a printer that was just made, before a sink in this state
abbrev pub unprinted : SinkState → Outlet
unprinted w = record { text = []; failed = false; sink = w }

module _ {D : Type 0} where
  -- since the report's state was `w`, the lines of these units were printed and their first fault was noted
  pub record HasUnits (w : SinkState) (us : List FramingUnit) (c : Cutting D) (v : SinkState) : Type 0 where
    pub printed : PrintsTo (unit_lines us) (unprinted w) (outlet c.waiting v)
    pub noted : c.fault ≡ first_fault us

  -- these units are printed and noted next
  pub record TakesUnits (us : List FramingUnit) (c : Cutting D) (v : SinkState) (d : Cutting D) (u : SinkState)
      : Type 0 where
    pub state : d ≡ record c { waiting = d.waiting; fault = fault_after c.fault us }
    pub prints : PrintsTo (unit_lines us) (outlet c.waiting v) (outlet d.waiting u)

-- memory was refused when the bytes `h` were cut, and some more were read
pub record Interrupted (codec : Codec) (block limit : ℕ) (s t : SourceState) (w v : SinkState) : Type 0 where
  pub h : List ℕ
  pub more : List ℕ
  pub read : Read block (h ++ more) s t ⊎ ReadFailing block (h ++ more) s t
  pub within : length (h ++ more) ≤ limit
  pub part : ReportsPart (unit_lines (units codec h)) w v

-- the status of a reading that stopped so, with this first fault, and what comes behind it
abbrev pub status_at : Stop → Option StreamFault → Status → Status
status_at End fault next = stream_or next fault
status_at Failure fault next = status.Source
status_at Limit fault next = status.Limit

-- why a reading stopped, from why there was no piece: but for want of memory
abbrev pub IsStopOf : {E : Type 0} → NoPiece → Result Stop E → Type 0
IsStopOf (Stopped stop) (Ok why) = why ≡ stop
IsStopOf NoMemory (Err e) = Unit {0}
IsStopOf _ _ = ⊥

-- the report was closed behind the bytes `h`, where the reading stopped so
abbrev pub Closes : Command → Stop → List ℕ → SinkState → SinkState → Status → Type 0
Closes c stop h w v status =
    Ends (c.text h (is_end stop)) (λ failed. status_at stop (c.fault h (is_end stop)) (report_status failed)) w v status

-- an input that was never called before was read and left in the state `t`, and the report of what was read written
abbrev pub ReadsAndReports : Command → ℕ → SourceState → SinkState → SinkState → Status → Type 0
ReadsAndReports c limit t w v status =
    (given : List ℕ) × ReadsInput (intake limit given t) status × ReportsText c (intake limit given t) w v status

-- of cutters whose decoder is seen as `state` says, and was fed the bytes for which it stands
module _ {D : Type 0} (state : D → Decoding) (stands : D → List ℕ → Type 0) where
  -- since the report's state was `w`, the bytes `h` were cut
  pub record HasCut (codec : Codec) (w : SinkState) (h : List ℕ) (c : Cutting D) (v : SinkState) : Type 0 where
    pub codec_same : (state c.decoder).codec ≡ codec
    pub fed : stands c.decoder h
    pub found : HasUnits w (units codec h) c v
    pub read : c.read ≡ length h

  -- the bytes of a block were cut next
  abbrev pub Cuts : List ℕ → Cutting D → SinkState → Cutting D → SinkState → Type 0
  Cuts bytes c v d u =
      (codec : Codec) (w : SinkState) (h : List ℕ) → HasCut codec w h c v → HasCut codec w (h ++ bytes) d u

  -- what the end adds was printed and noted, where the reading stopped there
  abbrev pub CutsEnd : Stop → Cutting D → SinkState → Cutting D → SinkState → Type 0
  CutsEnd stop c v d u =
      (codec : Codec) (w : SinkState) (h : List ℕ) → HasCut codec w h c v
      → HasUnits w (units_read codec h (is_end stop)) d u

  -- all that was read, until it stopped so, was cut
  abbrev pub CutsTo : Codec → ℕ → ℕ → Stop → SourceState → SourceState → SinkState → Cutting D → SinkState → Type 0
  CutsTo codec block limit stop s t w c v = (h : List ℕ) × HasCut codec w h c v × ReadsTo block limit stop h s t

  -- the report of all that was cut was closed
  abbrev pub ClosesCut : Stop → Cutting D → SinkState → SinkState → Status → Type 0
  ClosesCut stop c v u status =
      (codec : Codec) (w : SinkState) (h : List ℕ) → HasCut codec w h c v → Closes (framing codec) stop h w u status
