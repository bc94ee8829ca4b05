-- Text on its way to a sink, and what comes of writing it.
use Rattle.std.specs.Prelude.{◌≡◌, ℕ, ◌+◌, ◌<◌, ◌≤◌, Bool, true, false, List, [], ◌∷◌, ◌++◌, decimal, length}
use Rattle.relay_ports.specs.States.{SinkState}
use Rattle.relay_ports.specs.Told.{counted, grown}

-- a sink took a text, and no call failed; a sink that never failed has no call after a failure
pub record Wrote (text : List ℕ) (w v : SinkState) : Type 0 where
  pub state : v ≡ record w { written = grown w.written text; after = v.after }
  pub after : w.faults ≡ 0 → v.after ≡ w.after

-- a sink took the front of a text, and then a call failed, which was the last; what is lost isn't empty
pub record Broke (text : List ℕ) (w v : SinkState) : Type 0 where
  pub front : List ℕ
  pub lost : List ℕ
  pub both : text ≡ front ++ lost
  pub some : 0 < length lost
  pub state : v ≡ record w { written = grown w.written front; faults = counted w.faults; after = v.after }
  pub after : w.faults ≡ 0 → v.after ≡ w.after

-- a printer: the text that waits in its room, and whether the sink failed
pub record Waiting : Type 0 where
  pub text : List ℕ
  pub failed : Bool

-- a printer's room has place for so many bytes more
abbrev pub HasRoom : ℕ → Waiting → Type 0
HasRoom n p = length p.text + n ≤ 65536

-- a printer and the sink to which its text goes
pub record Outlet : Type 0 where
  pub text : List ℕ
  pub failed : Bool
  pub sink : SinkState

abbrev pub outlet : Waiting → SinkState → Outlet
outlet p w = record { text = p.text; failed = p.failed; sink = w }

-- these bytes are printed next
pub record PrintsTo (bytes : List ℕ) (d e : Outlet) : Type 0 where
  -- where the sink failed before, nothing changes
  pub stopped : d.failed ≡ true → e ≡ d
  -- else the text that waited and these bytes are written up to some place, and what is behind it waits
  pub waits : d.failed ≡ false → e.failed ≡ false
      → (front : List ℕ) × (d.text ++ bytes ≡ front ++ e.text) × Wrote front d.sink e.sink
  -- or the sink failed before their end
  pub broke : d.failed ≡ false → e.failed ≡ true → Broke (d.text ++ bytes) d.sink e.sink

-- a letter and two numbers in decimal, with a space behind each
abbrev pub entry_text : ℕ → ℕ → ℕ → List ℕ
entry_text letter first second = letter ∷ 32 ∷ (decimal first ++ 32 ∷ (decimal second ++ 32 ∷ []))
