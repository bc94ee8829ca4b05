-- Frames on their way to a sink.
use Rattle.std.specs.Prelude.{◌≡◌, ℕ, List}
use Rattle.buffered_io.specs.Writing.{Waiting, Outlet, PrintsTo, outlet}
use Rattle.frame_head.specs.declared.out.Out.{Out}
use Rattle.observer.specs.Meters.{Meter, with_base}

-- how frames are written, the printer, and the sink with its count
pub record Flow : Type 0 where
  pub out : Out
  pub printer : Waiting
  pub meter : Meter

abbrev pub flow : Out → Waiting → Meter → Flow
flow out printer meter = record { out = out; printer = printer; meter = meter }

-- the printer and the sink
abbrev pub outlet_of : Flow → Outlet
outlet_of f = outlet f.printer f.meter.sink

-- the same with the mark before what the sink has
abbrev pub marked : Flow → Outlet
marked f = outlet f.printer (with_base f.meter)

-- these bytes are printed next, and the mark stays
abbrev pub Flows : List ℕ → Flow → Flow → Type 0
Flows bytes f g = (g.out ≡ f.out) × PrintsTo bytes (marked f) (marked g)
