-- What a drainer does with items.
use Rattle.std.specs.Prelude.{◌≡◌, ℕ, ◌+◌, ◌-◌, ◌^◌, ◌<◌, min, true, false, List, [], ◌++◌, Some, length}
use Rattle.storage.specs.declared.release.NoOwner.{NoOwner}
use Rattle.storage.specs.declared.back.Back.{Back}
use Rattle.relay_ports.specs.States.{SinkState}
use Rattle.buffered_io.specs.Writing.{Outlet, PrintsTo}
use Rattle.frame_head.specs.declared.out.Out.{Out}
use Rattle.frame_head.specs.Framed.{framed_text, whole_frames}
use Rattle.frame_batch.specs.Batches.{Batched}
use Rattle.sub_queue.specs.declared.items.Item.{Item}
use Rattle.sub_queue.specs.Ends.{Tapped}
use Rattle.observer.specs.Flows.{Flow, outlet_of}
use Rattle.observer.specs.Items.{frames_taken}

-- a drainer: its tap, how it writes frames, the printer and the sink to which they go, the most that its queue holds,
-- what is to be collected, and the number of frames that its sink got
pub record Drain : Type 0 where
  pub tap : Tapped Batched
  pub out : Out
  pub outlet : Outlet
  pub cap : ℕ
  pub returns : List (List (Back NoOwner))
  pub count : ℕ

abbrev pub drain : Tapped Batched → Flow → ℕ → List (List (Back NoOwner)) → ℕ → Drain
drain tap f cap returns count = record {
  tap = tap;
  out = f.out;
  outlet = outlet_of f;
  cap = cap;
  returns = returns;
  count = count;
}

-- a drainer that took nothing yet
abbrev pub drain_anew : Tapped Batched → Out → SinkState → ℕ → Drain
drain_anew tap out sink cap = record {
  tap = tap;
  out = out;
  outlet = record { text = []; failed = false; sink = sink };
  cap = cap;
  returns = [];
  count = 0;
}

-- a drainer with another tap
abbrev pub with_tap : Drain → Tapped Batched → Drain
with_tap d tap = record d { tap = tap }

-- a number as a count of 64 bits shows it, which stands still at its end
abbrev pub saturated : ℕ → ℕ
saturated n = min n (2 ^ 64 - 1)

-- nothing waits to be written, but where the sink failed
abbrev pub IsFlushed : Outlet → Type 0
IsFlushed o = o.failed ≡ false → o.text ≡ []

-- these frames were counted: all of them; or, where the sink failed at them, the first whose text isn't longer than
-- what it took of it, where it tells that and took less than a count of 128 bits can show; or none, where it had
-- failed before
pub record CountsFrames (frames : List (List ℕ)) (old new : Drain) : Type 0 where
  pub stopped : old.outlet.failed ≡ true → new.count ≡ old.count
  pub all : old.outlet.failed ≡ false → new.outlet.failed ≡ false → new.count ≡ saturated (old.count + length frames)
  pub first : old.outlet.failed ≡ false → new.outlet.failed ≡ true → (before after : List ℕ)
      → old.outlet.sink.written ≡ Some before → new.outlet.sink.written ≡ Some after → length after < 2 ^ 128 - 1
      → new.count ≡ saturated (old.count + whole_frames old.out frames (length after - length before))

-- items were taken, and the frames among them written out and counted; what the tap knows to be sent, and what is to be
-- collected, isn't spoken of
pub record Drains (items : List (Item Batched)) (old new : Drain) : Type 0 where
  pub is : new ≡ record old {
    tap = record old.tap { taken = old.tap.taken ++ items; told = new.tap.told };
    outlet = new.outlet;
    returns = new.returns;
    count = new.count;
  }
  pub prints : PrintsTo (framed_text old.out (frames_taken items)) old.outlet new.outlet
  pub flushed : IsFlushed new.outlet
  pub counts : CountsFrames (frames_taken items) old new
