-- What is true of turns.
use Rattle.std.specs.Prelude.{◌≡◌, ℕ, ◌-◌, ◌^◌, ◌<◌, true, false, List, [], ◌++◌, Some, length}
use Rattle.storage.specs.declared.release.NoOwner.{NoOwner}
use Rattle.storage.specs.declared.back.Back.{Back}
use Rattle.buffered_io.specs.Writing.{Broke, Wrote}
use Rattle.frame_head.specs.Framed.{framed_text}
use Rattle.frame_head.specs.FramedLaws.{IsWholeCount}
use Rattle.frame_batch.specs.Batches.{Batched}
use Rattle.sub_queue.specs.declared.items.Item.{Item}
use Rattle.observer.specs.Items.{frames_taken}
use Rattle.observer.specs.Drains.{Drain, Drains, IsFlushed, saturated}

abbrev pub TurnsJoin : Type 0
TurnsJoin =
    (items more : List (Item Batched)) (a b c : Drain) → IsFlushed a.outlet → Drains items a b → Drains more b c
    → Drains (items ++ more) a c

abbrev pub BetweenTurns : Type 0
BetweenTurns =
    (items told : List (Item Batched)) (returns : List (List (Back NoOwner))) (a b : Drain)
    → Drains items a b
    → Drains items a (record b { tap = record b.tap { told = told }; returns = returns })

-- a drainer that took nothing yet, over a sink that didn't fail
abbrev pub IsNew : Drain → Type 0
IsNew a = (a.outlet.text ≡ []) × (a.outlet.failed ≡ false) × (a.count ≡ 0)

-- what a sink got of frames, and their count
pub record Got (frames : List (List ℕ)) (a d : Drain) : Type 0 where
  pub whole : d.outlet.failed ≡ false → Wrote (framed_text a.out frames) a.outlet.sink d.outlet.sink
  pub all : d.outlet.failed ≡ false → d.count ≡ saturated (length frames)
  pub part : d.outlet.failed ≡ true → Broke (framed_text a.out frames) a.outlet.sink d.outlet.sink
  pub first : d.outlet.failed ≡ true → (before after : List ℕ) → a.outlet.sink.written ≡ Some before
      → d.outlet.sink.written ≡ Some after → length after < 2 ^ 128 - 1
      → (count : ℕ) × (d.count ≡ saturated count) × IsWholeCount a.out frames (length after - length before) count

abbrev pub AfterAllTurns : Type 0
AfterAllTurns = (items : List (Item Batched)) (a d : Drain) → IsNew a → Drains items a d → Got (frames_taken items) a d
