-- What stages without a handler do to batches.
use Rattle.std.specs.Prelude.{◌≡◌, ℕ, ◌+◌, ◌<◌, Bool, true, false, ◌||◌, List, [], ◌∷◌, ◌++◌, length, map, IfSome, Option, Some, None, Result, Ok, Err, if◌then◌else◌}
use Rattle.storage.specs.declared.release.NoOwner.{NoOwner}
use Rattle.storage.specs.declared.back.Back.{Back}
use Rattle.buffer_model.specs.Segment.{Segment}
use Rattle.buffer_model.specs.Minted.{Numbers, NumbersOn}
use Rattle.buffer_model.specs.Stake.{KeepsTotalsBeside}
use Rattle.iobuf_chain.specs.Accounts.{held_by}
use Rattle.frame_batch.specs.declared.window.Window.{Window}
use Rattle.frame_batch.specs.Batches.{Batched}
use Rattle.pipeline.specs.Plain.{Plain, strip, keep, upper, least, Said, pass, skip, fail, raised, begin_of, size_of, is_under}
use Rattle.pipeline.specs.Meanings.{Meaning, plain, handler, answer}
use Rattle.pipeline.specs.Nodes.{AreWhole, HandsBack, listed, stakes_back}

-- the frame that is passed on, if one is
abbrev pub passed_on : Said → List (List ℕ)
passed_on (pass x) = x ∷ []
passed_on (skip x) = []
passed_on (fail n x) = []

-- what stages pass on of frames: of each frame what they say of it, without those that they skip
abbrev pub answers : List Meaning → List (List ℕ) → List (List ℕ)
answers ms [] = []
answers ms (x ∷ xs) = passed_on (answer ms x) ++ answers ms xs

-- whether a stage makes letters capital ones, and whether one of several does
abbrev pub is_upper : Meaning → Bool
is_upper (plain (strip n)) = false
is_upper (plain (keep n)) = false
is_upper (plain upper) = true
is_upper (plain (least n)) = false
is_upper (handler m) = false

abbrev pub has_upper : List Meaning → Bool
has_upper [] = false
has_upper (m ∷ ms) = is_upper m || has_upper ms

-- the bytes in which the frames lie, once the batch went through
abbrev pub lettered : List Meaning → List ℕ → List ℕ
lettered ms all = if has_upper ms then map raised all else all

-- the window that a stage leaves of a window
abbrev pub narrowed : Plain → Window → Window
narrowed p w = record { place = w.place + begin_of p w.size; size = size_of p w.size }

-- the same where it doesn't skip the frame. A handler leaves all
abbrev pub placed_by : Meaning → Window → Option Window
placed_by (plain p) w = if is_under p w.size then None else Some (narrowed p w)
placed_by (handler m) w = Some w

abbrev pub then_placed : Option Window → (Window → Option Window) → Option Window
then_placed None behind = None
then_placed (Some w) behind = behind w

-- the window that stages leave, one after another
abbrev pub placed : List Meaning → Window → Option Window
placed [] w = Some w
placed (m ∷ ms) w = then_placed (placed_by m w) (placed ms)

-- a batch that comes out of a pipeline, and what is handed back beside it
abbrev pub BatchAnswer : Type 0
BatchAnswer = Result (Batched × Option (List (Back NoOwner))) (Batched × Option (List (Back NoOwner)))

abbrev pub nodes_in : BatchAnswer → List (Segment NoOwner)
nodes_in (Ok a) = a.0.chain
nodes_in (Err a) = a.0.chain

abbrev pub handed_in : BatchAnswer → Option (List (Back NoOwner))
handed_in (Ok a) = a.1
handed_in (Err a) = a.1

-- what a pipeline does to a batch's nodes, with the mint before and after, and what is handed back: nothing of a
-- storage is lost; something is handed back only where nodes moved; and where each node is whole, none moves
pub record MovesBatch (old new : Numbers) (before after : List (Segment NoOwner)) (back : Option (List (Back NoOwner)))
    : Type 0 where
  pub totals : KeepsTotalsBeside old new (held_by before) (held_by after ++ stakes_back back)
  pub mint : NumbersOn old new
  pub back_is : HandsBack old new before after back
  pub some : IfSome back (λ backs. 0 < length backs)
  pub whole : AreWhole before → length before ≡ length after + length (listed back)
