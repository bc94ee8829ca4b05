-- What stages, steps and answers are seen as.
use Rattle.std.specs.Prelude.{◌≡◌, ℕ, ◌<◌, List, [], length, map, Option, Some, None, Result, Ok, Err, IsOk}
use Rattle.storage.specs.declared.release.NoOwner.{NoOwner}
use Rattle.storage.specs.declared.back.Back.{Back}
use Rattle.buffer_model.specs.Segment.{Segment, bytes_of}
use Rattle.buffer_model.specs.Minted.{Numbers}
use Rattle.pipeline.specs.Nodes.{Sheds, Works}
use Rattle.pipeline.specs.Plain.{Plain, strip, keep, upper, least, Said, pass, skip, fail, plain_says}
use Rattle.pipeline.specs.Meanings.{Machine, Meaning, plain, handler, answer, later_all, RefusesAt}
use Rattle.pipeline.specs.declared.stage.Stage.{Stage}
use Rattle.pipeline.specs.declared.stage.Stage.TheVariants.{Strip, Keep, Upper, Min, Boxed}
use Rattle.pipeline.specs.declared.step.Step.{Step}
use Rattle.pipeline.specs.declared.step.Step.TheVariants.{Pass, Skip, Fail}

module _ {H : Type 0} (machine : H → Machine) where
  abbrev pub meaning_of : Stage H → Meaning
  meaning_of (Strip n) = plain (strip n)
  meaning_of (Keep n) = plain (keep n)
  meaning_of Upper = plain upper
  meaning_of (Min n) = plain (least n)
  meaning_of (Boxed h) = handler (machine h)

  abbrev pub meanings : List (Stage H) → List Meaning
  meanings stages = map (λ s. meaning_of s) stages

-- what a step says of its frame's bytes
abbrev pub said_of : Step → Said
said_of (Pass frame) = pass (bytes_of frame)
said_of (Skip frame) = skip (bytes_of frame)
said_of (Fail n frame) = fail n (bytes_of frame)

-- the frame of a step
abbrev pub frame_of : Step → List (Segment NoOwner)
frame_of (Pass frame) = frame
frame_of (Skip frame) = frame
frame_of (Fail n frame) = frame

-- the frame that comes out of a stage
abbrev pub stage_frame : Result Step (List (Segment NoOwner)) → List (Segment NoOwner)
stage_frame (Ok step) = frame_of step
stage_frame (Err frame) = frame

-- what a stage answers says this of a frame with these bytes, which come back where memory is refused
abbrev pub Gives : Said → List ℕ → Result Step (List (Segment NoOwner)) → Type 0
Gives said x (Ok step) = said_of step ≡ said
Gives said x (Err frame) = bytes_of frame ≡ x

-- what a plain stage does to a frame, with the mint and what was handed back before and after
pub record Reads (p : Plain) (old new : Numbers) (before : List (Segment NoOwner)) (backs now : List (Back NoOwner))
    (result : Result Step (List (Segment NoOwner))) : Type 0 where
  pub gives : Gives (plain_says p (bytes_of before)) (bytes_of before) result
  pub works : Works old new before (stage_frame result) backs now

-- the same of one that numbers no storage, and copies nothing
pub record ReadsCut (p : Plain) (before : List (Segment NoOwner)) (backs now : List (Back NoOwner))
    (result : Result Step (List (Segment NoOwner))) : Type 0 where
  pub reads : (mint : Numbers) → Reads p mint mint before backs now result
  pub sheds : Sheds before (stage_frame result)
  pub memory : length before ≡ 1 → IsOk result

-- stages before and after, and what they answer to a frame of these bytes: as they mean; where memory is refused, the
-- frame has what the stages before the refused one gave
abbrev pub StepsSo : List Meaning → List Meaning → List ℕ → Result Step (List (Segment NoOwner)) → Type 0
StepsSo before after x (Ok step) = (said_of step ≡ answer before x) × (after ≡ later_all before x)
StepsSo before after x (Err frame) = RefusesAt before after x (bytes_of frame)

-- a list that may be left out where it is empty
abbrev pub IsList : {X : Type 0} → List X → Option (List X) → Type 0
IsList xs None = xs ≡ []
IsList xs (Some ys) = (ys ≡ xs) × (0 < length ys)

abbrev pub Answer : Type 0
Answer = Result (Step × Option (List (Back NoOwner))) (List (Segment NoOwner) × Option (List (Back NoOwner)))

-- the frame that comes out of a pipeline
abbrev pub frame_in : Answer → List (Segment NoOwner)
frame_in (Ok a) = frame_of a.0
frame_in (Err a) = a.0

-- what a pipeline hands back beside it
abbrev pub back_in : Answer → Option (List (Back NoOwner))
back_in (Ok a) = a.1
back_in (Err a) = a.1
