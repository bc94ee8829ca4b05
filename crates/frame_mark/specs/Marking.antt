-- Units that are marked on the bytes in which they lie.
use Rattle.std.specs.Prelude.{◌≡◌, ℕ, ◌+◌, ◌-◌, ◌≤◌, ◌<◌, Bool, false, List, [], ◌∷◌, ◌++◌, Option, Some, None, length, take, drop, map, if◌then◌else◌}
use Rattle.std.specs.List.{AllZip}
use Rattle.storage.specs.declared.release.NoOwner.{NoOwner}
use Rattle.buffer_model.specs.Segment.{Segment, whole_window}
use Rattle.buffer_model.specs.Share.{wrapped}
use Rattle.frame_head.specs.declared.codecs.Codec.{Codec}
use Rattle.frame_head.specs.Heads.{FramingUnit, FrameAt, FaultAt}
use Rattle.frame_batch.specs.declared.window.Window.{Window}
use Rattle.frame_rule.specs.Framing.{Framing, StandsFor, Took}
use Rattle.frame_mark.specs.declared.mark.Mark.{Mark}
use Rattle.frame_mark.specs.declared.mark.Mark.TheVariants.{Frame, Fault}
use Rattle.frame_mark.specs.declared.marking.Marking.{Marking}

-- the bytes from one place of a stream up to another, where `all` are its bytes from the place `base` on
abbrev pub between_places : ℕ → List ℕ → ℕ → ℕ → List ℕ
between_places base all from to = take (to - from) (drop (from - base) all)

-- the grammar's unit that a mark is
abbrev pub unit_in : ℕ → List ℕ → Mark → FramingUnit
unit_in base all (Frame at from to) = FrameAt at (between_places base all from to)
unit_in base all (Fault at kind) = FaultAt at kind

abbrev pub units_in : ℕ → List ℕ → List Mark → List FramingUnit
units_in base all ms = map (λ m. unit_in base all m) ms

-- the window of a mark that is a frame, on bytes of which the first has the offset `base`
abbrev pub window_of : ℕ → Mark → Option Window
window_of base (Frame at from to) = Some (record { place = from - base; size = to - from })
window_of base (Fault at kind) = None

abbrev pub and_window : Option Window → List Window → List Window
and_window None ws = ws
and_window (Some w) ws = w ∷ ws

-- the windows of the frames among some marks
abbrev pub windows_of : ℕ → List Mark → List Window
windows_of base [] = []
windows_of base (m ∷ ms) = and_window (window_of base m) (windows_of base ms)

-- the windows of a list that may be there
abbrev pub windows_if : Option (List Window) → List Window
windows_if None = []
windows_if (Some ws) = ws

-- a mark says where a unit begins, and of what kind it is: of a frame, how many bytes it has
abbrev pub IsMark : Mark → FramingUnit → Type 0
IsMark (Frame at from to) (FrameAt place bytes) = (at ≡ place) × (to ≡ from + length bytes)
IsMark (Fault at kind) (FaultAt place other) = (at ≡ place) × (kind ≡ other)
IsMark _ _ = ⊥

-- the bytes of the frames among some units, in order
abbrev pub frames_of : List FramingUnit → List (List ℕ)
frames_of [] = []
frames_of (FrameAt at bytes ∷ us) = bytes ∷ frames_of us
frames_of (FaultAt at kind ∷ us) = frames_of us

-- the open unit's bytes, or none where no frame can come of them
abbrev pub open_in : {S : Type 0} → ℕ → List ℕ → Marking S → List ℕ
open_in base all m = if m.lost then [] else between_places base all (m.fed - m.unread) m.fed

-- the place behind the last unit that is kept or lost: none of the bytes before it is kept
abbrev pub done_place : {S : Type 0} → Marking S → ℕ
done_place m = if m.lost then m.fed else m.fed - m.unread

-- how many bytes of the open unit are kept
abbrev pub open_size : {S : Type 0} → Marking S → ℕ
open_size m = if m.lost then 0 else m.unread

-- marks that lie between two places, one behind the other
abbrev pub InOrder : ℕ → ℕ → List Mark → Type 0
InOrder begin end [] = begin ≤ end
InOrder begin end (Frame at from to ∷ ms) = (begin ≤ from) × (from ≤ to) × InOrder to end ms
InOrder begin end (Fault at kind ∷ ms) = InOrder begin end ms

-- the open unit, where it is kept, and the bytes that come next lie in `all`
pub record LiesIn {S : Type 0} (base : ℕ) (all : List ℕ) (m : Marking S) (bytes : List ℕ) : Type 0 where
  pub begun : base ≤ m.fed
  pub kept : m.lost ≡ false → base + m.unread ≤ m.fed
  pub there : m.fed - base ≤ length all
  pub is : bytes ≡ take (length bytes) (drop (m.fed - base) all)

module _ {S : Type 0} (codec_of : S → Codec) (saw : S → List ℕ → Type 0) where
  -- a decoder that keeps these nodes
  abbrev pub holding : Marking S → List (Segment NoOwner) → Framing S NoOwner
  holding m nodes = record {
    scanner = m.scanner;
    fed = m.fed;
    unread = m.unread;
    kept = nodes;
    lost = m.lost;
    skip = m.skip;
    dead = false;
  }

  -- a decoder that keeps the open unit where it lies
  abbrev pub framed : ℕ → List ℕ → Marking S → Framing S NoOwner
  framed base all m = holding m (whole_window (open_in base all m) wrapped ∷ [])

  -- a decoder as it is seen in its crate
  abbrev pub holding_of : Marking S → List (Segment NoOwner) → Bool → Framing S NoOwner
  holding_of m nodes dead = record (holding m nodes) { dead = dead }

  -- there are a stream for which it stands, and bytes in which the open unit and the next bytes lie
  pub record StandsIn (m : Marking S) (bytes : List ℕ) : Type 0 where
    pub base : ℕ
    pub all : List ℕ
    pub lies : LiesIn base all m bytes
    pub stream : List ℕ
    pub stands : StandsFor codec_of saw (framed base all m) stream

  -- of the bytes that come next the first n were taken, and their units marked
  pub record Marks (old new : Marking S) (base : ℕ) (all bytes : List ℕ) (n : ℕ) (ms ns : List Mark) : Type 0 where
    pub added : List Mark
    pub list : ns ≡ ms ++ added
    pub lies : LiesIn base all new (drop n bytes)
    pub order : InOrder (done_place old) (done_place new) added
    pub took :
        Took codec_of saw (framed base all old) (framed base all new) (take n bytes) (units_in base all added)

  -- the same, in whatever bytes they lie
  abbrev pub MarksUp : Marking S → Marking S → List ℕ → ℕ → List Mark → List Mark → Type 0
  MarksUp old new bytes n ms ns =
      (base : ℕ) (all : List ℕ) → LiesIn base all old bytes → Marks old new base all bytes n ms ns

  -- there is a stream for which it stands
  abbrev pub StandsOn : Marking S → List (Segment NoOwner) → Type 0
  StandsOn m nodes = (h : List ℕ) × StandsFor codec_of saw (holding m nodes) h

  -- of the bytes behind those that were kept the first n were taken; their units are marked, and have these frames;
  -- the bytes left are those of the open unit, or those that weren't taken
  pub record CutsUp (old new : Marking S) (kept : List (Segment NoOwner)) (bytes : List ℕ) (n : ℕ) (left : List ℕ)
      (marks : List Mark) (frames : List (List ℕ)) : Type 0 where
    pub units : List FramingUnit
    pub marked : AllZip IsMark marks units
    pub frames_are : frames ≡ frames_of units
    pub opened : List ℕ
    pub left_is : left ≡ opened ++ drop n bytes
    pub took :
        Took codec_of saw (holding old kept) (holding new (whole_window opened wrapped ∷ [])) (take n bytes) units
    pub within : n ≤ length bytes
    pub all_or_none : n < length bytes → opened ≡ []
