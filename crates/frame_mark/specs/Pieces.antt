-- Pieces whose units are marked.
use Rattle.std.specs.Prelude.{◌≡◌, ◌⊎◌, ℕ, ◌+◌, ◌-◌, ◌<◌, ◌≤◌, List, [], ◌∷◌, ◌++◌, Option, Some, None, Result, Ok, Err, length}
use Rattle.std.specs.List.{AllZip}
use Rattle.std.specs.Vec.{vec_len, vec_capacity}
use Rattle.storage.specs.declared.release.NoOwner.{NoOwner}
use Rattle.storage.specs.declared.back.Back.{Back}
use Rattle.buffer_model.specs.Segment.{Segment, bytes_of}
use Rattle.iobuf_chain.specs.Accounts.{held_by}
use Rattle.iobuf_chain.specs.Copies.{CopiesNoData, HasData, IsHeavy, IsStout, WithData}
use Rattle.iobuf_chain.specs.Lists.{Each}
use Rattle.frame_batch.specs.declared.window.Window.{Window}
use Rattle.frame_head.specs.declared.codecs.Codec.{Codec}
use Rattle.frame_head.specs.Heads.{FramingUnit}
use Rattle.frame_head.specs.Units.{units, ended}
use Rattle.frame_batch.specs.Batches.{Batched}
use Rattle.frame_rule.specs.Hauls.{AreReturns, Begins, IsTight, nodes_if, stakes_back}
use Rattle.frame_mark.specs.declared.mark.Finds.{Finds}
use Rattle.frame_mark.specs.declared.mark.Mark.{Mark}
use Rattle.frame_mark.specs.declared.pieces.Marked.{Marked}
use Rattle.frame_mark.specs.Marking.{IsMark, frames_of, holding}
use Rattle.frame_mark.specs.declared.marking.Marking.{Marking}
use Rattle.frame_rule.specs.Framing.{Took}
use Rattle.buffer_model.specs.Stake.{KeepsTotals}

-- the frames and the nodes of a batch that may be there
abbrev pub frames_if : Option Batched → List (List ℕ)
frames_if None = []
frames_if (Some b) = b.frames

abbrev pub chain_if : Option Batched → List (Segment NoOwner)
chain_if None = []
chain_if (Some b) = b.chain

-- a batch that is there has a frame
abbrev pub HasFrames : Option Batched → Type 0
HasFrames None = Unit {0}
HasFrames (Some b) = 0 < length b.frames

-- a list that is there has a window
abbrev pub HasWindows : Option (List Window) → Type 0
HasWindows None = Unit {0}
HasWindows (Some ws) = 0 < length ws

-- the nodes that a call answers: those of the batch, and those that weren't looked at
abbrev pub answered_by : {E : Type 0} → Result Marked E → List (Segment NoOwner)
answered_by (Ok m) = chain_if m.batch ++ nodes_if m.rest
answered_by (Err e) = []

-- the nodes of the batch that a call answers
abbrev pub ended_of : {E : Type 0} → Result (Option Batched) E → List (Segment NoOwner)
ended_of (Ok batch) = chain_if batch
ended_of (Err e) = []

abbrev pub batch_of : {E : Type 0} → Result (Option Batched × ℕ) E → List (Segment NoOwner)
batch_of (Ok r) = chain_if r.0
batch_of (Err e) = []

-- how many bytes of a piece were taken
abbrev pub taken_of : {E : Type 0} → List (Segment NoOwner) → Result Marked E → ℕ
taken_of piece (Ok m) = length (bytes_of piece) - length (bytes_of (nodes_if m.rest))
taken_of piece (Err e) = 0

-- a decoder that stood for some bytes took a part of a piece, and handed back the rest of it: it stands for both, and
-- marked exactly the units that the part makes whole, whose frames are a batch
pub record MarksPiece (stood now : List ℕ → Type 0) (codec : Codec) (piece : List (Segment NoOwner)) (m : Marked)
    (marks : List Mark) : Type 0 where
  pub taken : List ℕ
  pub parts : bytes_of piece ≡ taken ++ bytes_of (nodes_if m.rest)
  pub added : List FramingUnit
  pub marked : AllZip IsMark marks added
  pub frames : frames_if m.batch ≡ frames_of added
  pub stands : (h : List ℕ) → stood h → now (h ++ taken)
  pub grew : (h : List ℕ) → stood h → units codec (h ++ taken) ≡ units codec h ++ added

-- exactly the units were marked that the end of a stream adds
pub record MarksEnd (stood : List ℕ → Type 0) (codec : Codec) (batch : Option Batched) (marks : List Mark)
    : Type 0 where
  pub added : List FramingUnit
  pub marked : AllZip IsMark marks added
  pub frames : frames_if batch ≡ frames_of added
  pub grew : (h : List ℕ) → stood h → ended codec h ≡ units codec h ++ added

-- of the bytes behind the nodes that were kept those of a part of a piece were taken: it is seen by its crate
pub record TakesPart {S : Type 0} (codec_of : S → Codec) (saw : S → List ℕ → Type 0) (old new : Marking S)
    (kept now piece : List (Segment NoOwner)) (m : Marked) (marks : List Mark) : Type 0 where
  pub taken : List ℕ
  pub parts : bytes_of piece ≡ taken ++ bytes_of (nodes_if m.rest)
  pub added : List FramingUnit
  pub marked : AllZip IsMark marks added
  pub frames : frames_if m.batch ≡ frames_of added
  pub took : Took codec_of saw (holding codec_of saw old kept) (holding codec_of saw new now) taken added

-- what nodes hand back was added, or there was no storage under them
pub record GivesUp (nodes : List (Segment NoOwner)) (old new : Finds) : Type 0 where
  pub marks : new.marks ≡ old.marks
  pub back : Begins old.back.items new.back.items
  pub one : length new.back.items ≤ length old.back.items + 1
  pub room : vec_capacity new.back ≡ vec_capacity old.back
  pub totals : KeepsTotals (held_by nodes ++ stakes_back old.back.items) (stakes_back new.back.items)

-- what is handed back unlooked at has bytes, and comes only where as many units were marked as were wanted
abbrev pub StopsAt : ℕ → Option (List (Segment NoOwner)) → List Mark → Type 0
StopsAt most None marks = Unit {0}
StopsAt most (Some rest) marks = (0 < length (bytes_of rest)) × (length marks ≡ most)

-- no data was copied: the nodes with data of what is kept, of the batch and of the rest have storages of these nodes;
-- what is kept and the rest can still be cut, and the batch can be shared
pub record SharesData (had kept : List (Segment NoOwner)) (m : Marked) : Type 0 where
  pub copies : CopiesNoData had (kept ++ (chain_if m.batch ++ nodes_if m.rest))
  pub heavy : WithData IsHeavy (kept ++ nodes_if m.rest)
  pub stout : WithData IsStout (chain_if m.batch)

-- nodes that each have data still do: those that are kept, and those that weren't looked at; and those of the batch,
-- or it has one node
pub record StaysTight (kept : List (Segment NoOwner)) (m : Marked) : Type 0 where
  pub kept_data : Each HasData kept
  pub rest_data : Each HasData (nodes_if m.rest)
  pub batch_tight : IsTight (chain_if m.batch)

-- what a dead decoder was fed hands back is added, or memory was refused; which it wasn't where there was room
pub record ReturnsPiece (piece : List (Segment NoOwner)) (old new : Finds) : Type 0 where
  pub back :
      ((backs : List (Back NoOwner)) × AreReturns piece backs × (new.back.items ≡ old.back.items ++ backs ∷ []))
      ⊎ (new.back.items ≡ old.back.items)
  pub room :
      vec_len old.back < vec_capacity old.back
      → (backs : List (Back NoOwner)) × AreReturns piece backs × (new.back.items ≡ old.back.items ++ backs ∷ [])
