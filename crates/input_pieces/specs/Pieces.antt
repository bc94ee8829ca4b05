-- An input that is read in pieces.
use Rattle.std.specs.Prelude.{◌≡◌, ℕ, ◌+◌, ◌-◌, ◌*◌, ◌<◌, ◌≤◌, List, [], ◌∷◌, ◌++◌, Option, Some, None, length, min, take}
use Rattle.storage.specs.declared.release.NoOwner.{NoOwner}
use Rattle.buffer_model.specs.Segment.{Segment, block_of}
use Rattle.relay_ports.specs.declared.lent.Lent.{Lent}
use Rattle.relay_ports.specs.States.{SourceState}
use Rattle.buffered_io.specs.declared.reading.Filled.{Filled}
use Rattle.buffered_io.specs.declared.reading.Filled.TheVariants.{Full, Ended, Broken}
use Rattle.buffered_io.specs.declared.reading.Stop.{Stop}
use Rattle.buffered_io.specs.declared.reading.Stop.TheVariants.{End, Failure, Limit}
use Rattle.buffered_io.specs.Reading.{Read, ReadFailing, IsAtEnd}
use Rattle.input_pieces.specs.declared.reader.NoPiece.{NoPiece}
use Rattle.input_pieces.specs.declared.reader.NoPiece.TheVariants.{Stopped, NoMemory}

-- a reader: its input, how many bytes a piece has and how many may be read, how many bytes and pieces were read, and
-- why no more is read, where the reading is over
pub record Reading (S : Type 0) : Type 0 where
  pub input : S
  pub block : ℕ
  pub limit : ℕ
  pub read : ℕ
  pub pieces : ℕ
  pub stop : Option Stop

-- a reader of an input that wasn't asked yet
abbrev pub new_reading : {S : Type 0} → S → ℕ → ℕ → Reading S
new_reading input block limit =
    record { input = input; block = block; limit = limit; read = 0; pieces = 0; stop = None }

-- how many bytes the next piece has, where they come: a block, or what is left up to the limit
abbrev pub asked : {S : Type 0} → Reading S → ℕ
asked r = min r.block (r.limit - r.read)

-- why no more is read behind a block that was filled so
abbrev pub stop_behind : Filled → Option Stop
stop_behind Full = None
stop_behind Ended = Some End
stop_behind Broken = Some Failure

-- a reading of at most `limit` bytes, by calls on slices of at most `block`, stopped behind the bytes `h`; at the
-- limit one byte was asked for, to see whether more is there
abbrev pub ReadsTo : ℕ → ℕ → Stop → List ℕ → SourceState → SourceState → Type 0
ReadsTo block limit End h s t = Read block h s t × IsAtEnd t × (length h ≤ limit)
ReadsTo block limit Failure h s t = ReadFailing block h s t × (length h ≤ limit)
ReadsTo block limit Limit h s t = (x : ℕ) × Read block (h ++ x ∷ []) s t × (length h ≡ limit)

-- such a reading goes on behind the bytes `h`, or stopped there
abbrev pub ReadsSoFar : ℕ → ℕ → Option Stop → List ℕ → SourceState → SourceState → Type 0
ReadsSoFar block limit None h s t = Read block h s t × (length h ≤ limit)
ReadsSoFar block limit (Some stop) h s t = ReadsTo block limit stop h s t

-- so many pieces hold so many bytes, where all but the last have the block's size: the bytes divided by the size,
-- rounded up
pub record IsPieceCount (block bytes pieces : ℕ) : Type 0 where
  pub enough : bytes ≤ pieces * block
  pub no_more : pieces * block < bytes + block

module _ {S : Type 0} (state : S → SourceState) where
  -- since its input was in the state `s`, a reader of this block size and limit read the bytes `h`
  pub record HasRead (block limit : ℕ) (s : SourceState) (h : List ℕ) (r : Reading S) : Type 0 where
    pub block_is : r.block ≡ block
    pub limit_is : r.limit ≡ limit
    pub came : ReadsSoFar block limit r.stop h s (state r.input)
    pub bytes : r.read ≡ length h
    pub pieces : IsPieceCount block (length h) r.pieces
    -- where more may be read, each piece had the block's size
    pub whole : r.stop ≡ None → length h < limit → length h ≡ r.pieces * block

  -- the bytes of a piece were read next, into a block that was filled so
  pub record ReadsPiece (bytes : List ℕ) (old new : Reading S) : Type 0 where
    pub filled : Filled
    pub stop_is : new.stop ≡ stop_behind filled
    pub some : 0 < length bytes
    pub joins : (block limit : ℕ) (s : SourceState) (h : List ℕ)
        → HasRead block limit s h old → HasRead block limit s (h ++ bytes) new

  -- the reading stopped so, and no byte came
  pub record Stops (stop : Stop) (old new : Reading S) : Type 0 where
    pub stopped : new.stop ≡ Some stop
    pub same : (block limit : ℕ) (s : SourceState) (h : List ℕ)
        → HasRead block limit s h old → HasRead block limit s h new

  -- there is no piece: the reading stopped, or memory was refused before anything was read
  abbrev pub ReadsNone : NoPiece → Reading S → Reading S → Type 0
  ReadsNone (Stopped stop) old new = Stops stop old new
  ReadsNone NoMemory old new = (new ≡ old) × (old.stop ≡ None)

  -- a lent block is handed back: the reading stopped, or memory was refused for the piece that these bytes begin with
  abbrev pub HandsBack : NoPiece → List ℕ → Reading S → Reading S → Type 0
  HandsBack (Stopped stop) bytes old new = Stops stop old new
  HandsBack NoMemory bytes old new = (n : ℕ) × ReadsPiece (take n bytes) old new

-- a lent block that may have other bytes
abbrev pub IsSameBlock : Lent → Lent → Type 0
IsSameBlock old new = (new.number ≡ old.number) × (length new.bytes.items ≡ length old.bytes.items)

-- a node whose block has so many bytes, of which the first are its data
pub record IsInFront (size : ℕ) (node : Segment NoOwner) : Type 0 where
  pub before : node.before ≡ []
  pub size_is : length (block_of node) ≡ size
