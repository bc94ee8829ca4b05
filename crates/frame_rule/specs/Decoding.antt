-- What a decoder is seen as, and what its calls do.
use Rattle.std.specs.Prelude.{◌≡◌, ℕ, ◌+◌, Bool, true, false, List, [], ◌++◌, Result, Ok, Err}
use Rattle.storage.specs.declared.release.NoOwner.{NoOwner}
use Rattle.buffer_model.specs.Segment.{Segment}
use Rattle.frame_head.specs.declared.codecs.Codec.{Codec}
use Rattle.frame_head.specs.Units.{units, ended}
use Rattle.frame_rule.specs.declared.decoder.FeedFault.{FeedFault}
use Rattle.frame_rule.specs.declared.decoder.FeedFault.TheVariants.{NoMemory, Dead}
use Rattle.frame_rule.specs.declared.unit.FrameUnit.{FrameUnit}
use Rattle.frame_rule.specs.Units.{Grew, GrewPartly}

-- its codec, how many bytes it was fed, the nodes of the chains that it keeps, and whether it is dead
pub record Decoding : Type 0 where
  pub codec : Codec
  pub fed : ℕ
  pub kept : List (Segment NoOwner)
  pub dead : Bool

-- a decoder that was fed nothing
abbrev pub fresh : Codec → Decoding
fresh codec = record { codec = codec; fed = 0; kept = []; dead = false }

-- a decoder before and after a piece of n bytes, and the answer: it was fed them; or memory was refused, and it is
-- dead; or it was dead before, and nothing changed
abbrev pub Fed : {U : Type 0} → ℕ → Decoding → Decoding → Result U FeedFault → Type 0
Fed n old new (Ok u) = (old.dead ≡ false) × (new ≡ record old { fed = old.fed + n; kept = new.kept })
Fed n old new (Err NoMemory) =
    (old.dead ≡ false) × (new ≡ record old { fed = new.fed; kept = new.kept; dead = true })
Fed n old new (Err Dead) = (old.dead ≡ true) × (new ≡ old)

-- a decoder before and after memory was refused: it is dead, and of the same codec
abbrev pub IsLost : Decoding → Decoding → Type 0
IsLost old new = (new.dead ≡ true) × (new.codec ≡ old.codec)

-- a decoder before and after the end of the stream, and the answer: it keeps nothing and is dead; or memory was
-- refused, and it is dead and keeps what it kept; or it was dead before, and nothing changed
abbrev pub Ended : {U : Type 0} → Decoding → Decoding → Result U FeedFault → Type 0
Ended old new (Ok u) = (old.dead ≡ false) × (new ≡ record old { kept = []; dead = true })
Ended old new (Err NoMemory) = (old.dead ≡ false) × (new ≡ record old { dead = true })
Ended old new (Err Dead) = (old.dead ≡ true) × (new ≡ old)

-- a decoder that stood for some bytes took the bytes p: it stands for both, and exactly the units were added that p
-- makes whole
pub record TakesIn (stood now : List ℕ → Type 0) (codec : Codec) (p : List ℕ) (old new : List FrameUnit) : Type 0 where
  pub stands : (h : List ℕ) → stood h → now (h ++ p)
  pub grew : (h : List ℕ) → stood h → Grew (units codec h) (units codec (h ++ p)) old new

-- the first of the units were added that p makes whole
abbrev pub TakesPartly : (List ℕ → Type 0) → Codec → List ℕ → List FrameUnit → List FrameUnit → Type 0
TakesPartly stood codec p old new = (h : List ℕ) → stood h → GrewPartly (units codec h) (units codec (h ++ p)) old new

-- exactly the units were added that the end of the stream adds
abbrev pub TakesEnd : (List ℕ → Type 0) → Codec → List FrameUnit → List FrameUnit → Type 0
TakesEnd stood codec old new = (h : List ℕ) → stood h → Grew (units codec h) (ended codec h) old new
