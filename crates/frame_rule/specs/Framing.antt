-- What a decoder keeps, and the streams for which it stands.
use Rattle.std.specs.Prelude.{◌≡◌, ◌⊎◌, ℕ, ◌+◌, ◌^◌, ◌<◌, ◌≤◌, Bool, true, false, List, [], ◌++◌, Option, Some, None, length, take, drop, if◌then◌else◌}
use Rattle.std.proofs.Common.{refl, inl, inr}
use Rattle.buffer_model.specs.Segment.{Segment, bytes_of}
use Rattle.frame_head.specs.declared.codecs.Codec.{Codec}
use Rattle.frame_head.specs.Heads.{FramingUnit}
use Rattle.frame_head.specs.Units.{units, rest, overrun}
use Rattle.storage.specs.declared.release.NoOwner.{NoOwner}
use Rattle.frame_rule.specs.declared.progress.Progress.{Progress}
use Rattle.frame_rule.specs.declared.unit.FrameUnit.{FrameUnit}
use Rattle.frame_head.specs.Codecs.{most_kept}
use Rattle.frame_rule.specs.Scanning.{IsHopeless}
use Rattle.frame_rule.specs.Units.{units_of}
use Rattle.frame_rule.specs.Decoding.{Decoding}

-- a decoder: its scanner, how many bytes it was fed, how many of them are an open unit, the nodes that it keeps of
-- those, whether it keeps none because they are hopeless, how many of the next bytes it skips, and whether it is dead
pub record Framing (S O : Type 0) : Type 0 where
  pub scanner : S
  pub fed : ℕ
  pub unread : ℕ
  pub kept : List (Segment O)
  pub lost : Bool
  pub skip : ℕ
  pub dead : Bool

-- a decoder that was fed nothing
abbrev pub fresh : {S O : Type 0} → S → Framing S O
fresh scanner = record { scanner = scanner; fed = 0; unread = 0; kept = []; lost = false; skip = 0; dead = false }

module _ {S O : Type 0} (codec_of : S → Codec) (saw : S → List ℕ → Type 0) where
  -- a decoder that isn't dead stands for the bytes that it was fed: its scanner has seen what is an open unit of them,
  -- and it keeps those bytes, or none where no frame can come of them
  pub record StandsFor (d : Framing S O) (h : List ℕ) : Type 0 where
    pub alive : d.dead ≡ false
    pub fed : d.fed ≡ length h
    pub unread : d.unread ≡ length (rest (codec_of d.scanner) h)
    pub seen : saw d.scanner (rest (codec_of d.scanner) h)
    pub skip : d.skip ≡ overrun (codec_of d.scanner) h
    pub kept : d.lost ≡ false → bytes_of d.kept ≡ rest (codec_of d.scanner) h
    pub none : d.lost ≡ true → bytes_of d.kept ≡ []
    pub hopeless : d.lost ≡ true → IsHopeless (codec_of d.scanner) (rest (codec_of d.scanner) h)
    pub bounded : length (bytes_of d.kept) ≤ most_kept (codec_of d.scanner)

  by_loss : (d : Framing S O) (h : List ℕ) → StandsFor d h → (lost : Bool) → d.lost ≡ lost
      → (bytes_of d.kept ≡ rest (codec_of d.scanner) h)
      ⊎ ((bytes_of d.kept ≡ []) × IsHopeless (codec_of d.scanner) (rest (codec_of d.scanner) h))
  by_loss d h is false e = inl (is.kept e)
  by_loss d h is true e = inr (is.none e, is.hopeless e)

  -- a decoder keeps the bytes of the open unit, or none where no frame can come of them
  pub keeps_rest : (d : Framing S O) (h : List ℕ) → StandsFor d h
      → (bytes_of d.kept ≡ rest (codec_of d.scanner) h)
      ⊎ ((bytes_of d.kept ≡ []) × IsHopeless (codec_of d.scanner) (rest (codec_of d.scanner) h))
  keeps_rest d h is = by_loss d h is d.lost refl

  -- a decoder took the bytes `p`, which add these units
  pub record Took (old new : Framing S O) (p : List ℕ) (added : List FramingUnit) : Type 0 where
    pub stands : (h : List ℕ) → StandsFor old h → StandsFor new (h ++ p)
    pub grew : (h : List ℕ) → StandsFor old h
        → units (codec_of old.scanner) (h ++ p) ≡ units (codec_of old.scanner) h ++ added
    pub codec : codec_of new.scanner ≡ codec_of old.scanner
    pub fed : new.fed ≡ old.fed + length p

  -- a decoder took a part of the bytes `p`, which adds these units, and is dead
  pub record Halted (old new : Framing S O) (p : List ℕ) (added : List FramingUnit) : Type 0 where
    pub grew : (h : List ℕ) → StandsFor old h → (missing : List FramingUnit)
        × (units (codec_of old.scanner) (h ++ p) ≡ (units (codec_of old.scanner) h ++ added) ++ missing)
    pub codec : codec_of new.scanner ≡ codec_of old.scanner
    pub dead : new.dead ≡ true

-- how many bytes of the open unit are kept
abbrev pub kept_size : {S : Type 0} → Progress S → ℕ
kept_size p = if p.lost then 0 else p.unread

module _ {S : Type 0} (codec_of : S → Codec) (saw : S → List ℕ → Type 0) where
  -- a decoder by how far its stream was scanned, and by the nodes of the open unit
  abbrev pub framing : Progress S → List (Segment NoOwner) → Framing S NoOwner
  framing p nodes = record {
    scanner = p.scanner;
    fed = p.fed;
    unread = p.unread;
    kept = nodes;
    lost = p.lost;
    skip = p.skip;
    dead = false;
  }

  -- there is a stream for which it stands
  abbrev pub Stands : Progress S → List (Segment NoOwner) → Type 0
  Stands p nodes = (h : List ℕ) × StandsFor codec_of saw (framing p nodes) h

  -- of a chain whose first i nodes were an open unit bytes were taken, and units added; and of what is left the first j
  -- nodes are the open unit
  pub record Passes (old new : Progress S) (i j : ℕ) (before after : List (Segment NoOwner)) (us vs : List FrameUnit)
      : Type 0 where
    pub taken : List ℕ
    pub added : List FrameUnit
    pub bytes : bytes_of (drop i before) ≡ taken ++ bytes_of (drop j after)
    pub within : j ≤ length after
    pub haul : vs ≡ us ++ added
    pub took : Took codec_of saw (framing old (take i before)) (framing new (take j after)) taken (units_of added)

  -- the same, and fewer bytes are left
  pub record Advances (old new : Progress S) (i j : ℕ) (before after : List (Segment NoOwner)) (us vs : List FrameUnit)
      : Type 0 where
    pub passes : Passes old new i j before after us vs
    pub shorter : length (bytes_of (drop j after)) < length (bytes_of (drop i before))

  -- memory was refused when some of the bytes behind the open unit were taken
  pub record Stops (old new : Progress S) (i : ℕ) (before : List (Segment NoOwner)) (us vs : List FrameUnit)
      : Type 0 where
    pub added : List FrameUnit
    pub haul : vs ≡ us ++ added
    pub halted : Halted codec_of saw (framing old (take i before)) (record (framing new []) { dead = true })
        (bytes_of (drop i before)) (units_of added)

  -- behind these nodes bytes were taken, and units added; and these nodes are kept then
  pub record TakesAll (old new : Progress S) (before after : List (Segment NoOwner)) (p : List ℕ)
      (us vs : List FrameUnit) : Type 0 where
    pub added : List FrameUnit
    pub haul : vs ≡ us ++ added
    pub took : Took codec_of saw (framing old before) (framing new after) p (units_of added)

  -- memory was refused when some of these bytes were taken
  pub record StopsAt (old new : Progress S) (before : List (Segment NoOwner)) (p : List ℕ) (us vs : List FrameUnit)
      : Type 0 where
    pub added : List FrameUnit
    pub haul : vs ≡ us ++ added
    pub halted : Halted codec_of saw (framing old before) (record (framing new []) { dead = true }) p (units_of added)

  -- a decoder as it is seen in its crate
  abbrev pub framing_of : Progress S → List (Segment NoOwner) → Bool → Framing S NoOwner
  framing_of p nodes dead = record (framing p nodes) { dead = dead }

-- a piece that was refused has a size together with what is kept before it
abbrev pub FitsBehind : List (Segment NoOwner) → Option (List (Segment NoOwner)) → Type 0
FitsBehind kept None = Unit {0}
FitsBehind kept (Some piece) = length (bytes_of kept) + length (bytes_of piece) < 2 ^ 64

-- what it is seen as by its users
abbrev pub decoding_of : {S : Type 0} → (S → Codec) → Framing S NoOwner → Decoding
decoding_of codec_of d = record { codec = codec_of d.scanner; fed = d.fed; kept = d.kept; dead = d.dead }
