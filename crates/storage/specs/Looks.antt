-- What a look at a hold answers.
use Rattle.std.specs.Prelude.{◌≡◌, ℕ, ◌<◌, Option, Some, None, IsSome, Result, Ok, Err}
use Rattle.share_count.specs.Answers.{IsStanding}
use Rattle.share_count.specs.declared.standing.Standing.{Standing}
use Rattle.share_count.specs.declared.standing.Standing.TheVariants.{Shared}
use Rattle.buffer_model.specs.Share.{Share, looked, claimed}
use Rattle.storage.specs.declared.hold.Barred.{Barred}
use Rattle.storage.specs.declared.hold.Barred.TheVariants.{SharedNow, Unmanaged}

module _ {O : Type 0} where
  abbrev pub StandsAt : Option ℕ → Share O → Share O → Standing → Type 0
  StandsAt None before after standing = (standing ≡ Shared 0) × (after ≡ before)
  StandsAt (Some n) before after standing =
      (after ≡ looked after.note before) × IsStanding before.weight after.note standing

  -- a share before and after one look, and what the look answers: by the word that it found, which is noted. Wrapped
  -- bytes always stand as shared
  abbrev pub Stands : Share O → Share O → Standing → Type 0
  Stands before after standing = StandsAt before.number before after standing

  abbrev pub BarsAt : Option ℕ → Share O → Share O → Barred → Type 0
  BarsAt None before after reason = (reason ≡ Unmanaged) × (after ≡ before)
  BarsAt (Some n) before after Unmanaged = ⊥
  BarsAt (Some n) before after (SharedNow found) = (after ≡ looked found before) × (before.weight < found)

  -- why a hold may not be written, with its share before and after the look that found it
  abbrev pub Bars : Share O → Share O → Barred → Type 0
  Bars before after reason = BarsAt before.number before after reason

  -- a share before and after it was claimed for writing, by one look, and the answer: the storage is its alone where
  -- the look found its own weight
  abbrev pub Claims : {U : Type 0} → Share O → Share O → Result U Barred → Type 0
  Claims before after (Ok u) = IsSome before.number × (after ≡ claimed before)
  Claims before after (Err reason) = Bars before after reason
