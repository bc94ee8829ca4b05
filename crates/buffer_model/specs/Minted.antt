-- Storages as a mint numbers them. A mint is the list of the words that count its storages: that of storage n stands
-- at n. A number that was handed out by itself has none.
use Rattle.std.specs.Prelude.{◌≡◌, ℕ, ◌+◌, ◌≤◌, ◌<◌, List, length, Option, Some, None}
use Rattle.atomic_table.specs.Seated.{TableId}
use Rattle.share_count.specs.Weights.{full}
use Rattle.share_count.specs.Held.{Tally}
use Rattle.share_count.specs.Numbered.{IsNumbered}
use Rattle.buffer_model.specs.Share.{Share, Way, IsAlone}

-- what a mint is seen as
abbrev pub Numbers : Type 0
Numbers = List (Option TableId)

-- the storages that were numbered before keep their numbers
abbrev pub StayNumbered : Numbers → Numbers → Type 0
StayNumbered old new = (n : ℕ) (table : TableId) → IsNumbered old n table → IsNumbered new n table

-- between two moments the mint numbered more storages, or none
abbrev pub NumbersOn : Numbers → Numbers → Type 0
NumbersOn old new = StayNumbered old new × (length old ≤ length new)

-- between two moments it numbered so many
abbrev pub Adds : ℕ → Numbers → Numbers → Type 0
Adds n old new = StayNumbered old new × (length new ≡ length old + n)

-- it numbered at most so many
abbrev pub AddsAtMost : ℕ → Numbers → Numbers → Type 0
AddsAtMost n old new = StayNumbered old new × (length old ≤ length new) × (length new ≤ length old + n)

-- the mint gave this number to the storage that this word counts
abbrev pub IsNumberedAs : Numbers → Option ℕ → Option TableId → Type 0
IsNumberedAs mint (Some n) (Some table) = IsNumbered mint n table
IsNumberedAs mint _ _ = ⊥

-- the number was given out between two moments
abbrev pub IsBetween : Numbers → Numbers → Option ℕ → Type 0
IsBetween old new (Some n) = (length old ≤ n) × (n < length new)
IsBetween old new None = ⊥

-- a receipt is for weight of a storage of this mint
abbrev pub IsReceiptOfMint : Numbers → Tally → Type 0
IsReceiptOfMint mint r = IsNumbered mint r.number r.table

module _ {O : Type 0} where
  -- a hold is on a storage of this mint
  abbrev pub IsOfMint : Numbers → Share O → Type 0
  IsOfMint mint s = IsNumberedAs mint s.number s.table

  -- the one hold on a storage that was made between two moments: it has all the weight, is alone, and the storage is
  -- released in this way
  pub record IsNew (old new : Numbers) (release : Way O) (s : Share O) : Type 0 where
    pub number : IsBetween old new s.number
    pub minted : IsOfMint new s
    pub weight : s.weight ≡ full
    pub absorbed : s.absorbed ≡ 0
    pub way : s.way ≡ Some release
    pub alone : IsAlone s
