-- What a call has of each storage, at its entry and at its exit.
use Rattle.std.specs.Prelude.{◌≡◌, ℕ, ◌+◌, ◌≤◌, ◌==◌, ◌&&◌, Bool, if◌then◌else◌, List, [], ◌∷◌, Option, Some, None, length}
use Rattle.std.specs.Str.{bytes_eq}
use Rattle.atomic_table.specs.Seated.{TableId}
use Rattle.share_count.specs.Held.{Tally}
use Rattle.share_count.specs.Numbered.{IsNumbered}
use Rattle.buffer_model.specs.Share.{Share, Way, Kind, ownerless}
use Rattle.buffer_model.specs.Minted.{Numbers}

-- a storage: its number, and the word that counts it. Two mints may give one number; no two storages have one word
pub record Storage : Type 0 where
  pub number : ℕ
  pub table : TableId

-- whether two words are one
unfoldable pub same_table : TableId → TableId → Bool
same_table t u = t.words == u.words && (t.slots == u.slots && (t.views_name == u.views_name && (t.atom == u.atom
    && (t.block == u.block && (t.offset == u.offset && bytes_eq t.slot_names u.slot_names)))))

-- whether a number and a word are the storage's
abbrev pub is_at : Storage → ℕ → TableId → Bool
is_at z number table = number == z.number && same_table table z.table

-- one thing that has a part of a storage's weight: a hold; a receipt by itself; what was handed back while others
-- hold the storage; or what was handed back at the last, with how the storage was released
pub data Stake (O : Type 0) : Type 0 where
  held : Share O → Stake O
  counted : Tally → Stake O
  kept : Tally → Stake O
  ended : Kind → Tally → Stake O

abbrev pub received : Storage → Tally → ℕ
received z r = if is_at z r.number r.table then r.weight else 0

abbrev pub weight_at : Storage → Option ℕ → Option TableId → ℕ → ℕ
weight_at z None table weight = 0
weight_at z (Some number) None weight = 0
weight_at z (Some number) (Some table) weight = if is_at z number table then weight else 0

-- a receipt is for weight of the storage
abbrev pub IsReceiptAt : Storage → Tally → Type 0
IsReceiptAt z r = (r.number ≡ z.number) × (r.table ≡ z.table)

-- the mint numbered the storage between two moments
abbrev pub IsNumberedIn : Numbers → Numbers → Storage → Type 0
IsNumberedIn old new z = (length old ≤ z.number) × IsNumbered new z.number z.table

module _ {O : Type 0} where
  -- a hold is on the storage
  abbrev pub IsHeldAt : Storage → Share O → Type 0
  IsHeldAt z s = (s.number ≡ Some z.number) × (s.table ≡ Some z.table)

  -- the weight that it has of the storage, absorbed weight too
  abbrev pub weight_in : Storage → Stake O → ℕ
  weight_in z (held s) = weight_at z s.number s.table (s.weight + s.absorbed)
  weight_in z (counted r) = received z r
  weight_in z (kept r) = received z r
  weight_in z (ended kind r) = received z r

  -- the total of the storage
  abbrev pub total : Storage → List (Stake O) → ℕ
  total z [] = 0
  total z (s ∷ ss) = weight_in z s + total z ss

  abbrev pub IsOfKind : Kind → Option (Way O) → Type 0
  IsOfKind kind None = ⊥
  IsOfKind kind (Some way) = ownerless way ≡ kind

  -- if it is of the storage: that is released in this way, lasts is 0 where others hold it, and 1 at the last
  abbrev pub Agrees : Storage → Kind → Stake O → Type 0
  Agrees z kind (held s) = IsHeldAt z s → IsOfKind kind s.way
  Agrees z kind (counted r) = Unit {0}
  Agrees z kind (kept r) = IsReceiptAt z r → r.lasts ≡ 0
  Agrees z kind (ended k r) = IsReceiptAt z r → (k ≡ kind) × (r.lasts ≡ 1)

  -- the storage is of one way of release
  abbrev pub IsOneWay : Storage → Kind → List (Stake O) → Type 0
  IsOneWay z kind [] = Unit {0}
  IsOneWay z kind (s ∷ ss) = Agrees z kind s × IsOneWay z kind ss

  -- the storage has the same total before and after, and stays of one way
  pub record Keeps (entry exit : List (Stake O)) (z : Storage) : Type 0 where
    pub total : total z exit ≡ total z entry
    pub way : (kind : Kind) → IsOneWay z kind entry → IsOneWay z kind exit

  -- a call keeps totals: so it is for every storage
  abbrev pub KeepsTotals : List (Stake O) → List (Stake O) → Type 0
  KeepsTotals entry exit = (z : Storage) → Keeps entry exit z

  -- the same for every storage but those that the call's mint numbered in it. So what is there afterwards was there
  -- before, or is the mint's
  abbrev pub KeepsTotalsBeside : Numbers → Numbers → List (Stake O) → List (Stake O) → Type 0
  KeepsTotalsBeside old new entry exit = (z : Storage) → (IsNumberedIn old new z → ⊥) → Keeps entry exit z
