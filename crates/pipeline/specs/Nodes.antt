-- What stages do to a frame's nodes.
use Rattle.std.specs.Prelude.{◌≡◌, ℕ, ◌+◌, ◌-◌, ◌<◌, ◌≤◌, Bool, true, false, List, [], ◌∷◌, ◌++◌, length, map, slice_get, slice_set, Option, Some, None, ◌⊎◌, Result, Ok, Err}
use Rattle.std.specs.List.{AllZip}
use Rattle.storage.specs.declared.back.Back.{Back}
use Rattle.storage.specs.Back.{stakes_in, stakes_of}
use Rattle.buffer_model.specs.Share.{IsAlone, IsWhole, claimed}
use Rattle.buffer_model.specs.Segment.{Segment, bytes_of, shared_as, rewritten, trimmed_start, trimmed_end}
use Rattle.buffer_model.specs.Minted.{Numbers, NumbersOn, IsBetween}
use Rattle.buffer_model.specs.Stake.{Stake, held, KeepsTotals, KeepsTotalsBeside}
use Rattle.iobuf_chain.specs.Accounts.{held_by}
use Rattle.iobuf_chain.specs.Copies.{HasData}
use Rattle.iobuf_chain.specs.Lists.{Each}
use Rattle.pipeline.specs.Plain.{raised}

module _ {O : Type 0} where
  -- a node before and after it lost bytes: it has what it had of its storage; and it has data where it had some, unless
  -- it is alone
  abbrev pub Narrows : Type 0 → Segment O → Segment O → Type 0
  Narrows alone before after =
      (after.share ≡ before.share) × (length after.window ≤ length before.window)
      × (HasData before → HasData after ⊎ alone)

  -- nodes before and after bytes left them: in order, each stays so, or had data and left
  abbrev pub Thins : Type 0 → List (Segment O) → List (Segment O) → Type 0
  Thins alone [] [] = Unit {0}
  Thins alone [] (t ∷ ts) = ⊥
  Thins alone (s ∷ ss) [] = HasData s × Thins alone ss []
  Thins alone (s ∷ ss) (t ∷ ts) =
      (HasData s × Thins alone ss (t ∷ ts)) ⊎ (Narrows alone s t × Thins alone ss ts)

  -- a frame's nodes before and after bytes left them
  abbrev pub Sheds : List (Segment O) → List (Segment O) → Type 0
  Sheds before after = Thins (length after ≡ 1) before after

  -- a node before and after: it is on the storage that it was on, with the same weight and what it absorbed
  abbrev pub IsKept : Segment O → Segment O → Type 0
  IsKept before after =
      (after.share.number ≡ before.share.number) × (after.share.table ≡ before.share.table)
      × (after.share.weight ≡ before.share.weight) × (after.share.absorbed ≡ before.share.absorbed)

  -- each node has all weight of its storage, so that nobody else holds it
  abbrev pub AreWhole : List (Segment O) → Type 0
  AreWhole nodes = Each (λ s. IsWhole s.share) nodes

  -- some node is on a storage that was numbered between two moments
  abbrev pub HasNew : Numbers → Numbers → List (Segment O) → Type 0
  HasNew old new [] = ⊥
  HasNew old new (s ∷ ss) = IsBetween old new s.share.number ⊎ HasNew old new ss

  -- of nodes some left, or some moved to a new storage
  abbrev pub Changes : Numbers → Numbers → List (Segment O) → List (Segment O) → Type 0
  Changes old new before after =
      (length after ≤ length before) × ((length after < length before) ⊎ HasNew old new after)

  -- what was handed back of a frame's nodes: nothing, and all are kept; or something, since some left or moved
  abbrev pub HandsBack : Numbers → Numbers → List (Segment O) → List (Segment O) → Option (List (Back O)) → Type 0
  HandsBack old new before after None = AllZip IsKept before after
  HandsBack old new before after (Some backs) = (0 < length backs) × Changes old new before after

  -- the same of a list to which it was added
  abbrev pub AddsBacks : Numbers → Numbers → List (Segment O) → List (Segment O)
      → List (Back O) → List (Back O) → Type 0
  AddsBacks old new before after backs now =
      ((length now ≡ length backs) × AllZip IsKept before after)
      ⊎ ((length backs < length now) × Changes old new before after)

  -- what a call hands back, as a list
  abbrev pub listed : Option (List (Back O)) → List (Back O)
  listed None = []
  listed (Some backs) = backs

  -- what a call has of storages by what it hands back
  abbrev pub stakes_back : Option (List (Back O)) → List (Stake O)
  stakes_back None = []
  stakes_back (Some backs) = stakes_in backs

  -- a frame and what was handed back, before and after a stage: nothing of a storage is lost; something is handed back
  -- only where nodes left or moved; and where each node is whole, none moves
  pub record Works (old new : Numbers) (before after : List (Segment O)) (backs now : List (Back O)) : Type 0 where
    pub totals : KeepsTotalsBeside old new (held_by before ++ stakes_in backs) (held_by after ++ stakes_in now)
    pub mint : NumbersOn old new
    pub adds : AddsBacks old new before after backs now
    pub whole : AreWhole before → AreWhole after × (length before + length backs ≡ length after + length now)

  -- nodes before and after the first of them left, and what it handed back
  pub record LeavesFirst (before after : List (Segment O)) (back : Back O) : Type 0 where
    pub node : Segment O
    pub before_is : before ≡ node ∷ after
    pub totals : KeepsTotals (held node.share ∷ []) (stakes_of back)

  -- nodes before and after the first of them lost so many first and so many last bytes and became the last
  pub record TurnsFirst (front back : ℕ) (before after : List (Segment O)) : Type 0 where
    pub node : Segment O
    pub rest : List (Segment O)
    pub before_is : before ≡ node ∷ rest
    pub after_is : after ≡ rest ++ trimmed_end back (trimmed_start front node) ∷ []

  -- nodes before and after so many bytes of the first stayed, behind so many first ones, and what was handed back: it
  -- had data, has none left and leaves, and another stays; or it becomes the last
  pub record SiftsFirst (front stays : ℕ) (before after : List (Segment O)) (backs now : List (Back O)) : Type 0 where
    pub node : Segment O
    pub rest : List (Segment O)
    pub before_is : before ≡ node ∷ rest
    pub within : front + stays ≤ length node.window
    pub way :
        ((stays ≡ 0) × HasData node × (0 < length rest) × (after ≡ rest)
        × ((back : Back O) × (now ≡ backs ++ back ∷ []) × KeepsTotals (held node.share ∷ []) (stakes_of back)))
        ⊎ (((stays ≡ 0) × HasData node × (0 < length rest) → ⊥)
        × (after ≡ rest ++ trimmed_end (length node.window - front - stays) (trimmed_start front node) ∷ [])
        × (now ≡ backs))

  -- a node before and after a look whether its storage is its alone, and what that found: its lists and its weight stay
  pub record Claims (before after : Segment O) (found : Bool) : Type 0 where
    pub lists : after ≡ shared_as after.share before
    pub kept : IsKept before after
    pub totals : KeepsTotals (held before.share ∷ []) (held after.share ∷ [])
    pub alone : found ≡ true → IsAlone after.share
    pub other : found ≡ false → (¬ IsWhole after.share)

  -- a node before and after it was to be made fit for writing, and what it handed back: its lists stay; either nothing
  -- is handed back and it is kept, or it moved to a storage that was just numbered
  pub record Clears (old new : Numbers) (before after : Segment O) (backs : List (Back O)) : Type 0 where
    pub lists : after ≡ shared_as after.share before
    pub handed :
        ((backs ≡ []) × IsKept before after)
        ⊎ ((length backs ≡ 1) × IsBetween old new after.share.number)
    pub mint : NumbersOn old new
    pub totals : KeepsTotalsBeside old new (held before.share ∷ []) (held after.share ∷ stakes_in backs)
    pub whole : IsWhole before.share → IsWhole after.share × (backs ≡ [])

  -- what a call hands back, as a list
  abbrev pub given : {E : Type 0} → Result (Option (Back O)) E → List (Back O)
  given (Ok None) = []
  given (Ok (Some back)) = back ∷ []
  given (Err e) = []

  -- the same of the node at a place, with what was handed back before and after
  pub record ClearsAt (i : ℕ) (old new : Numbers) (before after : List (Segment O)) (backs now : List (Back O))
      : Type 0 where
    pub node : Segment O
    pub cleared : Segment O
    pub added : List (Back O)
    pub there : slice_get before i ≡ Some node
    pub clears : Clears old new node cleared added
    pub after_is : after ≡ slice_set before i cleared
    pub now_is : now ≡ backs ++ added

  -- a node that was found to be alone on its storage, with capital letters
  abbrev pub raised_node : Segment O → Segment O
  raised_node s = rewritten (map raised s.window) (shared_as (claimed s.share) s)

  -- nodes before and after their letters became capital ones
  pub record Raises (before after : List (Segment O)) : Type 0 where
    pub bytes : bytes_of after ≡ map raised (bytes_of before)
    pub kept : AllZip IsKept before after
    pub totals : KeepsTotals (held_by before) (held_by after)
