-- What a hold hands back.
use Rattle.std.specs.Prelude.{◌≡◌, ℕ, List, [], ◌∷◌, ◌++◌, Option, Some, None}
use Rattle.share_count.specs.Held.{Tally}
use Rattle.buffer_model.specs.Share.{Held, Way, own, user, lent, tagged, IsWhole, IsReceiptFor}
use Rattle.buffer_model.specs.Stake.{Stake, kept, ended}
use Rattle.storage.specs.Ends.{Ends}
use Rattle.storage.specs.declared.stored.Ended.{Ended}
use Rattle.storage.specs.declared.stored.Ended.TheVariants.{Gone, Ran as Told, Lent as Unlent, Tag as Tagged}
use Rattle.storage.specs.declared.back.Back.{Back}
use Rattle.storage.specs.declared.back.Back.TheVariants.{Kept, Done, Ran, Lent, Tag, Nothing}

module _ {O : Type 0} where
  -- what is handed back at the last, with the receipt
  abbrev pub back_of : Ended O → Tally → Back O
  back_of Gone r = Done r
  back_of (Told o) r = Ran o r
  back_of (Unlent block) r = Lent block r
  back_of (Tagged t) r = Tag t r

  -- the receipt in a value that was handed back
  abbrev pub receipt_in : Back O → Option Tally
  receipt_in (Kept r) = Some r
  receipt_in (Done r) = Some r
  receipt_in (Ran o r) = Some r
  receipt_in (Lent block r) = Some r
  receipt_in (Tag t r) = Some r
  receipt_in Nothing = None

  -- what a call has of a storage by a value that was handed back
  abbrev pub stakes_of : Back O → List (Stake O)
  stakes_of (Kept r) = kept r ∷ []
  stakes_of (Done r) = ended own r ∷ []
  stakes_of (Ran o r) = ended (user tt) r ∷ []
  stakes_of (Lent block r) = ended (lent block.number) r ∷ []
  stakes_of (Tag t r) = ended (tagged t) r ∷ []
  stakes_of Nothing = []

  -- the same for a list of such values
  abbrev pub stakes_in : List (Back O) → List (Stake O)
  stakes_in [] = []
  stakes_in (b ∷ bs) = stakes_of b ++ stakes_in bs

  -- the same for one that may be there
  abbrev pub stakes_if : Option (Back O) → List (Stake O)
  stakes_if None = []
  stakes_if (Some b) = stakes_of b

  module _ (runs : O → ℕ) (last : O → Option (List ℕ)) where
    abbrev pub EndsSo : Option (Way O) → List ℕ → Ended O → Type 0
    EndsSo None bytes end = ⊥
    EndsSo (Some way) bytes end = Ends runs last way bytes end

    -- a hold was the last and is given back so: with the receipt for all that it has, and by the way of its storage
    abbrev pub GivesBackLast : Held O → Ended O → Tally → Type 0
    GivesBackLast h end r = IsReceiptFor h.share 1 r × EndsSo h.share.way h.bytes end

    -- a hold is given back so: `Kept` only where it isn't whole, with the receipt for all that it has; at the last by
    -- the way of its storage; and nothing for wrapped bytes
    abbrev pub GivesBack : Held O → Back O → Type 0
    GivesBack h (Kept r) = IsReceiptFor h.share 0 r × (¬ IsWhole h.share)
    GivesBack h (Done r) = GivesBackLast h Gone r
    GivesBack h (Ran o r) = GivesBackLast h (Told o) r
    GivesBack h (Lent block r) = GivesBackLast h (Unlent block) r
    GivesBack h (Tag t r) = GivesBackLast h (Tagged t) r
    GivesBack h Nothing = h.share.number ≡ None
