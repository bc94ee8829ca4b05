-- Clones of windows, and windows that move.
use Rattle.std.specs.Prelude.{◌≡◌, ◌≤◌, None, ◌⊎◌}
use Rattle.buffer_model.specs.Share.{Share, own, rest_of, part_of, looked, FindsShared, IsManaged}
use Rattle.buffer_model.specs.Segment.{Segment, shared_as}
use Rattle.buffer_model.specs.Minted.{Numbers, Adds, IsNew}

module _ {O : Type 0} where
  -- a share before and after a part of it was given away, and the part. Wrapped bytes have no weight: both stay wrapped
  abbrev pub Splits : Share O → Share O → Share O → Type 0
  Splits before after gone =
      ((before.number ≡ None) × (after ≡ before) × (gone ≡ before))
      ⊎ ((2 ≤ before.weight) × (after ≡ rest_of before) × (gone ≡ part_of before))

  -- at weight 1 there is nothing to give away: the share stays, and the other is all of a storage that was just made
  abbrev pub Renews : Numbers → Numbers → Share O → Share O → Share O → Type 0
  Renews old new before after other = (before.weight ≡ 1) × (after ≡ before) × IsNew old new own other

  -- a share before and after a clone was made, and the clone's, with the mint before and after
  abbrev pub SplitsOrRenews : Numbers → Numbers → Share O → Share O → Share O → Type 0
  SplitsOrRenews old new before after clone =
      ((new ≡ old) × Splits before after clone) ⊎ (Adds 1 old new × Renews old new before after clone)

  -- a window before it is cloned and after, and its clone, with the mint before and after: all have the same three
  -- lists, and the storage is shared, or the clone stands on a copy of the whole block
  pub record Clones (old new : Numbers) (before after clone : Segment O) : Type 0 where
    pub lists : after ≡ shared_as after.share before
    pub clone_lists : clone ≡ shared_as clone.share before
    pub shares : SplitsOrRenews old new before.share after.share clone.share

  -- a window before and after a part of its weight was given to a clone, and the clone: all have the same three lists
  pub record SharesPart (before after clone : Segment O) : Type 0 where
    pub lists : after ≡ shared_as after.share before
    pub clone_lists : clone ≡ shared_as clone.share before
    pub enough : 2 ≤ before.share.weight
    pub rest : after.share ≡ rest_of before.share
    pub part : clone.share ≡ part_of before.share

  -- a window before and after a look that found its storage shared. The three lists stay
  abbrev pub StaysShared : Segment O → Segment O → Type 0
  StaysShared before after = (after ≡ shared_as after.share before) × FindsShared before.share after.share

  -- a window before and after a look that found nobody else on its storage
  abbrev pub StaysSole : Segment O → Segment O → Type 0
  StaysSole before after = IsManaged before.share × (after ≡ shared_as (looked before.share.weight before.share) before)

  -- a window before and after it moved to a new storage, with the same three lists
  pub record MovesOut (old new : Numbers) (before after : Segment O) : Type 0 where
    pub lists : after ≡ shared_as after.share before
    pub storage : IsNew old new own after.share
    pub mint : Adds 1 old new
