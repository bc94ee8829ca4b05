-- Storages that were just made.
use Rattle.std.specs.Prelude.{◌≡◌, ℕ, List, ◌∷◌, [], ◌++◌, length, true, Some}
use Rattle.share_count.specs.Weights.{full}
use Rattle.share_count.specs.Held.{Owned, owned}
use Rattle.buffer_model.specs.Share.{Held, Way}
use Rattle.buffer_model.specs.Minted.{Numbers, Adds, IsNew}

-- a hold on a new storage of these bytes, which is released in this way, with the mint before and after
pub record Makes {O : Type 0} (old new : Numbers) (way : Way O) (bytes : List ℕ) (h : Held O) : Type 0 where
  pub block : h.bytes ≡ bytes
  pub storage : IsNew old new way h.share
  pub mint : Adds 1 old new

-- a unit that was just made
pub record IsMade {X : Type 0} (old new : Numbers) (u : Owned X) : Type 0 where
  pub unit : u ≡ owned u.table (length old) full 0 0 0 true u.payload
  pub mint : new ≡ old ++ Some u.table ∷ []
