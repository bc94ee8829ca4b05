-- Holds on storages that were just made.
use Rattle.std.proofs.Common.{◌≡◌, ℕ, List, ◌++◌, ◌∷◌, [], length, true, Some, sym, ap, subst}
use Rattle.atomic_table.specs.Seated.{TableId}
use Rattle.share_count.specs.Weights.{full}
use Rattle.share_count.specs.Held.{Owned, owned, with_payload}
use Rattle.buffer_model.specs.Share.{Held}
use Rattle.buffer_model.specs.Minted.{Numbers}
use Rattle.buffer_model.proofs.Minted.{adds_one, made_is_new}
use Rattle.storage.specs.declared.stored.Stored.{Stored}
use Rattle.storage.specs.Stored.{way_of, share_of, held_by}
use Rattle.storage.specs.Made.{Makes, IsMade}

module _ {O : Type 0} where
  -- a unit that was just made is a hold on a new storage
  pub made_on : (old new : Numbers) (u : Owned (Stored O)) (s : Stored O) (t : TableId) → u ≡ owned t (length old) full 0 0 0 true s → new ≡ old ++ Some t ∷ [] → Makes old new (way_of s.way) s.block (held_by u)
  made_on old new u s t is minted = record {
    block = ap (λ (x : Owned (Stored O)). x.payload.block) is;
    storage = made_is_new old new t (way_of s.way) (share_of u) (ap share_of is) minted;
    mint = adds_one old new (Some t) minted;
  }

  -- so it is once it was filled
  pub filled_on : (old new : Numbers) (u : Owned (Stored O)) (s : Stored O) (bytes : List ℕ) (h : Held O) → IsMade old new u → h ≡ held_by (with_payload u s) → s.block ≡ bytes → Makes old new (way_of s.way) bytes h
  filled_on old new u s bytes h made is block =
      let P : Held O → Type 0 = λ x. Makes old new (way_of s.way) s.block x in
      let Q : List ℕ → Type 0 = λ b. Makes old new (way_of s.way) b h in
      subst Q block (subst P (sym is) (made_on old new (with_payload u s) s u.table (ap (λ (x : Owned (Stored O)). with_payload x s) made.unit) made.mint))
