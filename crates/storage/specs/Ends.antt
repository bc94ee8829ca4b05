-- How storages end.
use Rattle.std.specs.Prelude.{◌≡◌, ℕ, ◌+◌, ◌<◌, ◌^◌, List, Option, IfSome}
use Rattle.buffer_model.specs.Share.{Way, own, user, lent, tagged}
use Rattle.storage.specs.declared.stored.Ended.{Ended}
use Rattle.storage.specs.declared.stored.Ended.TheVariants.{Gone, Ran, Lent, Tag}

module _ {O : Type 0} (runs : O → ℕ) (last : O → Option (List ℕ)) where
  -- the owner was told these bytes, once
  abbrev pub WasTold : O → O → List ℕ → Type 0
  WasTold before after bytes =
      (runs before < 2 ^ 63 → runs after ≡ runs before + 1) × IfSome (last after) (λ xs. xs ≡ bytes)

  -- what is left of a storage with this way of release and these bytes
  abbrev pub Ends : Way O → List ℕ → Ended O → Type 0
  Ends own bytes Gone = Unit {0}
  Ends (user before) bytes (Ran after) = WasTold before after bytes
  Ends (lent n) bytes (Lent block) = (block.number ≡ n) × (block.bytes.items ≡ bytes)
  Ends (tagged t) bytes (Tag u) = u ≡ t
  Ends _ bytes _ = ⊥
