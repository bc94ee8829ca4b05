-- What a look and a give back answer.
use Rattle.std.specs.Prelude.{◌≡◌, ℕ, ◌+◌, ◌<◌, IsFalse, Result, MatchResult}
use Rattle.share_count.specs.Weights.{full}
use Rattle.share_count.specs.Held.{Owned, receipt_of}
use Rattle.share_count.specs.declared.standing.Standing.{Standing}
use Rattle.share_count.specs.declared.standing.Standing.TheVariants.{Sole, Shared}
use Rattle.share_count.specs.declared.given.Given.{Given}
use Rattle.share_count.specs.declared.given.Given.TheVariants.{Last, Kept}

-- n is the word found, and more than the own weight
abbrev pub IsMore : ℕ → ℕ → ℕ → Type 0
IsMore weight found n = (n ≡ found) × (weight < n)

-- of the own weight and of the word found: Ok exactly where they are the same, and else what was found, which is more
abbrev pub IsFound : ℕ → ℕ → Result (Unit {0}) ℕ → Type 0
IsFound weight found r = MatchResult r (λ _. found ≡ weight) (IsMore weight found)

-- of the own weight and of the word found: `Sole` exactly where they are the same, and else `Shared` with what was
-- found, which is more
abbrev pub IsStanding : ℕ → ℕ → Standing → Type 0
IsStanding weight found Sole = found ≡ weight
IsStanding weight found (Shared n) = IsMore weight found n

-- the last has the payload, and a receipt for all that the unit had, with lasts 1; who isn't the last is neither
-- whole nor alone, and has the same receipt with lasts 0
abbrev pub GivesBack : {X : Type 0} → Owned X → Given X → Type 0
GivesBack u (Last payload receipt) = (payload ≡ u.payload) × (receipt ≡ receipt_of u 1)
GivesBack u (Kept receipt) = (receipt ≡ receipt_of u 0) × (u.weight + u.absorbed < full) × IsFalse u.alone
