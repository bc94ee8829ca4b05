-- What a turn does to a list of items.
use Rattle.std.specs.Prelude.{◌≡◌, List, ◌++◌}
use Rattle.std.specs.List.{AllZip}

-- behind the old items stand those that were out, each as it may have become
abbrev pub TakesBack : {J : Type 0} → (J → J → Type 0) → List J → List J → List J → Type 0
TakesBack {J} does out old new = (came : List J) × (new ≡ old ++ came) × AllZip does out came
