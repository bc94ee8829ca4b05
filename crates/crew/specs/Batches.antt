-- The batches that are out.
use Rattle.std.specs.Prelude.{List, [], ◌∷◌, ◌++◌}
use Rattle.crew.specs.declared.batch.Batch.{Batch}

module _ {J : Type 0} where
  -- their items: the batch that was handed out last has the first
  abbrev pub items_of : List (Batch J) → List J
  items_of [] = []
  items_of (batch ∷ later) = items_of later ++ batch.items.items
