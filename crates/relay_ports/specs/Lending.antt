-- The numbers of the blocks that a host lends.
use Rattle.std.specs.Prelude.{ℕ, ◌+◌, List, [], ◌∷◌, ◌++◌}
use Rattle.relay_ports.specs.Told.{without_number}

-- the set of the numbers of the blocks that are out, in order, and how often a block was lent
pub record Lending : Type 0 where
  pub out : List ℕ
  pub lends : ℕ

-- with one block more that is out, whose number is how often one was lent before
abbrev pub after_lend : Lending → Lending
after_lend l = record { out = l.out ++ l.lends ∷ []; lends = l.lends + 1 }

-- with one block less that is out
abbrev pub after_return : ℕ → Lending → Lending
after_return number l = record l { out = without_number number l.out }
