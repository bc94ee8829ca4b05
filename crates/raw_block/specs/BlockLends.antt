-- What a block ends as, once bytes of it were lent for writing.
use Rattle.std.specs.Prelude.{ℕ, List, length}
use Rattle.std.specs.List.{refill}
use Rattle.std.specs.Borrow.{Fml, MutBor, Array, u8, Lends}
use Rattle.raw_block.specs.Spans.{with_span}
use Rattle.raw_block.specs.contracts.block.Block.{the_row}

-- all its bytes are those last written
abbrev pub lends_all : MutBor (List ℕ) → MutBor (List ℕ) → Fml
lends_all b r = Lends the_row (Array u8 0) b r (refill (length b.now) b.now)

-- its bytes from start on are those last written
abbrev pub lends_span : MutBor (List ℕ) → ℕ → MutBor (List ℕ) → Fml
lends_span b start r = Lends the_row (Array u8 0) b r (with_span b.now start)
