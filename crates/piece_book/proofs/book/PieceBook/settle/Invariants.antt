use Rattle.std.proofs.Common.{ℕ, List, length}
use Rattle.buffer_model.specs.Stake.{Stake}
use Rattle.buffer_model.specs.Minted.{Numbers}
use Rattle.storage.specs.declared.release.NoOwner.{NoOwner}
use Rattle.piece_book.specs.Owing.{AreOwed, KnowsSame, OutsAlone}
use Rattle.piece_book.proofs.book.PieceBook.settle.Given as goal

abbrev pub invariant-backs : goal.invariant-backs
invariant-backs g l = record {
  owed : (mint : Numbers) (way : ℕ → ℕ) (rest : List (Stake NoOwner))
      → AreOwed mint way rest l.fn.self (g.H.Host.state l.fn.host).lent l.fn.returns
      → AreOwed mint way rest l.self (g.H.Host.state l.host).lent l.returns;
  host : OutsAlone (g.H.Host.state l.fn.host) (g.H.Host.state l.host);
  knows : KnowsSame l.fn.self l.self;
}

abbrev pub decreases-backs : goal.decreases-backs
decreases-backs g l = length l.returns
