-- What a home ends as, once the payload in it was lent for writing.
use Rattle.std.specs.Prelude.{Option}
use Rattle.std.specs.Borrow.{Fml, RattleType, MutBor, Lends, LendsIf}
use Rattle.share_count.specs.Homes.{home_with}
use Rattle.share_count.specs.declared.home.Home.{Home}
use Rattle.share_count.specs.contracts.home.Home.{the_row}

module _ (P : RattleType) (h : MutBor (Home P.Denot)) where
  abbrev pub lends_own : MutBor P.Denot → Fml
  lends_own r = Lends (the_row P) P h r (home_with h.now)

  abbrev pub lends_own_if : Option (MutBor P.Denot) → Fml
  lends_own_if r = LendsIf (the_row P) P h r (home_with h.now) h.now
