-- What a unit ends as, once its payload was lent for writing.
use Rattle.std.specs.Prelude.{ℕ, Result, Ok, Err}
use Rattle.std.specs.Borrow.{Fml, RattleType, MutBor, Lends, LendsIfOk}
use Rattle.share_count.specs.Held.{Owned, claimed, with_payload}
use Rattle.share_count.specs.contracts.unit.Unit.{the_row}

-- the word that a call on a unit found: its own weight, where it lent
abbrev pub found_by : {X Y : Type 0} → Owned X → Result Y ℕ → ℕ
found_by u (Ok payload) = u.weight
found_by u (Err found) = found

module _ (P : RattleType) (u : MutBor (Owned P.Denot)) where
  -- it has the payload last written
  abbrev pub lends_payload : MutBor P.Denot → Fml
  lends_payload r = Lends (the_row P) P u r (with_payload u.now)

  -- it looked, and where it was alone it has the payload last written
  abbrev pub lends_alone : Result (MutBor P.Denot) ℕ → Fml
  lends_alone r = LendsIfOk (the_row P) P u r (with_payload (claimed u.now (found_by u.now r)))
      (claimed u.now (found_by u.now r))
