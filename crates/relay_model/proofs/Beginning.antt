-- A relay at its beginning.
use Rattle.std.proofs.Common.{ℕ, List, refl, sym, subst, arith}
use Rattle.std.specs.Prelude.{MatchOption}
use Rattle.std.proofs.lemmas.List.Elements.{All-weaker}
use Rattle.relay_model.specs.Relay.{Member, begun}
use Rattle.relay_model.specs.Standing.{Awaits, IsSeated, Follows}
use Rattle.relay_model.specs.Laws.{IsNew, BeginStands}

module _ {X : Type 0} where
  new_follows : (cap : ℕ) (ms : List (Member X)) (m : Member X) → IsNew m → Follows cap (begun ms) m
  new_follows cap ms m new = record {
    range = new.1;
    seat = subst (λ s. MatchOption s (Awaits (begun ms) m) (IsSeated cap (begun ms) m)) (sym new.0) (omega arith, refl);
  }

  pub begin_stands : BeginStands X
  begin_stands cap ms all = record {
    parts = refl;
    before = omega arith;
    closed = tt;
    follow = All-weaker IsNew (Follows cap (begun ms)) (new_follows cap ms) ms all;
  }
