use mathlib.Core.List.{[], ◌∷◌}
use mir.Raw.{raw}
use denote.Memory.{lone}
use base.Shift.{Keyless}
use types.Keyed.{entry_keyless}
use Rattle.std.proofs.Common.{ℕ, zero, suc}
use denote.Builtin.{unit}
use denote.RattleType.{RattleType}
use denote.Param.Send.{IsSend, IsSync, Frees, sendable}
use Rattle.std_alloc.proofs.SendSync.{lies, seen}
use Rattle.core.specs.declared.alloc.Allocator.{Ghosts}
use Rattle.atomic_table.specs.Seated.{halved, place}
use Rattle.atomic_table.proofs.Sent.{shares_keyless}
use Rattle.counted_payload.specs.Accounts.{Accounted}
use Rattle.counted_payload.specs.Parted.{pile}
use Rattle.counted_payload.specs.CountedLoans.{entry_code}
use Rattle.counted_payload.specs.contracts.Loan.{the_row}

pile_keyless : (a k : ℕ) → Keyless (pile a k)
pile_keyless a zero = tt
pile_keyless a (suc k) = λ e c. tt

pub send : (T A : RattleType) (g : Ghosts A.Denot) → IsSend T → IsSend A → IsSync T → Frees g g.dealloc_token → IsSend (the_row T A g)
unfolding Rattle.atomic_table.specs.Seated.seal
send T A g s sa y f = let table = (shares_keyless unit (search sendable) entry_code.code) in record {
  owned = λ d vs. (
    (λ vss. (tt, (tt, (tt, ((λ uss. (tt, tt)), tt))))),
    (
      ((λ e c. tt), seen T y d.at d.value (d.round ∷ [])),
      λ ij. (
        (λ _. tt),
        (
          (table d.table_id Accounted d.word (place d.table_id) []).1.1,
          λ u. (entry_keyless halved d.table_id.views_name d.pool _, λ some_out. (pile_keyless d.round _, ((λ _. tt), (lies T s d.at d.value, f.frees d.alloc (raw (lone T.mir)) d.at)))),
        ),
      ),
    ),
  );
  leaving = λ k h vs. tt;
}
