use Rattle.std.proofs.Common.{subst}
use Rattle.buffer_model.specs.Share.{user}
use Rattle.storage.specs.declared.stored.Stored.{Stored}
use Rattle.storage.specs.declared.stored.Way.TheVariants.{User}
use Rattle.storage.specs.Made.{Makes}
use Rattle.storage.proofs.Made.{filled_on}
use Rattle.storage.proofs.managed.Managed.user.Goals as goal

pub returns-clause-hold : goal.returns-clause-hold
returns-clause-hold g c =
    let s : Stored g.row.O.Denot = record { block = c.from_vec.result; way = User c.new.result } in
    let P : g.row.O.Denot → Type 0 = λ o. Makes c.args.mint.now c.empty.new.mint (user o) c.args.bytes.items c.filled.result in
    subst P c.new.ensures (filled_on _ _ c.in-Ok.unit s _ c.filled.result c.in-Ok.ensures.unit c.filled.ensures c.from_vec.ensures)
