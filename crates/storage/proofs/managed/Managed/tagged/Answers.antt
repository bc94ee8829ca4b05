use Rattle.storage.specs.declared.stored.Stored.{Stored}
use Rattle.storage.specs.declared.stored.Way.TheVariants.{Tagged}
use Rattle.storage.proofs.Made.{filled_on}
use Rattle.storage.proofs.managed.Managed.tagged.Goals as goal

pub returns-clause-hold : goal.returns-clause-hold
returns-clause-hold g c =
    let s : Stored g.row.O.Denot = record { block = c.from_vec.result; way = Tagged c.args.tag } in
    filled_on _ _ c.in-Ok.unit s _ c.filled.result c.in-Ok.ensures.unit c.filled.ensures c.from_vec.ensures
