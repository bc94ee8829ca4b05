use Rattle.std.proofs.Common.{sym, ap, subst}
use Rattle.buffer_model.specs.Share.{Held}
use Rattle.buffer_model.proofs.Windows.{held_is}
use Rattle.storage.specs.Back.{GivesBack}
use Rattle.iobuf_node.specs.Mine.{based_on}
use Rattle.iobuf_node.proofs.node.IoBufOf.give_back.Goals as goal

pub returns-in-None-clause-back : goal.returns-in-None-clause-back
returns-in-None-clause-back g c =
    let hold = c.self.inside.window.hold in
    let P : Held g.row.O.Denot → Type 0 = λ h. GivesBack g.O.Release.runs g.O.Release.last h c.give_back.result in
    let bytes = sym (ap (λ w. (based_on g.W.Wrapped.bytes w hold).bytes) c.in-None.is) in
    let share = sym (ap (λ w. (based_on g.W.Wrapped.bytes w hold).share) c.in-None.is) in
    subst P (held_is _ _ _ _ _ c.self.view_is hold bytes share) c.give_back.ensures.back
