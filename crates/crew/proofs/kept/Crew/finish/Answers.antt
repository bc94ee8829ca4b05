use Rattle.std.proofs.Common.{sym, subst, ap, ◌++◌, List}
use Rattle.std.specs.List.{AllZip}
use Rattle.crew.specs.Crewed.{Crewed}
use Rattle.crew.proofs.Lists.{zip_append}
use Rattle.crew.proofs.kept.Crew.finish.Goals as goal

pub returns-clause-does : goal.returns-clause-does
returns-clause-does g c =
    let back = c.take_in.ensures.back in
    let whole = zip_append g.J.Work.does _ _ _ _ c.all_in_turn.ensures.does back.2 in
    subst
    (λ (l : List g.row.J.Denot). AllZip g.J.Work.does (c.args.items.now.items ++ c.args.self.now.out) l)
    (sym back.1)
    (subst
    (λ (out : List g.row.J.Denot). AllZip g.J.Work.does (c.args.items.now.items ++ out) (c.all_in_turn.new.items.items ++ back.0))
    (ap (λ (crew : Crewed g.row.J.Denot). crew.out) c.self.view_is)
    whole)
