use Rattle.std.proofs.Common.{arith, ap, ◌∙◌, length, List}
use Rattle.crew.specs.Crewed.{Crewed}
use Rattle.crew.proofs.kept.Crew.give.Goals as goal

pub returns-clause-spread : goal.returns-clause-spread
returns-clause-spread g c =
    let threads = ap (λ (crew : Crewed g.row.J.Denot). crew.threads) c.self.view_is in
    let none = ap (λ (crew : Crewed g.row.J.Denot). length crew.out) c.self.view_is ∙ ap (λ (out : List g.row.J.Denot). length out) c.requires.free in
    omega (arith, threads, none, c.hand_out.ensures.spread, c.self.invariant)
