use Rattle.std.proofs.Common.{◌+◌, ◌∷◌, ◌∙◌, ap, sym, drop, length, arith}
use Rattle.iobuf_chain.specs.Windows.{windows_of}
use Rattle.iobuf_chain.proofs.Sliced.{next_slice}
use Rattle.iobuf_chain.proofs.slices.SlicesIterator.next.Goals as goal

pub returns-clause-steps : goal.returns-clause-steps
returns-clause-steps g c =
    next_slice c.self.inside.next c.self.inside.nodes.now c.get.result.now _ c.self.view_is c.get.ensures
    ∙ ap (λ w. w ∷ windows_of (drop (c.self.inside.next + 1) c.self.inside.nodes.now)) (sym c.bytes.ensures)

pub returns-clause-goes : goal.returns-clause-goes
returns-clause-goes g c =
    let l = ap length (returns-clause-steps g c) in
    record { on = λ _. (tt, tt, omega (arith, l)); keeps = tt; rests = λ _. tt }
