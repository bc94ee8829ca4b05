use Rattle.std.proofs.Common.{◌≡◌, ◌∙◌, sym, arith}
use Rattle.iobuf_chain.proofs.Tailed.{length-behind, sum_stays}
use Rattle.iobuf_chain.proofs.chain.ChainOf.tail_mut.Goals as goal

pub invariant_of-self-lent : goal.invariant_of-self-lent
invariant_of-self-lent g c w =
    let inv = c.self.invariant in
    let same = length-behind c.self.inside.nodes w in
    (omega (arith, same, inv.0), inv.1 ∙ sym (sum_stays c.self.inside.nodes w), inv.2, omega (arith, same, inv.3))
