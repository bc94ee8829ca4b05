use Rattle.std.proofs.Common.{◌≡◌, ◌∙◌, ◌+◌, ◌-◌, ℕ, ap, arith}
use Rattle.read_cursor.specs.Reading.{place_in}
use Rattle.read_cursor.proofs.Places.{place_next, place_there}
use Rattle.read_cursor.proofs.cursor.settled.Goals as goal

pub nodes-preserved : goal.nodes-preserved
nodes-preserved g c =
    ap (λ (n : ℕ). place_in c.args.chain.now (c.nodes.i + 1) (c.nodes.k - n)) c.length-len.ensures
    ∙ place_next c.nodes.i c.nodes.k c.args.chain.now c.node.result.now c.node.ensures (omega (arith, c.if-k-len.false, c.length-len.ensures))
    ∙ c.nodes.invariant
