use Rattle.std.proofs.Common.{◌≡◌, ◌∙◌, ◌-◌, length, refl, arith}
use Rattle.iobuf_chain.proofs.Ranged.{regains_begin, regains_step, regains_may, regains_end, next_size}
use Rattle.iobuf_chain.proofs.range.rejoin_parts.Goals as goal

pub nodes-init : goal.nodes-init
nodes-init g c = record { regains = λ had is. regains_begin _ _ _ _ _ is; size = refl }

pub rejoin_part-requires-clause-returnable : goal.rejoin_part-requires-clause-returnable
rejoin_part-requires-clause-returnable g c =
    regains_may _ _ _ c.requires.0 _ _ (c.nodes.invariant.regains c.requires.0 c.requires.1)

pub nodes-preserved : goal.nodes-preserved
nodes-preserved g c = record {
  regains = λ had is.
      regains_step _ _ _ _ _ c.length-len.result had _ _ _ _ c.get.result.now (c.nodes.invariant.regains had is) c.rejoin_part.ensures c.get.ensures
      c.length-len.ensures (let e = c.min-passed.ensures in omega arith) (let e = c.min-passed.ensures in let f = c.min-left.ensures in omega arith);
  size = next_size _ _ _ _ _ _ _ c.rejoin_part.ensures ∙ c.nodes.invariant.size;
}

pub returns : goal.returns
returns g c = λ had is. regains_end _ _ _ had _ _ (c.nodes.invariant.regains had is) (omega arith)
