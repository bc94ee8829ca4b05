use Rattle.std.proofs.Common.{rules, ◌≡◌, ◌∙◌, refl}
use Rattle.iobuf_chain.proofs.Moved.{picks_begin, picks_step, picks_end}
use Rattle.iobuf_chain.proofs.managed.pick_each.Goals as goal

pub nodes-preserved : goal.nodes-preserved
nodes-preserved g c = record {
  picks =
      picks_step _ _ _ _ _ _ _ c.in-Some.node c.in-Some-pop_front.copy c.pick.result c.nodes.invariant.picks c.in-Some.ensures.items
      c.in-Some-pop_front.ensures.items c.pick.ensures.stays c.pick.ensures.copy c.push_back_reserved.ensures.items;
  mint = c.pick.ensures.mint ∙ c.nodes.invariant.mint;
}

pub returns-clause-picks : goal.returns-clause-picks
returns-clause-picks g c = picks_end _ _ _ _ c.nodes.invariant.picks (search rules)

pub nodes-init : goal.nodes-init
nodes-init g c = record { picks = picks_begin _ _ c.requires; mint = refl }
