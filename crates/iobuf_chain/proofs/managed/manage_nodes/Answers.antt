use Rattle.std.proofs.Common.{◌≡◌, ◌∙◌, ◌∷◌, length, refl, ap}
use Rattle.iobuf_chain.proofs.Moved.{copies_size, picks_manage, manages_from, mint_of_all}
use Rattle.iobuf_chain.proofs.managed.manage_nodes.Goals as goal

pub returns-in_default-copies_of-clause-mint : goal.returns-in_default-copies_of-clause-mint
returns-in_default-copies_of-clause-mint g c =
    mint_of_all _ _ _ _ _ _ c.into_parts-first.result.0 c.in-Ok.copy c.in-Ok.ensures.copy c.copies_of.ensures.mint refl (ap length c.into_parts-first.ensures)

pub pick_each-rest-requires : goal.pick_each-rest-requires
pick_each-rest-requires g c = copies_size _ _ _ _ c.in-Ok-copies_of.ensures.copies

pub returns-clause-nodes : goal.returns-clause-nodes
returns-clause-nodes g c =
    manages_from _ _ _ _ _ _ _
    (picks_manage _ _ (c.into_parts-first.result.0 ∷ c.into_parts-first.result.1.items) (c.in-Ok.copy ∷ c.in-Ok-copies_of.copies.items)
    (c.pick-first.result ∷ c.pick_each-rest.result.items) (c.copy_of.new.mint, c.in-Ok.ensures.copy, c.in-Ok-copies_of.ensures.copies)
    (c.pick-first.ensures.stays, c.pick-first.ensures.copy, c.pick_each-rest.ensures.picks))
    (c.pick_each-rest.ensures.mint ∙ c.pick-first.ensures.mint) c.into_parts-first.ensures c.from_parts-2.ensures

pub returns-clause-mint : goal.returns-clause-mint
returns-clause-mint g c =
    mint_of_all _ _ _ _ _ _ c.into_parts-first.result.0 c.in-Ok.copy c.in-Ok.ensures.copy c.copies_of.ensures.mint
    (c.pick_each-rest.ensures.mint ∙ c.pick-first.ensures.mint) (ap length c.into_parts-first.ensures)
