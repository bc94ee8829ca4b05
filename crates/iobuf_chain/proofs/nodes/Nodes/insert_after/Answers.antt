use Rattle.std.proofs.Common.{◌≡◌, suc, ◌+◌, ◌∷◌, ◌∙◌, length, ap, arith}
use Rattle.iobuf_chain.specs.Lists.{inserted_after}
use Rattle.iobuf_chain.proofs.Lists.{inserted}
use Rattle.iobuf_chain.proofs.nodes.Nodes.insert_after.Goals as goal

pub returns : goal.returns
returns g c =
    let sizes : suc (length c.self.inside.rest.items) ≡ length c.args.self.now = ap length c.self.view_is in
    let same : length c.reserve.new.self.items ≡ length c.self.inside.rest.items = ap length c.reserve.ensures.items in
    inserted _ _ _ _ _ _ _ _ (omega arith) (omega arith) c.rotate_left.ensures.items c.extend_reserved.ensures.items c.rotate_left-2.ensures.items
    ∙ ap (λ xs. inserted_after c.args.i c.args.others (c.self.inside.first ∷ xs)) c.reserve.ensures.items
    ∙ ap (inserted_after c.args.i c.args.others) c.self.view_is
