use Rattle.std.proofs.Common.{◌≡◌, Some, is_some, rules, ap, sym, ◌∙◌}
use Rattle.std.specs.Option.{option_copied_mut}
use Rattle.std.specs.FinMap as map
use Rattle.broadcast_pool.proofs.Bytes.{seen, sets}
use Rattle.broadcast_pool.proofs.Changes.{not_some}
use Rattle.broadcast_pool.proofs.pool.Pool.exchange.Goals as goal

pub unreachable-requires : goal.unreachable-requires
unreachable-requires c =
    let there = ap option_copied_mut (sym c.in-None.is) ∙ c.get_mut.ensures.value
    ∙ seen c.self.inside.hubs c.args.self.now c.args.key.now c.self.view_is in
    not_some _ (ap is_some (sym there)) c.requires

pub returns-clause-taken : goal.returns-clause-taken
returns-clause-taken c =
    let there : Some c.in-Some.kept.now ≡ map.get c.args.self.now c.args.key.now =
    ap option_copied_mut (sym c.in-Some.is) ∙ c.get_mut.ensures.value
    ∙ seen c.self.inside.hubs c.args.self.now c.args.key.now c.self.view_is in
    sym there ∙ ap Some (sym c.swap.ensures.y_after)

pub returns-clause-put : goal.returns-clause-put
returns-clause-put c =
    let key = c.args.key.now in let hub = c.swap.new.x in
    sets key c.self.inside.hubs (c.get_mut.follows.lender hub) hub ((c.get_mut.follows.holds hub).3 (search rules))
    ∙ ap (λ p. map.insert p key hub) c.self.view_is
    ∙ ap (map.insert c.args.self.now key) c.swap.ensures.x_after
