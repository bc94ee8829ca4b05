use Rattle.std.proofs.Common.{◌≡◌, Some, refl, ap, sym, ◌∙◌}
use Rattle.std.specs.Option.{option_copied_mut}
use Rattle.std.specs.FinMap as map
use Rattle.broadcast_pool.specs.Pools.{hub_or_new}
use Rattle.broadcast_pool.proofs.Bytes.{seen}
use Rattle.broadcast_pool.proofs.Changes.{at_key}
use Rattle.broadcast_pool.proofs.pool.Pool.get.Goals as goal

pub unreachable-requires : goal.unreachable-requires
unreachable-requires c =
    let key = c.args.key.now in let hub = hub_or_new (map.get c.args.self.now key) in
    let there = ap option_copied_mut (sym c.in-None.is) ∙ c.get_mut.ensures.value
    ∙ seen c.self.inside.hubs c.open.new.self key c.self.view_is
    ∙ ap (λ p. map.get p key) c.in_ok-open.ensures.made ∙ at_key c.args.self.now key hub in
    cc

pub returns : goal.returns
returns c =
    let key = c.args.key.now in let hub = hub_or_new (map.get c.args.self.now key) in
    let there : Some c.in-Some.hub.now ≡ Some hub = ap option_copied_mut (sym c.in-Some.is) ∙ c.get_mut.ensures.value
    ∙ seen c.self.inside.hubs c.open.new.self key c.self.view_is
    ∙ ap (λ p. map.get p key) c.in_ok-open.ensures.made ∙ at_key c.args.self.now key hub in
    (cc, λ _. refl)
