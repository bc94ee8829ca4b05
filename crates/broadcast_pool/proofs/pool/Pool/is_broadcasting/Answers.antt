use Rattle.std.proofs.Common.{◌≡◌, rules, ap, sym, ◌∙◌, is_none}
use Rattle.std.specs.Option.{option_copied}
use Rattle.broadcast_pool.specs.Pools.{is_open}
use Rattle.broadcast_pool.proofs.Bytes.{seen}
use Rattle.broadcast_pool.proofs.pool.Pool.is_broadcasting.Goals as goal

pub returns-in-Some : goal.returns-in-Some
returns-in-Some c =
    let open_is : c.is_none.result ≡ is_none c.closed.result = search rules in
    open_is ∙ ap is_none c.closed.ensures ∙ ap is_open (ap option_copied (sym c.in-Some.is)
    ∙ c.get.ensures.value ∙ seen c.self.inside.hubs c.args.self.now c.args.key.now c.self.view_is)

pub returns-in-None : goal.returns-in-None
returns-in-None c = ap is_open (ap option_copied (sym c.in-None.is)
    ∙ c.get.ensures.value ∙ seen c.self.inside.hubs c.args.self.now c.args.key.now c.self.view_is)
