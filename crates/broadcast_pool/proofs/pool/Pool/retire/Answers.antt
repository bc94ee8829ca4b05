use Rattle.std.proofs.Common.{ap, ◌∙◌}
use Rattle.std.specs.FinMap as map
use Rattle.broadcast_pool.proofs.Bytes.{seen, removes}
use Rattle.broadcast_pool.proofs.pool.Pool.retire.Goals as goal

pub returns-clause-value : goal.returns-clause-value
returns-clause-value c = c.remove.ensures.value ∙ seen c.self.inside.hubs c.args.self.now c.args.key.now c.self.view_is

pub returns-clause-rest : goal.returns-clause-rest
returns-clause-rest c = removes c.args.key.now c.self.inside.hubs c.remove.new.self c.remove.ensures.updates
    ∙ ap (λ p. map.remove p c.args.key.now) c.self.view_is
