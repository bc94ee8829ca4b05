use Rattle.relay_ports.specs.Memory.{IsUnused}
use Rattle.relay_ports.proofs.Unused.{all_added}
use Rattle.relay_ports.proofs.memory_host.MemHost.add_in.Goals as goal

pub invariant_of-self : goal.invariant_of-self
invariant_of-self c = (
  all_added IsUnused c.add.result c.self.inside.inputs c.add.new.self c.args.name.now c.args.source c.add.ensures.ok c.add.ensures.err c.requires c.self.invariant.0,
  c.self.invariant.1,
)
