use Rattle.relay_ports.specs.Memory.{IsUnwritten}
use Rattle.relay_ports.proofs.Unused.{all_added}
use Rattle.relay_ports.proofs.memory_host.MemHost.add_out.Goals as goal

pub invariant_of-self : goal.invariant_of-self
invariant_of-self c = (
  c.self.invariant.0,
  all_added IsUnwritten c.add.result c.self.inside.outputs c.add.new.self c.args.name.now c.args.sink c.add.ensures.ok c.add.ensures.err c.requires c.self.invariant.1,
)
