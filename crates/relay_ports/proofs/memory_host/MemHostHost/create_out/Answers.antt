use Rattle.std.proofs.Common.{sym, ◌∙◌}
use Rattle.std.specs.Str.{bytes_eq}
use Rattle.relay_ports.specs.Memory.{IsUnwritten}
use Rattle.relay_ports.proofs.Unused.{all_found, all_opened}
use Rattle.relay_ports.proofs.memory_host.MemHostHost.create_out.Goals as goal

pub invariant_of-self : goal.invariant_of-self
invariant_of-self c = (
  c.self.invariant.0,
  all_opened IsUnwritten c.open.result c.self.inside.outputs c.open.new.self c.args.name.now c.open.ensures.opened c.open.ensures.missing c.open.ensures.err c.self.invariant.1,
)

pub returns-in-Ok-Some-clause-unused : goal.returns-in-Ok-Some-clause-unused
returns-in-Ok-Some-clause-unused c =
    all_found IsUnwritten (bytes_eq c.args.name.now) c.self.inside.outputs.waiting c.in-Ok-Some.sink c.self.invariant.1 (sym c.in-Ok-Some.ensures.item ∙ c.in-Ok-Some.field-0-is)
