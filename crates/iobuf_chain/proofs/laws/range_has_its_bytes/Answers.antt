use Rattle.iobuf_chain.proofs.Ranged.{range_bytes}
use Rattle.iobuf_chain.proofs.laws.range_has_its_bytes.Goals as goal

pub returns : goal.returns
returns g c = range_bytes
