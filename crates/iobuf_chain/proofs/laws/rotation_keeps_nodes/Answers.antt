use Rattle.iobuf_chain.proofs.Lists.{rotated_permutes}
use Rattle.iobuf_chain.proofs.laws.rotation_keeps_nodes.Goals as goal

pub returns : goal.returns
returns g c = rotated_permutes
