use Rattle.frame_head.proofs.Written.{known_fields}
use Rattle.frame_head.proofs.laws.known_fields.Goals as goal

pub returns : goal.returns
returns c = known_fields
