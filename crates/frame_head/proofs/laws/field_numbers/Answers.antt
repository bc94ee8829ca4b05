use Rattle.frame_head.proofs.Written.{field_numbers}
use Rattle.frame_head.proofs.laws.field_numbers.Goals as goal

pub returns : goal.returns
returns c = field_numbers
