use Rattle.frame_batch.proofs.InParts.{parts_joined, parts_some}
use Rattle.frame_batch.proofs.laws.parts_are_the_frame.Goals as goal

pub returns : goal.returns
returns c = record { bytes = parts_joined; some = parts_some }
