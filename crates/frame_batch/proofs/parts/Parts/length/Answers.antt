use Rattle.frame_batch.proofs.InParts.{all_bytes}
use Rattle.frame_batch.proofs.parts.Parts.length.Goals as goal

pub returns : goal.returns
returns c = all_bytes _ _ _ _ c.self.view_is c.self.invariant.1
