use Rattle.frame_batch.proofs.InWindows.{has_its_size}
use Rattle.frame_batch.proofs.laws.window_has_its_size.Goals as goal

pub returns : goal.returns
returns c = has_its_size
