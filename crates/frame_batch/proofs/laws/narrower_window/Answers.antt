use Rattle.frame_batch.proofs.InWindows.{narrower}
use Rattle.frame_batch.proofs.laws.narrower_window.Goals as goal

pub returns : goal.returns
returns c = narrower
