use Rattle.buffer_model.proofs.Windows.{block_of-cut}
use Rattle.buffer_model.proofs.laws.cut_keeps_block.Goals as goal

pub returns : goal.returns
returns g c = block_of-cut
