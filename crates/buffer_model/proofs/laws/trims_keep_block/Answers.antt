use Rattle.buffer_model.proofs.Windows.{trimmed_start-block, trimmed_end-block}
use Rattle.buffer_model.proofs.laws.trims_keep_block.Goals as goal

pub returns : goal.returns
returns g c = λ s n. (trimmed_start-block n s, trimmed_end-block n s)
