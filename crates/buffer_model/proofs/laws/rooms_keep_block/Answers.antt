use Rattle.buffer_model.proofs.Windows.{appended-block, prepended-block}
use Rattle.buffer_model.proofs.laws.rooms_keep_block.Goals as goal

pub returns : goal.returns
returns g c = λ s n. (appended-block n s, prepended-block n s)
