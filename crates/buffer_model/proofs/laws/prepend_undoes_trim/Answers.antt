use Rattle.buffer_model.proofs.Windows.{prepend_undoes_trim}
use Rattle.buffer_model.proofs.laws.prepend_undoes_trim.Goals as goal

pub returns : goal.returns
returns g c = λ s n. prepend_undoes_trim n s
