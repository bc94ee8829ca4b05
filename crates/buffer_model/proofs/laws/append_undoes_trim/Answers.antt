use Rattle.buffer_model.proofs.Windows.{append_undoes_trim}
use Rattle.buffer_model.proofs.laws.append_undoes_trim.Goals as goal

pub returns : goal.returns
returns g c = λ s n. append_undoes_trim n s
