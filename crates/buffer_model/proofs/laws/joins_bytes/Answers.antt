use Rattle.buffer_model.proofs.Windows.{bytes_of-append}
use Rattle.buffer_model.proofs.laws.joins_bytes.Goals as goal

pub returns : goal.returns
returns g c = bytes_of-append
