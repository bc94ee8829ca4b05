use Rattle.buffer_model.proofs.Minted.{adds_then}
use Rattle.buffer_model.proofs.laws.adds_compose.Goals as goal

pub returns : goal.returns
returns c = adds_then
