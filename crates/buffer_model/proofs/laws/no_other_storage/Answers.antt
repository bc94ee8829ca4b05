use Rattle.std.proofs.Common.{◌∙◌}
use Rattle.buffer_model.proofs.laws.no_other_storage.Goals as goal

pub returns : goal.returns
returns g c = λ old new entry exit z keeps none apart. (keeps z apart).total ∙ none
