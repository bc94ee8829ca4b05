use Rattle.std.proofs.Common.{sym, ◌∙◌}
use Rattle.std.proofs.lemmas.Option.{same_Some}
use Rattle.share_count.proofs.laws.numbers_one_storage.Goals as goal

pub returns : goal.returns
returns c = λ mint n t u a b. same_Some t u (sym a ∙ b)
