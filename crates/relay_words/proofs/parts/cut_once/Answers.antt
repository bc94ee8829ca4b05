use Rattle.relay_words.proofs.Cuts.{cut_none, cut_at}
use Rattle.relay_words.proofs.parts.cut_once.Goals as goal

pub returns-in-None-clause-parts : goal.returns-in-None-clause-parts
returns-in-None-clause-parts c = cut_none _ c.args.w.now c.in-None.ensures

pub returns-in-Some-clause-parts : goal.returns-in-Some-clause-parts
returns-in-Some-clause-parts c = cut_at _ c.args.w.now c.in-Some.at c.in-Some.ensures
