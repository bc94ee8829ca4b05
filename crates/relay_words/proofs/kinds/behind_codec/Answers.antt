use Rattle.relay_words.specs.Item.{is_word}
use Rattle.relay_words.proofs.Cuts.{behind_none, behind_some}
use Rattle.relay_words.proofs.kinds.behind_codec.Goals as goal

pub returns-in-None : goal.returns-in-None
returns-in-None c = behind_none is_word c.args.items.now c.in-None.ensures

pub returns-in-Some : goal.returns-in-Some
returns-in-Some c = behind_some is_word c.args.items.now c.in-Some.at c.in-Some.ensures
