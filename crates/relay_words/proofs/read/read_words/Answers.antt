use Rattle.std.proofs.Common.{map, string_bytes}
use Rattle.relay_words.proofs.Sound.{good_read}
use Rattle.relay_words.proofs.read.read_words.Goals as goal

pub returns-in-Ok-clause-good : goal.returns-in-Ok-clause-good
returns-in-Ok-clause-good c = good_read (map (λ w. string_bytes w) c.args.words.now) c.in-Ok.order c.in-Ok.ensures
