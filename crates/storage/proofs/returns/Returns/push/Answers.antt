use Rattle.std.proofs.Common.{◌∙◌}
use Rattle.storage.proofs.Joined.{none_second}
use Rattle.storage.proofs.returns.Returns.push.Goals as goal

pub returns-clause-first : goal.returns-clause-first
returns-clause-first g c none = c.push-2.ensures.first (none_second c.self.inside.front c.self.inside.behind (c.self.view_is ∙ none))
