use Rattle.std.proofs.Common.{◌≡◌, true, false, sym, ◌∙◌}
use Rattle.storage.proofs.Joined.{none_first}
use Rattle.storage.proofs.returns.Returns.is_empty.Goals as goal

pub returns-else-is_empty : goal.returns-else-is_empty
returns-else-is_empty g c = (
  λ is. absurd (let clash : true ≡ false = sym is ∙ c.if-is_empty.false in cc clash),
  λ none. c.is_empty.ensures.1 (none_first c.self.inside.front c.self.inside.behind (c.self.view_is ∙ none)),
)
