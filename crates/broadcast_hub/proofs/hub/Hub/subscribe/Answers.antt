use Rattle.std.proofs.Common.{rules, ap, ◌∙◌, sym, ◌++◌, ◌∷◌, [], arith}
use Rattle.broadcast_hub.specs.Hubs.{here_in}
use Rattle.broadcast_hub.proofs.Kept.{joined_kept}
use Rattle.broadcast_hub.proofs.hub.Hub.subscribe.Goals as goal

pub invariant_of-self-2 : goal.invariant_of-self-2
invariant_of-self-2 c =
    let here = c.count_here.ensures ∙ ap here_in c.deref.ensures.value in
    let few = c.if-count_here-ge-MOST_HERE.false in (
      joined_kept _ _ _ c.new.result (c.push_reserved.ensures.items ∙ ap (λ xs. xs ++ c.new.result ∷ []) c.make_room.ensures.same.0)
          (ap (λ s. s.id) c.new.ensures) (omega (arith, here, few)) c.self.invariant.0,
      search rules,
      search rules,
    )
