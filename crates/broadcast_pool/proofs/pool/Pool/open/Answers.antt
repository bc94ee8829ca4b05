use Rattle.std.proofs.Common.{◌≡◌, ap, sym, ◌∙◌, is_some, string_bytes}
use Rattle.std.proofs.lemmas.Result.{IfOk-at_ok}
use Rattle.std.specs.FinMap as map
use Rattle.broadcast_pool.specs.Pools.{by_bytes, hub_or_new}
use Rattle.broadcast_pool.proofs.Bytes.{seen, sets}
use Rattle.broadcast_pool.proofs.Changes.{kept, fresh, not_some, some_is, at_key}
use Rattle.broadcast_pool.proofs.pool.Pool.open.Goals as goal

pub returns-then-contains_key-clause-made : goal.returns-then-contains_key-clause-made
returns-then-contains_key-clause-made c = kept c.args.self.now c.args.key.now
    (ap is_some (sym (seen c.self.inside.hubs c.args.self.now c.args.key.now c.self.view_is))
    ∙ sym c.contains_key.ensures ∙ c.if-contains_key.true)

pub returns-in_err-name-clause-succeeds : goal.returns-in_err-name-clause-succeeds
returns-in_err-name-clause-succeeds c = λ has. absurd (not_some _
    (ap is_some (sym (seen c.self.inside.hubs c.args.self.now c.args.key.now c.self.view_is))
    ∙ sym c.contains_key.ensures ∙ c.if-contains_key.false) has)

pub returns-in_err-insert-clause-succeeds : goal.returns-in_err-insert-clause-succeeds
returns-in_err-insert-clause-succeeds c = λ has. absurd (not_some _
    (ap is_some (sym (seen c.self.inside.hubs c.args.self.now c.args.key.now c.self.view_is))
    ∙ sym c.contains_key.ensures ∙ c.if-contains_key.false) has)

pub returns-clause-made : goal.returns-clause-made
returns-clause-made c =
    let key = c.args.key.now in let hubs = c.self.inside.hubs in let name = c.in_ok-name.name in
    let name_is : string_bytes name ≡ key =
    IfOk-at_ok (λ s. string_bytes s ≡ c.args.key.now) c.in_ok-name.was c.from_str.ensures.ok in
    sets (string_bytes name) hubs c.insert.new.self c.new.result c.in_ok-insert.ensures.updates
    ∙ ap (λ k. map.insert (by_bytes hubs) k c.new.result) name_is
    ∙ ap (λ p. map.insert p key c.new.result) c.self.view_is
    ∙ ap (map.insert c.args.self.now key) (c.new.ensures ∙ sym (fresh _
    (ap is_some (sym (seen hubs c.args.self.now key c.self.view_is))
    ∙ sym c.contains_key.ensures ∙ c.if-contains_key.false)))

pub returns-then-contains_key-clause-there : goal.returns-then-contains_key-clause-there
returns-then-contains_key-clause-there c = some_is _
    (ap is_some (sym (seen c.self.inside.hubs c.args.self.now c.args.key.now c.self.view_is))
    ∙ sym c.contains_key.ensures ∙ c.if-contains_key.true)

pub returns-clause-there : goal.returns-clause-there
returns-clause-there c =
    let key = c.args.key.now in let pool = c.args.self.now in
    some_is _ (ap is_some (ap (λ p. map.get p key) (returns-clause-made c)
    ∙ at_key pool key (hub_or_new (map.get pool key))))
