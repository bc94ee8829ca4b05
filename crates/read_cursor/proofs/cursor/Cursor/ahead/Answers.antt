use Rattle.std.proofs.Common.{◌≡◌, ◌<◌, ◌≤◌, ◌-◌, ◌∙◌, ℕ, length, take, drop, ap, arith, sym, length-drop}
use Rattle.std.proofs.lemmas.List.{take_all}
use Rattle.buffer_model.specs.Segment.{bytes_of}
use Rattle.read_cursor.specs.Reading.{rest_of}
use Rattle.read_cursor.proofs.Places.{if_some, ahead_is}
use Rattle.read_cursor.proofs.cursor.Cursor.ahead.Goals as goal

pub returns-clause-within : goal.returns-clause-within
returns-clause-within g c =
    let has = if_some (λ s. c.settled-node.result.1 < length s.window) _ _ c.node.ensures c.settled-node.ensures.has in
    let part = drop c.settled-node.result.1 c.bytes.result.now in
    let d = length-drop c.settled-node.result.1 c.bytes.result.now in
    let whole : take (length c.bytes.result.now - c.settled-node.result.1) part ≡ part = take_all _ part (omega (arith, d)) in
    let all = ahead_is c.settled-node.result.0 c.settled-node.result.1 c.self.inside.place c.self.inside.chain.now c.node.result.now _ c.node.ensures has
    (c.self.invariant.1 ∙ sym c.settled-node.ensures.same) (whole ∙ ap (drop c.settled-node.result.1) c.bytes.ensures) in
    let v : length (rest_of c.args.self.now) ≡ length (drop c.self.inside.place (bytes_of c.self.inside.chain.now)) = ap (λ r. length (rest_of r)) (sym c.self.view_is) in
    omega (arith, all.1, v)

pub returns-clause-bytes : goal.returns-clause-bytes
returns-clause-bytes g c =
    let has = if_some (λ s. c.settled-node.result.1 < length s.window) _ _ c.node.ensures c.settled-node.ensures.has in
    let part = drop c.settled-node.result.1 c.bytes.result.now in
    let d = length-drop c.settled-node.result.1 c.bytes.result.now in
    let whole : take (length c.bytes.result.now - c.settled-node.result.1) part ≡ part = take_all _ part (omega (arith, d)) in
    let all = ahead_is c.settled-node.result.0 c.settled-node.result.1 c.self.inside.place c.self.inside.chain.now c.node.result.now _ c.node.ensures has
    (c.self.invariant.1 ∙ sym c.settled-node.ensures.same) (whole ∙ ap (drop c.settled-node.result.1) c.bytes.ensures) in
    all.2 ∙ ap (λ r. take (length (take (length c.bytes.result.now - c.settled-node.result.1) part)) (rest_of r)) c.self.view_is
