use Rattle.std.proofs.Common.{rules, refl, subst, ◌≡◌, ◌+◌, ◌-◌, ℕ, ◌∙◌, arith}
use Rattle.broadcast_hub.specs.Sending.{SendsFrom}
use Rattle.broadcast_hub.proofs.SentEach.{sends_begin, sends_some, sends_room, sends_step, sends_end, none_to_send}
use Rattle.broadcast_hub.proofs.sending.send_each.Goals as goal

pub send_next-requires-clause-some : goal.send_next-requires-clause-some
send_next-requires-clause-some g c = λ live.
    let more = c.subs-test.true in
    let within = c.subs.invariant.within in
    let size = c.subs.invariant.sends.places in
    let next : c.subs.left ≡ (c.subs.left - 1) + 1 = omega (arith, more) in
    let P : ℕ → Type 0 = λ n. SendsFrom n c.args.batches.now.items c.subs.batches.items c.args.subs.now c.subs.subs in
    let some = sends_some (c.subs.left - 1) _ c.subs.batches.items c.args.subs.now c.subs.subs c.index-subs-left.result (subst P next c.subs.invariant.sends) (omega (arith, more, within, size)) live in
    search (rules, some)

pub send_next-requires-clause-room : goal.send_next-requires-clause-room
send_next-requires-clause-room g c =
    let more = c.subs-test.true in
    let within = c.subs.invariant.within in
    let size = c.subs.invariant.sends.places in
    let next : c.subs.left ≡ (c.subs.left - 1) + 1 = omega (arith, more) in
    let P : ℕ → Type 0 = λ n. SendsFrom n c.args.batches.now.items c.subs.batches.items c.args.subs.now c.subs.subs in
    sends_room c.requires.room.0 (c.subs.left - 1) _ _ _ c.subs.subs c.index-subs-left.result (subst P next c.subs.invariant.sends) (omega (arith, more, within, size))
    c.requires.room.1 c.requires.room.2

pub subs-init : goal.subs-init
subs-init g c = record {
  sends = sends_begin c.args.batches.now.items c.args.subs.now (search rules);
  within = omega arith;
  capacity = refl;
}

pub subs-preserved : goal.subs-preserved
subs-preserved g c =
    let more = c.subs-test.true in
    let within = c.subs.invariant.within in
    let size = c.subs.invariant.sends.places in
    let next : c.subs.left ≡ (c.subs.left - 1) + 1 = omega (arith, more) in
    let P : ℕ → Type 0 = λ n. SendsFrom n c.args.batches.now.items c.subs.batches.items c.args.subs.now c.subs.subs in
    let sends = sends_step (c.subs.left - 1) _ c.subs.batches.items _ _ c.subs.subs _ c.index-subs-left.result (subst P next c.subs.invariant.sends) (omega (arith, more, within, size))
    c.send_next.ensures.sent in
    let same = sends.places in record {
      sends = sends;
      within = omega (arith, same, size, within);
      capacity = c.send_next.ensures.capacity ∙ c.subs.invariant.capacity;
    }

pub returns-clause-sent : goal.returns-clause-sent
returns-clause-sent g c =
    let done = c.subs-test.false in
    let P : ℕ → Type 0 = λ n. SendsFrom n c.args.batches.now.items c.subs.batches.items c.args.subs.now c.subs.subs in
    sends_end _ _ _ _ (subst P (omega (arith, done)) c.subs.invariant.sends)

pub returns-clause-none : goal.returns-clause-none
returns-clause-none g c =
    let done = c.subs-test.false in
    let P : ℕ → Type 0 = λ n. SendsFrom n c.args.batches.now.items c.subs.batches.items c.args.subs.now c.subs.subs in
    none_to_send _ _ _ _ (subst P (omega (arith, done)) c.subs.invariant.sends)
