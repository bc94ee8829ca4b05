use Rattle.std.proofs.Common.{◌≤◌, length, refl, arith, sym}
use Rattle.iobuf_chain.specs.Tails.{filled_tail}
use Rattle.iobuf_chain.proofs.Tailed.{last_alone, last_at, turns_alone, turns_at, if_some, some_if}
use Rattle.iobuf_chain.proofs.nodes.Nodes+IoBufOf+W+O.last_tail.Goals as goal

pub tail_of-requires-clause-alone : goal.tail_of-requires-clause-alone
tail_of-requires-clause-alone g c =
    if_some _ _ _ (last_alone _ _ _ _ c.self.view_is c.more-more.ensures c.if-more-eq0.true) c.requires.alone

pub tail_of-requires-clause-room : goal.tail_of-requires-clause-room
tail_of-requires-clause-room g c =
    if_some (λ s. c.args.n ≤ length s.after) _ _ (last_alone _ _ _ _ c.self.view_is c.more-more.ensures c.if-more-eq0.true) c.requires.room

pub returns-then-more-eq0 : goal.returns-then-more-eq0
returns-then-more-eq0 g c = (
  (refl, λ w. turns_alone (λ s. filled_tail s w) _ _ _ _ c.self.view_is c.more-more.ensures c.if-more-eq0.true),
  record { lends = tt; value = some_if _ _ _ (last_alone _ _ _ _ c.self.view_is c.more-more.ensures c.if-more-eq0.true) c.tail_of.ensures.value },
)

pub tail_of-requires-2-clause-alone : goal.tail_of-requires-2-clause-alone
tail_of-requires-2-clause-alone g c =
    if_some _ _ _ (last_at _ _ _ _ _ c.self.view_is c.more-more.ensures (omega (arith, c.if-more-eq0.false)) c.index_mut.ensures.value) c.requires.alone

pub tail_of-requires-2-clause-room : goal.tail_of-requires-2-clause-room
tail_of-requires-2-clause-room g c =
    if_some (λ s. c.args.n ≤ length s.after) _ _ (last_at _ _ _ _ _ c.self.view_is c.more-more.ensures (omega (arith, c.if-more-eq0.false)) c.index_mut.ensures.value) c.requires.room

pub returns : goal.returns
returns g c = (
  (refl, λ w. turns_at (λ s. filled_tail s w) _ _ _ _ _ c.self.view_is c.more-more.ensures (omega (arith, c.if-more-eq0.false)) c.index_mut.ensures.value),
  record { lends = tt; value = some_if _ _ _ (last_at _ _ _ _ _ c.self.view_is c.more-more.ensures (omega (arith, c.if-more-eq0.false)) c.index_mut.ensures.value) c.tail_of-2.ensures.value },
)
