use Rattle.std.proofs.Common.{◌≡◌, ◌∙◌, ◌<◌, List, ℕ, take, ap, subst, refl, arith, IfSome}
use Rattle.iobuf_chain.specs.Tails.{last_of, filled_behind}
use Rattle.iobuf_queue.specs.Queued.{Queued, shown, written}
use Rattle.iobuf_queue.proofs.Queues.{offered_on, offered_size, writes, value_at, blank_not}
use Rattle.iobuf_queue.proofs.queue.QueueOf.tail_mut.Goals as goal

pub invariant_of-self-lent-2 : goal.invariant_of-self-lent-2
invariant_of-self-lent-2 g c w =
    let inv = c.self.invariant in (
      blank_not c.self.inside.empty c.self.inside.chain _ c.self.inside.lent (omega (arith, c.if-n-eq0.false)) inv.0,
      offered_on c.self.inside.chain c.self.inside.lent w inv.1,
      inv.2,
    )

pub returns : goal.returns
returns g c =
    let some : 0 < c.self.inside.lent = omega (arith, c.if-n-eq0.false) in
    let P : List ℕ → Queued g.row.O.Denot → Type 0
    = λ w q. shown c.self.inside.empty (filled_behind c.self.inside.chain w) c.self.inside.lent ≡ written q w in
    let Q : Queued g.row.O.Denot → Type 0 = λ q. IfSome (last_of q.nodes) (λ s. c.tail_mut.result.now ≡ take q.lent
    s.after) in
    let lent : c.self.inside.lent ≡ c.args.self.now.lent = ap (λ (q : Queued g.row.O.Denot). q.lent) c.self.view_is in (
      (
        refl,
        λ w. subst (P w) c.self.view_is (writes c.self.inside.empty c.self.inside.chain c.self.inside.lent w
            some c.self.invariant.0),
      ),
      record {
        lends = tt;
        value = subst Q c.self.view_is (value_at c.self.inside.empty c.self.inside.chain c.self.inside.lent _
            c.tail_mut.ensures.value);
        size = offered_size c.self.inside.chain c.self.inside.lent _ (omega (
          arith,
          c.elements-some.ensures.count,
          c.elements-some.ensures.some,
        )) some c.self.invariant.1 c.tail_mut.ensures.value ∙ lent;
      },
    )
