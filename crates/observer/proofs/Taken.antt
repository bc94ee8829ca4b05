-- Items that are taken one by one.
use Rattle.std.proofs.Common.{◌≡◌, ◌⊎◌, ℕ, ◌+◌, ◌≤◌, List, [], ◌∷◌, ◌++◌, length, refl, sym, ap, ◌∙◌, subst, append_assoc, append-nil, length-append, arith, Some, None, inl, inr}
use Rattle.frame_head.specs.declared.out.Out.{Out}
use Rattle.frame_head.specs.Framed.{framed_text}
use Rattle.frame_head.proofs.Written.{framed_pieces}
use Rattle.buffered_io.specs.Writing.{PrintsTo}
use Rattle.buffered_io.proofs.Prints.{prints_both, prints_same, prints_nothing}
use Rattle.frame_batch.specs.Batches.{Batched}
use Rattle.sub_queue.specs.declared.items.End.{End}
use Rattle.sub_queue.specs.declared.items.Item.{Item}
use Rattle.sub_queue.specs.declared.items.Item.TheVariants.{One, Ended}
use Rattle.sub_queue.specs.Ends.{Tapped, TookOne, end_of}
use Rattle.observer.specs.declared.turn.Turn.{Turn}
use Rattle.observer.specs.declared.turn.Drained.{Drained}
use Rattle.observer.specs.Flows.{Flow, Flows, marked}
use Rattle.observer.specs.Items.{batches_in, frames_in, frames_taken}
use Rattle.observer.specs.Taking.{TakesAll, Stands}

-- so many items were taken, and the frames among them were printed
pub record TakesSome (took : ℕ) (tap : Tapped Batched) (flow : Flow) (tap' : Tapped Batched) (flow' : Flow) (batches : List Batched) : Type 0 where
  pub items : List (Item Batched)
  pub is : tap' ≡ record tap { taken = tap.taken ++ items }
  pub count : length items ≡ took
  pub kept : batches ≡ batches_in items
  pub flows : Flows (framed_text flow.out (frames_taken items)) flow flow'

batches_in-append : (xs ys : List (Item Batched)) → batches_in (xs ++ ys) ≡ batches_in xs ++ batches_in ys
batches_in-append [] ys = refl
batches_in-append (One b ∷ xs) ys = ap (λ bs. b ∷ bs) (batches_in-append xs ys)
batches_in-append (Ended e ∷ xs) ys = batches_in-append xs ys

pub frames_in-append : (bs cs : List Batched) → frames_in (bs ++ cs) ≡ frames_in bs ++ frames_in cs
frames_in-append [] cs = refl
frames_in-append (b ∷ bs) cs = ap (λ fs. b.frames ++ fs) (frames_in-append bs cs) ∙ sym (append_assoc b.frames (frames_in bs) (frames_in cs))

pub frames_taken-append : (xs ys : List (Item Batched)) → frames_taken (xs ++ ys) ≡ frames_taken xs ++ frames_taken ys
frames_taken-append xs ys = ap frames_in (batches_in-append xs ys) ∙ frames_in-append (batches_in xs) (batches_in ys)

pub text_taken-append : (out : Out) (xs ys : List (Item Batched))
    → framed_text out (frames_taken (xs ++ ys)) ≡ framed_text out (frames_taken xs) ++ framed_text out (frames_taken ys)
text_taken-append out xs ys = ap (framed_text out) (frames_taken-append xs ys) ∙ framed_pieces.joined out (frames_taken xs) (frames_taken ys)

flows_nothing : (f : Flow) → Flows [] f f
flows_nothing f = (refl, prints_nothing (marked f))

pub takes_nothing : (tap : Tapped Batched) (flow : Flow) (batches : List Batched) → batches ≡ [] → TakesSome 0 tap flow tap flow batches
takes_nothing tap flow batches none = record {
  items = [];
  is = λ i. record tap { taken = sym (append-nil tap.taken) i };
  count = refl;
  kept = none;
  flows = flows_nothing flow;
}

taken_on : (a b c : Tapped Batched) (items : List (Item Batched)) (x : Item Batched) → b ≡ record a { taken = a.taken ++ items }
    → c ≡ record b { taken = b.taken ++ x ∷ [] } → c ≡ record a { taken = a.taken ++ (items ++ x ∷ []) }
taken_on a b c items x is e = e ∙ (λ i. record {
  line = ap (λ (z : Tapped Batched). z.line) is i;
  taken = (ap (λ (z : Tapped Batched). z.taken ++ x ∷ []) is ∙ append_assoc a.taken items (x ∷ [])) i;
  told = ap (λ (z : Tapped Batched). z.told) is i;
})

one_longer : (items : List (Item Batched)) (x : Item Batched) (took : ℕ) → length items ≡ took → length (items ++ x ∷ []) ≡ took + 1
one_longer items x took is = omega (arith, length-append items (x ∷ []), is)

flows_on : (out : Out) (items : List (Item Batched)) (x : Item Batched) (f g h : Flow) → f.out ≡ out → Flows (framed_text out (frames_taken items)) f g
    → h.out ≡ g.out → PrintsTo (framed_text out (frames_taken (x ∷ []))) (marked g) (marked h) → Flows (framed_text out (frames_taken (items ++ x ∷ []))) f h
flows_on out items x f g h first so same next = (same ∙ so.0, prints_same (sym (text_taken-append out items (x ∷ []))) (prints_both so.1 next))

-- a batch was taken, printed and kept
pub takes_batch : {took : ℕ} {tap : Tapped Batched} {flow : Flow} {b c : Tapped Batched} {g h : Flow} {bs cs : List Batched} (x : Batched)
    → TakesSome took tap flow b g bs → TookOne (One x) b c → Flows (framed_text g.out x.frames) g h → cs ≡ bs ++ x ∷ []
    → TakesSome (took + 1) tap flow c h cs
takes_batch {took} {tap} {flow} {b} {c} {g} {h} {bs} {cs} x so one printed kept =
    let text : framed_text g.out x.frames ≡ framed_text flow.out (frames_taken (One x ∷ [])) =
    ap (λ out. framed_text out x.frames) so.flows.0 ∙ ap (framed_text flow.out) (sym (append-nil x.frames)) in
    record {
      items = so.items ++ One x ∷ [];
      is = taken_on tap b c so.items (One x) so.is one.1;
      count = one_longer so.items (One x) took so.count;
      kept = kept ∙ ap (λ us. us ++ x ∷ []) so.kept ∙ sym (batches_in-append so.items (One x ∷ []));
      flows = flows_on flow.out so.items (One x) flow g h refl so.flows printed.0 (prints_same text printed.1);
    }

-- the end was taken
pub takes_end : {took : ℕ} {tap : Tapped Batched} {flow : Flow} {b c : Tapped Batched} {g : Flow} {bs : List Batched} (e : End)
    → TakesSome took tap flow b g bs → TookOne (Ended e) b c → TakesSome (took + 1) tap flow c g bs
takes_end {took} {tap} {flow} {b} {c} {g} {bs} e so one = record {
  items = so.items ++ Ended e ∷ [];
  is = taken_on tap b c so.items (Ended e) so.is one.1;
  count = one_longer so.items (Ended e) took so.count;
  kept = so.kept ∙ sym (append-nil (batches_in so.items)) ∙ sym (batches_in-append so.items (Ended e ∷ []));
  flows = flows_on flow.out so.items (Ended e) flow g g refl so.flows refl (prints_nothing (marked g));
}

-- what was taken when it stopped
pub stops : {upto took : ℕ} {tap : Tapped Batched} {flow : Flow} {b : Tapped Batched} {g : Flow} {bs : List Batched} (state : Drained) (turn : Turn)
    → TakesSome took tap flow b g bs → turn ≡ record { took = took; state = state } → took ≤ upto → Stands upto took b state
    → TakesAll upto tap flow b g bs turn
stops {upto} {took} {tap} {flow} {b} {g} {bs} state turn so is most stands = record {
  items = so.items;
  takes = record {
    is = so.is;
    took = ap (λ (t : Turn). t.took) is ∙ sym so.count;
    most = omega (arith, so.count, most);
    state =
        let P : ℕ → Type 0 = λ n. Stands upto n b state in
        let Q : Drained → Type 0 = λ s. Stands upto (length so.items) b s in
        subst Q (sym (ap (λ (t : Turn). t.state) is)) (subst P (sym so.count) stands);
  };
  kept = so.kept;
  flows = so.flows;
}

-- a tap that answers an end from its queue took it
pub end_taken : {b c : Tapped Batched} (e : End) → end_of b.taken ≡ None → end_of c.taken ≡ Some e → (c ≡ b) ⊎ TookOne (Ended e) b c → TookOne (Ended e) b c
end_taken {b} {c} e none is (inl same) = absurd (let bad : None ≡ Some e = sym none ∙ ap (λ (z : Tapped Batched). end_of z.taken) (sym same) ∙ is in cc)
end_taken {b} {c} e none is (inr one) = one

-- a tap that answers nothing stands as it stood
pub dry : {took : ℕ} {tap : Tapped Batched} {flow : Flow} {b c : Tapped Batched} {g : Flow} {bs : List Batched} → TakesSome took tap flow b g bs → c ≡ b → TakesSome took tap flow c g bs
dry {took} {tap} {flow} {b} {c} {g} {bs} so same = let P : Tapped Batched → Type 0 = λ t. TakesSome took tap flow t g bs in subst P (sym same) so
