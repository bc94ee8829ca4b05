-- Turns, one after another.
use Rattle.std.proofs.Common.{◌≡◌, ℕ, ◌+◌, ◌-◌, ◌^◌, ◌<◌, Bool, true, false, List, ◌++◌, Option, Some, length, refl, sym, ap, ◌∙◌, subst, append_assoc, append-nil, length-append, inl, inr, arith}
use Rattle.std.proofs.lemmas.Bool.{cases_lt}
use Rattle.std.proofs.lemmas.List.{take_all}
use Rattle.relay_ports.specs.States.{SinkState}
use Rattle.relay_ports.specs.Told.{grown}
use Rattle.buffered_io.specs.Writing.{Outlet, PrintsTo, Wrote}
use Rattle.buffered_io.proofs.Prints.{prints_both, prints_same, same_broke, same_wrote}
use Rattle.frame_head.specs.declared.out.Out.{Out}
use Rattle.frame_head.specs.Framed.{framed_text, whole_frames}
use Rattle.frame_head.proofs.Written.{whole_laws}
use Rattle.observer.specs.Items.{frames_taken}
use Rattle.observer.specs.Drains.{CountsFrames, Drain, IsFlushed, saturated}
use Rattle.observer.specs.Laws.{AfterAllTurns, BetweenTurns, TurnsJoin}
use Rattle.observer.proofs.Counted.{short}
use Rattle.observer.proofs.Taken.{frames_taken-append, text_taken-append}

differ : {b : Bool} → b ≡ true → b ≡ false → ⊥
differ {b} s t = cc

-- how much a sink took, where it tells that
took_so_much : (o p : Option (List ℕ)) (front before after : List ℕ) → p ≡ grown o front → o ≡ Some before → p ≡ Some after → length after ≡ length before + length front
took_so_much o p front before after is was tells =
    let same : Some (before ++ front) ≡ Some after = ap (λ x. grown x front) (sym was) ∙ sym is ∙ tells in
    let both : before ++ front ≡ after = cc in
    sym (ap (λ xs. length xs) both) ∙ length-append before front

-- where some of a text is lost, some frame isn't whole
some_lost : (out : Out) (frames : List (List ℕ)) (front lost : List ℕ) → framed_text out frames ≡ front ++ lost → 0 < length lost
    → whole_frames out frames (length front) < length frames
some_lost out frames front lost both some =
    let count = whole_frames out frames (length front) in
    let is = whole_laws.count out frames (length front) in
    elim (cases_lt count (length frames)) [
      | inl lt ↦ lt
      | inr ge ↦ absurd (
          let size = ap (λ xs. length xs) both in
          let sum = length-append front lost in
          let all = ap (λ fs. length (framed_text out fs)) (take_all count frames ge) in
          omega (arith, is.fits, size, sum, all, some))
    ]

-- a number of 64 bits, in two steps
adds_up : (a b c m n : ℕ) → b ≡ saturated (a + m) → c ≡ saturated (b + n) → c ≡ saturated (a + (m + n))
adds_up a b c m n first next = omega (arith, first, next)

-- what a sink took in the first turns, of what it took in all
module _ (first then : List (List ℕ)) (a b c : Drain) (out : b.out ≡ a.out) (flushed : IsFlushed a.outlet) (flushed_again : IsFlushed b.outlet)
    (p : PrintsTo (framed_text a.out first) a.outlet b.outlet) (q : PrintsTo (framed_text b.out then) b.outlet c.outlet)
    (m : CountsFrames first a b) (n : CountsFrames then b c) where
  -- the first turns wrote all
  wrote_all : a.outlet.failed ≡ false → b.outlet.failed ≡ false → Wrote (framed_text a.out first) a.outlet.sink b.outlet.sink
  wrote_all was is =
      let some = p.waits was is in
      let text : framed_text a.out first ≡ some.0 =
      ap (λ t. t ++ framed_text a.out first) (sym (flushed was)) ∙ some.1 ∙ ap (λ t. some.0 ++ t) (flushed_again is) ∙ append-nil some.0 in
      same_wrote (sym text) some.2

  counts_later : a.outlet.failed ≡ false → b.outlet.failed ≡ false → c.outlet.failed ≡ true → (before after : List ℕ)
      → a.outlet.sink.written ≡ Some before → c.outlet.sink.written ≡ Some after → length after < 2 ^ 128 - 1
      → c.count ≡ saturated (a.count + whole_frames a.out (first ++ then) (length after - length before))
  counts_later was is bad before after told tells few =
      let text = framed_text a.out first in
      let mid = before ++ text in
      let wrote = wrote_all was is in
      let told_mid : b.outlet.sink.written ≡ Some mid = ap (λ (s : SinkState). s.written) wrote.state ∙ ap (λ o. grown o text) told in
      let broke = q.broke is bad in
      let size = took_so_much b.outlet.sink.written c.outlet.sink.written broke.front mid after (ap (λ (s : SinkState). s.written) broke.state) told_mid tells in
      let sum = length-append before text in
      let left : length after - length before ≡ length text + (length after - length mid) = omega (arith, size, sum) in
      adds_up a.count b.count c.count (length first) (whole_frames a.out then (length after - length mid)) (m.all was is)
      (n.first is bad mid after told_mid tells few ∙ ap (λ o. saturated (b.count + whole_frames o then (length after - length mid))) out)
      ∙ ap (λ k. saturated (a.count + k)) (sym (whole_laws.joined a.out first then (length after - length mid)))
      ∙ ap (λ k. saturated (a.count + whole_frames a.out (first ++ then) k)) (sym left)

  counts_before : a.outlet.failed ≡ false → b.outlet.failed ≡ true → (before after : List ℕ)
      → a.outlet.sink.written ≡ Some before → c.outlet.sink.written ≡ Some after → length after < 2 ^ 128 - 1
      → c.count ≡ saturated (a.count + whole_frames a.out (first ++ then) (length after - length before))
  counts_before was bad before after told tells few =
      let same = q.stopped bad in
      let told_mid : b.outlet.sink.written ≡ Some after = sym (ap (λ (o : Outlet). o.sink.written) same) ∙ tells in
      let broke = p.broke was bad in
      let both : framed_text a.out first ≡ broke.front ++ broke.lost = ap (λ t. t ++ framed_text a.out first) (sym (flushed was)) ∙ broke.both in
      let size = took_so_much a.outlet.sink.written b.outlet.sink.written broke.front before after (ap (λ (s : SinkState). s.written) broke.state) told told_mid in
      let left : length broke.front ≡ length after - length before = omega (arith, size) in
      n.stopped bad ∙ m.first was bad before after told told_mid few
      ∙ ap (λ k. saturated (a.count + whole_frames a.out first k)) (sym left)
      ∙ ap (λ k. saturated (a.count + k)) (sym (short a.out first then (length broke.front) (some_lost a.out first broke.front broke.lost both broke.some)))
      ∙ ap (λ k. saturated (a.count + whole_frames a.out (first ++ then) k)) left

  counts_first : (bad : Bool) → b.outlet.failed ≡ bad → a.outlet.failed ≡ false → c.outlet.failed ≡ true → (before after : List ℕ)
      → a.outlet.sink.written ≡ Some before → c.outlet.sink.written ≡ Some after → length after < 2 ^ 128 - 1
      → c.count ≡ saturated (a.count + whole_frames a.out (first ++ then) (length after - length before))
  counts_first true is was bad before after = counts_before was is before after
  counts_first false is was bad before after = counts_later was is bad before after

  counts_all : (bad : Bool) → b.outlet.failed ≡ bad → a.outlet.failed ≡ false → c.outlet.failed ≡ false → c.count ≡ saturated (a.count + length (first ++ then))
  counts_all true is was fine = absurd (differ (ap (λ (o : Outlet). o.failed) (q.stopped is) ∙ is) fine)
  counts_all false is was fine =
      adds_up a.count b.count c.count (length first) (length then) (m.all was is) (n.all is fine) ∙ ap (λ k. saturated (a.count + k)) (sym (length-append first then))

  counts_none : a.outlet.failed ≡ true → c.count ≡ a.count
  counts_none bad = n.stopped (ap (λ (o : Outlet). o.failed) (p.stopped bad) ∙ bad) ∙ m.stopped bad

  counts_both : CountsFrames (first ++ then) a c
  counts_both = record { stopped = counts_none; all = counts_all b.outlet.failed refl; first = counts_first b.outlet.failed refl }

pub turns_join : TurnsJoin
turns_join items more a b c flushed p q =
    let out : b.out ≡ a.out = ap (λ (d : Drain). d.out) p.is in
    let P : List (List ℕ) → Type 0 = λ frames. CountsFrames frames a c in
    record {
      is = q.is ∙ (λ i. record {
        tap = record {
          line = ap (λ (d : Drain). d.tap.line) p.is i;
          taken = (ap (λ (d : Drain). d.tap.taken ++ more) p.is ∙ append_assoc a.tap.taken items more) i;
          told = c.tap.told;
        };
        out = out i;
        outlet = c.outlet;
        cap = ap (λ (d : Drain). d.cap) p.is i;
        returns = c.returns;
        count = c.count;
      });
      prints = prints_same (sym (text_taken-append a.out items more)) (prints_both p.prints (prints_same (ap (λ o. framed_text o (frames_taken more)) out) q.prints));
      flushed = q.flushed;
      counts = subst P (sym (frames_taken-append items more)) (counts_both (frames_taken items) (frames_taken more) a b c out flushed p.flushed p.prints q.prints p.counts q.counts);
    }

pub between_turns : BetweenTurns
between_turns items told returns a b d = record {
  is = λ i. record {
    tap = record {
      line = ap (λ (x : Drain). x.tap.line) d.is i;
      taken = ap (λ (x : Drain). x.tap.taken) d.is i;
      told = told;
    };
    out = ap (λ (x : Drain). x.out) d.is i;
    outlet = b.outlet;
    cap = ap (λ (x : Drain). x.cap) d.is i;
    returns = returns;
    count = b.count;
  };
  prints = d.prints;
  flushed = d.flushed;
  counts = record { stopped = d.counts.stopped; all = d.counts.all; first = d.counts.first };
}

pub after_all_turns : AfterAllTurns
after_all_turns items a d (none, fine, zero) p =
    let frames = frames_taken items in record {
      whole = λ is.
          let some = p.prints.waits fine is in
          let text : some.0 ≡ framed_text a.out frames =
          sym (append-nil some.0) ∙ ap (λ t. some.0 ++ t) (sym (p.flushed is)) ∙ sym some.1 ∙ ap (λ t. t ++ framed_text a.out frames) none in
          same_wrote text some.2;
      all = λ is. p.counts.all fine is ∙ ap (λ k. saturated (k + length frames)) zero ∙ ap saturated (let e : 0 + length frames ≡ length frames = omega arith in e);
      part = λ bad. same_broke (ap (λ t. t ++ framed_text a.out frames) none) (p.prints.broke fine bad);
      first = λ bad before after told tells few.
          let count = whole_frames a.out frames (length after - length before) in (
            count,
            p.counts.first fine bad before after told tells few ∙ ap (λ k. saturated (k + count)) zero ∙ ap saturated (let e : 0 + count ≡ count = omega arith in e),
            whole_laws.count a.out frames (length after - length before),
          );
    }
