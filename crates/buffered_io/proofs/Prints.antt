-- Writings and printings, one after another.
use Rattle.std.proofs.Common.{◌≡◌, ℕ, ◌+◌, ◌-◌, ◌<◌, Bool, true, false, List, [], ◌++◌, length, take, drop, length-append, length-drop, refl, sym, ap, ◌∙◌, subst, append_assoc, append-nil, arith}
use Rattle.std.specs.Prelude.{not}
use Rattle.std.specs.Bool.{MatchBool}
use Rattle.std.proofs.Math.Seq.{take-add}
use Rattle.std.proofs.lemmas.List.{take_all, take-append-drop}
use Rattle.relay_ports.specs.States.{SinkState}
use Rattle.relay_ports.specs.Calls.{Took, WriteFailed}
use Rattle.relay_ports.specs.Told.{calls_after, counted, grown}
use Rattle.buffered_io.specs.Writing.{Wrote, Broke, Waiting, Outlet, PrintsTo, outlet}
use Rattle.buffered_io.proofs.Told.{grown_twice, grown_nothing}

pub wrote_nothing : (w : SinkState) → Wrote [] w w
wrote_nothing w = record {
  state = λ i. record w { written = sym (grown_nothing w.written) i };
  after = λ none. refl;
}

-- one text and then another
pub wrote_both : {w v u : SinkState} {xs ys : List ℕ} → Wrote xs w v → Wrote ys v u → Wrote (xs ++ ys) w u
wrote_both {w} {v} {u} {xs} {ys} a b = record {
  state = λ i. record {
    written = (ap (λ (s : SinkState). s.written) b.state ∙ ap (λ (s : SinkState). grown s.written ys) a.state ∙ grown_twice w.written xs ys) i;
    faults = (ap (λ (s : SinkState). s.faults) b.state ∙ ap (λ (s : SinkState). s.faults) a.state) i;
    after = u.after;
  };
  after = λ none. b.after (ap (λ (s : SinkState). s.faults) a.state ∙ none) ∙ a.after none;
}

-- one text, and then the front of another
pub wrote_broke : {w v u : SinkState} {xs ys : List ℕ} → Wrote xs w v → Broke ys v u → Broke (xs ++ ys) w u
wrote_broke {w} {v} {u} {xs} {ys} a b = record {
  front = xs ++ b.front;
  lost = b.lost;
  both = ap (λ t. xs ++ t) b.both ∙ sym (append_assoc xs b.front b.lost);
  some = b.some;
  state = λ i. record {
    written = (ap (λ (s : SinkState). s.written) b.state ∙ ap (λ (s : SinkState). grown s.written b.front) a.state ∙ grown_twice w.written xs b.front) i;
    faults = (ap (λ (s : SinkState). s.faults) b.state ∙ ap (λ (s : SinkState). counted s.faults) a.state) i;
    after = u.after;
  };
  after = λ none. b.after (ap (λ (s : SinkState). s.faults) a.state ∙ none) ∙ a.after none;
}

-- the front of a text is the front of a longer one
pub broke_longer : {w v : SinkState} {xs : List ℕ} (ys : List ℕ) → Broke xs w v → Broke (xs ++ ys) w v
broke_longer {w} {v} {xs} ys b = record {
  front = b.front;
  lost = b.lost ++ ys;
  both = ap (λ t. t ++ ys) b.both ∙ append_assoc b.front b.lost ys;
  some = omega (arith, b.some, length-append b.lost ys);
  state = b.state;
  after = b.after;
}

pub same_wrote : {w v : SinkState} {xs ys : List ℕ} → xs ≡ ys → Wrote xs w v → Wrote ys w v
same_wrote {w} {v} {xs} {ys} e h = let P : List ℕ → Type 0 = λ t. Wrote t w v in subst P e h

pub same_broke : {w v : SinkState} {xs ys : List ℕ} → xs ≡ ys → Broke xs w v → Broke ys w v
same_broke {w} {v} {xs} {ys} e h = let P : List ℕ → Type 0 = λ t. Broke t w v in subst P e h

-- one call is a writing
took_wrote : (w v : SinkState) (xs : List ℕ) → Took xs w v → Wrote xs w v
took_wrote w v xs e = record {
  state = λ i. record { written = ap (λ (s : SinkState). s.written) e i; faults = ap (λ (s : SinkState). s.faults) e i; after = v.after };
  after = λ none. ap (λ (s : SinkState). s.after) e ∙ ap (λ n. calls_after n w.after) none;
}

-- a call that failed
dropped_broke : (w v : SinkState) (xs : List ℕ) → 0 < length xs → WriteFailed w v → Broke xs w v
dropped_broke w v xs some e = record {
  front = [];
  lost = xs;
  both = refl;
  some = some;
  state = λ i. record {
    written = (ap (λ (s : SinkState). s.written) e ∙ sym (grown_nothing w.written)) i;
    faults = ap (λ (s : SinkState). s.faults) e i;
    after = v.after;
  };
  after = λ none. ap (λ (s : SinkState). s.after) e ∙ ap (λ n. calls_after n w.after) none;
}

-- the next piece of a text was taken
pub wrote_further : (w v u : SinkState) (text : List ℕ) (at n : ℕ) → Wrote (take at text) w v → Took (take n (take (length text - at) (drop at text))) v u
    → Wrote (take (at + n) text) w u
wrote_further w v u text at n first more =
    let rest : take (length text - at) (drop at text) ≡ drop at text = take_all (length text - at) (drop at text) (omega (arith, length-drop at text)) in
    same_wrote (ap (λ x. take at text ++ take n x) rest ∙ sym (take-add at n text)) (wrote_both first (took_wrote v u _ more))

-- the next piece of a text wasn't taken
pub broke_further : (w v u : SinkState) (text : List ℕ) (at : ℕ) → at < length text → Wrote (take at text) w v → WriteFailed v u → Broke text w u
broke_further w v u text at below first failed =
    same_broke (take-append-drop at text) (wrote_broke first (dropped_broke v u (drop at text) (omega (arith, below, length-drop at text)) failed))

differ : {b : Bool} → b ≡ true → b ≡ false → ⊥
differ {b} s t = cc

-- nothing is printed
pub prints_nothing : (d : Outlet) → PrintsTo [] d d
prints_nothing d = record {
  stopped = λ bad. refl;
  waits = λ fine same. ([], append-nil d.text, wrote_nothing d.sink);
  broke = λ fine bad. absurd (differ bad fine);
}

-- bytes are dropped, since the sink failed
pub prints_dropped : (d : Outlet) (bytes : List ℕ) → d.failed ≡ true → PrintsTo bytes d d
prints_dropped d bytes bad = record {
  stopped = λ same. refl;
  waits = λ fine same. absurd (differ bad fine);
  broke = λ fine same. absurd (differ bad fine);
}

-- bytes are added to what waits
pub prints_kept : (p q : Waiting) (w : SinkState) (bytes : List ℕ) → p.failed ≡ false → q.failed ≡ false → q.text ≡ p.text ++ bytes → PrintsTo bytes (outlet p w) (outlet q w)
prints_kept p q w bytes fine still text = record {
  stopped = λ bad. absurd (differ bad fine);
  waits = λ _ _. ([], sym text, wrote_nothing w);
  broke = λ _ bad. absurd (differ bad still);
}

-- all that waits is written out, or the sink fails
pub prints_out : (r : Bool) (p q : Waiting) (w v : SinkState) → p.failed ≡ false → q.failed ≡ not r → q.text ≡ []
    → MatchBool r (Wrote p.text w v) (Broke p.text w v) → PrintsTo [] (outlet p w) (outlet q v)
prints_out true p q w v fine still none wrote = record {
  stopped = λ bad. absurd (differ bad fine);
  waits = λ _ _. (p.text, ap (λ t. p.text ++ t) (sym none), wrote);
  broke = λ _ bad. absurd (differ bad still);
}
prints_out false p q w v fine failed none broke = record {
  stopped = λ bad. absurd (differ bad fine);
  waits = λ _ still. absurd (differ failed still);
  broke = λ _ bad. broke_longer [] broke;
}

both_by : (f : Bool) {a b c : Outlet} {xs ys : List ℕ} → b.failed ≡ f → PrintsTo xs a b → PrintsTo ys b c → PrintsTo (xs ++ ys) a c
both_by true {a} {b} {c} {xs} {ys} bad p q = record {
  stopped = λ h. q.stopped bad ∙ p.stopped h;
  waits = λ h fine. absurd (differ (ap (λ (o : Outlet). o.failed) (q.stopped bad) ∙ bad) fine);
  broke = λ h _.
      let P : Outlet → Type 0 = λ o. Broke (a.text ++ (xs ++ ys)) a.sink o.sink in
      subst P (sym (q.stopped bad)) (same_broke (append_assoc a.text xs ys) (broke_longer ys (p.broke h bad)));
}
both_by false {a} {b} {c} {xs} {ys} fine p q = record {
  stopped = λ h. absurd (differ (ap (λ (o : Outlet). o.failed) (p.stopped h) ∙ h) fine);
  waits = λ h still.
      let first = p.waits h fine in
      let next = q.waits fine still in (
        first.0 ++ next.0,
        sym (append_assoc a.text xs ys) ∙ ap (λ t. t ++ ys) first.1 ∙ append_assoc first.0 b.text ys ∙ ap (λ t. first.0 ++ t) next.1 ∙ sym (append_assoc first.0 next.0 c.text),
        wrote_both first.2 next.2,
      );
  broke = λ h bad.
      let first = p.waits h fine in
      same_broke (sym (append_assoc first.0 b.text ys) ∙ ap (λ t. t ++ ys) (sym first.1) ∙ append_assoc a.text xs ys) (wrote_broke first.2 (q.broke fine bad));
}

-- some bytes and then others
pub prints_both : {a b c : Outlet} {xs ys : List ℕ} → PrintsTo xs a b → PrintsTo ys b c → PrintsTo (xs ++ ys) a c
prints_both {a} {b} {c} {xs} {ys} p q = both_by b.failed refl p q

-- the same bytes
pub prints_same : {a b : Outlet} {xs ys : List ℕ} → xs ≡ ys → PrintsTo xs a b → PrintsTo ys a b
prints_same {a} {b} {xs} {ys} e p = let P : List ℕ → Type 0 = λ t. PrintsTo t a b in subst P e p

-- the next bytes of a text are printed, behind a writing out; `f` is how bytes are printed
pub prints_further : {a b c d : Outlet} (f : List ℕ → List ℕ) → ((xs ys : List ℕ) → f (xs ++ ys) ≡ f xs ++ f ys) → (text : List ℕ) (at n : ℕ)
    → PrintsTo (f (take at text)) a b → PrintsTo [] b c → PrintsTo (f (take (at + n - at) (drop at text))) c d → PrintsTo (f (take (at + n) text)) a d
prints_further {a} {b} {c} {d} f joins text at n first out next =
    prints_same (ap (λ t. t ++ f (take (at + n - at) (drop at text))) (append-nil (f (take at text)))
    ∙ ap (λ k. f (take at text) ++ f (take k (drop at text))) (add-sub at n)
    ∙ sym (joins (take at text) (take n (drop at text)))
    ∙ ap f (sym (take-add at n text)))
    (prints_both (prints_both first out) next)
  where
    add-sub : (at n : ℕ) → at + n - at ≡ n
    add-sub at n = omega arith
