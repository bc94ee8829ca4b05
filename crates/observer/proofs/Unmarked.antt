-- What is printed behind a mark is printed to the sink.
use Rattle.std.proofs.Common.{◌≡◌, ℕ, Bool, true, false, List, [], ◌∷◌, ◌++◌, Option, Some, None, refl, ap}
use Rattle.std.specs.Prelude.{IfSome}
use Rattle.relay_ports.specs.States.{SinkState}
use Rattle.relay_ports.specs.Told.{grown, prefixed}
use Rattle.buffered_io.specs.Writing.{Broke, Outlet, PrintsTo, Waiting, Wrote, outlet}
use Rattle.observer.specs.Meters.{Meter, with_base}

-- what was told grew behind the mark, and the mark is where it was
grew : (b c : ℕ) (o p : Option (List ℕ)) (bytes : List ℕ) → prefixed (c ∷ []) p ≡ grown (prefixed (b ∷ []) o) bytes → (p ≡ grown o bytes) × IfSome o (λ _. c ≡ b)
grew b c None None bytes is = (refl, tt)
grew b c None (Some ys) bytes is = absurd (cc)
grew b c (Some xs) None bytes is = absurd (cc)
grew b c (Some xs) (Some ys) bytes is =
    let base : c ≡ b = cc in
    let rest : ys ≡ xs ++ bytes = cc in (ap Some rest, base)

stayed : (b c : ℕ) (o p : Option (List ℕ)) → prefixed (c ∷ []) p ≡ prefixed (b ∷ []) o → (p ≡ o) × IfSome o (λ _. c ≡ b)
stayed b c None None is = (refl, tt)
stayed b c None (Some ys) is = absurd (cc)
stayed b c (Some xs) None is = absurd (cc)
stayed b c (Some xs) (Some ys) is =
    let base : c ≡ b = cc in
    let rest : ys ≡ xs = cc in (ap Some rest, base)

-- bytes are printed to a sink, and the mark is where it was
pub record Unmarked (bytes : List ℕ) (p q : Waiting) (m n : Meter) : Type 0 where
  pub prints : PrintsTo bytes (outlet p m.sink) (outlet q n.sink)
  pub base : IfSome m.sink.written (λ _. n.base ≡ m.base)

same_sink : (m n : Meter) → with_base n ≡ with_base m → (n.sink ≡ m.sink) × IfSome m.sink.written (λ _. n.base ≡ m.base)
same_sink m n is =
    let told = stayed m.base n.base m.sink.written n.sink.written (ap (λ (w : SinkState). w.written) is) in (
      λ i. record {
        written = told.0 i;
        faults = ap (λ (w : SinkState). w.faults) is i;
        after = ap (λ (w : SinkState). w.after) is i;
      },
      told.1,
    )

wrote : (bytes : List ℕ) (m n : Meter) → Wrote bytes (with_base m) (with_base n) → Wrote bytes m.sink n.sink × IfSome m.sink.written (λ _. n.base ≡ m.base)
wrote bytes m n is =
    let told = grew m.base n.base m.sink.written n.sink.written bytes (ap (λ (w : SinkState). w.written) is.state) in (
      record {
        state = λ i. record { written = told.0 i; faults = ap (λ (w : SinkState). w.faults) is.state i; after = n.sink.after };
        after = is.after;
      },
      told.1,
    )

broke : (bytes : List ℕ) (m n : Meter) → Broke bytes (with_base m) (with_base n) → Broke bytes m.sink n.sink × IfSome m.sink.written (λ _. n.base ≡ m.base)
broke bytes m n is =
    let told = grew m.base n.base m.sink.written n.sink.written is.front (ap (λ (w : SinkState). w.written) is.state) in (
      record {
        front = is.front;
        lost = is.lost;
        both = is.both;
        some = is.some;
        state = λ i. record { written = told.0 i; faults = ap (λ (w : SinkState). w.faults) is.state i; after = n.sink.after };
        after = is.after;
      },
      told.1,
    )

base_by : (before after : Bool) (bytes : List ℕ) (p q : Waiting) (m n : Meter) → p.failed ≡ before → q.failed ≡ after
    → PrintsTo bytes (outlet p (with_base m)) (outlet q (with_base n)) → IfSome m.sink.written (λ _. n.base ≡ m.base)
base_by true after bytes p q m n was is printed = (same_sink m n (ap (λ (o : Outlet). o.sink) (printed.stopped was))).1
base_by false true bytes p q m n was is printed = (broke (p.text ++ bytes) m n (printed.broke was is)).1
base_by false false bytes p q m n was is printed = (wrote ((printed.waits was is).0) m n (printed.waits was is).2).1

pub unmarked : (bytes : List ℕ) (p q : Waiting) (m n : Meter) → PrintsTo bytes (outlet p (with_base m)) (outlet q (with_base n)) → Unmarked bytes p q m n
unmarked bytes p q m n printed = record {
  prints = record {
    stopped = λ was. let same = printed.stopped was in λ i. record {
      text = ap (λ (o : Outlet). o.text) same i;
      failed = ap (λ (o : Outlet). o.failed) same i;
      sink = (same_sink m n (ap (λ (o : Outlet). o.sink) same)).0 i;
    };
    waits = λ was is. let some = printed.waits was is in (some.0, some.1, (wrote some.0 m n some.2).0);
    broke = λ was is. (broke (p.text ++ bytes) m n (printed.broke was is)).0;
  };
  base = base_by p.failed q.failed bytes p q m n refl refl printed;
}
