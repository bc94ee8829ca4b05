-- A turn, of what its steps did.
use Rattle.std.proofs.Common.{◌≡◌, ℕ, ◌+◌, ◌-◌, ◌^◌, ◌<◌, ◌≤◌, min, true, false, List, [], ◌∷◌, ◌++◌, Option, Some, length, take, refl, sym, ap, ◌∙◌, subst, append-nil, length-append, arith, inl, inr}
use Rattle.std.specs.Prelude.{IfSome}
use Rattle.storage.specs.declared.release.NoOwner.{NoOwner}
use Rattle.storage.specs.declared.back.Back.{Back}
use Rattle.buffered_io.specs.Writing.{PrintsTo}
use Rattle.buffered_io.proofs.Prints.{prints_both, prints_same}
use Rattle.frame_head.specs.Framed.{framed_text, whole_frames}
use Rattle.frame_batch.specs.Batches.{Batched}
use Rattle.sub_queue.specs.declared.items.End.{End}
use Rattle.sub_queue.specs.declared.items.Item.{Item}
use Rattle.sub_queue.specs.declared.items.Item.TheVariants as item
use Rattle.sub_queue.specs.Line.{Agree}
use Rattle.sub_queue.specs.Ends.{EndIsLast, Tapped, end_of}
use Rattle.std.proofs.lemmas.List.{take-append-le, take_all}
use Rattle.observer.specs.declared.turn.Turn.{Turn}
use Rattle.observer.specs.declared.turn.Drained.{Drained}
use Rattle.observer.specs.declared.turn.Drained.TheVariants.{Done, Empty, Ended}
use Rattle.observer.specs.Meters.{CountsTaken, Meter, meter_anew, size_of, size_told}
use Rattle.observer.specs.Flows.{Flow, Flows, marked, outlet_of}
use Rattle.observer.specs.Items.{batches_in, frames_in, frames_taken}
use Rattle.observer.specs.Drains.{CountsFrames, Drain, drain, saturated}
use Rattle.observer.specs.Returning.{GivesAllBack}
use Rattle.observer.specs.Taking.{Stands, TakesAll}
use Rattle.observer.specs.Turns.{Turned}
use Rattle.observer.proofs.Unmarked.{unmarked}

-- a flow whose sink's bytes are counted from here on
abbrev pub marked_anew : Flow → Flow
marked_anew f = record f { meter = meter_anew f.meter.sink }

-- of two lists of which the shorter is a beginning of the other, the shorter
agreed : (xs ys : List (Item Batched)) → Agree xs ys → length xs ≤ length ys → xs ≡ take (length xs) ys
agreed xs ys (inl (more, is)) shorter =
    sym (take_all (length xs) xs (omega arith)) ∙ sym (take-append-le (length xs) xs more (omega arith)) ∙ ap (λ zs. take (length xs) zs) (sym is)
agreed xs ys (inr (more, is)) shorter =
    let n : length xs ≡ length ys + length more = ap (λ zs. length zs) is ∙ length-append ys more in
    let same : xs ≡ ys = is ∙ no_more more (omega (arith, n, shorter)) in
    same ∙ sym (take_all (length xs) ys (omega (arith, n, shorter)))
  where
    no_more : (zs : List (Item Batched)) → length zs ≡ 0 → ys ++ zs ≡ ys
    no_more [] none = append-nil ys
    no_more (z ∷ zs) none = absurd (omega (arith, none))

-- nothing stands behind an end
none_behind : (xs more : List (Item Batched)) (e : End) → EndIsLast (xs ++ more) → end_of xs ≡ Some e → length (xs ++ more) ≤ length xs
none_behind [] more e last is = absurd (cc)
none_behind (item.One x ∷ xs) more e last is = let rest = none_behind xs more e last is in omega (arith, rest)
none_behind (item.Ended x ∷ xs) more e last is = let none : length (xs ++ more) ≡ 0 = ap (λ zs. length zs) last in omega (arith, none)

-- a tap that took an end knows of nothing more
none_left : (xs ys : List (Item Batched)) (e : End) → Agree xs ys → EndIsLast ys → end_of xs ≡ Some e → length ys ≤ length xs
none_left xs ys e (inl (more, same)) last is =
    let n : length ys ≡ length (xs ++ more) = ap (λ zs. length zs) same in
    let within = none_behind xs more e (subst EndIsLast same last) is in omega (arith, n, within)
none_left xs ys e (inr (more, same)) last is =
    let n : length xs ≡ length ys + length more = ap (λ zs. length zs) same ∙ length-append ys more in omega (arith, n)

-- a turn over items that the tap knows of takes just these
known_by : (upto : ℕ) (items : List (Item Batched)) (a c : Tapped Batched) (state : Drained) → c ≡ record a { taken = a.taken ++ items }
    → length items ≤ upto → Stands upto (length items) c state → Agree c.taken c.told → EndIsLast c.told
    → length a.taken + upto ≤ length a.told → c.taken ≡ take (length a.taken + upto) a.told
known_by upto items a c Done is most stands agree last known =
    let told : c.told ≡ a.told = ap (λ (t : Tapped Batched). t.told) is in
    let n : length c.taken ≡ length a.taken + upto = ap (λ (t : Tapped Batched). length t.taken) is ∙ length-append a.taken items ∙ ap (λ k. length a.taken + k) stands.1 in
    let h : length c.told ≡ length a.told = ap (λ z. length z) told in
    agreed c.taken c.told agree (omega (arith, n, h, known)) ∙ (λ i. take (n i) (told i))
known_by upto items a c Empty is most stands agree last known =
    let h : length c.told ≡ length a.told = ap (λ (t : Tapped Batched). length t.told) is in
    let n : length c.taken ≡ length a.taken + length items = ap (λ (t : Tapped Batched). length t.taken) is ∙ length-append a.taken items in
    let less = stands.1 in let dry = stands.2 in
    absurd (omega (arith, less, dry, h, n, known))
known_by upto items a c (Ended e) is most stands agree last known =
    let told : c.told ≡ a.told = ap (λ (t : Tapped Batched). t.told) is in
    let h : length c.told ≡ length a.told = ap (λ z. length z) told in
    let n : length c.taken ≡ length a.taken + length items = ap (λ (t : Tapped Batched). length t.taken) is ∙ length-append a.taken items in
    let all = none_left c.taken c.told e agree last stands in
    let m : length c.taken ≡ length a.taken + upto = omega (arith, all, h, n, known, most) in
    agreed c.taken c.told agree (omega (arith, m, h, known)) ∙ (λ i. take (m i) (told i))

-- how much the sink took behind the mark
taken_by : (m n : Meter) (before after : List ℕ) → m.base ≡ size_of m.sink.written → IfSome m.sink.written (λ _. n.base ≡ m.base) → CountsTaken n
    → m.sink.written ≡ Some before → n.sink.written ≡ Some after → length after < 2 ^ 128 - 1 → n.taken ≡ length after - length before
taken_by m n before after base same counts was is few =
    let P : Option (List ℕ) → Type 0 = λ o. IfSome o (λ _. n.base ≡ m.base) in
    let Q : Option (List ℕ) → Type 0 = λ o. IfSome o (λ bytes. (n.base ≤ length bytes) × (n.taken ≡ min (length bytes - n.base) (2 ^ 128 - 1))) in
    let stays : n.base ≡ m.base = subst P was same in
    let begins : m.base ≡ length before = base ∙ ap size_of was in
    let count = (subst Q is counts).1 in
    omega (arith, stays, begins, count, few)

counts_turn : (upto : ℕ) (tap tap' : Tapped Batched) (f h : Flow) (cap : ℕ) (rs rs' : List (List (Back NoOwner))) (count count' : ℕ) (frames fs : List (List ℕ))
    → h.out ≡ f.out → fs ≡ frames → IfSome f.meter.sink.written (λ _. h.meter.base ≡ size_told f.meter.sink)
    → (f.printer.failed ≡ true → count' ≡ count)
    → (f.printer.failed ≡ false → h.printer.failed ≡ false → count' ≡ saturated (count + length fs))
    → (f.printer.failed ≡ false → h.printer.failed ≡ true → count' ≡ saturated (count + whole_frames h.out fs h.meter.taken))
    → CountsTaken h.meter
    → CountsFrames frames (drain tap f cap rs count) (drain tap' h cap rs' count')
counts_turn upto tap tap' f h cap rs rs' count count' frames fs out same base stopped all first counts = record {
  stopped = stopped;
  all = λ was is. all was is ∙ ap (λ xs. saturated (count + length xs)) same;
  first = λ was is before after told tells few.
      let taken = taken_by (meter_anew f.meter.sink) h.meter before after refl base counts told tells few in
      first was is ∙ (λ i. saturated (count + whole_frames (out i) (same i) (taken i)));
}

-- no more batches than items
few_batches : (items : List (Item Batched)) → length (batches_in items) ≤ length items
few_batches [] = omega arith
few_batches (item.One x ∷ items) = let rest = few_batches items in omega (arith, rest)
few_batches (item.Ended e ∷ items) = let rest = few_batches items in omega (arith, rest)

pub batches_within : {upto : ℕ} {tap tap' : Tapped Batched} {f g : Flow} {bs : List Batched} {turn : Turn} → TakesAll upto tap f tap' g bs turn → length bs ≤ upto
batches_within all = let same = ap (λ bs. length bs) all.kept in let few = few_batches all.items in let most = all.takes.most in omega (arith, same, few, most)

pub turned : (upto : ℕ) (tap tap' : Tapped Batched) (f g h : Flow) (cap : ℕ) (rs rs' : List (List (Back NoOwner))) (count count' : ℕ) (bs : List Batched) (turn : Turn)
    → TakesAll upto tap (marked_anew f) tap' g bs turn → Agree tap'.taken tap'.told → EndIsLast tap'.told
    → Flows [] g h → (h.printer.failed ≡ false → h.printer.text ≡ [])
    → (f.printer.failed ≡ true → count' ≡ count)
    → (f.printer.failed ≡ false → h.printer.failed ≡ false → count' ≡ saturated (count + length (frames_in bs)))
    → (f.printer.failed ≡ false → h.printer.failed ≡ true → count' ≡ saturated (count + whole_frames h.out (frames_in bs) h.meter.taken))
    → CountsTaken h.meter → GivesAllBack bs rs'
    → Turned upto (drain tap f cap rs count) (drain tap' h cap rs' count') turn
turned upto tap tap' f g h cap rs rs' count count' bs turn all agree last flushes empty stopped whole first counts given =
    let items = all.items in
    let text = framed_text f.out (frames_taken items) in
    let out : h.out ≡ f.out = flushes.0 ∙ all.flows.0 in
    let printed : PrintsTo text (marked (marked_anew f)) (marked h) = prints_same (append-nil text) (prints_both all.flows.1 flushes.1) in
    let real = unmarked text f.printer h.printer (meter_anew f.meter.sink) h.meter printed in
    record {
      items = items;
      takes = all.takes;
      drains = record {
        is = λ i. record {
          tap = record {
            line = ap (λ (t : Tapped Batched). t.line) all.takes.is i;
            taken = ap (λ (t : Tapped Batched). t.taken) all.takes.is i;
            told = tap'.told;
          };
          out = out i;
          outlet = outlet_of h;
          cap = cap;
          returns = rs';
          count = count';
        };
        prints = real.prints;
        flushed = empty;
        counts = counts_turn upto tap tap' f h cap rs rs' count count' (frames_taken items) (frames_in bs) out (ap frames_in all.kept) real.base stopped whole first counts;
      };
      returns = let P : List Batched → Type 0 = λ xs. GivesAllBack xs rs' in subst P all.kept given;
      known = known_by upto items tap tap' turn.state all.takes.is all.takes.most all.takes.state agree last;
    }

-- the same from what a drainer is seen as
pub turned_from : (old : Drain) (upto : ℕ) (tap tap' : Tapped Batched) (f m g h : Flow) (cap : ℕ) (rs rs' : List (List (Back NoOwner))) (count count' : ℕ) (bs : List Batched) (turn : Turn)
    → drain tap f cap rs count ≡ old → m ≡ marked_anew f
    → TakesAll upto tap m tap' g bs turn → Agree tap'.taken tap'.told → EndIsLast tap'.told
    → Flows [] g h → (h.printer.failed ≡ false → h.printer.text ≡ [])
    → (f.printer.failed ≡ true → count' ≡ count)
    → (f.printer.failed ≡ false → h.printer.failed ≡ false → count' ≡ saturated (count + length (frames_in bs)))
    → (f.printer.failed ≡ false → h.printer.failed ≡ true → count' ≡ saturated (count + whole_frames h.out (frames_in bs) h.meter.taken))
    → CountsTaken h.meter → GivesAllBack bs rs'
    → Turned upto old (drain tap' h cap rs' count') turn
turned_from old upto tap tap' f m g h cap rs rs' count count' bs turn is mark all agree last flushes empty stopped whole first counts given =
    let P : Flow → Type 0 = λ x. TakesAll upto tap x tap' g bs turn in
    let Q : Drain → Type 0 = λ x. Turned upto x (drain tap' h cap rs' count') turn in
    subst Q is (turned upto tap tap' f g h cap rs rs' count count' bs turn (subst P mark all) agree last flushes empty stopped whole first counts given)
