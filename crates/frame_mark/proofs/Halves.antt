-- A chain that is marked, and cut once.
use Rattle.std.proofs.Common.{◌≡◌, ℕ, zero, suc, ◌+◌, ◌-◌, ◌<◌, ◌≤◌, Bool, true, false, List, [], ◌∷◌, ◌++◌, None, length, take, drop, if◌then◌else◌, refl, ap, sym, subst, ◌∙◌, arith, append-nil, length-append, length-drop, length-take, drop-drop, take-take}
use Rattle.std.proofs.lemmas.List.{take-append-drop, drop-take}
use Rattle.std.proofs.Math.Seq.{drop-append-add}
use Rattle.storage.specs.declared.release.NoOwner.{NoOwner}
use Rattle.buffer_model.specs.Segment.{Segment, bytes_of}
use Rattle.iobuf_chain.proofs.Bytes.{bytes_of-append}
use Rattle.frame_head.specs.declared.codecs.Codec.{Codec}
use Rattle.frame_head.specs.Codecs.{fault_of}
use Rattle.frame_head.specs.Heads.{FramingUnit, FrameAt, FaultAt}
use Rattle.frame_rule.specs.Framing.{StandsFor, Took}
use Rattle.frame_rule.proofs.Steps.{stands_on, kept_bytes, unread_fed}
use Rattle.frame_mark.specs.declared.mark.Mark.{Mark}
use Rattle.frame_mark.specs.declared.mark.Mark.TheVariants as M
use Rattle.frame_mark.specs.declared.marking.Marking.{Marking}
use Rattle.std.specs.List.{AllZip}
use Rattle.frame_batch.specs.Batches.{AreIn, frames_in}
use Rattle.frame_batch.specs.declared.window.Window.{Window}
use Rattle.frame_mark.specs.Marking.{InOrder, IsMark, done_place, open_size, LiesIn, MarksUp, StandsIn, StandsOn, CutsUp, frames_of, framed, holding, open_in, units_in, windows_of, between_places}
use Rattle.frame_mark.proofs.Lying.{take_whole, open_is, open_lost, open_none}

take_front : (w more : List ℕ) → take (length w) (w ++ more) ≡ w
take_front [] more = refl
take_front (x ∷ w) more = ap (λ v. x ∷ v) (take_front w more)

drop_front : (w more : List ℕ) → drop (length w) (w ++ more) ≡ more
drop_front [] more = refl
drop_front (x ∷ w) more = drop_front w more

-- the bytes of a chain are those of its first nodes, and of the others
pub halves : (first : ℕ) (xs : List (Segment NoOwner)) → bytes_of xs ≡ bytes_of (take first xs) ++ bytes_of (drop first xs)
halves first xs = ap (λ ys. bytes_of ys) (sym (take-append-drop first xs)) ∙ bytes_of-append (take first xs) (drop first xs)

-- a mark before a place is the same unit on the bytes up to it
unit_up_to : (base p : ℕ) (all : List ℕ) (from to : ℕ) → base ≤ from → from ≤ to → to ≤ base + p → between_places base (take p all) from to ≡ between_places base all from to
unit_up_to base p all from to a b d =
    let parts : p ≡ (from - base) + (p - (from - base)) = omega (arith, a, b, d) in
    ap (λ (k : ℕ). take (to - from) (drop (from - base) (take k all))) parts
    ∙ ap (λ w. take (to - from) w) (drop-take (from - base) (p - (from - base)) all)
    ∙ take-take (to - from) (p - (from - base)) (drop (from - base) all) (omega (arith, a, b, d))

pub order_within : (a p : ℕ) (ms : List Mark) → InOrder a p ms → a ≤ p
order_within a p [] is = is
order_within a p (M.Frame at from to ∷ ms) is = let l = order_within to p ms is.2 in omega (arith, is.0, is.1, l)
order_within a p (M.Fault at kind ∷ ms) is = order_within a p ms is

units_up_to : (base a p place : ℕ) (all : List ℕ) → base ≤ a → place ≤ base + p → (ms : List Mark) → InOrder a place ms → units_in base (take p all) ms ≡ units_in base all ms
units_up_to base a p place all low h [] is = refl
units_up_to base a p place all low h (M.Frame at from to ∷ ms) is =
    let l = order_within to place ms is.2 in
    ap (λ us. FrameAt at (between_places base (take p all) from to) ∷ us) (units_up_to base to p place all (omega (arith, low, is.0, is.1)) h ms is.2)
    ∙ ap (λ w. FrameAt at w ∷ units_in base all ms) (unit_up_to base p all from to (omega (arith, low, is.0)) is.1 (omega (arith, l, h)))
units_up_to base a p place all low h (M.Fault at kind ∷ ms) is = ap (λ us. FaultAt at kind ∷ us) (units_up_to base a p place all low h ms is)

-- the windows of marks are their frames, and lie within the bytes
windows_frames : (base : ℕ) (all : List ℕ) (ms : List Mark) → frames_in all (windows_of base ms) ≡ frames_of (units_in base all ms)
windows_frames base all [] = refl
windows_frames base all (M.Frame at from to ∷ ms) = ap (λ fs. between_places base all from to ∷ fs) (windows_frames base all ms)
windows_frames base all (M.Fault at kind ∷ ms) = windows_frames base all ms

in_none : (all : List ℕ) → AreIn all []
in_none all = λ k d less. absurd (omega (arith, less))

in_more : (all : List ℕ) (w : Window) (ws : List Window) → w.place + w.size ≤ length all → AreIn all ws → AreIn all (w ∷ ws)
in_more all w ws first rest zero d less = first
in_more all w ws first rest (suc k) d less = rest k d (omega (arith, less))

windows_in : (base end : ℕ) (all : List ℕ) (a : ℕ) → base ≤ a → end ≤ base + length all → (ms : List Mark) → InOrder a end ms → AreIn all (windows_of base ms)
windows_in base end all a low high [] is = in_none all
windows_in base end all a low high (M.Frame at from to ∷ ms) is =
    let l = order_within to end ms is.2 in
    in_more all _ (windows_of base ms) (omega (arith, low, high, is.0, is.1, l)) (windows_in base end all to (omega (arith, low, is.0, is.1)) high ms is.2)
windows_in base end all a low high (M.Fault at kind ∷ ms) is = windows_in base end all a low high ms is

-- marks in order are their units
marks_are : (base end : ℕ) (all : List ℕ) (a : ℕ) → base ≤ a → end ≤ base + length all → (ms : List Mark) → InOrder a end ms → AllZip IsMark ms (units_in base all ms)
marks_are base end all a low high [] is = tt
marks_are base end all a low high (M.Frame at from to ∷ ms) is =
    let l = order_within to end ms is.2 in
    let t = length-take (to - from) (drop (from - base) all) in
    let d = length-drop (from - base) all in
    ((refl, omega (arith, low, high, is.0, is.1, l, t, d)), marks_are base end all to (omega (arith, low, is.0, is.1)) high ms is.2)
marks_are base end all a low high (M.Fault at kind ∷ ms) is = ((refl, refl), marks_are base end all a low high ms is)

module _ {S : Type 0} where
  size_by : (m : Marking S) (lost : Bool) → m.lost ≡ lost → open_size m ≡ (if lost then 0 else m.unread)
  size_by m lost is = ap (λ (b : Bool). if b then 0 else m.unread) is

  done_by : (m : Marking S) (lost : Bool) → m.lost ≡ lost → done_place m ≡ (if lost then m.fed else m.fed - m.unread)
  done_by m lost is = ap (λ (b : Bool). if b then m.fed else m.fed - m.unread) is

  -- behind the last unit that isn't kept
  pub done_is : (m : Marking S) (lost : Bool) → m.lost ≡ lost → done_place m ≡ m.fed - open_size m
  done_is m true is = let a = done_by m true is in let b = size_by m true is in omega (arith, a, b)
  done_is m false is = let a = done_by m false is in let b = size_by m false is in omega (arith, a, b)

  -- how many bytes are kept lies before what was fed
  pub size_lies : (base : ℕ) (all : List ℕ) (m : Marking S) (bytes : List ℕ) (lost : Bool) → m.lost ≡ lost → LiesIn base all m bytes → base + open_size m ≤ m.fed
  size_lies base all m bytes true is l = let b = size_by m true is in let begun = l.begun in omega (arith, b, begun)
  size_lies base all m bytes false is l = let b = size_by m false is in let kept = l.kept is in omega (arith, b, kept)

  open_of : (base : ℕ) (all : List ℕ) (m : Marking S) (bytes : List ℕ) (lost : Bool) → m.lost ≡ lost → LiesIn base all m bytes → open_in base all m ≡ take (open_size m) (drop ((m.fed - open_size m) - base) all)
  open_of base all m bytes true is l = open_lost base all m is ∙ ap (λ (k : ℕ). take k (drop ((m.fed - open_size m) - base) all)) (sym (size_by m true is))
  open_of base all m bytes false is l =
      let size = size_by m false is in
      let kept = l.kept is in
      let own : m.fed - (m.fed - m.unread) ≡ open_size m = omega (arith, kept, size) in
      open_is base all m is ∙ ap (λ (k : ℕ). take k (drop ((m.fed - m.unread) - base) all)) own
      ∙ ap (λ (k : ℕ). take (open_size m) (drop ((m.fed - k) - base) all)) (sym size)

  -- behind the cut are the open unit and what wasn't taken
  pub left_by : (base p : ℕ) (all : List ℕ) (m : Marking S) (bytes : List ℕ) → LiesIn base all m bytes → bytes ≡ drop (m.fed - base) all → p ≡ (m.fed - open_size m) - base
      → drop p all ≡ open_in base all m ++ bytes
  left_by base p all m bytes l is at =
      let within = size_lies base all m bytes m.lost refl l in
      let place : p + open_size m ≡ m.fed - base = omega (arith, at, within) in
      sym (take-append-drop (open_size m) (drop p all))
      ∙ ap (λ w. take (open_size m) (drop p all) ++ w) (drop-drop (open_size m) p all ∙ ap (λ (k : ℕ). drop k all) place ∙ sym is)
      ∙ ap (λ (k : ℕ). take (open_size m) (drop k all) ++ bytes) at
      ∙ ap (λ w. w ++ bytes) (sym (open_of base all m bytes m.lost refl l))

module _ {S : Type 0} (codec_of : S → Codec) (saw : S → List ℕ → Type 0) (checked : (s : S) (r : List ℕ) → saw s r → fault_of (codec_of s) ≡ None) where
  pub size_kept : (m : Marking S) (nodes : List (Segment NoOwner)) (h : List ℕ) → StandsFor codec_of saw (holding codec_of saw m nodes) h → open_size m ≡ length (bytes_of nodes)
  size_kept m nodes h st = sym (kept_bytes codec_of saw checked (holding codec_of saw m nodes) h st m.lost refl)

  size_fed_by : (m : Marking S) (lost : Bool) → m.lost ≡ lost → m.unread ≤ m.fed → open_size m ≤ m.fed
  size_fed_by m true is h = let b = size_by m true is in omega (arith, b)
  size_fed_by m false is h = let b = size_by m false is in omega (arith, b, h)

  pub size_fed : (m : Marking S) (nodes : List (Segment NoOwner)) → StandsOn codec_of saw m nodes → open_size m ≤ m.fed
  size_fed m nodes st = size_fed_by m m.lost refl (unread_fed codec_of saw checked (holding codec_of saw m nodes) st.0 st.1)

  -- the first nodes of a chain are the open unit, and lie in its bytes
  pub chain_lies : (m : Marking S) (first : ℕ) (xs : List (Segment NoOwner)) → StandsOn codec_of saw m (take first xs) → LiesIn (m.fed - open_size m) (bytes_of xs) m (bytes_of (drop first xs))
  chain_lies m first xs st =
      let size = size_kept m (take first xs) st.0 st.1 in
      let fed = size_fed m (take first xs) st in
      let place : m.fed - (m.fed - open_size m) ≡ length (bytes_of (take first xs)) = omega (arith, fed, size) in
      let all = ap length (halves first xs) ∙ length-append (bytes_of (take first xs)) (bytes_of (drop first xs)) in record {
        begun = omega arith;
        kept = λ not. let own = size_by m false not in omega (arith, own, fed);
        there = omega (arith, place, all);
        is = sym (take_whole (bytes_of (drop first xs)))
            ∙ ap (λ w. take (length (bytes_of (drop first xs))) w) (sym (drop_front (bytes_of (take first xs)) (bytes_of (drop first xs))))
            ∙ ap (λ (k : ℕ). take (length (bytes_of (drop first xs))) (drop k (bytes_of (take first xs) ++ bytes_of (drop first xs)))) (sym place)
            ∙ ap (λ w. take (length (bytes_of (drop first xs))) (drop (m.fed - (m.fed - open_size m)) w)) (sym (halves first xs));
      }

  -- the open unit is the first nodes, or lies where they lie
  pub chain_stands : (m : Marking S) (first : ℕ) (xs : List (Segment NoOwner)) (h : List ℕ) → StandsFor codec_of saw (holding codec_of saw m (take first xs)) h
      → StandsFor codec_of saw (framed codec_of saw (m.fed - open_size m) (bytes_of xs) m) h
  chain_stands m first xs h st =
      let base : ℕ = m.fed - open_size m in
      let size = size_kept m (take first xs) h st in
      let fed = size_fed m (take first xs) (h, st) in
      let l = chain_lies m first xs (h, st) in
      let start : (m.fed - open_size m) - base ≡ 0 = omega arith in
      let own : open_in base (bytes_of xs) m ≡ bytes_of (take first xs) =
      open_of base (bytes_of xs) m (bytes_of (drop first xs)) m.lost refl l
      ∙ ap (λ (k : ℕ). take (open_size m) (drop k (bytes_of xs))) start
      ∙ ap (λ (k : ℕ). take k (bytes_of xs)) size
      ∙ ap (λ w. take (length (bytes_of (take first xs))) w) (halves first xs)
      ∙ take_front (bytes_of (take first xs)) (bytes_of (drop first xs)) in
      stands_on codec_of saw checked (holding codec_of saw m (take first xs)) (framed codec_of saw base (bytes_of xs) m) h refl (append-nil _ ∙ own) st

  pub chain_in : (m : Marking S) (first : ℕ) (xs : List (Segment NoOwner)) → StandsOn codec_of saw m (take first xs) → StandsIn codec_of saw m (bytes_of (drop first xs))
  chain_in m first xs st = record { base = m.fed - open_size m; all = bytes_of xs; lies = chain_lies m first xs st; stream = st.0; stands = chain_stands m first xs st.0 st.1 }

  -- where the chain is cut
  pub cut_within : (old new : Marking S) (first n : ℕ) (xs : List (Segment NoOwner)) (ms ns : List Mark) → StandsOn codec_of saw old (take first xs) → MarksUp codec_of saw old new (bytes_of (drop first xs)) n ms ns
      → ((old.fed - open_size old) + open_size new ≤ new.fed) × ((new.fed - open_size new) - (old.fed - open_size old) ≤ length (bytes_of xs))
  cut_within old new first n xs ms ns st marks =
      let m = marks (old.fed - open_size old) (bytes_of xs) (chain_lies old first xs st) in
      let a = size_lies (old.fed - open_size old) (bytes_of xs) new _ new.lost refl m.lies in
      let there = m.lies.there in
      (a, omega (arith, a, there))

  -- the chain is cut behind the last unit that isn't kept
  pub cuts_up : (old new : Marking S) (first n p : ℕ) (xs after front : List (Segment NoOwner)) (ns : List Mark) → StandsOn codec_of saw old (take first xs)
      → MarksUp codec_of saw old new (bytes_of (drop first xs)) n [] ns → p ≡ (new.fed - open_size new) - (old.fed - open_size old)
      → n ≤ length (bytes_of (drop first xs)) → new.fed ≡ old.fed + n → bytes_of front ≡ take p (bytes_of xs) → bytes_of after ≡ drop p (bytes_of xs)
      → (n < length (bytes_of (drop first xs)) → new.unread ≡ 0)
      → CutsUp codec_of saw old new (take first xs) (bytes_of (drop first xs)) n (bytes_of after) ns (frames_in (bytes_of front) (windows_of (old.fed - open_size old) ns))
      × AreIn (bytes_of front) (windows_of (old.fed - open_size old) ns)
  cuts_up old new first n p xs after front ns st marks at within fed front_is rest closed =
      let base : ℕ = old.fed - open_size old in
      let all : List ℕ = bytes_of xs in
      let bytes : List ℕ = bytes_of (drop first xs) in
      let l = chain_lies old first xs st in
      let m = marks base all l in
      let only : ns ≡ m.added = m.list in
      let w = cut_within old new first n xs [] ns st marks in
      let done = done_is new new.lost refl in
      let size = size_kept old (take first xs) st.0 st.1 in
      let sized = size_fed old (take first xs) st in
      let place : new.fed - base ≡ length (bytes_of (take first xs)) + n = omega (arith, fed, size, sized) in
      let left : drop n bytes ≡ drop (new.fed - base) all =
      sym (ap (λ v. drop (new.fed - base) v) (halves first xs) ∙ ap (λ (k : ℕ). drop k (bytes_of (take first xs) ++ bytes)) place ∙ drop-append-add (bytes_of (take first xs)) bytes n) in
      let front_size = ap length front_is ∙ length-take p all in
      let end_is : done_place new ≡ base + length (bytes_of front) = (let a = w.0 in let b = w.1 in omega (arith, front_size, done, at, a, b)) in
      let start_is : done_place old ≡ base = done_is old old.lost refl in
      let O : List Mark → Type 0 = λ v. InOrder base (base + length (bytes_of front)) v in
      let order : InOrder base (base + length (bytes_of front)) ns =
      subst O (sym only) (subst (λ (b : ℕ). InOrder b (base + length (bytes_of front)) m.added) start_is (subst (λ (e : ℕ). InOrder (done_place old) e m.added) end_is m.order)) in
      let same : units_in base all ns ≡ units_in base (bytes_of front) ns =
      sym (units_up_to base base p (base + length (bytes_of front)) all (omega arith) (let s = front_size in omega (arith, s)) ns order)
      ∙ ap (λ v. units_in base v ns) (sym front_is) in
      let T : List FramingUnit → Type 0 = λ us. Took codec_of saw (framed codec_of saw base all old) (framed codec_of saw base all new) (take n bytes) us in
      let took = subst T (ap (λ v. units_in base all v) (sym only) ∙ same) m.took in (
        record {
          units = units_in base (bytes_of front) ns;
          marked = marks_are base (base + length (bytes_of front)) (bytes_of front) base (omega arith) (omega arith) ns order;
          frames_are = windows_frames base (bytes_of front) ns;
          opened = open_in base all new;
          left_is = rest ∙ left_by base p all new (drop n bytes) m.lies left at;
          took = record {
            stands = λ h s. took.stands h (chain_stands old first xs h s);
            grew = λ h s. took.grew h (chain_stands old first xs h s);
            codec = took.codec;
            fed = took.fed;
          };
          within = within;
          all_or_none = λ less. open_none base all new (closed less) new.lost refl;
        },
        windows_in base (base + length (bytes_of front)) (bytes_of front) base (omega arith) (omega arith) ns order,
      )

  -- the same, where the windows are a list's
  pub cut_here : (old new : Marking S) (first n p base : ℕ) (xs after front : List (Segment NoOwner)) (ms ns : List Mark) (ws : List Window) → StandsOn codec_of saw old (take first xs)
      → MarksUp codec_of saw old new (bytes_of (drop first xs)) n ms ns → ms ≡ [] → base ≡ old.fed - open_size old → p ≡ (new.fed - open_size new) - base
      → n ≤ length (bytes_of (drop first xs)) → new.fed ≡ old.fed + n → bytes_of front ≡ take p (bytes_of xs) → bytes_of after ≡ drop p (bytes_of xs)
      → (n < length (bytes_of (drop first xs)) → new.unread ≡ 0) → ws ≡ windows_of base ns
      → CutsUp codec_of saw old new (take first xs) (bytes_of (drop first xs)) n (bytes_of after) ns (frames_in (bytes_of front) ws) × AreIn (bytes_of front) ws
  cut_here old new first n p base xs after front ms ns ws st marks none base_is at within fed front_is rest closed is =
      let M : List Mark → Type 0 = λ w. MarksUp codec_of saw old new (bytes_of (drop first xs)) n w ns in
      let B : ℕ → Type 0 = λ b. ws ≡ windows_of b ns in
      let same : ws ≡ windows_of (old.fed - open_size old) ns = subst B base_is is in
      let cut = cuts_up old new first n p xs after front ns st (subst M none marks) (at ∙ ap (λ (b : ℕ). (new.fed - open_size new) - b) base_is) within fed front_is rest closed in
      let C : List Window → Type 0 = λ w. CutsUp codec_of saw old new (take first xs) (bytes_of (drop first xs)) n (bytes_of after) ns (frames_in (bytes_of front) w) × AreIn (bytes_of front) w in
      subst C (sym same) cut

  -- the codec stays
  pub codec_same : (old new : Marking S) (first n : ℕ) (xs : List (Segment NoOwner)) (ms ns : List Mark) → StandsOn codec_of saw old (take first xs) → MarksUp codec_of saw old new (bytes_of (drop first xs)) n ms ns
      → codec_of new.scanner ≡ codec_of old.scanner
  codec_same old new first n xs ms ns st marks = (marks (old.fed - open_size old) (bytes_of xs) (chain_lies old first xs st)).took.codec
