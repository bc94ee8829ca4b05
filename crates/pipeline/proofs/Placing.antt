-- Frames of a batch that go through stages, by their windows.
use Rattle.std.proofs.Common.{◌≡◌, ℕ, zero, suc, ◌+◌, ◌-◌, ◌≤◌, ◌<◌, Bool, true, false, ◌||◌, cond, nat_lt, List, [], ◌∷◌, ◌++◌, Option, Some, None, Result, Ok, Err, IfOk, IsTrue, ◌↔◌, length, map, take, drop, slice_get, refl, sym, ap, subst, ◌∙◌, append_assoc, arith, inl, inr}
use Rattle.std.specs.List.{All}
use Rattle.std.proofs.lemmas.List.{append-nil, map-append, take-map, drop-map, length-map, take_all}
use Rattle.std.proofs.lemmas.List.Elements.{All-append, All-cons, All-nil}
use Rattle.std.proofs.lemmas.Bool.{false≢true, cases_lt, lt-ltb, le-ltb}
use Rattle.std.proofs.lemmas.Option.{none-some}
use Rattle.storage.specs.declared.release.NoOwner.{NoOwner}
use Rattle.buffer_model.specs.Segment.{Segment, bytes_of}
use Rattle.iobuf_chain.specs.Lists.{Each}
use Rattle.iobuf_chain.proofs.Lists.{all_at, drop_there}
use Rattle.frame_batch.specs.declared.window.Window.{Window}
use Rattle.frame_batch.specs.Batches.{AreIn, frame_in, frames_in, window_in}
use Rattle.frame_batch.proofs.InWindows.{has_its_size, narrower}
use Rattle.pipeline.specs.Plain.{Plain, strip, keep, upper, least, pass, skip, raised, made, begin_of, size_of, is_under}
use Rattle.pipeline.specs.Meanings.{Meaning, IsCut, IsPlain, plain, handler, answer, then_says}
use Rattle.pipeline.specs.Batches.{BatchAnswer, answers, has_upper, is_upper, lettered, narrowed, passed_on, placed, placed_by, then_placed}
use Rattle.pipeline.proofs.Meanings.{cuts_are_windows}

-- capital letters and other bytes stay
raised_low : (b : ℕ) → b < 97 → raised b ≡ b
raised_low b h = ap (λ (t : Bool). cond t b (cond (nat_lt b 123) (b - 32) b)) (lt-ltb b 97 h)

raised_high : (b : ℕ) → 123 ≤ b → raised b ≡ b
raised_high b h =
    ap (λ (t : Bool). cond t b (cond (nat_lt b 123) (b - 32) b)) (le-ltb b 97 (omega (arith, h)))
    ∙ ap (λ (t : Bool). cond t (b - 32) b) (le-ltb b 123 h)

raised_letter : (b : ℕ) → 97 ≤ b → b < 123 → raised b ≡ b - 32
raised_letter b low high =
    ap (λ (t : Bool). cond t b (cond (nat_lt b 123) (b - 32) b)) (le-ltb b 97 low)
    ∙ ap (λ (t : Bool). cond t (b - 32) b) (lt-ltb b 123 high)

raised_twice : (b : ℕ) → raised (raised b) ≡ raised b
raised_twice b =
    elim (cases_lt b 97) [
      | inl low ↦ ap (λ (k : ℕ). raised k) (raised_low b low)
      | inr from ↦ elim (cases_lt b 123) [
        | inl to ↦
            let is = raised_letter b from to in
            ap (λ (k : ℕ). raised k) is ∙ raised_low (b - 32) (omega (arith, from, to)) ∙ sym is
        | inr high ↦ ap (λ (k : ℕ). raised k) (raised_high b high)
      ]
    ]

all_raised_twice : (bs : List ℕ) → map raised (map raised bs) ≡ map raised bs
all_raised_twice [] = refl
all_raised_twice (b ∷ bs) = ap (λ (k : ℕ). k ∷ map raised (map raised bs)) (raised_twice b) ∙ ap (λ us. raised b ∷ us) (all_raised_twice bs)

-- the bytes that one stage leaves of those in which frames lie
abbrev lettered_by : Plain → List ℕ → List ℕ
lettered_by (strip n) all = all
lettered_by (keep n) all = all
lettered_by upper all = map raised all
lettered_by (least n) all = all

by_size : (p : Plain) (all : List ℕ) → length (lettered_by p all) ≡ length all
by_size (strip n) all = refl
by_size (keep n) all = refl
by_size upper all = length-map all raised
by_size (least n) all = refl

lettered_more : (p : Plain) (ms : List Meaning) (all : List ℕ) → lettered ms (lettered_by p all) ≡ lettered (plain p ∷ ms) all
lettered_more (strip n) ms all = refl
lettered_more (keep n) ms all = refl
lettered_more upper ms all =
    elim (has_upper ms) as (λ b. cond b (map raised (map raised all)) (map raised all) ≡ map raised all) [
      | true ↦ all_raised_twice all
      | false ↦ refl
    ]
lettered_more (least n) ms all = refl

-- what a stage makes of a frame lies in the window that it leaves
in_window : (p : Plain) (all : List ℕ) (w : Window) → IsCut (plain p) → begin_of p w.size + size_of p w.size ≤ w.size → w.place + w.size ≤ length all
    → made p (frame_in all w) ≡ frame_in all (narrowed p w)
in_window p all w cut fits within =
    let size = has_its_size all w within in
    cuts_are_windows p (frame_in all w) cut
    ∙ ap (λ (n : ℕ). take (size_of p n) (drop (begin_of p n) (frame_in all w))) size
    ∙ sym (narrower all w (begin_of p w.size) (size_of p w.size) fits)

made_window : (p : Plain) (all : List ℕ) (w : Window) → w.place + w.size ≤ length all → made p (frame_in all w) ≡ frame_in (lettered_by p all) (narrowed p w)
made_window (strip n) all w within = in_window (strip n) all w tt (omega arith) within
made_window (keep n) all w within = in_window (keep n) all w tt (omega arith) within
made_window upper all w within =
    let same : w.place ≡ w.place + 0 = omega arith in
    sym (ap (λ us. take w.size us) (drop-map raised w.place all) ∙ take-map raised w.size (drop w.place all))
    ∙ ap (λ (n : ℕ). take w.size (drop n (map raised all))) same
made_window (least n) all w within = in_window (least n) all w tt (omega arith) within

narrowed_in : (p : Plain) (w : Window) (n : ℕ) → w.place + w.size ≤ n → (narrowed p w).place + (narrowed p w).size ≤ n
narrowed_in (strip k) w n within = omega (arith, within)
narrowed_in (keep k) w n within = omega (arith, within)
narrowed_in upper w n within = omega (arith, within)
narrowed_in (least k) w n within = omega (arith, within)

placed_in : (ms : List Meaning) (n : ℕ) (w : Window) → w.place + w.size ≤ n → All (λ v. v.place + v.size ≤ n) (window_in (placed ms w))
placed_in [] n w within = All-cons (λ v. v.place + v.size ≤ n) w [] within (All-nil (λ v. v.place + v.size ≤ n))
placed_in (plain p ∷ ms) n w within =
    elim (is_under p w.size) as (λ b. All (λ v. v.place + v.size ≤ n) (window_in (then_placed (cond b None (Some (narrowed p w))) (placed ms)))) [
      | true ↦ All-nil (λ v. v.place + v.size ≤ n)
      | false ↦ placed_in ms n (narrowed p w) (narrowed_in p w n within)
    ]
placed_in (handler m ∷ ms) n w within = placed_in ms n w within

-- what stages say of a frame is what lies in the window that they leave
placed_says : (ms : List Meaning) → Each IsPlain ms → (all : List ℕ) (w : Window) → w.place + w.size ≤ length all
    → passed_on (answer ms (frame_in all w)) ≡ frames_in (lettered ms all) (window_in (placed ms w))
placed_says [] each all w within = refl
placed_says (plain p ∷ ms) each all w within =
    let x = frame_in all w in
    let size = has_its_size all w within in
    let left = lettered (plain p ∷ ms) all in
    ap (λ (n : ℕ). passed_on (then_says (cond (is_under p n) (skip x) (pass (made p x))) (answer ms))) size
    ∙ (elim (is_under p w.size) as (λ b. passed_on (then_says (cond b (skip x) (pass (made p x))) (answer ms))
    ≡ frames_in left (window_in (then_placed (cond b None (Some (narrowed p w))) (placed ms)))) [
      | true ↦ refl
      | false ↦
          let l = by_size p all in
          let fits = narrowed_in p w (length all) within in
          ap (λ y. passed_on (answer ms y)) (made_window p all w within)
          ∙ placed_says ms each.1 (lettered_by p all) (narrowed p w) (omega (arith, l, fits))
          ∙ ap (λ bs. frames_in bs (window_in (placed ms (narrowed p w)))) (lettered_more p ms all)
    ])
placed_says (handler m ∷ ms) each all w within = absurd each.0

answers-append : (ms : List Meaning) (xs ys : List (List ℕ)) → answers ms (xs ++ ys) ≡ answers ms xs ++ answers ms ys
answers-append ms [] ys = refl
answers-append ms (x ∷ xs) ys =
    ap (λ us. passed_on (answer ms x) ++ us) (answers-append ms xs ys) ∙ sym (append_assoc (passed_on (answer ms x)) (answers ms xs) (answers ms ys))

take_there : (i : ℕ) (xs : List (List ℕ)) (x : List ℕ) → slice_get xs i ≡ Some x → take (i + 1) xs ≡ take i xs ++ x ∷ []
take_there i [] x is = absurd (none-some x is)
take_there zero (z ∷ zs) x is =
    let same : z ≡ x = cc in
    let one : zero + 1 ≡ suc zero = omega arith in
    ap (λ (n : ℕ). take n (z ∷ zs)) one ∙ ap (λ u. u ∷ []) same
take_there (suc i) (z ∷ zs) x is =
    let one : suc i + 1 ≡ suc (i + 1) = omega arith in
    ap (λ (n : ℕ). take n (z ∷ zs)) one ∙ ap (λ us. z ∷ us) (take_there i zs x is)

-- so many frames went through
pub record Placing (ms : List Meaning) (all : List ℕ) (frames : List (List ℕ)) (i : ℕ) (ws : List Window) : Type 0 where
  pub within : AreIn all ws
  pub are : frames_in (lettered ms all) ws ≡ answers ms (take i frames)

pub placing_begins : (ms : List Meaning) (all : List ℕ) (frames : List (List ℕ)) (ws : List Window) → ws ≡ [] → Placing ms all frames 0 ws
placing_begins ms all frames ws none =
    let P : List Window → Type 0 = λ us. Placing ms all frames 0 us in
    subst P (sym none) record { within = All-nil (λ v. v.place + v.size ≤ length all); are = refl }

pub placing_step : (ms : List Meaning) (all : List ℕ) (frames : List (List ℕ)) (i : ℕ) (ws new : List Window) (w : Window) → Each IsPlain ms
    → Placing ms all frames i ws → slice_get frames i ≡ Some (frame_in all w) → w.place + w.size ≤ length all → new ≡ ws ++ window_in (placed ms w)
    → Placing ms all frames (i + 1) new
placing_step ms all frames i ws new w each so there within is =
    let P : List Window → Type 0 = λ us. Placing ms all frames (i + 1) us in
    let x = frame_in all w in
    subst P (sym is) record {
      within = All-append (λ v. v.place + v.size ≤ length all) ws (window_in (placed ms w)) so.within (placed_in ms (length all) w within);
      are =
          map-append (λ v. frame_in (lettered ms all) v) ws (window_in (placed ms w))
          ∙ ap (λ us. us ++ frames_in (lettered ms all) (window_in (placed ms w))) so.are
          ∙ ap (λ us. answers ms (take i frames) ++ us) (sym (placed_says ms each all w within))
          ∙ ap (λ us. answers ms (take i frames) ++ us) (sym (append-nil (passed_on (answer ms x))))
          ∙ sym (answers-append ms (take i frames) (x ∷ []))
          ∙ ap (λ us. answers ms us) (sym (take_there i frames x there));
    }

pub placing_ends : (ms : List Meaning) (all : List ℕ) (frames : List (List ℕ)) (i : ℕ) (ws : List Window) → Placing ms all frames i ws → length frames ≤ i
    → frames_in (lettered ms all) ws ≡ answers ms frames
placing_ends ms all frames i ws so high = so.are ∙ ap (λ us. answers ms us) (take_all i frames high)

-- a stage further
pub placed_more : (ms : List Meaning) (i : ℕ) (m : Meaning) (w : Window) (o : Option Window) → slice_get ms i ≡ Some m → o ≡ placed_by m w
    → placed (drop i ms) w ≡ then_placed o (placed (drop (i + 1) ms))
placed_more ms i m w o there is =
    ap (λ us. placed us w) (drop_there i ms m there) ∙ ap (λ (v : Option Window). then_placed v (placed (drop (i + 1) ms))) (sym is)

pub upper_at : (ms : List Meaning) (i : ℕ) (m : Meaning) → slice_get ms i ≡ Some m → is_upper m ≡ true → has_upper (drop i ms) ≡ true
upper_at ms i m there is =
    ap (λ us. has_upper us) (drop_there i ms m there) ∙ ap (λ (b : Bool). b || has_upper (drop (i + 1) ms)) is

pub upper_behind : (ms : List Meaning) (i : ℕ) (m : Meaning) → slice_get ms i ≡ Some m → is_upper m ≡ false → has_upper (drop i ms) ≡ has_upper (drop (i + 1) ms)
upper_behind ms i m there is =
    ap (λ us. has_upper us) (drop_there i ms m there) ∙ ap (λ (b : Bool). b || has_upper (drop (i + 1) ms)) is

cut_no_upper : (m : Meaning) → IsCut m → is_upper m ≡ false
cut_no_upper (plain (strip n)) cut = refl
cut_no_upper (plain (keep n)) cut = refl
cut_no_upper (plain upper) cut = absurd cut
cut_no_upper (plain (least n)) cut = refl
cut_no_upper (handler m) cut = absurd cut

pub cuts_no_upper : (ms : List Meaning) → Each IsCut ms → has_upper ms ≡ false
cuts_no_upper [] cuts = refl
cuts_no_upper (m ∷ ms) cuts =
    ap (λ (b : Bool). b || has_upper ms) (cut_no_upper m cuts.0) ∙ cuts_no_upper ms cuts.1

-- where one is a handler
pub not_plain : (ms : List Meaning) (i : ℕ) (m : Meaning) (r : Bool) → slice_get ms i ≡ Some m → r ≡ false → (IsTrue r ↔ IsPlain m)
    → (IsTrue false ↔ Each IsPlain ms)
not_plain ms i m r there is tells = (
  λ t. absurd (false≢true t),
  λ all. absurd (false≢true (sym is ∙ tells.1 (all_at IsPlain i ms m all there))),
)

pub if_ok_as : {X E : Type 0} (P : X → Type 0) (x : X) (r : Result X E) → IfOk r (λ y. y ≡ x) → P x → IfOk r P
if_ok_as P x (Ok y) is p = subst P (sym is) p
if_ok_as P x (Err e) is p = tt

nothing_lettered : (ms : List Meaning) (all : List ℕ) → has_upper ms ≡ false → lettered ms all ≡ all
nothing_lettered ms all is = ap (λ (b : Bool). cond b (map raised all) all) is

all_lettered : (ms : List Meaning) (all : List ℕ) → has_upper ms ≡ true → lettered ms all ≡ map raised all
all_lettered ms all is = ap (λ (b : Bool). cond b (map raised all) all) is

-- the chain is the same, or has capital letters
pub are_in_as : (ns us : List (Segment NoOwner)) (ws : List Window) → us ≡ ns → AreIn (bytes_of ns) ws → AreIn (bytes_of us) ws
are_in_as ns us ws same are = let P : List (Segment NoOwner) → Type 0 = λ vs. AreIn (bytes_of vs) ws in subst P (sym same) are

pub frames_same : (ms : List Meaning) (ns us : List (Segment NoOwner)) (ws : List Window) (frames : List (List ℕ)) → us ≡ ns → has_upper ms ≡ false
    → frames_in (lettered ms (bytes_of ns)) ws ≡ frames → frames_in (bytes_of us) ws ≡ frames
frames_same ms ns us ws frames same low are =
    ap (λ vs. frames_in (bytes_of vs) ws) same
    ∙ ap (λ bs. frames_in bs ws) (sym (nothing_lettered ms (bytes_of ns) low))
    ∙ are

pub frames_raised : (ms : List Meaning) (ns us : List (Segment NoOwner)) (ws : List Window) (frames : List (List ℕ)) → us ≡ ns → has_upper ms ≡ true
    → frames_in (lettered ms (bytes_of ns)) ws ≡ frames → frames_in (map raised (bytes_of us)) ws ≡ frames
frames_raised ms ns us ws frames same high are =
    ap (λ vs. frames_in (map raised (bytes_of vs)) ws) same
    ∙ ap (λ bs. frames_in bs ws) (sym (all_lettered ms (bytes_of ns) high))
    ∙ are

pub answered_frames : (r : BatchAnswer) (xs ys : List (List ℕ)) → xs ≡ ys → IfOk r (λ a. a.0.frames ≡ xs) → IfOk r (λ a. a.0.frames ≡ ys)
answered_frames (Ok a) xs ys same is = is ∙ same
answered_frames (Err a) xs ys same is = tt
