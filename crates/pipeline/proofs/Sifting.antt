-- Nodes that come to the front in turn, and leave or go to the end.
use Rattle.std.proofs.Common.{◌≡◌, ◌⊎◌, ℕ, suc, zero, ◌+◌, ◌-◌, ◌<◌, ◌≤◌, min, List, [], ◌∷◌, ◌++◌, Some, length, take, drop, refl, sym, ap, subst, ◌∙◌, append_assoc, arith, inl, inr, length-append, length-drop, slice_get}
use Rattle.std.proofs.lemmas.List.{append-nil, take_min, drop_min, length-take}
use Rattle.storage.specs.declared.back.Back.{Back}
use Rattle.storage.specs.Back.{stakes_in, stakes_of}
use Rattle.buffer_model.specs.Segment.{Segment, bytes_of, trimmed_start, trimmed_end}
use Rattle.buffer_model.specs.Stake.{Stake, Storage, held, Keeps, KeepsTotals}
use Rattle.buffer_model.proofs.Totals.{keeps_same, total-append, one_way-append, one_way-front, one_way-back}
use Rattle.iobuf_chain.specs.Accounts.{held_by}
use Rattle.iobuf_chain.specs.Copies.{HasData}
use Rattle.iobuf_chain.proofs.Bytes.{bytes_of-append}
use Rattle.iobuf_chain.proofs.Accounts.{held_by-append}
use Rattle.iobuf_chain.proofs.GivenBack.{stakes_in-append}
use Rattle.iobuf_chain.proofs.TrimmedEnds.{drop-joined, take-joined}
use Rattle.pipeline.specs.Nodes.{Narrows, Thins, Sheds, SiftsFirst, TurnsFirst}
use Rattle.pipeline.proofs.Thinning.{thins_as, thins_leaves, thins_stays}

-- of some bytes behind a place, those of the first part and those behind it
pub parts : (at left front stays : ℕ) (xs ys : List ℕ) → front ≡ min at (length xs) → stays ≡ min left (length xs - front)
    → take left (drop at (xs ++ ys)) ≡ take stays (drop front xs) ++ take (left - stays) (drop (at - front) ys)
parts at left front stays xs ys f s =
    let low = length-drop at xs in
    let short = length-drop front xs in
    let same : drop at xs ≡ drop front xs = sym (drop_min at xs) ∙ ap (λ (n : ℕ). drop n xs) (sym f) in
    let rest : at - length xs ≡ at - front = omega (arith, f) in
    let many : left - length (drop front xs) ≡ left - stays = omega (arith, short, f, s) in
    let few : min left (length (drop front xs)) ≡ stays = omega (arith, short, s) in
    ap (λ zs. take left zs) (drop-joined at xs ys ∙ ap (λ zs. zs ++ drop (at - length xs) ys) same ∙ ap (λ (n : ℕ). drop front xs ++ drop n ys) rest)
    ∙ take-joined left (drop front xs) (drop (at - front) ys)
    ∙ ap (λ zs. zs ++ take (left - length (drop front xs)) (drop (at - front) ys))
    (sym (take_min left (drop front xs)) ∙ ap (λ (n : ℕ). take n (drop front xs)) few)
    ∙ ap (λ (n : ℕ). take stays (drop front xs) ++ take n (drop (at - front) ys)) many

module _ {O : Type 0} where
  -- two parts that keep totals, behind others
  keeps_both : (z : Storage) (xs ps ss ys qs ts : List (Stake O)) → Keeps (xs ++ ss) (ys ++ ts) z → Keeps ps qs z
      → Keeps ((xs ++ ps) ++ ss) ((ys ++ qs) ++ ts) z
  keeps_both z xs ps ss ys qs ts k j = record {
    total =
        let p = k.total in let q = j.total in
        let a = total-append z (xs ++ ps) ss in let b = total-append z xs ps in let c = total-append z xs ss in
        let d = total-append z (ys ++ qs) ts in let e = total-append z ys qs in let f = total-append z ys ts in
        omega (arith, p, q, a, b, c, d, e, f);
    way = λ kind is.
        let front = one_way-front z kind (xs ++ ps) ss is in
        let both = k.way kind (one_way-append z kind xs ss (one_way-front z kind xs ps front) (one_way-back z kind (xs ++ ps) ss is)) in
        let one = j.way kind (one_way-back z kind xs ps front) in
        one_way-append z kind (ys ++ qs) ts (one_way-append z kind ys qs (one_way-front z kind ys ts both) one) (one_way-back z kind ys ts both);
  }

  keeps_behind : (z : Storage) (xs ps ss ys qs ts : List (Stake O)) → Keeps (xs ++ ss) (ys ++ ts) z → Keeps ps qs z
      → Keeps ((xs ++ ps) ++ ss) (ys ++ (ts ++ qs)) z
  keeps_behind z xs ps ss ys qs ts k j = record {
    total =
        let p = k.total in let q = j.total in
        let a = total-append z (xs ++ ps) ss in let b = total-append z xs ps in let c = total-append z xs ss in
        let d = total-append z ys (ts ++ qs) in let e = total-append z ts qs in let f = total-append z ys ts in
        omega (arith, p, q, a, b, c, d, e, f);
    way = λ kind is.
        let front = one_way-front z kind (xs ++ ps) ss is in
        let both = k.way kind (one_way-append z kind xs ss (one_way-front z kind xs ps front) (one_way-back z kind (xs ++ ps) ss is)) in
        let one = j.way kind (one_way-back z kind xs ps front) in
        one_way-append z kind ys (ts ++ qs) (one_way-front z kind ys ts both) (one_way-append z kind ts qs (one_way-back z kind ys ts both) one);
  }

  -- so many nodes had their turn; `left` bytes behind the place `at` of the others are still to stay
  pub record Sifting (from n : ℕ) (all : List (Segment O)) (i at left : ℕ) (now : List (Segment O)) (backs given : List (Back O)) : Type 0 where
    pub done : List (Segment O)
    pub kept : List (Segment O)
    pub todo : List (Segment O)
    pub all_is : all ≡ done ++ todo
    pub now_is : now ≡ todo ++ kept
    pub count : length done ≡ i
    pub bytes : bytes_of kept ++ take left (drop at (bytes_of todo)) ≡ take n (drop from (bytes_of all))
    pub within : at + left ≤ length (bytes_of todo)
    pub thins : Thins (length now ≡ 1) done kept
    pub handed : length all + length backs ≡ length now + length given
    pub totals : KeepsTotals (held_by done ++ stakes_in backs) (held_by kept ++ stakes_in given)

  pub sifting_begins : (from n : ℕ) (all : List (Segment O)) (backs : List (Back O)) → from + n ≤ length (bytes_of all)
      → Sifting from n all 0 from n all backs backs
  sifting_begins from n all backs le = record {
    done = [];
    kept = [];
    todo = all;
    all_is = refl;
    now_is = sym (append-nil all);
    count = refl;
    bytes = refl;
    within = le;
    thins = tt;
    handed = refl;
    totals = keeps_same (stakes_in backs);
  }

  -- the next
  todo_there : (todo kept rest : List (Segment O)) (node : Segment O) → 0 < length todo → todo ++ kept ≡ node ∷ rest
      → (more : List (Segment O)) × (todo ≡ node ∷ more) × (rest ≡ more ++ kept)
  todo_there [] kept rest node some is = absurd (omega arith)
  todo_there (x ∷ xs) kept rest node some is =
      let same : x ≡ node = cc in
      let others : xs ++ kept ≡ rest = cc in
      (xs, ap (λ u. u ∷ xs) same, sym others)

  -- the bytes of a node that is trimmed
  trimmed_window : (front stays : ℕ) (s : Segment O) → front + stays ≤ length s.window
      → (trimmed_end (length s.window - front - stays) (trimmed_start front s)).window ≡ take stays (drop front s.window)
  trimmed_window front stays s le =
      let short = length-drop front s.window in
      let e : length (drop front s.window) - (length s.window - front - stays) ≡ stays = omega (arith, short, le) in
      ap (λ (n : ℕ). take n (drop front s.window)) e

  -- bytes stay, or there is no other node
  some_or : (one d : Type 0) (k stays : ℕ) (rest : List (Segment O)) → k ≡ stays → ((stays ≡ 0) × d × (0 < length rest) → ⊥)
      → (length rest ≡ 0 → one) → d → (0 < k) ⊎ one
  some_or one d k zero [] is not sole h = inr (sole refl)
  some_or one d k zero (r ∷ rs) is not sole h = absurd (not (refl, h, omega arith))
  some_or one d k (suc j) rest is not sole h = inl (omega (arith, is))

  narrows : (front stays : ℕ) (s : Segment O) (rest : List (Segment O)) (one : Type 0) → front + stays ≤ length s.window
      → ((stays ≡ 0) × HasData s × (0 < length rest) → ⊥) → (length rest ≡ 0 → one)
      → Narrows one s (trimmed_end (length s.window - front - stays) (trimmed_start front s))
  narrows front stays s rest one le not sole =
      let is = ap length (trimmed_window front stays s le) ∙ length-take stays (drop front s.window) in
      let short = length-drop front s.window in
      let size : length (take (length (drop front s.window) - (length s.window - front - stays)) (drop front s.window)) ≡ stays = omega (arith, is, short, le) in (
        refl,
        omega (arith, size, le),
        (λ d. some_or one (HasData s) _ stays rest size not sole d),
      )

  -- the next node leaves
  step_leaves : (from n : ℕ) (all : List (Segment O)) (i at left front stays : ℕ) (now new : List (Segment O)) (backs given more : List (Back O))
      (s : Sifting from n all i at left now backs given) (node : Segment O) (rest behind : List (Segment O)) (b : Back O)
      → s.todo ≡ node ∷ behind → now ≡ node ∷ rest → rest ≡ behind ++ s.kept → front ≡ min at (length node.window)
      → stays ≡ min left (length node.window - front) → stays ≡ 0 → HasData node → 0 < length rest → new ≡ rest → more ≡ given ++ b ∷ []
      → KeepsTotals (held node.share ∷ []) (stakes_of b) → Sifting from n all (i + 1) (at - front) (left - stays) new backs more
  step_leaves from n all i at left front stays now new backs given more s node rest behind b todo first others f st none d some is added keeps =
      let split = ap (λ us. take left (drop at (bytes_of us))) todo ∙ parts at left front stays node.window (bytes_of behind) f st in
      let nothing : take stays (drop front node.window) ≡ [] = ap (λ (k : ℕ). take k (drop front node.window)) none in
      let sum = ap (λ us. length (bytes_of us)) todo ∙ length-append node.window (bytes_of behind) in
      let had = ap length first in
      let has = ap length is in
      let handed = ap length added ∙ length-append given (b ∷ []) in
      let before = s.handed in
      let was = s.within in
      let counted = s.count in
      let stakes : stakes_in more ≡ stakes_in given ++ stakes_of b
      = ap (λ bs. stakes_in bs) added ∙ stakes_in-append given (b ∷ []) ∙ ap (λ ss. stakes_in given ++ ss) (append-nil (stakes_of b)) in
      record {
        done = s.done ++ node ∷ [];
        kept = s.kept;
        todo = behind;
        all_is = s.all_is ∙ ap (λ us. s.done ++ us) todo ∙ sym (append_assoc s.done (node ∷ []) behind);
        now_is = is ∙ others;
        count = length-append s.done (node ∷ []) ∙ omega (arith, counted);
        bytes =
            ap (λ bs. bytes_of s.kept ++ bs) (sym (split ∙ ap (λ bs. bs ++ take (left - stays) (drop (at - front) (bytes_of behind))) nothing))
            ∙ s.bytes;
        within = omega (arith, was, sum, f, st);
        thins = thins_leaves (length new ≡ 1) s.done s.kept node d
            (thins_as (length now ≡ 1) (length new ≡ 1) s.done s.kept (λ one. absurd (omega (arith, one, had, some))) s.thins);
        handed = omega (arith, before, had, has, handed);
        totals = λ z.
            let P : List (Stake O) → Type 0 = λ ss. Keeps (ss ++ stakes_in backs) (held_by s.kept ++ stakes_in more) z in
            let Q : List (Stake O) → Type 0 = λ ss. Keeps ((held_by s.done ++ held node.share ∷ []) ++ stakes_in backs) (held_by s.kept ++ ss) z in
            subst P (sym (held_by-append s.done (node ∷ [])))
            (subst Q (sym stakes)
            (keeps_behind z (held_by s.done) (held node.share ∷ []) (stakes_in backs) (held_by s.kept) (stakes_of b) (stakes_in given) (s.totals z) (keeps z)));
      }

  -- the next node stays
  step_stays : (from n : ℕ) (all : List (Segment O)) (i at left front stays : ℕ) (now new : List (Segment O)) (backs given more : List (Back O))
      (s : Sifting from n all i at left now backs given) (node : Segment O) (rest behind : List (Segment O))
      → s.todo ≡ node ∷ behind → now ≡ node ∷ rest → rest ≡ behind ++ s.kept → front ≡ min at (length node.window)
      → stays ≡ min left (length node.window - front) → front + stays ≤ length node.window → ((stays ≡ 0) × HasData node × (0 < length rest) → ⊥)
      → new ≡ rest ++ trimmed_end (length node.window - front - stays) (trimmed_start front node) ∷ [] → more ≡ given
      → Sifting from n all (i + 1) (at - front) (left - stays) new backs more
  step_stays from n all i at left front stays now new backs given more s node rest behind todo first others f st le not is added =
      let t : Segment O = trimmed_end (length node.window - front - stays) (trimmed_start front node) in
      let split = ap (λ us. take left (drop at (bytes_of us))) todo ∙ parts at left front stays node.window (bytes_of behind) f st in
      let behind_it : List ℕ = take (left - stays) (drop (at - front) (bytes_of behind)) in
      let sum = ap (λ us. length (bytes_of us)) todo ∙ length-append node.window (bytes_of behind) in
      let had = ap length first in
      let has = ap length is ∙ length-append rest (t ∷ []) in
      let handed = ap length added in
      let before = s.handed in
      let was = s.within in
      let counted = s.count in
      record {
        done = s.done ++ node ∷ [];
        kept = s.kept ++ t ∷ [];
        todo = behind;
        all_is = s.all_is ∙ ap (λ us. s.done ++ us) todo ∙ sym (append_assoc s.done (node ∷ []) behind);
        now_is = is ∙ ap (λ us. us ++ t ∷ []) others ∙ append_assoc behind s.kept (t ∷ []);
        count = length-append s.done (node ∷ []) ∙ omega (arith, counted);
        bytes =
            ap (λ bs. bs ++ behind_it) (bytes_of-append s.kept (t ∷ []) ∙ ap (λ bs. bytes_of s.kept ++ bs) (append-nil t.window
            ∙ trimmed_window front stays node le))
            ∙ append_assoc (bytes_of s.kept) (take stays (drop front node.window)) behind_it
            ∙ ap (λ bs. bytes_of s.kept ++ bs) (sym split)
            ∙ s.bytes;
        within = omega (arith, was, sum, f, st);
        thins = thins_stays (length new ≡ 1) s.done s.kept node t
            (narrows front stays node rest (length new ≡ 1) le not (λ none. omega (arith, has, none)))
            (thins_as (length now ≡ 1) (length new ≡ 1) s.done s.kept (λ one. omega (arith, one, had, has)) s.thins);
        handed = omega (arith, before, had, has, handed);
        totals = λ z.
            let P : List (Stake O) → Type 0 = λ ss. Keeps (ss ++ stakes_in backs) (held_by (s.kept ++ t ∷ []) ++ stakes_in more) z in
            let Q : List (Stake O) → Type 0 = λ ss. Keeps ((held_by s.done ++ held node.share ∷ []) ++ stakes_in backs) (ss ++ stakes_in more) z in
            let R : List (Back O) → Type 0 = λ bs.
            Keeps ((held_by s.done ++ held node.share ∷ []) ++ stakes_in backs) ((held_by s.kept ++ held node.share ∷ []) ++ stakes_in bs) z in
            subst P (sym (held_by-append s.done (node ∷ [])))
            (subst Q (sym (held_by-append s.kept (t ∷ [])))
            (subst R (sym added)
            (keeps_both z (held_by s.done) (held node.share ∷ []) (stakes_in backs) (held_by s.kept) (held node.share ∷ []) (stakes_in given) (s.totals z)
            (keeps_same (held node.share ∷ []) z))));
      }

  pub sifting_step : (from n : ℕ) (all : List (Segment O)) (i at left front stays : ℕ) (now new : List (Segment O)) (backs given more : List (Back O))
      (x : Segment O) → Sifting from n all i at left now backs given → i < length all → slice_get now 0 ≡ Some x → front ≡ min at (length x.window)
      → stays ≡ min left (length x.window - front) → SiftsFirst front stays now new given more
      → Sifting from n all (i + 1) (at - front) (left - stays) new backs more
  sifting_step from n all i at left front stays now new backs given more x s low there f st sifts =
      let size = ap length s.all_is ∙ length-append s.done s.todo in
      let some : 0 < length s.todo = let c = s.count in omega (arith, size, c, low) in
      let next = todo_there s.todo s.kept sifts.rest sifts.node some (sym s.now_is ∙ sifts.before_is) in
      let found : Some x ≡ Some sifts.node = sym there ∙ ap (λ us. slice_get us 0) sifts.before_is in
      let same : x ≡ sifts.node = cc found in
      let width : length x.window ≡ length sifts.node.window = ap (λ (u : Segment O). length u.window) same in
      let f' = f ∙ ap (λ (k : ℕ). min at k) width in
      let st' = st ∙ ap (λ (k : ℕ). min left (k - front)) width in
      elim sifts.way [
        | inl w ↦
            step_leaves from n all i at left front stays now new backs given more s sifts.node sifts.rest next.0 w.4.0 next.1 sifts.before_is next.2 f' st'
            w.0 w.1 w.2 w.3 w.4.1 w.4.2
        | inr w ↦
            step_stays from n all i at left front stays now new backs given more s sifts.node sifts.rest next.0 next.1 sifts.before_is next.2 f' st'
            sifts.within w.0 w.1 w.2
      ]

  no_todo : (xs : List (Segment O)) → length xs ≤ 0 → xs ≡ []
  no_todo [] h = refl
  no_todo (x ∷ xs) h = absurd (omega arith)

  pub sifting_ends : (from n : ℕ) (all : List (Segment O)) (i at left : ℕ) (now : List (Segment O)) (backs given : List (Back O))
      → Sifting from n all i at left now backs given → length all ≤ i
      → (bytes_of now ≡ take n (drop from (bytes_of all))) × Sheds all now × (length all + length backs ≡ length now + length given)
      × KeepsTotals (held_by all ++ stakes_in backs) (held_by now ++ stakes_in given)
  sifting_ends from n all i at left now backs given s le =
      let size = ap length s.all_is ∙ length-append s.done s.todo in
      let none : s.todo ≡ [] = no_todo s.todo (let c = s.count in omega (arith, size, c, le)) in
      let whole : all ≡ s.done = s.all_is ∙ ap (λ us. s.done ++ us) none ∙ append-nil s.done in
      let same : now ≡ s.kept = s.now_is ∙ ap (λ us. us ++ s.kept) none in
      let empty : length (bytes_of s.todo) ≡ 0 = ap (λ us. length (bytes_of us)) none in
      let out : left ≡ 0 = let w = s.within in omega (arith, w, empty) in
      let P : List (Segment O) → Type 0 = λ us. Thins (length now ≡ 1) us now in
      let Q : List (Segment O) → Type 0 = λ us. Thins (length now ≡ 1) s.done us in
      let K : List (Segment O) → Type 0 = λ us. KeepsTotals (held_by us ++ stakes_in backs) (held_by now ++ stakes_in given) in
      let L : List (Segment O) → Type 0 = λ us. KeepsTotals (held_by s.done ++ stakes_in backs) (held_by us ++ stakes_in given) in (
        ap (λ us. bytes_of us) same ∙ sym (append-nil (bytes_of s.kept))
            ∙ ap (λ (k : ℕ). bytes_of s.kept ++ take k (drop at (bytes_of s.todo))) (sym out) ∙ s.bytes,
        subst P (sym whole) (subst Q (sym same) s.thins),
        s.handed,
        subst K (sym whole) (subst L (sym same) s.totals),
      )

  -- what is there before the next has its turn
  pub sifting_there : (from n : ℕ) (all : List (Segment O)) (i at left : ℕ) (now : List (Segment O)) (backs given : List (Back O))
      → Sifting from n all i at left now backs given → length given + length now ≡ length all + length backs
  sifting_there from n all i at left now backs given s = let h = s.handed in omega (arith, h)

  -- a frame of one node
  pub turned_one : (at n rest : ℕ) (all now : List (Segment O)) → length all ≡ 1 → at + n ≤ length (bytes_of all)
      → rest ≡ length (bytes_of all) - at - n → TurnsFirst at rest all now
      → (bytes_of now ≡ take n (drop at (bytes_of all))) × Sheds all now × (length now ≡ 1) × KeepsTotals (held_by all) (held_by now)
  turned_one at n rest all now one le is t =
      let none : t.rest ≡ [] = no_todo t.rest (let e = ap length t.before_is in omega (arith, e, one)) in
      let first : all ≡ t.node ∷ [] = t.before_is ∙ ap (λ us. t.node ∷ us) none in
      let sum : length (bytes_of all) ≡ length t.node.window = ap (λ us. length (bytes_of us)) first ∙ ap length (append-nil t.node.window) in
      let same : rest ≡ length t.node.window - at - n = omega (arith, is, sum) in
      let fits : at + n ≤ length t.node.window = omega (arith, le, sum) in
      let last : now ≡ trimmed_end (length t.node.window - at - n) (trimmed_start at t.node) ∷ []
      = t.after_is ∙ ap (λ us. us ++ trimmed_end rest (trimmed_start at t.node) ∷ []) none
      ∙ ap (λ (k : ℕ). trimmed_end k (trimmed_start at t.node) ∷ []) same in
      let size : length now ≡ 1 = ap length last in
      let P : List (Segment O) → Type 0 = λ us. Thins (length now ≡ 1) us now in
      let Q : List (Segment O) → Type 0 = λ us. Thins (length now ≡ 1) (t.node ∷ []) us in
      let K : List (Segment O) → Type 0 = λ us. KeepsTotals (held_by us) (held_by now) in
      let L : List (Segment O) → Type 0 = λ us. KeepsTotals (held t.node.share ∷ []) (held_by us) in
      let nar = trimmed_window at n t.node fits in
      let short = length-drop at t.node.window in
      let wide = ap length nar ∙ length-take n (drop at t.node.window) in (
        ap (λ us. bytes_of us) last ∙ append-nil _ ∙ nar ∙ ap (λ bs. take n (drop at bs)) (sym (ap (λ us. bytes_of us) first ∙ append-nil t.node.window)),
        subst P (sym first) (subst Q (sym last) (inr ((refl, omega (arith, wide, short, fits), (λ d. inr size)), tt))),
        size,
        subst K (sym first) (subst L (sym last) (keeps_same (held t.node.share ∷ []))),
      )
