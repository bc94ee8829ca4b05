-- Chains whose nodes leave the storages that others may hold.
use Rattle.std.proofs.Common.{◌≡◌, ◌⊎◌, ℕ, suc, ◌+◌, ◌<◌, ◌≤◌, Bool, true, false, cond, List, [], ◌∷◌, ◌++◌, Option, Some, length, take, drop, map, refl, sym, ap, subst, ◌∙◌, append_assoc, arith, inl, inr, length-append, slice_get, slice_set, unwrap_or, IsTrue, IsErr, Result, Ok, Err}
use Rattle.std.proofs.lemmas.Bool.Decides.{eqb_tells}
use Rattle.std.proofs.lemmas.List.{append-nil, take-append-drop, length-take}
use Rattle.std.proofs.Math.Seq.{take-add}
use Rattle.share_count.specs.Weights.{full}
use Rattle.buffer_model.specs.Share.{Share, IsWhole, own}
use Rattle.buffer_model.specs.Segment.{Segment, bytes_of, hold_of}
use Rattle.buffer_model.specs.Stake.{held, Keeps, KeepsTotals, KeepsTotalsBeside}
use Rattle.buffer_model.specs.Minted.{Numbers, NumbersOn, AddsAtMost}
use Rattle.buffer_model.specs.Clones.{MovesOut}
use Rattle.buffer_model.proofs.Totals.{keeps_same, keeps_equal, keeps_any, keeps-append, keeps_beside, apart_first, apart_then}
use Rattle.buffer_model.proofs.Minted.{adds_none, adds_at_most, adds_then, same_on, adds_on, on_then}
use Rattle.storage.specs.declared.back.Back.{Back}
use Rattle.storage.specs.Back.{GivesBack, stakes_of, stakes_in}
use Rattle.iobuf_chain.specs.Accounts.{held_by}
use Rattle.iobuf_chain.specs.Lists.{Each}
use Rattle.iobuf_chain.proofs.Lists.{drop_there, at_seam}
use Rattle.iobuf_chain.proofs.Accounts.{swaps_nodes, same_nodes, held_by-append}
use Rattle.iobuf_chain.proofs.GivenBack.{HandsBack, hands_begin, hands_more, hands_end}
use Rattle.chain_unshare.specs.Backs.{HandBack, returned}
use Rattle.chain_unshare.specs.Unshares.{is_whole, shared_in, UnsharesOne, UnsharesEach, CopiesEach, replaced}
use Rattle.chain_unshare.proofs.Splitting.{keeps_trans}

pub none_of : {X : Type 0} (xs : List X) → length xs ≤ 0 → xs ≡ []
none_of [] h = refl
none_of (x ∷ xs) h = absurd (omega arith)

pub adds_fewer : (m n : ℕ) (old new : Numbers) → m ≤ n → AddsAtMost m old new → AddsAtMost n old new
adds_fewer m n old new le adds = let most = adds.2 in (adds.0, adds.1, omega (arith, most, le))

module _ {O : Type 0} where
  pub whole_test : (s : Share O) → IsWhole s → is_whole s ≡ true
  whole_test s w = elim (eqb_tells (s.weight + s.absorbed) full) [ inl same ↦ same.0 | inr not ↦ absurd (not.1 w) ]

  pub other_test : (s : Share O) → (¬ IsWhole s) → is_whole s ≡ false
  other_test s o = elim (eqb_tells (s.weight + s.absorbed) full) [ inl same ↦ absurd (o same.1) | inr not ↦ not.0 ]

  decided : (s : Share O) → IsWhole s ⊎ (¬ IsWhole s)
  decided s = elim (eqb_tells (s.weight + s.absorbed) full) [ inl same ↦ inl same.1 | inr not ↦ inr not.1 ]

  -- what the answer of a look at the weight says
  pub told_whole : (b : Bool) (s : Share O) → b ≡ true → (IsTrue b → IsWhole s) × (IsWhole s → IsTrue b) → IsWhole s
  told_whole b s e says = says.0 e

  pub told_other : (b : Bool) (s : Share O) → b ≡ false → (IsTrue b → IsWhole s) × (IsWhole s → IsTrue b) → (¬ IsWhole s)
  told_other b s e says w = let yes : b ≡ true = says.1 w in let never : true ≡ false = sym yes ∙ e in cc never

  pub shared_whole : (x : Segment O) (xs : List (Segment O)) → IsWhole x.share → shared_in (x ∷ xs) ≡ shared_in xs
  shared_whole x xs w = ap (λ (b : Bool). cond b (shared_in xs) (x ∷ shared_in xs)) (whole_test x.share w)

  pub shared_other : (x : Segment O) (xs : List (Segment O)) → (¬ IsWhole x.share) → shared_in (x ∷ xs) ≡ x ∷ shared_in xs
  shared_other x xs o = ap (λ (b : Bool). cond b (shared_in xs) (x ∷ shared_in xs)) (other_test x.share o)

  shared_append : (xs ys : List (Segment O)) → shared_in (xs ++ ys) ≡ shared_in xs ++ shared_in ys
  shared_append [] ys = refl
  shared_append (x ∷ xs) ys =
      elim (decided x.share) [
        | inl w ↦ shared_whole x (xs ++ ys) w ∙ shared_append xs ys ∙ ap (λ zs. zs ++ shared_in ys) (sym (shared_whole x xs w))
        | inr o ↦
            shared_other x (xs ++ ys) o ∙ ap (λ zs. x ∷ zs) (shared_append xs ys) ∙ ap (λ zs. zs ++ shared_in ys) (sym (shared_other x xs o))
      ]

  pub take_more : (i : ℕ) (xs : List (Segment O)) (x : Segment O) → slice_get xs i ≡ Some x → take (i + 1) xs ≡ take i xs ++ x ∷ []
  take_more i xs x is = take-add i 1 xs ∙ ap (λ ys. take i xs ++ take 1 ys) (drop_there i xs x is)

  -- one node more
  pub shared_more_whole : (i : ℕ) (xs : List (Segment O)) (x : Segment O) → slice_get xs i ≡ Some x → IsWhole x.share
      → shared_in (take (i + 1) xs) ≡ shared_in (take i xs)
  shared_more_whole i xs x is w =
      ap (λ ys. shared_in ys) (take_more i xs x is) ∙ shared_append (take i xs) (x ∷ [])
      ∙ ap (λ zs. shared_in (take i xs) ++ zs) (shared_whole x [] w) ∙ append-nil (shared_in (take i xs))

  pub shared_more_other : (i : ℕ) (xs : List (Segment O)) (x : Segment O) → slice_get xs i ≡ Some x → (¬ IsWhole x.share)
      → shared_in (take (i + 1) xs) ≡ shared_in (take i xs) ++ x ∷ []
  shared_more_other i xs x is o =
      ap (λ ys. shared_in ys) (take_more i xs x is) ∙ shared_append (take i xs) (x ∷ [])
      ∙ ap (λ zs. shared_in (take i xs) ++ zs) (shared_other x [] o)

  pub shared_within : (i : ℕ) (xs : List (Segment O)) → length (shared_in (take i xs)) ≤ length (shared_in xs)
  shared_within i xs =
      let parts = length-append (shared_in (take i xs)) (shared_in (drop i xs)) in
      let same : length (shared_in xs) ≡ length (shared_in (take i xs) ++ shared_in (drop i xs))
      = ap (λ ys. length (shared_in ys)) (sym (take-append-drop i xs)) ∙ ap length (shared_append (take i xs) (drop i xs)) in
      omega (arith, parts, same)

  shared_most : (xs : List (Segment O)) → length (shared_in xs) ≤ length xs
  shared_most [] = omega arith
  shared_most (x ∷ xs) =
      let more = shared_most xs in
      elim (decided x.share) [
        | inl w ↦ let e = ap length (shared_whole x xs w) in omega (arith, e, more)
        | inr o ↦ let e = ap length (shared_other x xs o) in omega (arith, e, more)
      ]

  pub shared_at_most : (i : ℕ) (xs : List (Segment O)) → length (shared_in (take i xs)) ≤ i
  shared_at_most i xs =
      let most = shared_most (take i xs) in
      let size = length-take i xs in
      omega (arith, most, size)

  -- one copy more
  pub copies_more : (old mid new : Numbers) (xs ys : List (Segment O)) (x y : Segment O) → CopiesEach old mid xs ys → MovesOut mid new x y
      → CopiesEach old new (xs ++ x ∷ []) (ys ++ y ∷ [])
  copies_more old mid new [] [] x y is m = (new, (let P : Numbers → Type 0 = λ z. MovesOut z new x y in subst P is m), refl)
  copies_more old mid new [] (c ∷ cs) x y is m = absurd is
  copies_more old mid new (b ∷ bs) [] x y is m = absurd is
  copies_more old mid new (b ∷ bs) (c ∷ cs) x y is m = (is.0, is.1, copies_more is.0 mid new bs cs x y is.2 m)

  pub copies_add : (old new : Numbers) (xs ys : List (Segment O)) → CopiesEach old new xs ys → AddsAtMost (length xs) old new
  copies_add old new [] [] is = adds_none 0 old new is
  copies_add old new [] (c ∷ cs) is = absurd is
  copies_add old new (b ∷ bs) [] is = absurd is
  copies_add old new (b ∷ bs) (c ∷ cs) is =
      adds_fewer (1 + length bs) (length (b ∷ bs)) old new (omega arith)
      (adds_then 1 (length bs) old is.0 new (adds_at_most 1 1 old is.0 is.1.mint (omega arith)) (copies_add is.0 new bs cs is.2))

  pub copies_as : (old mid new : Numbers) (xs us ys vs : List (Segment O)) → CopiesEach old mid xs ys → new ≡ mid → us ≡ xs → vs ≡ ys → CopiesEach old new us vs
  copies_as old mid new xs us ys vs is e f h =
      let P : Numbers → Type 0 = λ m. CopiesEach old m us vs in
      let Q : List (Segment O) → Type 0 = λ zs. CopiesEach old mid zs vs in
      let R : List (Segment O) → Type 0 = λ zs. CopiesEach old mid xs zs in
      subst P (sym e) (subst Q (sym f) (subst R (sym h) is))

  pub copies_windows : (old new : Numbers) (xs ys : List (Segment O)) → CopiesEach old new xs ys
      → map (λ (s : Segment O). s.window) ys ≡ map (λ (s : Segment O). s.window) xs
  copies_windows old new [] [] is = refl
  copies_windows old new [] (c ∷ cs) is = absurd is
  copies_windows old new (b ∷ bs) [] is = absurd is
  copies_windows old new (b ∷ bs) (c ∷ cs) is =
      ap (λ (w : List ℕ). w ∷ map (λ (s : Segment O). s.window) cs) (ap (λ (t : Segment O). t.window) is.1.lists)
      ∙ ap (λ ws. b.window ∷ ws) (copies_windows is.0 new bs cs is.2)

  pub copies_size : (old new : Numbers) (xs ys : List (Segment O)) → CopiesEach old new xs ys → length ys ≡ length xs
  copies_size old new [] [] is = refl
  copies_size old new [] (c ∷ cs) is = absurd is
  copies_size old new (b ∷ bs) [] is = absurd is
  copies_size old new (b ∷ bs) (c ∷ cs) is = ap (λ (n : ℕ). suc n) (copies_size is.0 new bs cs is.2)

  -- the copies so far
  pub copies_add_all : (i : ℕ) (old mid new : Numbers) (xs copies : List (Segment O)) → CopiesEach old mid (shared_in (take i xs)) copies → new ≡ mid
      → AddsAtMost (length (shared_in xs)) old new
  copies_add_all i old mid new xs copies is e =
      let P : Numbers → Type 0 = λ m. AddsAtMost (length (shared_in xs)) old m in
      subst P (sym e) (adds_fewer (length (shared_in (take i xs))) (length (shared_in xs)) old mid (shared_within i xs) (copies_add old mid (shared_in (take i xs)) copies is))

  -- there is room for one more
  pub copies_room : (i : ℕ) (old mid : Numbers) (xs copies : List (Segment O)) (x : Segment O) → CopiesEach old mid (shared_in (take i xs)) copies
      → slice_get xs i ≡ Some x → (¬ IsWhole x.share) → length copies < length (shared_in xs)
  copies_room i old mid xs copies x is at o =
      let size = copies_size old mid (shared_in (take i xs)) copies is in
      let more : length (shared_in (take (i + 1) xs)) ≡ length (shared_in (take i xs)) + 1
      = ap length (shared_more_other i xs x at o) ∙ length-append (shared_in (take i xs)) (x ∷ []) in
      let within = shared_within (i + 1) xs in
      omega (arith, size, more, within)

  -- what takes the place of a node
  pub replaced_whole : (others : List (Segment O)) (x : Segment O) (xs : List (Segment O)) → IsWhole x.share
      → replaced others (x ∷ xs) ≡ x ∷ replaced others xs
  replaced_whole others x xs w =
      ap (λ (b : Bool). cond b (x ∷ replaced others xs) (unwrap_or (slice_get others 0) x ∷ replaced (drop 1 others) xs)) (whole_test x.share w)

  pub replaced_other : (o : Segment O) (os : List (Segment O)) (x : Segment O) (xs : List (Segment O)) → (¬ IsWhole x.share)
      → replaced (o ∷ os) (x ∷ xs) ≡ o ∷ replaced os xs
  replaced_other o os x xs not =
      ap (λ (b : Bool). cond b (x ∷ replaced (o ∷ os) xs) (o ∷ replaced os xs)) (other_test x.share not)

  -- copies in the places of the nodes that aren't whole
  pub unshares : (old new : Numbers) (xs copies : List (Segment O)) → CopiesEach old new (shared_in xs) copies → UnsharesEach old new xs (replaced copies xs)
  unshares old new [] [] is = is
  unshares old new [] (c ∷ cs) is = absurd is
  unshares old new (x ∷ xs) [] is =
      let P : List (Segment O) → Type 0 = λ ys. CopiesEach old new ys [] in
      let Q : List (Segment O) → Type 0 = λ ys. UnsharesEach old new (x ∷ xs) ys in
      elim (decided x.share) [
        | inl w ↦ subst Q (sym (replaced_whole [] x xs w)) (old, inl (w, refl, refl), unshares old new xs [] (subst P (shared_whole x xs w) is))
        | inr o ↦ absurd (subst P (shared_other x xs o) is)
      ]
  unshares old new (x ∷ xs) (c ∷ cs) is =
      let P : List (Segment O) → Type 0 = λ ys. CopiesEach old new ys (c ∷ cs) in
      let Q : List (Segment O) → Type 0 = λ ys. UnsharesEach old new (x ∷ xs) ys in
      elim (decided x.share) [
        | inl w ↦
            subst Q (sym (replaced_whole (c ∷ cs) x xs w)) (old, inl (w, refl, refl), unshares old new xs (c ∷ cs) (subst P (shared_whole x xs w) is))
        | inr o ↦
            let moves = subst P (shared_other x xs o) is in
            subst Q (sym (replaced_other c cs x xs o)) (moves.0, inr (o, moves.1), unshares moves.0 new xs cs moves.2)
      ]

  pub unshares_by : (old new : Numbers) (xs ys copies : List (Segment O)) → CopiesEach old new (shared_in xs) copies → ys ≡ replaced copies xs
      → UnsharesEach old new xs ys
  unshares_by old new xs ys copies is e =
      let P : List (Segment O) → Type 0 = λ zs. UnsharesEach old new xs zs in
      subst P (sym e) (unshares old new xs copies is)

  pub none_unshares : (m : Numbers) (xs : List (Segment O)) → shared_in xs ≡ [] → UnsharesEach m m xs xs
  none_unshares m [] e = refl
  none_unshares m (x ∷ xs) e =
      elim (decided x.share) [
        | inl w ↦ (m, inl (w, refl, refl), none_unshares m xs (sym (shared_whole x xs w) ∙ e))
        | inr o ↦ absurd (let never : x ∷ shared_in xs ≡ [] = sym (shared_other x xs o) ∙ e in cc never)
      ]

  pub all_whole : (xs : List (Segment O)) → Each (λ s. IsWhole s.share) xs → shared_in xs ≡ []
  all_whole [] all = refl
  all_whole (x ∷ xs) all = shared_whole x xs all.0 ∙ all_whole xs all.1

  pub unshares_bytes : (old new : Numbers) (xs ys : List (Segment O)) → UnsharesEach old new xs ys → bytes_of ys ≡ bytes_of xs
  unshares_bytes old new [] [] is = refl
  unshares_bytes old new [] (y ∷ ys) is = absurd is
  unshares_bytes old new (x ∷ xs) [] is = absurd is
  unshares_bytes old new (x ∷ xs) (y ∷ ys) is =
      let same : y.window ≡ x.window
      = elim is.1 [ inl s ↦ ap (λ (t : Segment O). t.window) s.1 | inr m ↦ ap (λ (t : Segment O). t.window) m.1.lists ] in
      ap (λ w. w ++ bytes_of ys) same ∙ ap (λ bs. x.window ++ bs) (unshares_bytes is.0 new xs ys is.2)

  one_on : (old new : Numbers) (x y : Segment O) → UnsharesOne old new x y → NumbersOn old new
  one_on old new x y (inl s) = same_on old new s.2
  one_on old new x y (inr m) = adds_on 1 old new m.1.mint

  each_on : (old new : Numbers) (xs ys : List (Segment O)) → UnsharesEach old new xs ys → NumbersOn old new
  each_on old new [] [] is = same_on old new is
  each_on old new [] (y ∷ ys) is = absurd is
  each_on old new (x ∷ xs) [] is = absurd is
  each_on old new (x ∷ xs) (y ∷ ys) is = on_then old is.0 new (one_on old is.0 x y is.1) (each_on is.0 new xs ys is.2)

  -- one node stands behind others
  goes_behind : (x : Segment O) (ys gone : List (Segment O)) → KeepsTotals (held_by (x ∷ (ys ++ gone))) (held_by (ys ++ (x ∷ gone)))
  goes_behind x ys gone n =
      keeps_trans n _ _ _ (swaps_nodes [] (x ∷ []) (ys ++ gone) n)
      (keeps_trans n _ _ _ (same_nodes _ _ (append_assoc ys gone (x ∷ [])) n) (swaps_nodes ys gone (x ∷ []) n))

  unshares_keep : (old new : Numbers) (xs ys : List (Segment O)) → UnsharesEach old new xs ys
      → KeepsTotalsBeside old new (held_by xs) (held_by (ys ++ shared_in xs))
  unshares_keep old new [] [] is = keeps_any old new [] [] (keeps_same [])
  unshares_keep old new [] (y ∷ ys) is = absurd is
  unshares_keep old new (x ∷ xs) [] is = absurd is
  unshares_keep old new (x ∷ xs) (y ∷ ys) is = λ n h.
      let first = one_on old is.0 x y is.1 in
      let next = each_on is.0 new xs ys is.2 in
      let gone : List (Segment O) = shared_in xs in
      let more : Keeps (held_by xs) (held_by (ys ++ gone)) n = unshares_keep is.0 new xs ys is.2 n (apart_then old is.0 new n first h) in
      let beside : Keeps (held_by (x ∷ xs)) (held_by (x ∷ (ys ++ gone))) n
      = keeps-append n (held x.share ∷ []) (held_by xs) (held x.share ∷ []) (held_by (ys ++ gone)) (keeps_same (held x.share ∷ []) n) more in
      elim is.1 [
        | inl s ↦
            keeps_trans n _ _ _ beside
            (same_nodes _ _ (ap (λ z. z ∷ (ys ++ gone)) (sym s.1) ∙ ap (λ zs. y ∷ (ys ++ zs)) (sym (shared_whole x xs s.0))) n)
        | inr m ↦
            keeps_trans n _ _ _ beside
            (keeps_trans n _ _ _ (goes_behind x ys gone n)
            (keeps_trans n _ _ _ (keeps_beside old is.0 own y.share _ _ m.1.storage (keeps_same (held_by (ys ++ (x ∷ gone)))) n (apart_first old is.0 new n next h))
            (same_nodes (y ∷ (ys ++ (x ∷ gone))) _ (ap (λ zs. y ∷ (ys ++ zs)) (sym (shared_other x xs m.0))) n)))
      ]

  pub unshared_totals : (old new : Numbers) (xs ys : List (Segment O)) (backs given : List (Back O)) → UnsharesEach old new xs ys
      → KeepsTotals (held_by (shared_in xs)) (stakes_in backs) → given ≡ backs
      → KeepsTotalsBeside old new (held_by xs) (held_by ys ++ stakes_in given)
  unshared_totals old new xs ys backs given is keeps e n h =
      keeps_trans n _ _ _ (unshares_keep old new xs ys is n h)
      (keeps_trans n _ _ _ (keeps_equal _ _ (held_by-append ys (shared_in xs)) n)
      (keeps_trans n _ _ _
      (keeps-append n (held_by ys) (held_by (shared_in xs)) (held_by ys) (stakes_in backs) (keeps_same (held_by ys) n) (keeps n))
      (keeps_equal _ _ (ap (λ bs. held_by ys ++ stakes_in bs) (sym e)) n)))

  pub refused_totals : {E : Type 0} (a b : Numbers) (xs ys : List (Segment O)) (r : Result (List (Back O)) E) → ys ≡ xs → IsErr r
      → KeepsTotalsBeside a b (held_by xs) (held_by ys ++ returned r)
  refused_totals a b xs ys (Ok backs) e err = absurd (let never : false ≡ true = err in cc never)
  refused_totals a b xs ys (Err x) e err = λ n h. keeps_equal _ _ (ap (λ zs. held_by zs) (sym e) ∙ sym (append-nil (held_by ys))) n

module _ {O : Type 0} (runs : O → ℕ) (last : O → Option (List ℕ)) where
  -- copies take the places of the first i nodes, where those aren't whole: the nodes before and now, all copies and
  -- those that are left, and what was handed back
  pub record Moving (i : ℕ) (old now all left : List (Segment O)) (backs : List (Back O)) : Type 0 where
    pub moved : List (Segment O)
    pub todo : List (Segment O)
    pub now_is : now ≡ moved ++ todo
    pub size : length moved ≡ i
    pub end_is : replaced all old ≡ moved ++ replaced left todo
    pub windows : map (λ (s : Segment O). s.window) left ≡ map (λ (s : Segment O). s.window) (shared_in todo)
    pub gives : HandsBack runs last (shared_in old) (shared_in todo) backs

  pub moving_begin : (old all : List (Segment O))
      → map (λ (s : Segment O). s.window) all ≡ map (λ (s : Segment O). s.window) (shared_in old) → Moving 0 old old all all []
  moving_begin old all windows = record {
    moved = [];
    todo = old;
    now_is = refl;
    size = refl;
    end_is = refl;
    windows = windows;
    gives = hands_begin runs last (shared_in old);
  }

  moving_there : (i : ℕ) (old now all left : List (Segment O)) (backs : List (Back O)) (x : Segment O) (m : Moving i old now all left backs)
      → slice_get now i ≡ Some x → slice_get (m.moved ++ m.todo) (length m.moved) ≡ Some x
  moving_there i old now all left backs x m is =
      ap (λ ys. slice_get ys (length m.moved)) (sym m.now_is) ∙ ap (λ (k : ℕ). slice_get now k) m.size ∙ is

  pub moving_whole : (i : ℕ) (old now all left : List (Segment O)) (backs : List (Back O)) (x : Segment O) → Moving i old now all left backs
      → slice_get now i ≡ Some x → IsWhole x.share → Moving (i + 1) old now all left backs
  moving_whole i old now all left backs x m is w =
      let seam = at_seam m.moved m.todo x x (moving_there i old now all left backs x m is) in
      let tail : List (Segment O) = seam.0 in
      let front : m.todo ≡ x ∷ tail = seam.1 in
      let shared : shared_in m.todo ≡ shared_in tail = ap (λ ys. shared_in ys) front ∙ shared_whole x tail w in
      let P : List (Segment O) → Type 0 = λ ys. HandsBack runs last (shared_in old) ys backs in
      let grown = length-append m.moved (x ∷ []) in
      let size = m.size in
      record {
        moved = m.moved ++ x ∷ [];
        todo = tail;
        now_is = m.now_is ∙ ap (λ ys. m.moved ++ ys) front ∙ sym (append_assoc m.moved (x ∷ []) tail);
        size = omega (arith, grown, size);
        end_is = m.end_is ∙ ap (λ ys. m.moved ++ replaced left ys) front ∙ ap (λ ys. m.moved ++ ys) (replaced_whole left x tail w)
            ∙ sym (append_assoc m.moved (x ∷ []) (replaced left tail));
        windows = m.windows ∙ ap (λ ys. map (λ (s : Segment O). s.window) ys) shared;
        gives = subst P shared m.gives;
      }

  moving_windows : (i : ℕ) (old now all left rest : List (Segment O)) (backs : List (Back O)) (x copy : Segment O) (m : Moving i old now all left backs)
      → slice_get now i ≡ Some x → (¬ IsWhole x.share) → left ≡ copy ∷ rest
      → (tail : List (Segment O)) × (m.todo ≡ x ∷ tail) × (slice_set (m.moved ++ m.todo) (length m.moved) copy ≡ m.moved ++ (copy ∷ tail))
      × (copy.window ∷ map (λ (s : Segment O). s.window) rest ≡ x.window ∷ map (λ (s : Segment O). s.window) (shared_in tail))
  moving_windows i old now all left rest backs x copy m is o next =
      let seam = at_seam m.moved m.todo x copy (moving_there i old now all left backs x m is) in (
        seam.0,
        seam.1,
        seam.2,
        ap (λ ys. map (λ (s : Segment O). s.window) ys) (sym next) ∙ m.windows
            ∙ ap (λ ys. map (λ (s : Segment O). s.window) ys) (ap (λ ys. shared_in ys) seam.1 ∙ shared_other x seam.0 o),
      )

  -- there is a copy for a node that isn't whole
  pub moving_some : (i : ℕ) (old now all left : List (Segment O)) (backs : List (Back O)) (x : Segment O) → Moving i old now all left backs
      → slice_get now i ≡ Some x → (¬ IsWhole x.share) → left ≡ [] → ⊥
  moving_some i old now all left backs x m is o none =
      let seam = at_seam m.moved m.todo x x (moving_there i old now all left backs x m is) in
      let never : [] ≡ x.window ∷ map (λ (s : Segment O). s.window) (shared_in seam.0)
      = ap (λ ys. map (λ (s : Segment O). s.window) ys) (sym none) ∙ m.windows
      ∙ ap (λ ys. map (λ (s : Segment O). s.window) ys) (ap (λ ys. shared_in ys) seam.1 ∙ shared_other x seam.0 o) in
      cc never

  -- with as many bytes
  pub moving_size : (i : ℕ) (old now all left rest : List (Segment O)) (backs : List (Back O)) (x copy : Segment O) → Moving i old now all left backs
      → slice_get now i ≡ Some x → (¬ IsWhole x.share) → left ≡ copy ∷ rest → length copy.window ≡ length x.window
  moving_size i old now all left rest backs x copy m is o next =
      let same = (moving_windows i old now all left rest backs x copy m is o next).3 in
      let window : copy.window ≡ x.window = cc same in
      ap length window

  pub moving_other : (i : ℕ) (old now new all left rest : List (Segment O)) (backs more : List (Back O)) (x copy : Segment O) (b : Back O)
      → Moving i old now all left backs → slice_get now i ≡ Some x → (¬ IsWhole x.share) → left ≡ copy ∷ rest → new ≡ slice_set now i copy
      → more ≡ backs ++ b ∷ [] → GivesBack runs last (hold_of x) b → KeepsTotals (held x.share ∷ []) (stakes_of b) → Moving (i + 1) old new all rest more
  moving_other i old now new all left rest backs more x copy b m is o next put push gives keeps =
      let seam = moving_windows i old now all left rest backs x copy m is o next in
      let tail : List (Segment O) = seam.0 in
      let front : m.todo ≡ x ∷ tail = seam.1 in
      let grown = length-append m.moved (copy ∷ []) in
      let size = m.size in
      let windows = seam.3 in
      record {
        moved = m.moved ++ copy ∷ [];
        todo = tail;
        now_is = put ∙ ap (λ ys. slice_set ys i copy) m.now_is ∙ ap (λ (k : ℕ). slice_set (m.moved ++ m.todo) k copy) (sym m.size) ∙ seam.2
            ∙ sym (append_assoc m.moved (copy ∷ []) tail);
        size = omega (arith, grown, size);
        end_is = m.end_is ∙ ap (λ ys. m.moved ++ replaced left ys) front ∙ ap (λ ys. m.moved ++ replaced ys (x ∷ tail)) next
            ∙ ap (λ ys. m.moved ++ ys) (replaced_other copy rest x tail o) ∙ sym (append_assoc m.moved (copy ∷ []) (replaced rest tail));
        windows = cc windows;
        gives = hands_more runs last (shared_in old) (shared_in m.todo) (shared_in tail) backs more x b m.gives
            (ap (λ ys. shared_in ys) front ∙ shared_other x tail o) push gives keeps;
      }

  pub moving_as : (i : ℕ) (old now new all left rest : List (Segment O)) (backs more : List (Back O)) → Moving i old now all left backs
      → new ≡ now → rest ≡ left → more ≡ backs → Moving i old new all rest more
  moving_as i old now new all left rest backs more m e f h =
      let P : List (Segment O) → Type 0 = λ xs. Moving i old xs all rest more in
      let Q : List (Segment O) → Type 0 = λ xs. Moving i old now all xs more in
      let R : List (Back O) → Type 0 = λ bs. Moving i old now all left bs in
      subst P (sym e) (subst Q (sym f) (subst R (sym h) m))

  pub moving_end : (i : ℕ) (old now all left : List (Segment O)) (backs : List (Back O)) → Moving i old now all left backs → length now ≤ i
      → (now ≡ replaced all old) × (HandBack runs last (shared_in old) backs × KeepsTotals (held_by (shared_in old)) (stakes_in backs))
  moving_end i old now all left backs m h =
      let sizes : length now ≡ length m.moved + length m.todo = ap length m.now_is ∙ length-append m.moved m.todo in
      let size = m.size in
      let none : m.todo ≡ [] = none_of m.todo (omega (arith, sizes, size, h)) in (
        m.now_is ∙ ap (λ ys. m.moved ++ ys) none ∙ sym (m.end_is ∙ ap (λ ys. m.moved ++ replaced left ys) none),
        hands_end runs last (shared_in old) (shared_in m.todo) backs m.gives (ap (λ ys. shared_in ys) none),
      )
