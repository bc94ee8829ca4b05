-- Chains that lose bytes at an end.
use Rattle.std.proofs.Common.{◌≡◌, ℕ, suc, zero, ◌+◌, ◌-◌, ◌<◌, ◌≤◌, min, List, [], ◌∷◌, ◌++◌, Option, Some, None, length, take, drop, refl, sym, ap, subst, ◌∙◌, append_assoc, arith, add-one, length-append, length-drop, slice_get, slice_set}
use Rattle.std.proofs.lemmas.List.{append-nil, take_min, drop_min, length-take-le, take-append-drop}
use Rattle.std.proofs.Math.Seq.{take-length, drop-length, drop-nil}
use Rattle.buffer_model.specs.Segment.{Segment, bytes_of, trimmed_start, trimmed_end, shared_as}
use Rattle.buffer_model.specs.Stake.{KeepsTotals, held}
use Rattle.iobuf_chain.specs.Accounts.{held_by}
use Rattle.iobuf_chain.specs.Lists.{TurnsAt}
use Rattle.iobuf_chain.specs.Trims.{trimmed_front, trimmed_back}
use Rattle.iobuf_chain.proofs.Lists.{at_seam, before_seam}
use Rattle.iobuf_chain.proofs.Bytes.{sum-append, bytes_of-append}
use Rattle.iobuf_chain.proofs.Accounts.{same_nodes}

-- what two lists joined lose at the front, or keep there
pub drop-joined : {X : Type 0} (n : ℕ) (xs ys : List X) → drop n (xs ++ ys) ≡ drop n xs ++ drop (n - length xs) ys
drop-joined zero xs ys = ap (λ (m : ℕ). xs ++ drop m ys) (let e : zero ≡ zero - length xs = omega arith in e)
drop-joined (suc n) [] ys = ap (λ (m : ℕ). drop m ys) (let e : suc n ≡ suc n - 0 = omega arith in e)
drop-joined (suc n) (x ∷ xs) ys =
    drop-joined n xs ys ∙ ap (λ (m : ℕ). drop n xs ++ drop m ys) (let e : n - length xs ≡ suc n - suc (length xs) = omega arith in e)

pub take-joined : {X : Type 0} (n : ℕ) (xs ys : List X) → take n (xs ++ ys) ≡ take n xs ++ take (n - length xs) ys
take-joined zero xs ys = ap (λ (m : ℕ). take m ys) (let e : zero ≡ zero - length xs = omega arith in e)
take-joined (suc n) [] ys = ap (λ (m : ℕ). take m ys) (let e : suc n ≡ suc n - 0 = omega arith in e)
take-joined (suc n) (x ∷ xs) ys =
    ap (λ zs. x ∷ zs) (take-joined n xs ys ∙ ap (λ (m : ℕ). take n xs ++ take m ys) (let e : n - length xs ≡ suc n - suc (length xs) = omega arith in e))

module _ {O : Type 0} where
  -- a window that loses nothing
  start_zero : (s : Segment O) → trimmed_start 0 s ≡ s
  start_zero s = ap (λ xs. record s { before = xs }) (append-nil s.before)

  end_zero : (s : Segment O) → trimmed_end 0 s ≡ s
  end_zero s =
      let all : length s.window - 0 ≡ length s.window = omega arith in
      ap (λ (k : ℕ). record s { window = take k s.window; after = drop k s.window ++ s.after }) all
      ∙ ap (λ xs. record s { window = xs; after = drop (length s.window) s.window ++ s.after }) (take-length s.window)
      ∙ ap (λ xs. record s { after = xs ++ s.after }) (drop-length s.window)

  -- it loses no more than it has
  start_min : (n : ℕ) (s : Segment O) → trimmed_start (min n (length s.window)) s ≡ trimmed_start n s
  start_min n s =
      ap (λ xs. record s { before = s.before ++ xs; window = drop (min n (length s.window)) s.window }) (take_min n s.window)
      ∙ ap (λ xs. record s { before = s.before ++ take n s.window; window = xs }) (drop_min n s.window)

  end_min : (n : ℕ) (s : Segment O) → trimmed_end (min n (length s.window)) s ≡ trimmed_end n s
  end_min n s =
      ap (λ (k : ℕ). record s { window = take k s.window; after = drop k s.window ++ s.after })
      (let e : length s.window - min n (length s.window) ≡ length s.window - n = omega arith in e)

  front_zero : (ss : List (Segment O)) → trimmed_front 0 ss ≡ ss
  front_zero [] = refl
  front_zero (s ∷ ss) =
      ap (λ t. t ∷ trimmed_front (0 - length s.window) ss) (start_zero s)
      ∙ ap (λ (n : ℕ). s ∷ trimmed_front n ss) (let e : 0 - length s.window ≡ 0 = omega arith in e) ∙ ap (λ ts. s ∷ ts) (front_zero ss)

  back_zero : (ss : List (Segment O)) → trimmed_back 0 ss ≡ ss
  back_zero [] = refl
  back_zero (s ∷ ss) =
      ap (λ (n : ℕ). trimmed_end n s ∷ trimmed_back 0 ss) (let e : 0 - length (bytes_of ss) ≡ 0 = omega arith in e)
      ∙ ap (λ t. t ∷ trimmed_back 0 ss) (end_zero s) ∙ ap (λ ts. s ∷ ts) (back_zero ss)

  -- the last node loses first
  back-push : (n : ℕ) (ss : List (Segment O)) (x : Segment O)
      → trimmed_back n (ss ++ x ∷ []) ≡ trimmed_back (n - length x.window) ss ++ trimmed_end n x ∷ []
  back-push n [] x = ap (λ (m : ℕ). trimmed_end m x ∷ []) (let e : n - 0 ≡ n = omega arith in e)
  back-push n (s ∷ ss) x =
      let sums = sum-append ss (x ∷ []) in
      let one = length-append x.window [] in
      let e : n - length (bytes_of (ss ++ x ∷ [])) ≡ n - length x.window - length (bytes_of ss) = omega (arith, sums, one) in
      ap (λ (m : ℕ). trimmed_end m s ∷ trimmed_back n (ss ++ x ∷ [])) e ∙ ap (λ ts. trimmed_end (n - length x.window - length (bytes_of ss)) s ∷ ts) (back-push n ss x)

  pub length-front : (n : ℕ) (ss : List (Segment O)) → length (trimmed_front n ss) ≡ length ss
  length-front n [] = refl
  length-front n (s ∷ ss) = ap (λ (m : ℕ). suc m) (length-front (n - length s.window) ss)

  pub length-back : (n : ℕ) (ss : List (Segment O)) → length (trimmed_back n ss) ≡ length ss
  length-back n [] = refl
  length-back n (s ∷ ss) = ap (λ (m : ℕ). suc m) (length-back n ss)

  -- the nodes up to place i are done, and so many bytes are left to leave behind them
  pub record TrimsFront (n i left : ℕ) (old now : List (Segment O)) : Type 0 where
    pub done : List (Segment O)
    pub todo : List (Segment O)
    pub now_is : now ≡ done ++ todo
    pub place : i ≡ length done
    pub goal_is : trimmed_front n old ≡ done ++ trimmed_front left todo
    pub enough : left ≤ length (bytes_of todo)

  pub front_begins : (n : ℕ) (old : List (Segment O)) → n ≤ length (bytes_of old) → TrimsFront n 0 n old old
  front_begins n old h = record { done = []; todo = old; now_is = refl; place = refl; goal_is = refl; enough = h }

  pub front_there : (n i left : ℕ) (old now : List (Segment O)) → TrimsFront n i left old now → 0 < left → i < length now
  front_there n i left old now t some =
      let sizes = ap length t.now_is ∙ length-append t.done t.todo in
      let place = t.place in
      elim t.todo as (λ todo. left ≤ length (bytes_of todo) → length now ≡ length t.done + length todo → i < length now) [
        | [] ↦ λ h e. absurd (omega arith)
        | (x ∷ xs) ↦ λ h e. omega arith
      ] t.enough sizes

  -- no step changes how many nodes there are
  pub front_size : (n i left : ℕ) (old now : List (Segment O)) → TrimsFront n i left old now → length now ≡ length old
  front_size n i left old now t =
      ap length t.now_is ∙ length-append t.done t.todo ∙ ap (λ (m : ℕ). length t.done + m) (sym (length-front left t.todo))
      ∙ sym (length-append t.done (trimmed_front left t.todo)) ∙ ap length (sym t.goal_is) ∙ length-front n old

  pub front_steps : (n i left k : ℕ) (old now new : List (Segment O)) (x : Segment O) → TrimsFront n i left old now → slice_get now i ≡ Some x
      → k ≡ min left (length x.window) → TurnsAt (trimmed_start k) i now new → TrimsFront n (i + 1) (left - k) old new
  front_steps n i left k old now new x t is e turns =
      let y : Segment O = trimmed_start k x in
      let here : slice_get (t.done ++ t.todo) (length t.done) ≡ Some x
      = ap (λ (m : ℕ). slice_get (t.done ++ t.todo) m) (sym t.place) ∙ ap (λ xs. slice_get xs i) (sym t.now_is) ∙ is in
      let seam = at_seam t.done t.todo x y here in
      let tail : List (Segment O) = seam.0 in
      let todo : t.todo ≡ x ∷ tail = seam.1 in
      let same : turns.item ≡ x = cc (turns.there, is) in
      let set : new ≡ t.done ++ (y ∷ tail)
      = turns.turned ∙ ap (λ z. slice_set now i (trimmed_start k z)) same ∙ ap (λ xs. slice_set xs i y) t.now_is
      ∙ ap (λ (m : ℕ). slice_set (t.done ++ t.todo) m y) t.place ∙ seam.2 in
      let longer = length-append t.done (y ∷ []) in
      let place = t.place in
      let sums : length (bytes_of t.todo) ≡ length x.window + length (bytes_of tail) = ap (λ ts. length (bytes_of ts)) todo ∙ length-append x.window (bytes_of tail) in
      let enough = t.enough in
      let fewer : left - length x.window ≡ left - k = omega arith in
      let loses : trimmed_start left x ≡ y = sym (start_min left x) ∙ ap (λ (m : ℕ). trimmed_start m x) (sym e) in
      record {
        done = t.done ++ y ∷ [];
        todo = tail;
        now_is = set ∙ sym (append_assoc t.done (y ∷ []) tail);
        place = omega arith;
        goal_is =
            t.goal_is ∙ ap (λ ts. t.done ++ trimmed_front left ts) todo ∙ ap (λ z. t.done ++ (z ∷ trimmed_front (left - length x.window) tail)) loses
            ∙ ap (λ (m : ℕ). t.done ++ (y ∷ trimmed_front m tail)) fewer ∙ sym (append_assoc t.done (y ∷ []) (trimmed_front (left - k) tail));
        enough = omega arith;
      }

  pub front_ends : (n i left : ℕ) (old now : List (Segment O)) → TrimsFront n i left old now → left ≡ 0 → now ≡ trimmed_front n old
  front_ends n i left old now t none =
      t.now_is ∙ ap (λ ts. t.done ++ ts) (sym (front_zero t.todo)) ∙ ap (λ (m : ℕ). t.done ++ trimmed_front m t.todo) (sym none) ∙ sym t.goal_is

  pub bytes_of-front : (n : ℕ) (ss : List (Segment O)) → bytes_of (trimmed_front n ss) ≡ drop n (bytes_of ss)
  bytes_of-front n [] = sym (drop-nil n)
  bytes_of-front n (s ∷ ss) = ap (λ bs. drop n s.window ++ bs) (bytes_of-front (n - length s.window) ss) ∙ sym (drop-joined n s.window (bytes_of ss))

  pub held_by-front : (n : ℕ) (ss : List (Segment O)) → held_by (trimmed_front n ss) ≡ held_by ss
  held_by-front n [] = refl
  held_by-front n (s ∷ ss) = ap (λ hs. held s.share ∷ hs) (held_by-front (n - length s.window) ss)

  pub held_by-back : (n : ℕ) (ss : List (Segment O)) → held_by (trimmed_back n ss) ≡ held_by ss
  held_by-back n [] = refl
  held_by-back n (s ∷ ss) = ap (λ hs. held s.share ∷ hs) (held_by-back n ss)

  -- the nodes from place i on are done, and so many bytes are left to leave before them
  pub record TrimsBack (n i left : ℕ) (old now : List (Segment O)) : Type 0 where
    pub todo : List (Segment O)
    pub done : List (Segment O)
    pub now_is : now ≡ todo ++ done
    pub place : i ≡ length todo
    pub goal_is : trimmed_back n old ≡ trimmed_back left todo ++ done
    pub enough : left ≤ length (bytes_of todo)

  pub back_begins : (n i : ℕ) (old : List (Segment O)) → n ≤ length (bytes_of old) → i ≡ length old → TrimsBack n i n old old
  back_begins n i old h e = record {
    todo = old;
    done = [];
    now_is = sym (append-nil old);
    place = e;
    goal_is = sym (append-nil (trimmed_back n old));
    enough = h;
  }

  pub back_there : (n i left : ℕ) (old now : List (Segment O)) → TrimsBack n i left old now → 0 < left → (0 < i) × (i ≤ length now)
  back_there n i left old now t some =
      let sizes = ap length t.now_is ∙ length-append t.todo t.done in
      let place = t.place in
      elim t.todo as (λ todo. left ≤ length (bytes_of todo) → length now ≡ length todo + length t.done → i ≡ length todo → (0 < i) × (i ≤ length now)) [
        | [] ↦ λ h e l. absurd (omega arith)
        | (x ∷ xs) ↦ λ h e l. (omega arith, omega arith)
      ] t.enough sizes place

  pub back_steps : (n i j left k : ℕ) (old now new : List (Segment O)) (x : Segment O) → TrimsBack n i left old now → suc j ≡ i → slice_get now j ≡ Some x
      → k ≡ min left (length x.window) → TurnsAt (trimmed_end k) j now new → TrimsBack n j (left - k) old new
  back_steps n i j left k old now new x t last is e turns =
      let y : Segment O = trimmed_end k x in
      let place = t.place in
      let here : slice_get (t.todo ++ t.done) j ≡ Some x = ap (λ xs. slice_get xs j) (sym t.now_is) ∙ is in
      let seam = before_seam j t.todo t.done x y (omega arith) here in
      let front : List (Segment O) = take j t.todo in
      let todo : t.todo ≡ front ++ x ∷ [] = seam.0 in
      let same : turns.item ≡ x = cc (turns.there, is) in
      let set : new ≡ front ++ (y ∷ t.done)
      = turns.turned ∙ ap (λ z. slice_set now j (trimmed_end k z)) same ∙ ap (λ xs. slice_set xs j y) t.now_is ∙ seam.1 in
      let low = length-take-le j t.todo (omega arith) in
      let sums : length (bytes_of t.todo) ≡ length (bytes_of front) + length (bytes_of (x ∷ [])) = ap (λ ts. length (bytes_of ts)) todo ∙ sum-append front (x ∷ []) in
      let one = length-append x.window [] in
      let enough = t.enough in
      let fewer : left - length x.window ≡ left - k = omega arith in
      let loses : trimmed_end left x ≡ y = sym (end_min left x) ∙ ap (λ (m : ℕ). trimmed_end m x) (sym e) in
      record {
        todo = front;
        done = y ∷ t.done;
        now_is = set;
        place = sym low;
        goal_is =
            t.goal_is ∙ ap (λ ts. trimmed_back left ts ++ t.done) todo ∙ ap (λ ts. ts ++ t.done) (back-push left front x)
            ∙ append_assoc (trimmed_back (left - length x.window) front) (trimmed_end left x ∷ []) t.done
            ∙ ap (λ (m : ℕ). trimmed_back m front ++ (trimmed_end left x ∷ t.done)) fewer
            ∙ ap (λ z. trimmed_back (left - k) front ++ (z ∷ t.done)) loses;
        enough = omega arith;
      }

  pub back_ends : (n i left : ℕ) (old now : List (Segment O)) → TrimsBack n i left old now → left ≡ 0 → now ≡ trimmed_back n old
  back_ends n i left old now t none =
      t.now_is ∙ ap (λ ts. ts ++ t.done) (sym (back_zero t.todo)) ∙ ap (λ (m : ℕ). trimmed_back m t.todo ++ t.done) (sym none) ∙ sym t.goal_is

  pub bytes_of-back : (n : ℕ) (ss : List (Segment O)) → bytes_of (trimmed_back n ss) ≡ take (length (bytes_of ss) - n) (bytes_of ss)
  bytes_of-back n [] = ap (λ (m : ℕ). take m []) (let e : 0 ≡ 0 - n = omega arith in e)
  bytes_of-back n (s ∷ ss) =
      let w : List ℕ = s.window in
      let r : List ℕ = bytes_of ss in
      let all = length-append w r in
      let first : take (length w - (n - length r)) w ≡ take (length (w ++ r) - n) w
      = ap (λ (m : ℕ). take m w) (let e : length w - (n - length r) ≡ min (length (w ++ r) - n) (length w) = omega arith in e) ∙ take_min (length (w ++ r) - n) w in
      ap (λ bs. take (length w - (n - length r)) w ++ bs) (bytes_of-back n ss)
      ∙ ap (λ bs. bs ++ take (length r - n) r) first
      ∙ ap (λ (m : ℕ). take (length (w ++ r) - n) w ++ take m r) (let e : length r - n ≡ length (w ++ r) - n - length w = omega arith in e)
      ∙ sym (take-joined (length (w ++ r) - n) w r)
