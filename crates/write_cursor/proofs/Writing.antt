-- Bytes that are written over a chain's, node by node.
use Rattle.std.proofs.Common.{◌≡◌, ℕ, suc, zero, ◌+◌, ◌-◌, ◌<◌, ◌≤◌, min, List, [], ◌∷◌, ◌++◌, Option, Some, IfSome, length, take, drop, refl, sym, ap, subst, ◌∙◌, arith, inl, inr, append_assoc, length-append, length-drop, slice_get, slice_set, Bool, true, false, ◌==◌}
use Rattle.std.proofs.lemmas.Option.{none-some}
use Rattle.std.proofs.lemmas.Bool.Decides.{eqb_tells}
use Rattle.std.proofs.lemmas.List.{length-take, take_min, drop_min}
use Rattle.std.proofs.Math.Seq.{drop-nil, take-nil, take-length}
use Rattle.buffer_model.specs.Share.{IsWhole}
use Rattle.buffer_model.specs.Segment.{Segment, overwritten}
use Rattle.buffer_model.specs.Stake.{held, KeepsTotals}
use Rattle.buffer_model.proofs.Totals.{keeps_same, keeps-append}
use Rattle.iobuf_chain.specs.Accounts.{held_by}
use Rattle.iobuf_chain.specs.Lists.{Each, TurnsAt}
use Rattle.iobuf_chain.specs.Shares.{HasSome}
use Rattle.iobuf_chain.proofs.Lists.{at_seam}
use Rattle.write_cursor.specs.Written.{written, written_in, MayWrite}

pub if_some : {X : Type 0} (P : X → Type 0) (o : Option X) (x : X) → o ≡ Some x → IfSome o P → P x
if_some {X = X} P o x e h = let Q : Option X → Type 0 = λ z. IfSome z P in subst Q e h

pub some_if : {X : Type 0} (P : X → Type 0) (o : Option X) (x : X) → o ≡ Some x → P x → IfSome o P
some_if {X = X} P o x e h = let Q : Option X → Type 0 = λ z. IfSome z P in subst Q (sym e) h

-- an item stays where it is put in its own place
pub set_same : {X : Type 0} (i : ℕ) (xs : List X) (x : X) → slice_get xs i ≡ Some x → xs ≡ slice_set xs i x
set_same i [] x e = absurd (none-some x e)
set_same zero (y ∷ ys) x e = let same : y ≡ x = cc in ap (λ z. z ∷ ys) same
set_same (suc i) (y ∷ ys) x e = ap (λ zs. y ∷ zs) (set_same i ys x e)

pub rest_is : (bytes : List ℕ) (n : ℕ) → take (length bytes - n) (drop n bytes) ≡ drop n bytes
rest_is bytes n = ap (λ (k : ℕ). take k (drop n bytes)) (sym (length-drop n bytes)) ∙ take-length (drop n bytes)

pub length-overwritten : (block : List ℕ) (at : ℕ) (bytes : List ℕ) → at + length bytes ≤ length block
    → length (overwritten block at bytes) ≡ length block
length-overwritten block at bytes fits =
    let a = length-append (take at block) (bytes ++ drop (at + length bytes) block) in
    let b = length-append bytes (drop (at + length bytes) block) in
    let d = length-take at block in
    let e = length-drop (at + length bytes) block in
    omega (arith, a, b, d, e, fits)

-- what a test for no item tells
pub empty_is : (b : Bool) (n : ℕ) → b ≡ (n == 0) → b ≡ true → n ≡ 0
empty_is b n e t = elim (eqb_tells n 0) [
  | inl same ↦ same.1
  | inr other ↦ absurd (let never : true ≡ false = sym t ∙ e ∙ other.0 in cc never)
]

pub some_is : (b : Bool) (n : ℕ) → b ≡ (n == 0) → b ≡ false → 0 < n
some_is b n e f = elim (eqb_tells n 0) [
  | inl same ↦ absurd (let never : false ≡ true = sym f ∙ e ∙ same.0 in cc never)
  | inr other ↦ let no_one = other.1 in omega (arith, no_one)
]

none_of : {X : Type 0} (xs : List X) → length xs ≤ 0 → xs ≡ []
none_of [] h = refl
none_of (x ∷ xs) h = absurd (omega arith)

module _ {O : Type 0} where
  pub in_nothing : (at : ℕ) (bytes : List ℕ) (s : Segment O) → length bytes ≡ 0 → s ≡ written_in at bytes s
  in_nothing at [] s e = refl
  in_nothing at (b ∷ bs) s e = absurd (omega (arith, e))

  pub in_size : (at : ℕ) (bytes : List ℕ) (s : Segment O) → at + length bytes ≤ length s.window
      → length (written_in at bytes s).window ≡ length s.window
  in_size at [] s fits = refl
  in_size at (b ∷ bs) s fits = length-overwritten s.window at (b ∷ bs) fits

  in_keeps : (at : ℕ) (bytes : List ℕ) (s : Segment O) → KeepsTotals (held s.share ∷ []) (held (written_in at bytes s).share ∷ [])
  in_keeps at [] s = keeps_same (held s.share ∷ [])
  in_keeps at (b ∷ bs) s = λ n. record { total = refl; way = λ kind is. is }

  pub written_none : (p : ℕ) (ss : List (Segment O)) → written p [] ss ≡ ss
  written_none p [] = refl
  written_none p (s ∷ ss) =
      let n = length s.window - p in
      let q = p - length s.window in
      ap (λ xs. written_in p xs s ∷ written q (drop n []) ss) (take-nil n) ∙ ap (λ xs. s ∷ written q xs ss) (drop-nil n)
      ∙ ap (λ xs. s ∷ xs) (written_none q ss)

  pub written_keeps : (p : ℕ) (bs : List ℕ) (ss : List (Segment O)) → KeepsTotals (held_by ss) (held_by (written p bs ss))
  written_keeps p bs [] = keeps_same []
  written_keeps p bs (s ∷ ss) = λ n.
      keeps-append n (held s.share ∷ []) (held_by ss) _ _ (in_keeps p (take (length s.window - p) bs) s n)
      (written_keeps (p - length s.window) (drop (length s.window - p) bs) ss n)

  pub kept_as : (p : ℕ) (bs : List ℕ) (ss after : List (Segment O)) → after ≡ written p bs ss → KeepsTotals (held_by ss) (held_by after)
  kept_as p bs ss after is =
      let P : List (Segment O) → Type 0 = λ xs. KeepsTotals (held_by ss) (held_by xs) in subst P (sym is) (written_keeps p bs ss)

  whole_in : (p : ℕ) (bs : List ℕ) (s : Segment O) → IsWhole s.share → IsWhole (written_in p bs s).share
  whole_in p [] s e = e
  whole_in p (b ∷ bs) s e = e

  whole_written : (p : ℕ) (bs : List ℕ) (ss : List (Segment O)) → Each (λ s. IsWhole s.share) ss → Each (λ s. IsWhole s.share) (written p bs ss)
  whole_written p bs [] e = tt
  whole_written p bs (s ∷ ss) e =
      (whole_in p (take (length s.window - p) bs) s e.0, whole_written (p - length s.window) (drop (length s.window - p) bs) ss e.1)

  pub each_written : (p : ℕ) (bs : List ℕ) (ss after : List (Segment O)) → after ≡ written p bs ss → Each (λ s. IsWhole s.share) ss
      → Each (λ s. IsWhole s.share) after
  each_written p bs ss after is all =
      let P : List (Segment O) → Type 0 = λ xs. Each (λ s. IsWhole s.share) xs in subst P (sym is) (whole_written p bs ss all)

  pub all_whole : (p n : ℕ) (ss : List (Segment O)) → Each (λ s. IsWhole s.share) ss → MayWrite p n ss
  all_whole p n [] e = tt
  all_whole p n (s ∷ ss) e = ((λ _. e.0), all_whole (p - length s.window) (n - (length s.window - p)) ss e.1)

  -- the first i nodes took their bytes: the nodes before and now, from which place behind them the rest is to be written
  pub record Writing (p : ℕ) (bs : List ℕ) (i : ℕ) (old now : List (Segment O)) (at : ℕ) (rest : List ℕ) : Type 0 where
    pub moved : List (Segment O)
    pub todo : List (Segment O)
    pub now_is : now ≡ moved ++ todo
    pub size : length moved ≡ i
    pub end_is : written p bs old ≡ moved ++ written at rest todo
    pub may : MayWrite at (length rest) todo

  pub writing_begin : (p : ℕ) (bs : List ℕ) (old : List (Segment O)) → MayWrite p (length bs) old → Writing p bs 0 old old p bs
  writing_begin p bs old may = record { moved = []; todo = old; now_is = refl; size = refl; end_is = refl; may = may }

  writing_there : (p : ℕ) (bs : List ℕ) (i : ℕ) (old now : List (Segment O)) (at : ℕ) (rest : List ℕ) (x y : Segment O) (w : Writing p bs i old now at rest)
      → slice_get now i ≡ Some x
      → (tail : List (Segment O)) × (w.todo ≡ x ∷ tail) × (slice_set (w.moved ++ w.todo) (length w.moved) y ≡ w.moved ++ (y ∷ tail))
  writing_there p bs i old now at rest x y w is =
      at_seam w.moved w.todo x y (ap (λ ys. slice_get ys (length w.moved)) (sym w.now_is) ∙ ap (λ (k : ℕ). slice_get now k) w.size ∙ is)

  -- the next node is whole, where it has some of the bytes
  pub writing_whole : (p : ℕ) (bs : List ℕ) (i : ℕ) (old now : List (Segment O)) (at : ℕ) (rest : List ℕ) (x : Segment O) → Writing p bs i old now at rest
      → slice_get now i ≡ Some x → HasSome at (length rest) x → IsWhole x.share
  writing_whole p bs i old now at rest x w is has =
      let seam = writing_there p bs i old now at rest x x w is in
      let P : List (Segment O) → Type 0 = λ ys. MayWrite at (length rest) ys in
      (subst P seam.1 w.may).0 has

  pub writing_next : (p : ℕ) (bs : List ℕ) (i : ℕ) (old now new : List (Segment O)) (at next len sub n : ℕ) (rest piece more : List ℕ) (x : Segment O)
      → Writing p bs i old now at rest → slice_get now i ≡ Some x → TurnsAt (written_in at piece) i now new
      → len ≡ length x.window → sub ≡ len - at → n ≡ min sub (length rest) → piece ≡ take n rest → more ≡ drop n rest → next ≡ at - len
      → Writing p bs (i + 1) old new next more
  writing_next p bs i old now new at next len sub n rest piece more x w is turns size most few first last off =
      let same : turns.item ≡ x = cc (turns.there, is) in
      let k : ℕ = length x.window - at in
      let n_is : n ≡ min k (length rest) = omega (arith, size, most, few) in
      let piece_is : piece ≡ take k rest = first ∙ ap (λ (m : ℕ). take m rest) n_is ∙ take_min k rest in
      let more_is : more ≡ drop k rest = last ∙ ap (λ (m : ℕ). drop m rest) n_is ∙ drop_min k rest in
      let next_is : next ≡ at - length x.window = omega (arith, size, off) in
      let y : Segment O = written_in at (take k rest) x in
      let put : new ≡ slice_set now i y = turns.turned ∙ ap (λ z. slice_set now i (written_in at piece z)) same ∙ ap (λ bs. slice_set now i (written_in at bs x)) piece_is in
      let seam = writing_there p bs i old now at rest x y w is in
      let tail : List (Segment O) = seam.0 in
      let P : List (Segment O) → Type 0 = λ ys. MayWrite at (length rest) ys in
      let may : MayWrite (at - length x.window) (length rest - k) tail = (subst P seam.1 w.may).1 in
      let grown = length-append w.moved (y ∷ []) in
      let count = w.size in
      let Q : ℕ → List ℕ → Type 0 = λ m xs. Writing p bs (i + 1) old new m xs in
      let R : ℕ → Type 0 = λ m. MayWrite (at - length x.window) m tail in
      let end : Writing p bs (i + 1) old new (at - length x.window) (drop k rest) = record {
        moved = w.moved ++ y ∷ [];
        todo = tail;
        now_is = put ∙ ap (λ ys. slice_set ys i y) w.now_is ∙ ap (λ (m : ℕ). slice_set (w.moved ++ w.todo) m y) (sym w.size) ∙ seam.2
            ∙ sym (append_assoc w.moved (y ∷ []) tail);
        size = omega (arith, grown, count);
        end_is = w.end_is ∙ ap (λ ys. w.moved ++ written at rest ys) seam.1
            ∙ sym (append_assoc w.moved (y ∷ []) (written (at - length x.window) (drop k rest) tail));
        may = subst R (sym (length-drop k rest)) may;
      } in
      let S : List ℕ → Type 0 = λ xs. Writing p bs (i + 1) old new (at - length x.window) xs in
      let T : ℕ → Type 0 = λ m. Writing p bs (i + 1) old new m more in
      subst T (sym next_is) (subst S (sym more_is) end)

  pub writing_done : (p : ℕ) (bs : List ℕ) (i : ℕ) (old now : List (Segment O)) (at : ℕ) (rest : List ℕ) → Writing p bs i old now at rest → length rest ≡ 0
      → now ≡ written p bs old
  writing_done p bs i old now at rest w none =
      let empty : rest ≡ [] = none_of rest (omega (arith, none)) in
      w.now_is ∙ ap (λ ys. w.moved ++ ys) (sym (written_none at w.todo)) ∙ ap (λ xs. w.moved ++ written at xs w.todo) (sym empty) ∙ sym w.end_is

  pub writing_end : (p : ℕ) (bs : List ℕ) (i : ℕ) (old now : List (Segment O)) (at : ℕ) (rest : List ℕ) → Writing p bs i old now at rest → length now ≤ i
      → now ≡ written p bs old
  writing_end p bs i old now at rest w all =
      let sizes : length now ≡ length w.moved + length w.todo = ap length w.now_is ∙ length-append w.moved w.todo in
      let size = w.size in
      let none : w.todo ≡ [] = none_of w.todo (omega (arith, sizes, size, all)) in
      w.now_is ∙ ap (λ ys. w.moved ++ ys) none ∙ sym (w.end_is ∙ ap (λ ys. w.moved ++ written at rest ys) none)
