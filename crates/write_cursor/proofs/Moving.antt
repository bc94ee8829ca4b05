-- Copies that take the places of the nodes that leave.
use Rattle.std.proofs.Common.{◌≡◌, ℕ, ◌+◌, ◌-◌, ◌≤◌, Bool, true, false, cond, List, [], ◌∷◌, ◌++◌, Option, Some, length, drop, map, refl, sym, ap, subst, ◌∙◌, append_assoc, arith, length-append, slice_get, slice_set, unwrap_or}
use Rattle.buffer_model.specs.Segment.{Segment, hold_of}
use Rattle.buffer_model.specs.Stake.{held, KeepsTotals}
use Rattle.storage.specs.declared.back.Back.{Back}
use Rattle.storage.specs.Back.{GivesBack, stakes_of, stakes_in}
use Rattle.iobuf_chain.specs.Accounts.{held_by}
use Rattle.iobuf_chain.proofs.Lists.{at_seam}
use Rattle.iobuf_chain.proofs.GivenBack.{HandsBack, hands_begin, hands_more, hands_end}
use Rattle.chain_unshare.specs.Backs.{HandBack}
use Rattle.chain_unshare.proofs.Unsharing.{none_of}
use Rattle.write_cursor.specs.Leaving.{leaves, leaving, moved_out}
use Rattle.write_cursor.proofs.Copying.{leaving_yes, leaving_no}

abbrev windows : {O : Type 0} → List (Segment O) → List (List ℕ)
windows xs = map (λ s. s.window) xs

module _ {O : Type 0} where
  pub moved_yes : (o : Segment O) (os : List (Segment O)) (at n : ℕ) (x : Segment O) (xs : List (Segment O)) → leaves at n x ≡ true
      → moved_out (o ∷ os) at n (x ∷ xs) ≡ o ∷ moved_out os (at - length x.window) (n - (length x.window - at)) xs
  moved_yes o os at n x xs e =
      let to : ℕ = at - length x.window in
      let of : ℕ = n - (length x.window - at) in
      ap (λ (b : Bool). cond b (o ∷ moved_out os to of xs) (x ∷ moved_out (o ∷ os) to of xs)) e

  pub moved_no : (os : List (Segment O)) (at n : ℕ) (x : Segment O) (xs : List (Segment O)) → leaves at n x ≡ false
      → moved_out os at n (x ∷ xs) ≡ x ∷ moved_out os (at - length x.window) (n - (length x.window - at)) xs
  moved_no os at n x xs e =
      let to : ℕ = at - length x.window in
      let of : ℕ = n - (length x.window - at) in
      ap (λ (b : Bool). cond b (unwrap_or (slice_get os 0) x ∷ moved_out (drop 1 os) to of xs) (x ∷ moved_out os to of xs)) e

module _ {O : Type 0} (runs : O → ℕ) (last : O → Option (List ℕ)) where
  -- copies took the places of the first i nodes, where those leave: the nodes before and now, all copies and those that
  -- are left, what was handed back, and from which place how many bytes are to come
  pub record Moving (p n i : ℕ) (old now all rest : List (Segment O)) (backs : List (Back O)) (at left : ℕ) : Type 0 where
    pub moved : List (Segment O)
    pub todo : List (Segment O)
    pub now_is : now ≡ moved ++ todo
    pub size : length moved ≡ i
    pub end_is : moved_out all p n old ≡ moved ++ moved_out rest at left todo
    pub sizes : map (λ (s : Segment O). s.window) rest ≡ map (λ (s : Segment O). s.window) (leaving at left todo)
    pub gives : HandsBack runs last (leaving p n old) (leaving at left todo) backs

  pub moving_begin : (p n : ℕ) (old all : List (Segment O)) (backs : List (Back O)) → backs ≡ []
      → map (λ (s : Segment O). s.window) all ≡ map (λ (s : Segment O). s.window) (leaving p n old) → Moving p n 0 old old all all backs p n
  moving_begin p n old all backs none sizes =
      let P : List (Back O) → Type 0 = λ bs. HandsBack runs last (leaving p n old) (leaving p n old) bs in
      record {
        moved = [];
        todo = old;
        now_is = refl;
        size = refl;
        end_is = refl;
        sizes = sizes;
        gives = subst P (sym none) (hands_begin runs last (leaving p n old));
      }

  moving_there : (p n i : ℕ) (old now all rest : List (Segment O)) (backs : List (Back O)) (at left : ℕ) (x y : Segment O)
      (w : Moving p n i old now all rest backs at left) → slice_get now i ≡ Some x
      → (tail : List (Segment O)) × (w.todo ≡ x ∷ tail) × (slice_set (w.moved ++ w.todo) (length w.moved) y ≡ w.moved ++ (y ∷ tail))
  moving_there p n i old now all rest backs at left x y w is =
      at_seam w.moved w.todo x y (ap (λ ys. slice_get ys (length w.moved)) (sym w.now_is) ∙ ap (λ (k : ℕ). slice_get now k) w.size ∙ is)

  pub moving_no : (p n i : ℕ) (old now all rest : List (Segment O)) (backs : List (Back O)) (at left : ℕ) (x : Segment O)
      → Moving p n i old now all rest backs at left → slice_get now i ≡ Some x → leaves at left x ≡ false
      → Moving p n (i + 1) old now all rest backs (at - length x.window) (left - (length x.window - at))
  moving_no p n i old now all rest backs at left x w is stays_so =
      let seam = moving_there p n i old now all rest backs at left x x w is in
      let tail : List (Segment O) = seam.0 in
      let to : ℕ = at - length x.window in
      let of : ℕ = left - (length x.window - at) in
      let same : leaving at left w.todo ≡ leaving to of tail = ap (λ ys. leaving at left ys) seam.1 ∙ leaving_no at left x tail stays_so in
      let P : List (Segment O) → Type 0 = λ ys. HandsBack runs last (leaving p n old) ys backs in
      let grown = length-append w.moved (x ∷ []) in
      let count = w.size in
      record {
        moved = w.moved ++ x ∷ [];
        todo = tail;
        now_is = w.now_is ∙ ap (λ ys. w.moved ++ ys) seam.1 ∙ sym (append_assoc w.moved (x ∷ []) tail);
        size = omega (arith, grown, count);
        end_is = w.end_is ∙ ap (λ ys. w.moved ++ moved_out rest at left ys) seam.1 ∙ ap (λ ys. w.moved ++ ys) (moved_no rest at left x tail stays_so)
            ∙ sym (append_assoc w.moved (x ∷ []) (moved_out rest to of tail));
        sizes = w.sizes ∙ ap (λ ys. map (λ (s : Segment O). s.window) ys) same;
        gives = subst P same w.gives;
      }

  moving_sizes : (p n i : ℕ) (old now all rest : List (Segment O)) (backs : List (Back O)) (at left : ℕ) (x : Segment O)
      (w : Moving p n i old now all rest backs at left) → slice_get now i ≡ Some x → leaves at left x ≡ true → (tail : List (Segment O)) × (w.todo ≡ x ∷ tail)
      × (map (λ (s : Segment O). s.window) rest
      ≡ x.window ∷ map (λ (s : Segment O). s.window) (leaving (at - length x.window) (left - (length x.window - at)) tail))
  moving_sizes p n i old now all rest backs at left x w is does =
      let seam = moving_there p n i old now all rest backs at left x x w is in (
        seam.0,
        seam.1,
        w.sizes ∙ ap (λ ys. map (λ (s : Segment O). s.window) ys) (ap (λ ys. leaving at left ys) seam.1 ∙ leaving_yes at left x seam.0 does),
      )

  -- there is a copy for a node that leaves
  pub moving_some : (p n i : ℕ) (old now all rest : List (Segment O)) (backs : List (Back O)) (at left : ℕ) (x : Segment O)
      → Moving p n i old now all rest backs at left → slice_get now i ≡ Some x → leaves at left x ≡ true → rest ≡ [] → ⊥
  moving_some p n i old now all rest backs at left x w is does none =
      let s = moving_sizes p n i old now all rest backs at left x w is does in
      let never : [] ≡ x.window ∷ map (λ (s : Segment O). s.window) (leaving (at - length x.window) (left - (length x.window - at)) s.0)
      = ap (λ ys. map (λ (s : Segment O). s.window) ys) (sym none) ∙ s.2 in
      cc never

  -- with as many bytes
  pub moving_size : (p n i : ℕ) (old now all rest others : List (Segment O)) (backs : List (Back O)) (at left : ℕ) (x copy : Segment O)
      → Moving p n i old now all rest backs at left → slice_get now i ≡ Some x → leaves at left x ≡ true → rest ≡ copy ∷ others
      → length copy.window ≡ length x.window
  moving_size p n i old now all rest others backs at left x copy w is does next =
      let s = moving_sizes p n i old now all rest backs at left x w is does in
      let same : copy.window ∷ map (λ (s : Segment O). s.window) others
      ≡ x.window ∷ map (λ (s : Segment O). s.window) (leaving (at - length x.window) (left - (length x.window - at)) s.0)
      = ap (λ ys. map (λ (s : Segment O). s.window) ys) (sym next) ∙ s.2 in
      let one : copy.window ≡ x.window = cc same in
      ap length one

  pub moving_yes : (p n i : ℕ) (old now new all rest others : List (Segment O)) (backs more : List (Back O)) (at left : ℕ) (x copy : Segment O) (b : Back O)
      → Moving p n i old now all rest backs at left → slice_get now i ≡ Some x → leaves at left x ≡ true → rest ≡ copy ∷ others
      → new ≡ slice_set now i copy → more ≡ backs ++ b ∷ [] → GivesBack runs last (hold_of x) b → KeepsTotals (held x.share ∷ []) (stakes_of b)
      → Moving p n (i + 1) old new all others more (at - length x.window) (left - (length x.window - at))
  moving_yes p n i old now new all rest others backs more at left x copy b w is does next put push gives keeps =
      let seam = moving_there p n i old now all rest backs at left x copy w is in
      let tail : List (Segment O) = seam.0 in
      let to : ℕ = at - length x.window in
      let of : ℕ = left - (length x.window - at) in
      let same : leaving at left w.todo ≡ x ∷ leaving to of tail = ap (λ ys. leaving at left ys) seam.1 ∙ leaving_yes at left x tail does in
      let grown = length-append w.moved (copy ∷ []) in
      let count = w.size in
      let both : copy.window ∷ map (λ (s : Segment O). s.window) others ≡ x.window ∷ map (λ (s : Segment O). s.window) (leaving to of tail)
      = ap (λ ys. map (λ (s : Segment O). s.window) ys) (sym next) ∙ w.sizes ∙ ap (λ ys. map (λ (s : Segment O). s.window) ys) same in
      record {
        moved = w.moved ++ copy ∷ [];
        todo = tail;
        now_is = put ∙ ap (λ ys. slice_set ys i copy) w.now_is ∙ ap (λ (k : ℕ). slice_set (w.moved ++ w.todo) k copy) (sym w.size) ∙ seam.2
            ∙ sym (append_assoc w.moved (copy ∷ []) tail);
        size = omega (arith, grown, count);
        end_is = w.end_is ∙ ap (λ ys. w.moved ++ moved_out rest at left ys) seam.1 ∙ ap (λ ys. w.moved ++ moved_out ys at left (x ∷ tail)) next
            ∙ ap (λ ys. w.moved ++ ys) (moved_yes copy others at left x tail does) ∙ sym (append_assoc w.moved (copy ∷ []) (moved_out others to of tail));
        sizes = cc both;
        gives = hands_more runs last (leaving p n old) (leaving at left w.todo) (leaving to of tail) backs more x b w.gives same push gives keeps;
      }

  pub moving_as : (p n i : ℕ) (old now new all rest others : List (Segment O)) (backs more : List (Back O)) (at left to of : ℕ)
      → Moving p n i old now all rest backs at left → new ≡ now → others ≡ rest → more ≡ backs → to ≡ at → of ≡ left
      → Moving p n i old new all others more to of
  moving_as p n i old now new all rest others backs more at left to of w a b d e f =
      let P : List (Segment O) → Type 0 = λ xs. Moving p n i old xs all others more to of in
      let Q : List (Segment O) → Type 0 = λ xs. Moving p n i old now all xs more to of in
      let R : List (Back O) → Type 0 = λ xs. Moving p n i old now all rest xs to of in
      let S : ℕ → Type 0 = λ m. Moving p n i old now all rest backs m of in
      let T : ℕ → Type 0 = λ m. Moving p n i old now all rest backs at m in
      subst P (sym a) (subst Q (sym b) (subst R (sym d) (subst S (sym e) (subst T (sym f) w))))

  pub moving_end : (p n i : ℕ) (old now all rest : List (Segment O)) (backs : List (Back O)) (at left : ℕ) → Moving p n i old now all rest backs at left
      → length now ≤ i
      → (now ≡ moved_out all p n old) × (HandBack runs last (leaving p n old) backs × KeepsTotals (held_by (leaving p n old)) (stakes_in backs))
  moving_end p n i old now all rest backs at left w h =
      let sizes : length now ≡ length w.moved + length w.todo = ap length w.now_is ∙ length-append w.moved w.todo in
      let size = w.size in
      let none : w.todo ≡ [] = none_of w.todo (omega (arith, sizes, size, h)) in (
        w.now_is ∙ ap (λ ys. w.moved ++ ys) none ∙ sym (w.end_is ∙ ap (λ ys. w.moved ++ moved_out rest at left ys) none),
        hands_end runs last (leaving p n old) (leaving at left w.todo) backs w.gives (ap (λ ys. leaving at left ys) none),
      )
