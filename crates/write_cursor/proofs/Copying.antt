-- Copies of the nodes that leave their storages.
use Rattle.std.proofs.Common.{◌≡◌, ℕ, ◌+◌, ◌-◌, ◌≤◌, Bool, true, false, cond, List, [], ◌∷◌, ◌++◌, Some, length, refl, sym, ap, subst, ◌∙◌, append_assoc, arith, inl, inr, length-append, slice_get}
use Rattle.std.proofs.lemmas.List.{append-nil}
use Rattle.buffer_model.specs.Segment.{Segment}
use Rattle.buffer_model.specs.Minted.{Numbers, AddsAtMost}
use Rattle.buffer_model.proofs.Minted.{adds_then}
use Rattle.iobuf_chain.proofs.Lists.{at_seam}
use Rattle.chain_unshare.specs.Unshares.{CopiesEach}
use Rattle.chain_unshare.proofs.Unsharing.{none_of, adds_fewer, copies_more, copies_add}
use Rattle.write_cursor.specs.Leaving.{leaves, leaving}
use Rattle.write_cursor.specs.Copied.{CopiesIf}

module _ {O : Type 0} where
  pub leaving_yes : (at n : ℕ) (x : Segment O) (xs : List (Segment O)) → leaves at n x ≡ true
      → leaving at n (x ∷ xs) ≡ x ∷ leaving (at - length x.window) (n - (length x.window - at)) xs
  leaving_yes at n x xs e =
      let rest : List (Segment O) = leaving (at - length x.window) (n - (length x.window - at)) xs in
      ap (λ (b : Bool). cond b (x ∷ rest) rest) e

  pub leaving_no : (at n : ℕ) (x : Segment O) (xs : List (Segment O)) → leaves at n x ≡ false
      → leaving at n (x ∷ xs) ≡ leaving (at - length x.window) (n - (length x.window - at)) xs
  leaving_no at n x xs e =
      let rest : List (Segment O) = leaving (at - length x.window) (n - (length x.window - at)) xs in
      ap (λ (b : Bool). cond b (x ∷ rest) rest) e

  -- the first i nodes were copied, where they leave: all nodes, from which place behind them how many bytes are to come
  pub record Copying (p n i : ℕ) (old new : Numbers) (ss : List (Segment O)) (at left : ℕ) (copies : List (Segment O)) : Type 0 where
    pub passed : List (Segment O)
    pub todo : List (Segment O)
    pub all_is : ss ≡ passed ++ todo
    pub size : length passed ≡ i
    pub gone : List (Segment O)
    pub end_is : leaving p n ss ≡ gone ++ leaving at left todo
    pub copied : CopiesEach old new gone copies

  pub copying_begin : (p n : ℕ) (m : Numbers) (ss : List (Segment O)) → Copying p n 0 m m ss p n []
  copying_begin p n m ss = record { passed = []; todo = ss; all_is = refl; size = refl; gone = []; end_is = refl; copied = refl }

  copying_there : (p n i : ℕ) (old new : Numbers) (ss : List (Segment O)) (at left : ℕ) (copies : List (Segment O)) (x : Segment O)
      (w : Copying p n i old new ss at left copies) → slice_get ss i ≡ Some x → (tail : List (Segment O)) × (w.todo ≡ x ∷ tail)
  copying_there p n i old new ss at left copies x w is =
      let seam = at_seam w.passed w.todo x x (ap (λ ys. slice_get ys (length w.passed)) (sym w.all_is) ∙ ap (λ (k : ℕ). slice_get ss k) w.size ∙ is) in
      (seam.0, seam.1)

  pub copying_next : (p n i : ℕ) (old mid new : Numbers) (ss : List (Segment O)) (at left next rest len sub : ℕ) (copies more : List (Segment O)) (x : Segment O)
      → Copying p n i old mid ss at left copies → slice_get ss i ≡ Some x → len ≡ length x.window → sub ≡ len - at → rest ≡ left - sub → next ≡ at - len
      → CopiesIf at left mid new x copies more → Copying p n (i + 1) old new ss next rest more
  copying_next p n i old mid new ss at left next rest len sub copies more x w is size span few off copy =
      let seam = copying_there p n i old mid ss at left copies x w is in
      let tail : List (Segment O) = seam.0 in
      let to : ℕ = at - length x.window in
      let of : ℕ = left - (length x.window - at) in
      let grown = length-append w.passed (x ∷ []) in
      let count = w.size in
      let all : ss ≡ (w.passed ++ x ∷ []) ++ tail = w.all_is ∙ ap (λ ys. w.passed ++ ys) seam.1 ∙ sym (append_assoc w.passed (x ∷ []) tail) in
      let P : ℕ → Type 0 = λ m. Copying p n (i + 1) old new ss m rest more in
      let Q : ℕ → Type 0 = λ m. Copying p n (i + 1) old new ss to m more in
      let next_is : next ≡ to = omega (arith, size, off) in
      let rest_is : rest ≡ of = omega (arith, size, span, few) in
      let end : Copying p n (i + 1) old new ss to of more = elim copy [
        | inl (not, stays, same) ↦
            let R : Numbers → Type 0 = λ m. CopiesEach old m w.gone more in
            let S : List (Segment O) → Type 0 = λ ys. CopiesEach old mid w.gone ys in
            record {
              passed = w.passed ++ x ∷ [];
              todo = tail;
              all_is = all;
              size = omega (arith, grown, count);
              gone = w.gone;
              end_is = w.end_is ∙ ap (λ ys. w.gone ++ ys) (ap (λ ys. leaving at left ys) seam.1 ∙ leaving_no at left x tail not);
              copied = subst R (sym same) (subst S (sym stays) w.copied);
            }
        | inr (does, made, moves, push) ↦
            let S : List (Segment O) → Type 0 = λ ys. CopiesEach old new (w.gone ++ x ∷ []) ys in
            record {
              passed = w.passed ++ x ∷ [];
              todo = tail;
              all_is = all;
              size = omega (arith, grown, count);
              gone = w.gone ++ x ∷ [];
              end_is = w.end_is ∙ ap (λ ys. w.gone ++ ys) (ap (λ ys. leaving at left ys) seam.1 ∙ leaving_yes at left x tail does)
                  ∙ sym (append_assoc w.gone (x ∷ []) (leaving to of tail));
              copied = subst S (sym push) (copies_more old mid new w.gone copies x made w.copied moves);
            }
      ] in
      subst P (sym next_is) (subst Q (sym rest_is) end)

  pub copying_end : (p n i : ℕ) (old new : Numbers) (ss : List (Segment O)) (at left : ℕ) (copies : List (Segment O)) → Copying p n i old new ss at left copies
      → length ss ≤ i → CopiesEach old new (leaving p n ss) copies
  copying_end p n i old new ss at left copies w all =
      let sizes : length ss ≡ length w.passed + length w.todo = ap length w.all_is ∙ length-append w.passed w.todo in
      let size = w.size in
      let none : w.todo ≡ [] = none_of w.todo (omega (arith, sizes, size, all)) in
      let P : List (Segment O) → Type 0 = λ ys. CopiesEach old new ys copies in
      subst P (sym (w.end_is ∙ ap (λ ys. w.gone ++ leaving at left ys) none ∙ append-nil w.gone)) w.copied

  pub copying_adds : (p n i : ℕ) (old new : Numbers) (ss : List (Segment O)) (at left : ℕ) (copies : List (Segment O)) → Copying p n i old new ss at left copies
      → length ss ≤ i → AddsAtMost (length (leaving p n ss)) old new
  copying_adds p n i old new ss at left copies w all = copies_add old new (leaving p n ss) copies (copying_end p n i old new ss at left copies w all)

  pub copying_refused : (p n i : ℕ) (old mid new : Numbers) (ss : List (Segment O)) (at left : ℕ) (copies : List (Segment O)) (x : Segment O)
      → Copying p n i old mid ss at left copies → slice_get ss i ≡ Some x → leaves at left x ≡ true → AddsAtMost 1 mid new
      → AddsAtMost (length (leaving p n ss)) old new
  copying_refused p n i old mid new ss at left copies x w is does adds =
      let seam = copying_there p n i old mid ss at left copies x w is in
      let behind : List (Segment O) = leaving (at - length x.window) (left - (length x.window - at)) seam.0 in
      let parts : leaving p n ss ≡ w.gone ++ (x ∷ behind)
      = w.end_is ∙ ap (λ ys. w.gone ++ ys) (ap (λ ys. leaving at left ys) seam.1 ∙ leaving_yes at left x seam.0 does) in
      let size : length (leaving p n ss) ≡ length w.gone + length (x ∷ behind) = ap length parts ∙ length-append w.gone (x ∷ behind) in
      adds_fewer (length w.gone + 1) (length (leaving p n ss)) old new (omega (arith, size))
      (adds_then (length w.gone) 1 old mid new (copies_add old mid w.gone copies w.copied) adds)
