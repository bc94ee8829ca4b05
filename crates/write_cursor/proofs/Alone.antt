-- Nodes that left their storages before they are written.
use Rattle.std.proofs.Common.{◌≡◌, ◌⊎◌, ℕ, ◌+◌, ◌-◌, Bool, true, false, not, ◌&&◌, List, [], ◌∷◌, ◌++◌, length, refl, sym, ap, subst, ◌∙◌, append_assoc, arith, inl, inr, nat_lt}
use Rattle.std.proofs.lemmas.Bool.{lt-ltb}
use Rattle.std.proofs.lemmas.Bool.Decides.{eqb_tells}
use Rattle.share_count.specs.Weights.{full}
use Rattle.buffer_model.specs.Share.{IsWhole, own}
use Rattle.buffer_model.specs.Segment.{Segment, bytes_of}
use Rattle.buffer_model.specs.Stake.{held, Keeps, KeepsTotals, KeepsTotalsBeside}
use Rattle.buffer_model.specs.Minted.{Numbers, NumbersOn}
use Rattle.buffer_model.proofs.Totals.{keeps_same, keeps_equal, keeps_any, keeps-append, keeps_beside, apart_first, apart_then}
use Rattle.buffer_model.proofs.Minted.{same_on, adds_on, on_then}
use Rattle.storage.specs.declared.back.Back.{Back}
use Rattle.storage.specs.Back.{stakes_in}
use Rattle.iobuf_chain.specs.Accounts.{held_by}
use Rattle.iobuf_chain.specs.Shares.{HasSome}
use Rattle.iobuf_chain.proofs.Accounts.{swaps_nodes, same_nodes, held_by-append}
use Rattle.chain_unshare.specs.Unshares.{is_whole, CopiesEach}
use Rattle.chain_unshare.proofs.Splitting.{keeps_trans}
use Rattle.write_cursor.specs.Leaving.{leaves, leaving, moved_out}
use Rattle.write_cursor.specs.Unshared.{UnsharesIf, UnsharesOver}
use Rattle.write_cursor.specs.Written.{MayWrite}
use Rattle.write_cursor.proofs.Copying.{leaving_yes, leaving_no}
use Rattle.write_cursor.proofs.Moving.{moved_yes, moved_no}

told : (b : Bool) → (b ≡ true) ⊎ (b ≡ false)
told true = inl refl
told false = inr refl

module _ {O : Type 0} where
  pub unshares : (at n : ℕ) (old new : Numbers) (xs copies : List (Segment O)) → CopiesEach old new (leaving at n xs) copies
      → UnsharesOver at n old new xs (moved_out copies at n xs)
  unshares at n old new [] [] is = is
  unshares at n old new [] (c ∷ cs) is = absurd is
  unshares at n old new (x ∷ xs) [] is =
      let P : List (Segment O) → Type 0 = λ ys. CopiesEach old new ys [] in
      let Q : List (Segment O) → Type 0 = λ ys. UnsharesOver at n old new (x ∷ xs) ys in
      let to : ℕ = at - length x.window in
      let of : ℕ = n - (length x.window - at) in
      elim (told (leaves at n x)) [
        | inl goes ↦ absurd (subst P (leaving_yes at n x xs goes) is)
        | inr stays ↦
            subst Q (sym (moved_no [] at n x xs stays)) (old, inl (stays, refl, refl), unshares to of old new xs [] (subst P (leaving_no at n x xs stays) is))
      ]
  unshares at n old new (x ∷ xs) (c ∷ cs) is =
      let P : List (Segment O) → Type 0 = λ ys. CopiesEach old new ys (c ∷ cs) in
      let Q : List (Segment O) → Type 0 = λ ys. UnsharesOver at n old new (x ∷ xs) ys in
      let to : ℕ = at - length x.window in
      let of : ℕ = n - (length x.window - at) in
      elim (told (leaves at n x)) [
        | inl goes ↦
            let moves = subst P (leaving_yes at n x xs goes) is in
            subst Q (sym (moved_yes c cs at n x xs goes)) (moves.0, inr (goes, moves.1), unshares to of moves.0 new xs cs moves.2)
        | inr stays ↦
            subst Q (sym (moved_no (c ∷ cs) at n x xs stays))
            (old, inl (stays, refl, refl), unshares to of old new xs (c ∷ cs) (subst P (leaving_no at n x xs stays) is))
      ]

  pub unshares_as : (at n : ℕ) (old new : Numbers) (xs ys copies : List (Segment O)) → CopiesEach old new (leaving at n xs) copies
      → ys ≡ moved_out copies at n xs → UnsharesOver at n old new xs ys
  unshares_as at n old new xs ys copies is e =
      let P : List (Segment O) → Type 0 = λ zs. UnsharesOver at n old new xs zs in subst P (sym e) (unshares at n old new xs copies is)

  stays_whole : (at n : ℕ) (s : Segment O) → leaves at n s ≡ false → HasSome at n s → IsWhole s.share
  stays_whole at n s is has = elim (eqb_tells (s.share.weight + s.share.absorbed) full) [
    | inl same ↦ same.1
    | inr other ↦
        let a = lt-ltb at (length s.window) has.0 in
        let b = lt-ltb 0 n has.1 in
        let goes : leaves at n s ≡ true
        = ap (λ (x : Bool). (x && nat_lt 0 n) && not (is_whole s.share)) a ∙ ap (λ (x : Bool). (true && x) && not (is_whole s.share)) b
        ∙ ap (λ (x : Bool). (true && true) && not x) other.0 in
        absurd (let never : true ≡ false = sym goes ∙ is in cc never)
  ]

  same_window : (at n : ℕ) (old new : Numbers) (x y : Segment O) → UnsharesIf at n old new x y → y.window ≡ x.window
  same_window at n old new x y (inl s) = ap (λ (t : Segment O). t.window) s.1
  same_window at n old new x y (inr m) = ap (λ (t : Segment O). t.window) m.1.lists

  whole_then : (at n : ℕ) (old new : Numbers) (x y : Segment O) → UnsharesIf at n old new x y → HasSome at n y → IsWhole y.share
  whole_then at n old new x y (inl s) has =
      let P : Segment O → Type 0 = λ z. HasSome at n z → IsWhole z.share in subst P (sym s.1) (stays_whole at n x s.0) has
  whole_then at n old new x y (inr m) has = let w = m.1.storage.weight in let a = m.1.storage.absorbed in omega (arith, w, a)

  pub may_write : (at n : ℕ) (old new : Numbers) (xs ys : List (Segment O)) → UnsharesOver at n old new xs ys → MayWrite at n ys
  may_write at n old new [] [] is = tt
  may_write at n old new [] (y ∷ ys) is = absurd is
  may_write at n old new (x ∷ xs) [] is = absurd is
  may_write at n old new (x ∷ xs) (y ∷ ys) is =
      let len : length y.window ≡ length x.window = ap length (same_window at n old is.0 x y is.1) in
      let P : ℕ → Type 0 = λ k. MayWrite (at - k) (n - (k - at)) ys in
      (whole_then at n old is.0 x y is.1, subst P (sym len) (may_write (at - length x.window) (n - (length x.window - at)) is.0 new xs ys is.2))

  pub unshares_bytes : (at n : ℕ) (old new : Numbers) (xs ys : List (Segment O)) → UnsharesOver at n old new xs ys → bytes_of ys ≡ bytes_of xs
  unshares_bytes at n old new [] [] is = refl
  unshares_bytes at n old new [] (y ∷ ys) is = absurd is
  unshares_bytes at n old new (x ∷ xs) [] is = absurd is
  unshares_bytes at n old new (x ∷ xs) (y ∷ ys) is =
      ap (λ w. w ++ bytes_of ys) (same_window at n old is.0 x y is.1)
      ∙ ap (λ bs. x.window ++ bs) (unshares_bytes (at - length x.window) (n - (length x.window - at)) is.0 new xs ys is.2)

  one_on : (at n : ℕ) (old new : Numbers) (x y : Segment O) → UnsharesIf at n old new x y → NumbersOn old new
  one_on at n old new x y (inl s) = same_on old new s.2
  one_on at n old new x y (inr m) = adds_on 1 old new m.1.mint

  each_on : (at n : ℕ) (old new : Numbers) (xs ys : List (Segment O)) → UnsharesOver at n old new xs ys → NumbersOn old new
  each_on at n old new [] [] is = same_on old new is
  each_on at n old new [] (y ∷ ys) is = absurd is
  each_on at n old new (x ∷ xs) [] is = absurd is
  each_on at n old new (x ∷ xs) (y ∷ ys) is =
      on_then old is.0 new (one_on at n old is.0 x y is.1) (each_on (at - length x.window) (n - (length x.window - at)) is.0 new xs ys is.2)

  -- one node stands behind others
  goes_behind : (x : Segment O) (ys gone : List (Segment O)) → KeepsTotals (held_by (x ∷ (ys ++ gone))) (held_by (ys ++ (x ∷ gone)))
  goes_behind x ys gone n =
      keeps_trans n _ _ _ (swaps_nodes [] (x ∷ []) (ys ++ gone) n)
      (keeps_trans n _ _ _ (same_nodes _ _ (append_assoc ys gone (x ∷ [])) n) (swaps_nodes ys gone (x ∷ []) n))

  unshares_keep : (at n : ℕ) (old new : Numbers) (xs ys : List (Segment O)) → UnsharesOver at n old new xs ys
      → KeepsTotalsBeside old new (held_by xs) (held_by (ys ++ leaving at n xs))
  unshares_keep at n old new [] [] is = keeps_any old new [] [] (keeps_same [])
  unshares_keep at n old new [] (y ∷ ys) is = absurd is
  unshares_keep at n old new (x ∷ xs) [] is = absurd is
  unshares_keep at n old new (x ∷ xs) (y ∷ ys) is = λ z h.
      let to : ℕ = at - length x.window in
      let of : ℕ = n - (length x.window - at) in
      let first = one_on at n old is.0 x y is.1 in
      let next = each_on to of is.0 new xs ys is.2 in
      let gone : List (Segment O) = leaving to of xs in
      let more : Keeps (held_by xs) (held_by (ys ++ gone)) z = unshares_keep to of is.0 new xs ys is.2 z (apart_then old is.0 new z first h) in
      let beside : Keeps (held_by (x ∷ xs)) (held_by (x ∷ (ys ++ gone))) z
      = keeps-append z (held x.share ∷ []) (held_by xs) (held x.share ∷ []) (held_by (ys ++ gone)) (keeps_same (held x.share ∷ []) z) more in
      elim is.1 [
        | inl s ↦
            keeps_trans z _ _ _ beside
            (same_nodes _ _ (ap (λ t. t ∷ (ys ++ gone)) (sym s.1) ∙ ap (λ zs. y ∷ (ys ++ zs)) (sym (leaving_no at n x xs s.0))) z)
        | inr m ↦
            keeps_trans z _ _ _ beside
            (keeps_trans z _ _ _ (goes_behind x ys gone z)
            (keeps_trans z _ _ _ (keeps_beside old is.0 own y.share _ _ m.1.storage (keeps_same (held_by (ys ++ (x ∷ gone)))) z (apart_first old is.0 new z next h))
            (same_nodes (y ∷ (ys ++ (x ∷ gone))) _ (ap (λ zs. y ∷ (ys ++ zs)) (sym (leaving_yes at n x xs m.0))) z)))
      ]

  pub alone_totals : (at : ℕ) (bs : List ℕ) (old new : Numbers) (xs ys after : List (Segment O)) (backs given : List (Back O))
      → UnsharesOver at (length bs) old new xs ys → KeepsTotals (held_by (leaving at (length bs) xs)) (stakes_in backs) → given ≡ backs
      → KeepsTotals (held_by ys) (held_by after) → KeepsTotalsBeside old new (held_by xs) (held_by after ++ stakes_in given)
  alone_totals at bs old new xs ys after backs given is keeps e wrote z h =
      let gone : List (Segment O) = leaving at (length bs) xs in
      keeps_trans z _ _ _ (unshares_keep at (length bs) old new xs ys is z h)
      (keeps_trans z _ _ _ (keeps_equal _ _ (held_by-append ys gone) z)
      (keeps_trans z _ _ _ (keeps-append z (held_by ys) (held_by gone) (held_by after) (stakes_in backs) (wrote z) (keeps z))
      (keeps_equal _ _ (ap (λ bs. held_by after ++ stakes_in bs) (sym e)) z)))
