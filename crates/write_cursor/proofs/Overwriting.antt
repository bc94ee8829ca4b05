-- The bytes of a chain into which bytes were written.
use Rattle.std.proofs.Common.{◌≡◌, ◌⊎◌, ℕ, suc, zero, ◌+◌, ◌-◌, ◌<◌, ◌≤◌, List, [], ◌∷◌, ◌++◌, length, take, drop, refl, sym, ap, ◌∙◌, append_assoc, arith, inl, inr, length-append, length-drop}
use Rattle.std.proofs.lemmas.List.{append-nil, take-append-drop, take_all, drop_all, length-take}
use Rattle.buffer_model.specs.Segment.{Segment, bytes_of, overwritten}
use Rattle.iobuf_chain.proofs.TrimmedEnds.{drop-joined, take-joined}
use Rattle.write_cursor.specs.Written.{written, written_in}
use Rattle.write_cursor.proofs.Writing.{written_none}

either : (a b : ℕ) → (a ≤ b) ⊎ (b < a)
either zero b = inl (omega arith)
either (suc a) zero = inr (omega arith)
either (suc a) (suc b) = elim (either a b) [ inl h ↦ inl (omega (arith, h)) | inr h ↦ inr (omega (arith, h)) ]

pub nothing_over : (xs : List ℕ) (p : ℕ) → overwritten xs p [] ≡ xs
nothing_over xs p = ap (λ (m : ℕ). take p xs ++ drop m xs) (let e : p + 0 ≡ p = omega arith in e) ∙ take-append-drop p xs

-- bytes that lie behind the first part
over_later : (w r bs : List ℕ) (p : ℕ) → length w ≤ p → overwritten (w ++ r) p bs ≡ w ++ overwritten r (p - length w) bs
over_later w r bs p h =
    let q : ℕ = p - length w in
    let e : (p + length bs) - length w ≡ q + length bs = omega (arith, h) in
    ap (λ xs. xs ++ (bs ++ drop (p + length bs) (w ++ r))) (take-joined p w r ∙ ap (λ xs. xs ++ take q r) (take_all p w h))
    ∙ append_assoc w (take q r) (bs ++ drop (p + length bs) (w ++ r))
    ∙ ap (λ xs. w ++ (take q r ++ (bs ++ xs)))
    (drop-joined (p + length bs) w r ∙ ap (λ xs. xs ++ drop ((p + length bs) - length w) r) (drop_all (p + length bs) w (omega (arith, h)))
    ∙ ap (λ (m : ℕ). drop m r) e)

-- bytes that lie in the first part
over_first : (w r bs : List ℕ) (p : ℕ) → p + length bs ≤ length w → overwritten (w ++ r) p bs ≡ overwritten w p bs ++ r
over_first w r bs p h =
    let a : p - length w ≡ 0 = omega (arith, h) in
    let b : (p + length bs) - length w ≡ 0 = omega (arith, h) in
    let one : take p (w ++ r) ≡ take p w = take-joined p w r ∙ ap (λ (m : ℕ). take p w ++ take m r) a ∙ append-nil (take p w) in
    let two : drop (p + length bs) (w ++ r) ≡ drop (p + length bs) w ++ r
    = drop-joined (p + length bs) w r ∙ ap (λ (m : ℕ). drop (p + length bs) w ++ drop m r) b in
    ap (λ xs. xs ++ (bs ++ drop (p + length bs) (w ++ r))) one ∙ ap (λ xs. take p w ++ (bs ++ xs)) two
    ∙ ap (λ xs. take p w ++ xs) (sym (append_assoc bs (drop (p + length bs) w) r))
    ∙ sym (append_assoc (take p w) (bs ++ drop (p + length bs) w) r)

-- bytes that lie in both parts
over_both : (w r bs : List ℕ) (p k : ℕ) → p + k ≡ length w → k ≤ length bs
    → overwritten (w ++ r) p bs ≡ overwritten w p (take k bs) ++ overwritten r 0 (drop k bs)
over_both w r bs p k h many =
    let a : p - length w ≡ 0 = omega (arith, h) in
    let b : (p + length bs) - length w ≡ 0 + length (drop k bs) = let d = length-drop k bs in omega (arith, h, many, d) in
    let one : take p (w ++ r) ≡ take p w = take-joined p w r ∙ ap (λ (m : ℕ). take p w ++ take m r) a ∙ append-nil (take p w) in
    let two : drop (p + length bs) (w ++ r) ≡ drop (0 + length (drop k bs)) r
    = drop-joined (p + length bs) w r ∙ ap (λ xs. xs ++ drop ((p + length bs) - length w) r) (drop_all (p + length bs) w (omega (arith, h, many)))
    ∙ ap (λ (m : ℕ). drop m r) b in
    let three : drop (p + length (take k bs)) w ≡ [] = drop_all (p + length (take k bs)) w (let t = length-take k bs in omega (arith, t, h, many)) in
    let end : List ℕ = drop (0 + length (drop k bs)) r in
    let four : overwritten w p (take k bs) ≡ take p w ++ take k bs = ap (λ xs. take p w ++ (take k bs ++ xs)) three ∙ ap (λ xs. take p w ++ xs) (append-nil (take k bs)) in
    ap (λ xs. xs ++ (bs ++ drop (p + length bs) (w ++ r))) one ∙ ap (λ xs. take p w ++ (bs ++ xs)) two
    ∙ ap (λ xs. take p w ++ (xs ++ end)) (sym (take-append-drop k bs))
    ∙ ap (λ xs. take p w ++ xs) (append_assoc (take k bs) (drop k bs) end)
    ∙ sym (append_assoc (take p w) (take k bs) (drop k bs ++ end))
    ∙ ap (λ xs. xs ++ (drop k bs ++ end)) (sym four)

module _ {O : Type 0} where
  in_window : (at : ℕ) (bytes : List ℕ) (s : Segment O) → (written_in at bytes s).window ≡ overwritten s.window at bytes
  in_window at [] s = sym (nothing_over s.window at)
  in_window at (b ∷ bs) s = refl

  pub written_bytes : (p : ℕ) (bs : List ℕ) (ss : List (Segment O)) → p + length bs ≤ length (bytes_of ss)
      → bytes_of (written p bs ss) ≡ overwritten (bytes_of ss) p bs
  written_bytes p [] ss h = ap (λ xs. bytes_of xs) (written_none p ss) ∙ sym (nothing_over (bytes_of ss) p)
  written_bytes p (b ∷ more) [] h = absurd (omega (arith, h))
  written_bytes p (b ∷ more) (s ∷ ss) h =
      let bs : List ℕ = b ∷ more in
      let w : List ℕ = s.window in
      let r : List ℕ = bytes_of ss in
      let k : ℕ = length w - p in
      let q : ℕ = p - length w in
      let sizes = length-append w r in
      let d = length-drop k bs in
      let first = in_window p (take k bs) s in
      elim (either (length w) p) [
        | inl past ↦
            let none : k ≡ 0 = omega (arith, past) in
            let rest : drop k bs ≡ bs = ap (λ (m : ℕ). drop m bs) none in
            let piece : (written_in p (take k bs) s).window ≡ w = ap (λ (m : ℕ). (written_in p (take m bs) s).window) none in
            ap (λ xs. xs ++ bytes_of (written q (drop k bs) ss)) piece ∙ ap (λ xs. w ++ bytes_of (written q xs ss)) rest
            ∙ ap (λ xs. w ++ xs) (written_bytes q bs ss (omega (arith, h, sizes, past))) ∙ sym (over_later w r bs p past)
        | inr in_it ↦ elim (either (length bs) k) [
          | inl fits ↦
              let rest : drop k bs ≡ [] = drop_all k bs fits in
              let piece : take k bs ≡ bs = take_all k bs fits in
              ap (λ xs. xs ++ bytes_of (written q (drop k bs) ss)) (first ∙ ap (λ xs. overwritten w p xs) piece)
              ∙ ap (λ xs. overwritten w p bs ++ bytes_of xs) (ap (λ xs. written q xs ss) rest ∙ written_none q ss)
              ∙ sym (over_first w r bs p (omega (arith, in_it, fits)))
          | inr over ↦
              let none : q ≡ 0 = omega (arith, in_it) in
              ap (λ xs. xs ++ bytes_of (written q (drop k bs) ss)) first
              ∙ ap (λ xs. overwritten w p (take k bs) ++ xs) (written_bytes q (drop k bs) ss (omega (arith, h, sizes, d, none, in_it, over)) ∙ ap (λ (m : ℕ). overwritten r m (drop k bs)) none)
              ∙ sym (over_both w r bs p k (omega (arith, in_it)) (omega (arith, over)))
        ]
      ]

  pub bytes_as : (p : ℕ) (bs : List ℕ) (ss after : List (Segment O)) → after ≡ written p bs ss → p + length bs ≤ length (bytes_of ss)
      → bytes_of after ≡ overwritten (bytes_of ss) p bs
  bytes_as p bs ss after is h = ap (λ xs. bytes_of xs) is ∙ written_bytes p bs ss h
