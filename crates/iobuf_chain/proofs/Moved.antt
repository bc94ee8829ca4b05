-- Chains that are managed.
use Rattle.std.proofs.Common.{◌≡◌, ◌⊎◌, ℕ, suc, zero, ◌+◌, ◌≤◌, ◌<◌, List, [], ◌∷◌, ◌++◌, Option, Some, None, IsSome, length, drop, slice_get, refl, sym, ap, subst, ◌∙◌, append_assoc, arith, inl, inr, length-append}
use Rattle.std.proofs.lemmas.List.{append-nil}
use Rattle.buffer_model.specs.Share.{Share, IsManaged, own}
use Rattle.buffer_model.specs.Segment.{Segment, bytes_of, shared_as}
use Rattle.buffer_model.specs.Stake.{Stake, held, Keeps, KeepsTotals, KeepsTotalsBeside}
use Rattle.buffer_model.specs.Minted.{Numbers, NumbersOn, Adds, AddsAtMost, IsNew, IsNumberedAs}
use Rattle.buffer_model.specs.Clones.{MovesOut}
use Rattle.buffer_model.proofs.Minted.{adds_none, adds_at_most, adds_then, same_on, adds_on, on_then}
use Rattle.buffer_model.proofs.Totals.{keeps_same, keeps_equal, keeps_beside, keeps-append, keeps_wrapped_out, apart_first, apart_then}
use Rattle.iobuf_chain.specs.Accounts.{held_by}
use Rattle.iobuf_chain.specs.Lists.{Each}
use Rattle.iobuf_chain.specs.Managed.{Manages, ManagesEach, Copies, CopiesEach, PicksEach}
use Rattle.iobuf_chain.proofs.Lists.{drop_there}

module _ {O : Type 0} where
  -- the copies so far, and those of the other nodes
  pub record CopiesTo (i : ℕ) (old new : Numbers) (nodes copies : List (Segment O)) : Type 0 where
    pub place : i ≡ length copies
    pub mint : AddsAtMost i old new
    pub rest : (last : Numbers) (more : List (Segment O)) → CopiesEach new last (drop i nodes) more → CopiesEach old last nodes (copies ++ more)

  pub copies_begin : (old : Numbers) (nodes copies : List (Segment O)) → copies ≡ [] → CopiesTo 0 old old nodes copies
  copies_begin old nodes copies none =
      let P : List (Segment O) → Type 0 = λ cs. CopiesTo 0 old old nodes cs in
      subst P (sym none) record { place = refl; mint = adds_none 0 old old refl; rest = λ last more is. is }

  one_more : (a b : Numbers) (node copy : Segment O) → Copies a b node copy → AddsAtMost 1 a b
  one_more a b node copy is = elim is [
    | inl stays ↦ adds_none 1 a b stays.1
    | inr moves ↦ adds_at_most 1 1 a b moves.1.mint (omega arith)
  ]

  pub copies_step : (i : ℕ) (old mid new : Numbers) (nodes copies more : List (Segment O)) (x c : Segment O) → CopiesTo i old mid nodes copies
      → slice_get nodes i ≡ Some x → Copies mid new x c → more ≡ copies ++ c ∷ [] → CopiesTo (i + 1) old new nodes more
  copies_step i old mid new nodes copies more x c t is one push =
      let longer = ap length push ∙ length-append copies (c ∷ []) in
      let place = t.place in
      let there = drop_there i nodes x is in
      record {
        place = omega (arith, longer, place);
        mint = adds_then i 1 old mid new t.mint (one_more mid new x c one);
        rest = λ last ends is.
            let P : List (Segment O) → Type 0 = λ xs. CopiesEach mid last xs (c ∷ ends) in
            let Q : List (Segment O) → Type 0 = λ xs. CopiesEach old last nodes xs in
            subst Q (sym (append_assoc copies (c ∷ []) ends) ∙ ap (λ xs. xs ++ ends) (sym push)) (t.rest last (c ∷ ends) (subst P (sym there) (new, one, is)));
      }

  pub copies_bound : (i : ℕ) (old new : Numbers) (nodes copies : List (Segment O)) → CopiesTo i old new nodes copies → i ≤ length nodes
      → AddsAtMost (length nodes) old new
  copies_bound i old new nodes copies t h = let low = t.mint.1 in let high = t.mint.2 in (t.mint.0, low, omega (arith, high, h))

  past_end : (i : ℕ) (nodes : List (Segment O)) → length nodes ≤ i → drop i nodes ≡ []
  past_end zero [] h = refl
  past_end (suc i) [] h = refl
  past_end zero (x ∷ xs) h = absurd (omega arith)
  past_end (suc i) (x ∷ xs) h = past_end i xs (omega arith)

  pub copies_end : (i : ℕ) (old new : Numbers) (nodes copies : List (Segment O)) → CopiesTo i old new nodes copies → length nodes ≤ i
      → CopiesEach old new nodes copies
  copies_end i old new nodes copies t h =
      let P : List (Segment O) → Type 0 = λ xs. CopiesEach new new xs [] in
      let Q : List (Segment O) → Type 0 = λ xs. CopiesEach old new nodes xs in
      subst Q (append-nil copies) (t.rest new [] (subst P (sym (past_end i nodes h)) refl))

  pub copies_size : (old new : Numbers) (nodes copies : List (Segment O)) → CopiesEach old new nodes copies → length nodes ≡ length copies
  copies_size old new [] [] is = refl
  copies_size old new (b ∷ bs) (c ∷ cs) is = let more = copies_size is.0 new bs cs is.2 in omega (arith, more)
  copies_size old new [] (c ∷ cs) is = absurd is
  copies_size old new (b ∷ bs) [] is = absurd is

  -- those that were picked so far stand behind the copies that are left
  pub record PicksTo (nodes copies left now : List (Segment O)) : Type 0 where
    pub todo : List (Segment O)
    pub picked : List (Segment O)
    pub now_is : now ≡ todo ++ picked
    pub sizes : length left ≡ length todo
    pub rest : (more : List (Segment O)) → PicksEach left todo more → PicksEach nodes copies (picked ++ more)

  pub picks_begin : (nodes copies : List (Segment O)) → length nodes ≡ length copies → PicksTo nodes copies nodes copies
  picks_begin nodes copies e = record {
    todo = copies;
    picked = [];
    now_is = sym (append-nil copies);
    sizes = e;
    rest = λ more is. is;
  }

  pub picks_some : (nodes copies left rest now : List (Segment O)) (n : Segment O) → PicksTo nodes copies left now → left ≡ n ∷ rest → 0 < length now
  picks_some nodes copies left rest now n t front =
      let more = ap length front in
      let sizes = t.sizes in
      let all = ap length t.now_is ∙ length-append t.todo t.picked in
      omega (arith, more, sizes, all)

  first_of : (todo : List (Segment O)) → 0 < length todo → (c : Segment O) × (more : List (Segment O)) × (todo ≡ c ∷ more)
  first_of [] h = absurd (omega arith)
  first_of (c ∷ more) h = (c, more, refl)

  pub picks_step : (nodes copies left rest now fewer new : List (Segment O)) (n c p : Segment O) → PicksTo nodes copies left now → left ≡ n ∷ rest
      → now ≡ c ∷ fewer → (IsManaged n.share → p ≡ n) → (n.share.number ≡ None → p ≡ c) → new ≡ fewer ++ p ∷ [] → PicksTo nodes copies rest new
  picks_step nodes copies left rest now fewer new n c p t front head stays copy push =
      let size = ap length front in
      let sizes = t.sizes in
      let first = first_of t.todo (omega (arith, size, sizes)) in
      let both : c ∷ fewer ≡ first.0 ∷ (first.1 ++ t.picked) = sym head ∙ t.now_is ∙ ap (λ xs. xs ++ t.picked) first.2 in
      let one : first.0 ≡ c = cc in
      let others : fewer ≡ first.1 ++ t.picked = cc in
      let less = ap length first.2 in
      record {
        todo = first.1;
        picked = t.picked ++ p ∷ [];
        now_is = push ∙ ap (λ xs. xs ++ p ∷ []) others ∙ append_assoc first.1 t.picked (p ∷ []);
        sizes = omega (arith, size, sizes, less);
        rest = λ more is.
            let P : List (Segment O) → Type 0 = λ xs. PicksEach xs t.todo (p ∷ more) in
            let Q : List (Segment O) → Type 0 = λ xs. PicksEach (n ∷ rest) xs (p ∷ more) in
            let R : List (Segment O) → Type 0 = λ xs. PicksEach nodes copies xs in
            subst R (sym (append_assoc t.picked (p ∷ []) more))
            (t.rest (p ∷ more) (subst P (sym front) (subst Q (sym first.2) (stays, (λ none. copy none ∙ sym one), is))));
      }

  no_more : (xs : List (Segment O)) → length xs ≡ 0 → xs ≡ []
  no_more [] e = refl
  no_more (x ∷ xs) e = absurd (omega arith)

  pub picks_end : (nodes copies left now : List (Segment O)) → PicksTo nodes copies left now → left ≡ [] → PicksEach nodes copies now
  picks_end nodes copies left now t none =
      let size = ap length none in
      let sizes = t.sizes in
      let P : List (Segment O) → Type 0 = λ xs. PicksEach xs t.todo [] in
      let R : List (Segment O) → Type 0 = λ xs. PicksEach nodes copies xs in
      let empty : t.todo ≡ [] = no_more t.todo (omega (arith, size, sizes)) in
      let Q : List (Segment O) → Type 0 = λ xs. PicksEach [] xs [] in
      let all : t.picked ≡ now = ap (λ xs. xs ++ t.picked) (sym empty) ∙ sym t.now_is in
      subst R (append-nil t.picked ∙ all) (t.rest [] (subst P (sym none) (subst Q (sym empty) tt)))

  -- copies that were made, and then those that were wanted picked
  pub picks_manage : (old new : Numbers) (nodes copies picked : List (Segment O)) → CopiesEach old new nodes copies → PicksEach nodes copies picked
      → ManagesEach old new nodes picked
  picks_manage old new [] [] [] is p = is
  picks_manage old new (b ∷ bs) (c ∷ cs) (k ∷ ks) is p =
      let mid : Numbers = is.0 in
      let one : Manages old mid b k = elim is.1 [
        | inl stays ↦ inl (stays.0, p.0 stays.0, stays.1)
        | inr moves ↦ inr (moves.0, (let P : Segment O → Type 0 = λ s. MovesOut old mid b s in subst P (sym (p.1 moves.0)) moves.1))
      ] in
      (mid, one, picks_manage mid new bs cs ks is.2 p.2)
  picks_manage old new [] (c ∷ cs) ps is p = absurd is
  picks_manage old new (b ∷ bs) [] ps is p = absurd is
  picks_manage old new [] [] (k ∷ ks) is p = absurd p
  picks_manage old new (b ∷ bs) (c ∷ cs) [] is p = absurd p

  numbered_managed : (mint : Numbers) (s : Share O) → IsNumberedAs mint s.number s.table → IsManaged s
  numbered_managed mint s is =
      elim s.number as (λ (o : Option ℕ). IsNumberedAs mint o s.table → IsSome o) [
        | None ↦ λ is. absurd is
        | Some n ↦ λ is. refl
      ] is

  pub manages_size : (old new : Numbers) (bs ms : List (Segment O)) → ManagesEach old new bs ms → (length ms ≡ length bs) × (bytes_of ms ≡ bytes_of bs)
  manages_size old new [] [] is = (refl, refl)
  manages_size old new (b ∷ bs) (a ∷ ms) is =
      let more = manages_size is.0 new bs ms is.2 in
      let same : a.window ≡ b.window = elim is.1 [
        | inl stays ↦ ap (λ (s : Segment O). s.window) stays.1
        | inr moves ↦ ap (λ (s : Segment O). s.window) moves.1.lists
      ] in
      (ap (λ (k : ℕ). suc k) more.0, ap (λ bytes. bytes ++ bytes_of ms) same ∙ ap (λ bytes. b.window ++ bytes) more.1)
  manages_size old new [] (a ∷ ms) is = absurd is
  manages_size old new (b ∷ bs) [] is = absurd is

  pub manages_all : (old new : Numbers) (bs ms : List (Segment O)) → ManagesEach old new bs ms → Each (λ s. IsManaged s.share) ms
  manages_all old new [] [] is = tt
  manages_all old new (b ∷ bs) (a ∷ ms) is =
      let P : Segment O → Type 0 = λ s. IsManaged s.share in (
        elim is.1 [
          | inl stays ↦ subst P (sym stays.1) stays.0
          | inr moves ↦ numbered_managed is.0 a.share moves.1.storage.minted
        ],
        manages_all is.0 new bs ms is.2,
      )
  manages_all old new [] (a ∷ ms) is = absurd is
  manages_all old new (b ∷ bs) [] is = absurd is

  pub manages_from : (old new last : Numbers) (xs vs ys ws : List (Segment O)) → ManagesEach old new xs ys → last ≡ new → xs ≡ vs → ws ≡ ys
      → ManagesEach old last vs ws
  manages_from old new last xs vs ys ws is e f g =
      let P : Numbers → Type 0 = λ m. ManagesEach old m xs ys in
      let Q : List (Segment O) → Type 0 = λ zs. ManagesEach old last zs ys in
      let R : List (Segment O) → Type 0 = λ zs. ManagesEach old last vs zs in
      subst R (sym g) (subst Q f (subst P (sym e) is))

  pub mint_of_all : (n k : ℕ) (old mid new last : Numbers) (node copy : Segment O) → Copies old mid node copy → AddsAtMost k mid new → last ≡ new
      → suc k ≡ n → AddsAtMost n old last
  mint_of_all n k old mid new last node copy one more same e =
      let all = adds_then 1 k old mid new (one_more old mid node copy one) more in
      let then_same = adds_then (1 + k) 0 old new last all (adds_none 0 new last same) in
      let low = then_same.1 in
      let high = then_same.2 in
      (then_same.0, low, omega (arith, high, e))

  manages_on : (old new : Numbers) (before after : Segment O) → Manages old new before after → NumbersOn old new
  manages_on old new before after is = elim is [
    | inl stays ↦ same_on old new stays.2
    | inr moves ↦ adds_on 1 old new moves.1.mint
  ]

  each_on : (old new : Numbers) (bs ms : List (Segment O)) → ManagesEach old new bs ms → NumbersOn old new
  each_on old new [] [] is = same_on old new is
  each_on old new (b ∷ bs) (m ∷ ms) is = on_then old is.0 new (manages_on old is.0 b m is.1) (each_on is.0 new bs ms is.2)
  each_on old new [] (m ∷ ms) is = absurd is
  each_on old new (b ∷ bs) [] is = absurd is

  -- a chain that is managed keeps totals
  pub manages_keep : (old new : Numbers) (bs ms : List (Segment O)) → ManagesEach old new bs ms → KeepsTotalsBeside old new (held_by bs) (held_by ms)
  manages_keep old new [] [] is n h = keeps_same [] n
  manages_keep old new (b ∷ bs) (m ∷ ms) is n h =
      let mid : Numbers = is.0 in
      let first = manages_on old mid b m is.1 in
      let next = each_on mid new bs ms is.2 in
      let head : Keeps (held b.share ∷ []) (held m.share ∷ []) n = elim is.1 [
        | inl stays ↦ keeps_equal _ _ (ap (λ (s : Segment O). held s.share ∷ []) (sym stays.1)) n
        | inr moves ↦ keeps_beside old mid own m.share (held b.share ∷ []) [] moves.1.storage (keeps_wrapped_out b.share moves.0) n (apart_first old mid new n next h)
      ] in
      keeps-append n (held b.share ∷ []) (held_by bs) (held m.share ∷ []) (held_by ms) head (manages_keep mid new bs ms is.2 n (apart_then old mid new n first h))
  manages_keep old new [] (m ∷ ms) is n h = absurd is
  manages_keep old new (b ∷ bs) [] is n h = absurd is
