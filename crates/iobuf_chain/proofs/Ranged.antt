-- Ranges of bytes that are shared.
use Rattle.std.proofs.Common.{◌≡◌, ◌⊎◌, ℕ, suc, zero, ◌+◌, ◌-◌, ◌<◌, ◌≤◌, min, List, [], ◌∷◌, ◌++◌, Option, Some, None, length, take, drop, refl, sym, ap, subst, ◌∙◌, append_assoc, arith, inl, inr, length-append, length-drop, length-take-le, slice_get, slice_set}
use Rattle.std.specs.List.{AllZip}
use Rattle.std.proofs.lemmas.Option.{none-some}
use Rattle.std.proofs.lemmas.List.{append-nil, take_min}
use Rattle.buffer_model.specs.Share.{Share, own}
use Rattle.buffer_model.specs.Segment.{Segment, bytes_of, between_rooms, shared_as, trimmed_start, trimmed_end}
use Rattle.buffer_model.specs.Stake.{Stake, held, Keeps, KeepsTotals, KeepsTotalsBeside}
use Rattle.buffer_model.specs.Minted.{Numbers, Adds, AddsAtMost}
use Rattle.buffer_model.specs.Clones.{Clones}
use Rattle.buffer_model.proofs.Minted.{adds_none, adds_at_most, adds_then, at_most_on}
use Rattle.buffer_model.proofs.Totals.{keeps_same, keeps_equal, keeps-append, keeps_made, apart_first, apart_then}
use Rattle.buffer_model.proofs.Clones.{clone_keeps_totals}
use Rattle.iobuf_chain.specs.Accounts.{held_by}
use Rattle.iobuf_chain.specs.Lists.{Each}
use Rattle.iobuf_chain.specs.Copies.{HasData, WithData, CopiesNoData, IsShareable}
use Rattle.iobuf_chain.specs.Shares.{HasSome, narrowed, SharesOne, SharesNodes, SharesSome, SharesAt, ClonesAt, present, Regains, IsReturnable, IsReturnableAt, IsSharedSo, IsEmptyChain, Rejoins, RejoinsAt, RejoinsNext, RegainsAll}
use Rattle.iobuf_chain.proofs.Lists.{at_seam, length-slice_set}
use Rattle.iobuf_chain.proofs.TrimmedEnds.{drop-joined, take-joined}
use Rattle.iobuf_chain.proofs.Accounts.{swaps_nodes, held_by-append}
use Rattle.iobuf_chain.proofs.Rejoined.{clone_returns, clone_regains, regains_same, regains_each}
use Rattle.iobuf_chain.proofs.Shared.{set_same, keeps_over}
use Rattle.iobuf_chain.proofs.Copied.{each_map, clone_storage}

nothing_taken : (at n : ℕ) (w : List ℕ) → ((at < length w) × (0 < n) → ⊥) → take n (drop at w) ≡ []
nothing_taken at zero w h = refl
nothing_taken zero (suc n) [] h = refl
nothing_taken zero (suc n) (x ∷ w) h = absurd (h (omega arith, omega arith))
nothing_taken (suc at) (suc n) [] h = refl
nothing_taken (suc at) (suc n) (x ∷ w) h = nothing_taken at (suc n) w (λ p. h (let low = p.0 in omega (arith, low), let some = p.1 in omega (arith, some)))

-- of bytes of two lists that are joined, those of the first and those of the second
range-joined : (at n : ℕ) (w r : List ℕ) → take n (drop at (w ++ r)) ≡ take n (drop at w) ++ take (n - (length w - at)) (drop (at - length w) r)
range-joined at n w r =
    ap (λ xs. take n xs) (drop-joined at w r) ∙ take-joined n (drop at w) (drop (at - length w) r)
    ∙ ap (λ (m : ℕ). take n (drop at w) ++ take m (drop (at - length w) r)) (let l = length-drop at w in let e : n - length (drop at w) ≡ n - (length w - at) = omega (arith, l) in e)

module _ {O : Type 0} where
  pub part_none : (i at n len : ℕ) (old : Numbers) (before shares : List (Segment O)) (x : Segment O) → slice_get before i ≡ Some x
      → len ≡ length x.window → len ≤ at → SharesAt i at n old old before before shares shares
  part_none i at n len old before shares x there size past = record {
    node = x;
    left = x;
    part = None;
    there = there;
    one = ((λ has. let low = has.0 in absurd (omega (arith, low, size, past))), refl, refl);
    after_is = sym (set_same i before x there);
    more_is = sym (append-nil shares);
  }

  narrowed_so : (at n k : ℕ) (node clone : Segment O) → clone ≡ shared_as clone.share node → k ≡ length node.window - at - n
      → trimmed_end k (trimmed_start at clone) ≡ narrowed at n (shared_as clone.share node)
  narrowed_so at n k node clone lists e =
      let l = length-drop at node.window in
      let u : Segment O = shared_as clone.share node in
      let same : k ≡ length (drop at node.window) - n = omega (arith, e, l) in
      ap (λ (c : Segment O). trimmed_end k (trimmed_start at c)) lists ∙ ap (λ (m : ℕ). trimmed_end m (trimmed_start at u)) same

  pub part_some : (i at n len k : ℕ) (old new : Numbers) (before after shares grown more : List (Segment O)) (x clone t s : Segment O)
      → slice_get before i ≡ Some x → len ≡ length x.window → at < len → 0 < n → ClonesAt i old new before after clone → t ≡ trimmed_start at clone
      → k ≡ len - at - n → s ≡ trimmed_end k t → grown ≡ shares → more ≡ grown ++ s ∷ [] → SharesAt i at n old new before after shares more
  part_some i at n len k old new before after shares grown more x clone t s there size within some at_i start e end same push =
      let found = at_i.there in
      let node : Segment O = at_i.node in
      let is_x : node ≡ x = cc in
      let sizes : length x.window ≡ length node.window = ap (λ (z : Segment O). length z.window) (sym is_x) in
      let lists = at_i.clones.clone_lists in
      let cut : Segment O = trimmed_end k (trimmed_start at clone) in
      let s_is : s ≡ cut = end ∙ ap (λ (z : Segment O). trimmed_end k z) start in
      let P : Segment O → Type 0 = λ z. Clones old new node at_i.left z in
      let Q : Segment O → Type 0 = λ z. SharesOne at n old new node at_i.left (Some z) in
      record {
        node = node;
        left = at_i.left;
        part = Some s;
        there = found;
        one = subst Q (sym s_is) (
          (omega (arith, within, size, sizes), some),
          subst P lists at_i.clones,
          narrowed_so at n k node clone lists (omega (arith, e, size, sizes)),
        );
        after_is = at_i.after_is;
        more_is = push ∙ ap (λ xs. xs ++ s ∷ []) same;
      }

  present-push : (os : List (Option (Segment O))) (o : Option (Segment O)) → present (os ++ o ∷ []) ≡ present os ++ present (o ∷ [])
  present-push [] o = refl
  present-push (None ∷ os) o = present-push os o
  present-push (Some c ∷ os) o = ap (λ cs. c ∷ cs) (present-push os o)

  -- the nodes up to place i were shared, and `n` bytes from place `at` of those behind are left
  pub record SharesTo (from all : ℕ) (old : Numbers) (before : List (Segment O)) (i at n : ℕ) (mint : Numbers) (now shares : List (Segment O)) : Type 0 where
    pub left : List (Segment O)
    pub todo : List (Segment O)
    pub parts : List (Option (Segment O))
    pub now_is : now ≡ left ++ todo
    pub place : i ≡ length left
    pub size : length now ≡ length before
    pub enough : n ≤ length (bytes_of todo) - at
    pub shares_are : shares ≡ present parts
    pub rest : (k : ℕ) (last : Numbers) (fin : List (Segment O)) (more : List (Option (Segment O))) → SharesNodes at n k mint last todo fin more
        → SharesNodes from all k old last before (left ++ fin) (parts ++ more)

  pub to_begin : (at n : ℕ) (old : Numbers) (before shares : List (Segment O)) → at + n ≤ length (bytes_of before) → shares ≡ []
      → SharesTo at n old before 0 at n old before shares
  to_begin at n old before shares h none = record {
    left = [];
    todo = before;
    parts = [];
    now_is = refl;
    place = refl;
    size = refl;
    enough = omega (arith, h);
    shares_are = none;
    rest = λ k last fin more is. is;
  }

  pub to_there : (from all : ℕ) (old : Numbers) (before : List (Segment O)) (i at n : ℕ) (mint : Numbers) (now shares : List (Segment O))
      → SharesTo from all old before i at n mint now shares → 0 < n → (i < length now) × (length now ≡ length before)
  to_there from all old before i at n mint now shares t some =
      let sizes = ap length t.now_is ∙ length-append t.left t.todo in
      let place = t.place in (
        elim t.todo as (λ todo. n ≤ length (bytes_of todo) - at → length now ≡ length t.left + length todo → i < length now) [
          | [] ↦ λ h e. absurd (omega arith)
          | (x ∷ xs) ↦ λ h e. omega arith
        ] t.enough sizes,
        t.size,
      )

  pub to_step : (from all : ℕ) (old : Numbers) (before : List (Segment O)) (i at n : ℕ) (mint new : Numbers) (now after shares more : List (Segment O))
      (len to less : ℕ) (x : Segment O) → SharesTo from all old before i at n mint now shares → SharesAt i at n mint new now after shares more
      → slice_get now i ≡ Some x → len ≡ length x.window → to ≡ at - min at len → less ≡ n - min n (len - min at len)
      → SharesTo from all old before (i + 1) to less new after more
  to_step from all old before i at n mint new now after shares more len to less x t one there size passed fewer =
      let found = one.there in
      let is_x : one.node ≡ x = cc in
      let sizes : length x.window ≡ length one.node.window = ap (λ (z : Segment O). length z.window) (sym is_x) in
      let w : ℕ = length one.node.window in
      let here : slice_get (t.left ++ t.todo) (length t.left) ≡ Some one.node
      = ap (λ (m : ℕ). slice_get (t.left ++ t.todo) m) (sym t.place) ∙ ap (λ xs. slice_get xs i) (sym t.now_is) ∙ found in
      let seam = at_seam t.left t.todo one.node one.left here in
      let tail : List (Segment O) = seam.0 in
      let set : after ≡ t.left ++ (one.left ∷ tail)
      = one.after_is ∙ ap (λ xs. slice_set xs i one.left) t.now_is ∙ ap (λ (m : ℕ). slice_set (t.left ++ t.todo) m one.left) t.place ∙ seam.2 in
      let longer = length-append t.left (one.left ∷ []) in
      let place = t.place in
      let same_size : length now ≡ length after
      = ap length t.now_is ∙ ap (λ xs. length (t.left ++ xs)) seam.1 ∙ length-append t.left (one.node ∷ tail) ∙ sym (length-append t.left (one.left ∷ tail)) ∙ ap length (sym set) in
      let sums : length (bytes_of t.todo) ≡ w + length (bytes_of tail) = ap (λ ts. length (bytes_of ts)) seam.1 ∙ length-append one.node.window (bytes_of tail) in
      let enough = t.enough in
      let to_is : to ≡ at - w = omega (arith, passed, size, sizes) in
      let less_is : less ≡ n - (w - at) = omega (arith, fewer, size, sizes) in
      record {
        left = t.left ++ one.left ∷ [];
        todo = tail;
        parts = t.parts ++ one.part ∷ [];
        now_is = set ∙ sym (append_assoc t.left (one.left ∷ []) tail);
        place = omega (arith, longer, place);
        size = sym same_size ∙ t.size;
        enough = omega (arith, sums, enough, to_is, less_is);
        shares_are = one.more_is ∙ ap (λ xs. xs ++ present (one.part ∷ [])) t.shares_are ∙ sym (present-push t.parts one.part);
        rest = λ k last fin ends is.
            let P : ℕ → Type 0 = λ m. SharesNodes m less k new last tail fin ends in
            let Q : ℕ → Type 0 = λ m. SharesNodes (at - w) m k new last tail fin ends in
            let R : List (Segment O) → Type 0 = λ xs. SharesNodes at n k mint last xs (one.left ∷ fin) (one.part ∷ ends) in
            let S : List (Segment O) → Type 0 = λ xs. SharesNodes from all k old last before xs (t.parts ++ one.part ∷ ends) in
            let T : List (Option (Segment O)) → Type 0 = λ xs. SharesNodes from all k old last before ((t.left ++ one.left ∷ []) ++ fin) xs in
            subst T (sym (append_assoc t.parts (one.part ∷ []) ends)) (subst S (sym (append_assoc t.left (one.left ∷ []) fin))
            (t.rest k last (one.left ∷ fin) (one.part ∷ ends) (subst R (sym seam.1) (new, one.one, subst Q less_is (subst P to_is is)))));
      }

  pub to_stop : (from all : ℕ) (old : Numbers) (before : List (Segment O)) (i at n : ℕ) (mint : Numbers) (now shares : List (Segment O))
      → SharesTo from all old before i at n mint now shares → SharesSome from all n old mint before now shares
  to_stop from all old before i at n mint now shares t = record {
    parts = t.parts;
    nodes =
        let P : List (Segment O) → Type 0 = λ xs. SharesNodes from all n old mint before xs t.parts in
        let Q : List (Option (Segment O)) → Type 0 = λ xs. SharesNodes from all n old mint before (t.left ++ t.todo) xs in
        subst P (sym t.now_is) (subst Q (append-nil t.parts) (t.rest n mint t.todo [] (refl, refl, refl)));
    shares_are = t.shares_are;
  }

  pub to_end : (from all : ℕ) (old : Numbers) (before : List (Segment O)) (i at n : ℕ) (mint : Numbers) (now shares : List (Segment O))
      → SharesTo from all old before i at n mint now shares → n ≡ 0 → SharesSome from all 0 old mint before now shares
  to_end from all old before i at n mint now shares t none =
      let P : ℕ → Type 0 = λ k. SharesSome from all k old mint before now shares in
      subst P none (to_stop from all old before i at n mint now shares t)

  pub to_refused : (from all : ℕ) (old : Numbers) (before : List (Segment O)) (i at n : ℕ) (mint : Numbers) (now shares after more : List (Segment O))
      → SharesTo from all old before i at n mint now shares → after ≡ now → more ≡ shares → IsSharedSo from all before after more
  to_refused from all old before i at n mint now shares after more t same kept =
      let P : List (Segment O) → Type 0 = λ xs. IsSharedSo from all before xs more in
      let Q : List (Segment O) → Type 0 = λ xs. IsSharedSo from all before now xs in
      subst P (sym same) (subst Q (sym kept) record {
        left = n;
        old = old;
        new = mint;
        shared = to_stop from all old before i at n mint now shares t;
      })

  -- what sharing some bytes of nodes does
  clone_mint : (old new : Numbers) (b m c : Segment O) → Clones old new b m c → AddsAtMost 1 old new
  clone_mint old new b m c is = elim is.shares [
    | inl (same, s) ↦ adds_none 1 old new same
    | inr (adds, s) ↦ adds_at_most 1 1 old new adds (omega arith)
  ]

  one_mint : (at n : ℕ) (old new : Numbers) (b m : Segment O) (o : Option (Segment O)) → SharesOne at n old new b m o → AddsAtMost 1 old new
  one_mint at n old new b m None is = adds_none 1 old new is.2
  one_mint at n old new b m (Some c) is = clone_mint old new b m (shared_as c.share b) is.1

  one_window : (at n : ℕ) (old new : Numbers) (b m : Segment O) (o : Option (Segment O)) → SharesOne at n old new b m o → m.window ≡ b.window
  one_window at n old new b m None is = ap (λ (s : Segment O). s.window) is.1
  one_window at n old new b m (Some c) is = ap (λ (s : Segment O). s.window) is.1.lists

  nodes_mint : (at n k : ℕ) (old new : Numbers) (bs ms : List (Segment O)) (os : List (Option (Segment O))) → SharesNodes at n k old new bs ms os
      → AddsAtMost (length bs) old new
  nodes_mint at n k old new bs ms [] is = adds_none (length bs) old new is.2
  nodes_mint at n k old new (b ∷ bs) (m ∷ ms) (o ∷ os) is =
      let more = nodes_mint (at - length b.window) (n - (length b.window - at)) k is.0 new bs ms os is.2 in
      let all = adds_then 1 (length bs) old is.0 new (one_mint at n old is.0 b m o is.1) more in
      let low = all.1 in
      let high = all.2 in
      (all.0, low, omega (arith, high))
  nodes_mint at n k old new [] ms (o ∷ os) is = absurd is
  nodes_mint at n k old new (b ∷ bs) [] (o ∷ os) is = absurd is

  pub some_mint : (at n k : ℕ) (old new : Numbers) (bs ms cs : List (Segment O)) → SharesSome at n k old new bs ms cs → AddsAtMost (length bs) old new
  some_mint at n k old new bs ms cs s = nodes_mint at n k old new bs ms s.parts s.nodes

  nodes_sum : (at n k : ℕ) (old new : Numbers) (bs ms : List (Segment O)) (os : List (Option (Segment O))) → SharesNodes at n k old new bs ms os
      → (length ms ≡ length bs) × (bytes_of ms ≡ bytes_of bs)
  nodes_sum at n k old new bs ms [] is = (ap length is.1, ap bytes_of is.1)
  nodes_sum at n k old new (b ∷ bs) (m ∷ ms) (o ∷ os) is =
      let more = nodes_sum (at - length b.window) (n - (length b.window - at)) k is.0 new bs ms os is.2 in
      let same = one_window at n old is.0 b m o is.1 in
      (ap (λ (j : ℕ). suc j) more.0, ap (λ bytes. bytes ++ bytes_of ms) same ∙ ap (λ bytes. b.window ++ bytes) more.1)
  nodes_sum at n k old new [] ms (o ∷ os) is = absurd is
  nodes_sum at n k old new (b ∷ bs) [] (o ∷ os) is = absurd is

  pub some_sum : (at n k : ℕ) (old new : Numbers) (bs ms cs : List (Segment O)) → SharesSome at n k old new bs ms cs
      → (length ms ≡ length bs) × (bytes_of ms ≡ bytes_of bs)
  some_sum at n k old new bs ms cs s = nodes_sum at n k old new bs ms s.parts s.nodes

  narrowed_window : (at n : ℕ) (c s : Segment O) → c ≡ narrowed at n s → c.window ≡ take n (drop at s.window)
  narrowed_window at n c s is =
      let t : List ℕ = drop at s.window in
      ap (λ (z : Segment O). z.window) is
      ∙ ap (λ (m : ℕ). take m t) (let e : length t - (length t - n) ≡ min n (length t) = omega arith in e) ∙ take_min n t

  nodes_bytes : (at n : ℕ) (old new : Numbers) (bs ms : List (Segment O)) (os : List (Option (Segment O))) → SharesNodes at n 0 old new bs ms os
      → bytes_of (present os) ≡ take n (drop at (bytes_of bs))
  nodes_bytes at n old new bs ms [] is = ap (λ (m : ℕ). take m (drop at (bytes_of bs))) is.0
  nodes_bytes at n old new (b ∷ bs) (m ∷ ms) (None ∷ os) is =
      nodes_bytes (at - length b.window) (n - (length b.window - at)) is.0 new bs ms os is.2
      ∙ ap (λ xs. xs ++ take (n - (length b.window - at)) (drop (at - length b.window) (bytes_of bs))) (sym (nothing_taken at n b.window is.1.0))
      ∙ sym (range-joined at n b.window (bytes_of bs))
  nodes_bytes at n old new (b ∷ bs) (m ∷ ms) (Some c ∷ os) is =
      ap (λ xs. xs ++ bytes_of (present os)) (narrowed_window at n c (shared_as c.share b) is.1.2)
      ∙ ap (λ xs. take n (drop at b.window) ++ xs) (nodes_bytes (at - length b.window) (n - (length b.window - at)) is.0 new bs ms os is.2)
      ∙ sym (range-joined at n b.window (bytes_of bs))
  nodes_bytes at n old new [] ms (o ∷ os) is = absurd is
  nodes_bytes at n old new (b ∷ bs) [] (o ∷ os) is = absurd is

  pub range_bytes : (at n : ℕ) (old new : Numbers) (bs ms cs : List (Segment O)) → SharesSome at n 0 old new bs ms cs
      → bytes_of cs ≡ take n (drop at (bytes_of bs))
  range_bytes at n old new bs ms cs s = ap bytes_of s.shares_are ∙ nodes_bytes at n old new bs ms s.parts s.nodes

  one_keeps : (at n : ℕ) (old new : Numbers) (b m : Segment O) (o : Option (Segment O)) → SharesOne at n old new b m o
      → KeepsTotalsBeside old new (held b.share ∷ []) (held m.share ∷ held_by (present (o ∷ [])))
  one_keeps at n old new b m None is j h = keeps_equal _ _ (ap (λ (s : Segment O). held s.share ∷ []) (sym is.1)) j
  one_keeps at n old new b m (Some c) is j h = clone_keeps_totals old new b m (shared_as c.share b) is.1 j h

  present-cons : (o : Option (Segment O)) (os : List (Option (Segment O))) → present (o ∷ os) ≡ present (o ∷ []) ++ present os
  present-cons None os = refl
  present-cons (Some c) os = refl

  nodes_keep : (at n k : ℕ) (old new : Numbers) (bs ms : List (Segment O)) (os : List (Option (Segment O))) → SharesNodes at n k old new bs ms os
      → KeepsTotalsBeside old new (held_by bs) (held_by (ms ++ present os))
  nodes_keep at n k old new bs ms [] is j h = keeps_equal _ _ (ap held_by (sym is.1) ∙ ap held_by (sym (append-nil ms))) j
  nodes_keep at n k old new (b ∷ bs) (m ∷ ms) (o ∷ os) is j h =
      let mid : Numbers = is.0 in
      let first = at_most_on 1 old mid (one_mint at n old mid b m o is.1) in
      let next = at_most_on (length bs) mid new (nodes_mint (at - length b.window) (n - (length b.window - at)) k mid new bs ms os is.2) in
      let mine : List (Segment O) = present (o ∷ []) in
      let others : List (Segment O) = present os in
      let head = one_keeps at n old mid b m o is.1 j (apart_first old mid new j next h) in
      let rest = nodes_keep (at - length b.window) (n - (length b.window - at)) k mid new bs ms os is.2 j (apart_then old mid new j first h) in
      let both = keeps-append j (held b.share ∷ []) (held_by bs) (held m.share ∷ held_by mine) (held_by (ms ++ others)) head rest in
      let turned : Keeps (held_by (m ∷ (mine ++ ms))) (held_by (m ∷ (ms ++ mine))) j = swaps_nodes (m ∷ []) mine ms j in
      let longer = keeps-append j (held_by (m ∷ (mine ++ ms))) (held_by others) (held_by (m ∷ (ms ++ mine))) (held_by others) turned (keeps_same (held_by others) j) in
      let start : (held m.share ∷ held_by mine) ++ held_by (ms ++ others) ≡ held_by (m ∷ (mine ++ ms)) ++ held_by others
      = sym (held_by-append (m ∷ mine) (ms ++ others)) ∙ ap held_by (sym (append_assoc (m ∷ mine) ms others)) ∙ held_by-append ((m ∷ mine) ++ ms) others in
      let end : held_by (m ∷ (ms ++ mine)) ++ held_by others ≡ held_by ((m ∷ ms) ++ present (o ∷ os))
      = sym (held_by-append (m ∷ (ms ++ mine)) others) ∙ ap (λ xs. held m.share ∷ held_by xs) (append_assoc ms mine others)
      ∙ ap (λ xs. held m.share ∷ held_by (ms ++ xs)) (sym (present-cons o os)) in
      keeps_over j _ _ _ both (keeps_over j _ _ _ (keeps_equal _ _ start j) (keeps_over j _ _ _ longer (keeps_equal _ _ end j)))
  nodes_keep at n k old new [] ms (o ∷ os) is j h = absurd is
  nodes_keep at n k old new (b ∷ bs) [] (o ∷ os) is j h = absurd is

  pub some_keeps : (at n k : ℕ) (old new : Numbers) (bs ms cs : List (Segment O)) → SharesSome at n k old new bs ms cs
      → KeepsTotalsBeside old new (held_by bs) (held_by (ms ++ cs))
  some_keeps at n k old new bs ms cs s =
      let P : List (Segment O) → Type 0 = λ xs. KeepsTotalsBeside old new (held_by bs) (held_by (ms ++ xs)) in
      subst P (sym s.shares_are) (nodes_keep at n k old new bs ms s.parts s.nodes)

  nodes_copy_nothing : (at n k : ℕ) (old new : Numbers) (bs ms : List (Segment O)) (os : List (Option (Segment O))) → SharesNodes at n k old new bs ms os
      → WithData IsShareable bs → CopiesNoData bs (present os)
  nodes_copy_nothing at n k old new bs ms [] is may = tt
  nodes_copy_nothing at n k old new (b ∷ bs) (m ∷ ms) (None ∷ os) is may =
      each_map _ _ (present os) (λ s h d. inr (h d))
      (nodes_copy_nothing (at - length b.window) (n - (length b.window - at)) k is.0 new bs ms os is.2 may.1)
  nodes_copy_nothing at n k old new (b ∷ bs) (m ∷ ms) (Some c ∷ os) is may =
      let low = is.1.0.0 in
      let had : HasData b = omega (arith, low) in (
        (λ some.
            let same = (clone_storage old is.0 b m (shared_as c.share b) is.1.1 (may.0 had)).0 in
            inl (had, (sym same.0, sym same.1))),
        each_map _ _ (present os) (λ s h d. inr (h d))
            (nodes_copy_nothing (at - length b.window) (n - (length b.window - at)) k is.0 new bs ms os is.2 may.1),
      )
  nodes_copy_nothing at n k old new [] ms (o ∷ os) is may = absurd is
  nodes_copy_nothing at n k old new (b ∷ bs) [] (o ∷ os) is may = absurd is

  pub some_copy_nothing : (at n k : ℕ) (old new : Numbers) (bs ms cs : List (Segment O)) → SharesSome at n k old new bs ms cs → WithData IsShareable bs
      → CopiesNoData bs cs
  some_copy_nothing at n k old new bs ms cs s may =
      let P : List (Segment O) → Type 0 = λ xs. CopiesNoData bs xs in
      subst P (sym s.shares_are) (nodes_copy_nothing at n k old new bs ms s.parts s.nodes may)

  pub refused_mint : (from all : ℕ) (old : Numbers) (before : List (Segment O)) (i at n : ℕ) (mint last : Numbers) (now shares : List (Segment O))
      → SharesTo from all old before i at n mint now shares → last ≡ mint → AddsAtMost (length before) old last
  refused_mint from all old before i at n mint last now shares t same =
      let P : Numbers → Type 0 = λ m. AddsAtMost (length before) old m in
      subst P (sym same) (some_mint from all n old mint before now shares (to_stop from all old before i at n mint now shares t))

  -- shares that are given back, each to its node
  pub record Settles (at n : ℕ) (todo : List (Segment O)) (y : Segment O) (ys left : List (Segment O)) (settled : Segment O) : Type 0 where
    pub first : Segment O
    pub others : List (Segment O)
    pub todo_is : todo ≡ first ∷ others
    pub regains : Regains first settled
    pub shared : IsSharedSo (at - length y.window) (n - (length y.window - at)) others ys left

  some_after : (at n : ℕ) (old new : Numbers) (b y : Segment O) (o : Option (Segment O)) → SharesOne at n old new b y o → HasSome at n b → HasSome at n y
  some_after at n old new b y o is has =
      let same = ap length (one_window at n old new b y o is) in
      let low = has.0 in
      (omega (arith, same, low), has.1)

  rest_shared : (at n k : ℕ) (old mid new : Numbers) (b y : Segment O) (o : Option (Segment O)) (bs ys : List (Segment O)) (os : List (Option (Segment O)))
      (left : List (Segment O)) → SharesOne at n old mid b y o → SharesNodes (at - length b.window) (n - (length b.window - at)) k mid new bs ys os
      → left ≡ present os → IsSharedSo (at - length y.window) (n - (length y.window - at)) bs ys left
  rest_shared at n k old mid new b y o bs ys os left one is e =
      let same = ap length (one_window at n old mid b y o one) in
      let P : ℕ → Type 0 = λ w. SharesNodes (at - w) (n - (w - at)) k mid new bs ys os in
      record {
        left = k;
        old = mid;
        new = new;
        shared = record { parts = os; nodes = subst P (sym same) is; shares_are = e };
      }

  not_none : (s : Segment O) (rest xs : List (Segment O)) → xs ≡ s ∷ rest → xs ≡ [] → ⊥
  not_none s rest xs e none = let size = ap length e in let no = ap length none in omega (arith, size, no)

  stays_at : (at n k : ℕ) (old new : Numbers) (bs : List (Segment O)) (y : Segment O) (ys : List (Segment O)) (os : List (Option (Segment O)))
      (shares left : List (Segment O)) → SharesNodes at n k old new bs (y ∷ ys) os → shares ≡ present os → (HasSome at n y → shares ≡ []) → left ≡ shares
      → Settles at n bs y ys left y
  stays_at at n k old new bs y ys [] shares left is e none same = record {
    first = y;
    others = ys;
    todo_is = sym is.1;
    regains = regains_same y y refl;
    shared = record {
      left = n - (length y.window - at);
      old = new;
      new = new;
      shared = record { parts = []; nodes = (refl, refl, refl); shares_are = same ∙ e };
    };
  }
  stays_at at n k old new (b ∷ bs) y ys (None ∷ os) shares left is e none same = record {
    first = b;
    others = bs;
    todo_is = refl;
    regains = regains_same b y is.1.1;
    shared = rest_shared at n k old is.0 new b y None bs ys os left is.1 is.2 (same ∙ e);
  }
  stays_at at n k old new (b ∷ bs) y ys (Some c ∷ os) shares left is e none same =
      absurd (not_none c (present os) shares e (none (some_after at n old is.0 b y (Some c) is.1 is.1.0)))
  stays_at at n k old new [] y ys (o ∷ os) shares left is e none same = absurd is

  gives_at : (at n k : ℕ) (old new : Numbers) (bs : List (Segment O)) (y : Segment O) (ys : List (Segment O)) (os : List (Option (Segment O)))
      (shares left : List (Segment O)) (s z : Segment O) → SharesNodes at n k old new bs (y ∷ ys) os → shares ≡ present os → HasSome at n y
      → shares ≡ s ∷ left → Rejoins y s.share z → Settles at n bs y ys left z
  gives_at at n k old new bs y ys [] shares left s z is e has front r = absurd (not_none s left shares front e)
  gives_at at n k old new (b ∷ bs) y ys (None ∷ os) shares left s z is e has front r =
      absurd (is.1.0 (let same = ap length (one_window at n old is.0 b y None is.1) in let low = has.0 in (omega (arith, same, low), has.1)))
  gives_at at n k old new (b ∷ bs) y ys (Some c ∷ os) shares left s z is e has front r =
      let both : s ∷ left ≡ c ∷ present os = sym front ∙ e in
      let one : s ≡ c = cc in
      let others : left ≡ present os = cc in
      let P : Segment O → Type 0 = λ x. Rejoins y x.share z in
      record {
        first = b;
        others = bs;
        todo_is = refl;
        regains = clone_regains old is.0 b y (shared_as c.share b) z is.1.1 (subst P one r);
        shared = rest_shared at n k old is.0 new b y (Some c) bs ys os left is.1 is.2 others;
      }
  gives_at at n k old new [] y ys (o ∷ os) shares left s z is e has front r = absurd is

  returns_at : (at n k : ℕ) (old new : Numbers) (bs : List (Segment O)) (y : Segment O) (ys : List (Segment O)) (os : List (Option (Segment O)))
      (shares left : List (Segment O)) (s : Segment O) → SharesNodes at n k old new bs (y ∷ ys) os → shares ≡ present os → HasSome at n y
      → shares ≡ s ∷ left → IsReturnable y.share s.share
  returns_at at n k old new bs y ys [] shares left s is e has front = absurd (not_none s left shares front e)
  returns_at at n k old new (b ∷ bs) y ys (None ∷ os) shares left s is e has front =
      absurd (is.1.0 (let same = ap length (one_window at n old is.0 b y None is.1) in let low = has.0 in (omega (arith, same, low), has.1)))
  returns_at at n k old new (b ∷ bs) y ys (Some c ∷ os) shares left s is e has front =
      let both : s ∷ left ≡ c ∷ present os = sym front ∙ e in
      let one : c ≡ s = cc in
      let P : Segment O → Type 0 = λ x. IsReturnable y.share x.share in
      subst P one (clone_returns old is.0 b y (shared_as c.share b) is.1.1)
  returns_at at n k old new [] y ys (o ∷ os) shares left s is e has front = absurd is

  -- the nodes up to place i have what they had
  pub record RegainsTo (i at n : ℕ) (before now shares : List (Segment O)) : Type 0 where
    pub done : List (Segment O)
    pub settled : List (Segment O)
    pub todo : List (Segment O)
    pub rest : List (Segment O)
    pub before_is : before ≡ done ++ todo
    pub now_is : now ≡ settled ++ rest
    pub place : i ≡ length settled
    pub regained : AllZip Regains done settled
    pub shared : IsSharedSo at n todo rest shares

  pub regains_begin : (at n : ℕ) (before now shares : List (Segment O)) → IsSharedSo at n before now shares → RegainsTo 0 at n before now shares
  regains_begin at n before now shares s = record {
    done = [];
    settled = [];
    todo = before;
    rest = now;
    before_is = refl;
    now_is = refl;
    place = refl;
    regained = tt;
    shared = s;
  }

  zip_one : (xs ys : List (Segment O)) (x y : Segment O) → AllZip Regains xs ys → Regains x y → AllZip Regains (xs ++ x ∷ []) (ys ++ y ∷ [])
  zip_one [] [] x y all r = (r, tt)
  zip_one [] (z ∷ zs) x y all r = absurd all
  zip_one (u ∷ us) [] x y all r = absurd all
  zip_one (u ∷ us) (z ∷ zs) x y all r = (all.0, zip_one us zs x y all.1 r)

  here_is : (i : ℕ) (now settled rest : List (Segment O)) (x : Segment O) → now ≡ settled ++ rest → i ≡ length settled → slice_get now i ≡ Some x
      → slice_get (settled ++ rest) (length settled) ≡ Some x
  here_is i now settled rest x is place there =
      ap (λ (m : ℕ). slice_get (settled ++ rest) m) (sym place) ∙ ap (λ xs. slice_get xs i) (sym is) ∙ there

  step_with : (i at n to less len : ℕ) (before now after shares left : List (Segment O)) (x z : Segment O) (tail : List (Segment O)) (t : RegainsTo i at n before now shares)
      → t.rest ≡ x ∷ tail → after ≡ t.settled ++ (z ∷ tail) → Settles at n t.todo x tail left z → len ≡ length x.window → to ≡ at - min at len
      → less ≡ n - min n (len - min at len) → RegainsTo (i + 1) to less before after left
  step_with i at n to less len before now after shares left x z tail t front set s size passed fewer =
      let longer = length-append t.settled (z ∷ []) in
      let place = t.place in
      let w : ℕ = length x.window in
      let to_is : to ≡ at - w = omega (arith, passed, size) in
      let less_is : less ≡ n - (w - at) = omega (arith, fewer, size) in
      let P : ℕ → Type 0 = λ m. IsSharedSo m less s.others tail left in
      let Q : ℕ → Type 0 = λ m. IsSharedSo (at - w) m s.others tail left in
      record {
        done = t.done ++ s.first ∷ [];
        settled = t.settled ++ z ∷ [];
        todo = s.others;
        rest = tail;
        before_is = t.before_is ∙ ap (λ xs. t.done ++ xs) s.todo_is ∙ sym (append_assoc t.done (s.first ∷ []) s.others);
        now_is = set ∙ sym (append_assoc t.settled (z ∷ []) tail);
        place = omega (arith, longer, place);
        regained = zip_one t.done t.settled s.first z t.regained s.regains;
        shared = subst P (sym to_is) (subst Q (sym less_is) s.shared);
      }

  pub regains_step : (i at n to less len : ℕ) (before now after shares left : List (Segment O)) (x : Segment O) → RegainsTo i at n before now shares
      → RejoinsNext i at n now shares after left → slice_get now i ≡ Some x → len ≡ length x.window → to ≡ at - min at len
      → less ≡ n - min n (len - min at len) → RegainsTo (i + 1) to less before after left
  regains_step i at n to less len before now after shares left x t r there size passed fewer =
      let here = here_is i now t.settled t.rest x t.now_is t.place there in
      let found = r.there in
      let is_x : r.node ≡ x = cc in
      let some : SharesSome at n t.shared.left t.shared.old t.shared.new t.todo t.rest shares = t.shared.shared in
      elim r.stays_or_gives [
        | inl (none, stays, kept) ↦
            let seam = at_seam t.settled t.rest x x here in
            let P : List (Segment O) → Type 0 = λ xs. SharesNodes at n t.shared.left t.shared.old t.shared.new t.todo xs some.parts in
            let Q : Segment O → Type 0 = λ w. HasSome at n w → shares ≡ [] in
            step_with i at n to less len before now after shares left x x seam.0 t seam.1 (stays ∙ t.now_is ∙ ap (λ xs. t.settled ++ xs) seam.1)
            (stays_at at n t.shared.left t.shared.old t.shared.new t.todo x seam.0 some.parts shares left (subst P seam.1 some.nodes) some.shares_are
            (subst Q is_x none) kept) size passed fewer
        | inr (has, s, front, back) ↦
            let z : Segment O = back.settled in
            let seam = at_seam t.settled t.rest x z here in
            let again = back.there in
            let is_back : back.node ≡ x = cc in
            let P : List (Segment O) → Type 0 = λ xs. SharesNodes at n t.shared.left t.shared.old t.shared.new t.todo xs some.parts in
            let Q : Segment O → Type 0 = λ w. HasSome at n w in
            let R : Segment O → Type 0 = λ w. Rejoins w s.share z in
            let set : after ≡ t.settled ++ (z ∷ seam.0)
            = back.after_is ∙ ap (λ xs. slice_set xs i z) t.now_is ∙ ap (λ (m : ℕ). slice_set (t.settled ++ t.rest) m z) t.place ∙ seam.2 in
            step_with i at n to less len before now after shares left x z seam.0 t seam.1 set
            (gives_at at n t.shared.left t.shared.old t.shared.new t.todo x seam.0 some.parts shares left s z (subst P seam.1 some.nodes) some.shares_are
            (subst Q is_x has) front (subst R is_back back.rejoins)) size passed fewer
      ]

  pub regains_may : (i at n : ℕ) (before now shares : List (Segment O)) → RegainsTo i at n before now shares → IsReturnableAt i at n now shares
  regains_may i at n before now shares t node s left there has front =
      let here = here_is i now t.settled t.rest node t.now_is t.place there in
      let seam = at_seam t.settled t.rest node node here in
      let some : SharesSome at n t.shared.left t.shared.old t.shared.new t.todo t.rest shares = t.shared.shared in
      let P : List (Segment O) → Type 0 = λ xs. SharesNodes at n t.shared.left t.shared.old t.shared.new t.todo xs some.parts in
      returns_at at n t.shared.left t.shared.old t.shared.new t.todo node seam.0 some.parts shares left s (subst P seam.1 some.nodes) some.shares_are has front

  nodes_size : (at n k : ℕ) (old new : Numbers) (bs ms : List (Segment O)) (os : List (Option (Segment O))) → SharesNodes at n k old new bs ms os
      → ms ≡ [] → bs ≡ []
  nodes_size at n k old new bs ms [] is none = sym is.1 ∙ none
  nodes_size at n k old new (b ∷ bs) (m ∷ ms) (o ∷ os) is none = absurd (not_none m ms (m ∷ ms) refl none)
  nodes_size at n k old new [] ms (o ∷ os) is none = absurd is
  nodes_size at n k old new (b ∷ bs) [] (o ∷ os) is none = absurd is

  last_one : (xs ys : List (Segment O)) → length (ys ++ xs) ≤ length ys → xs ≡ []
  last_one [] ys l = refl
  last_one (x ∷ xs) ys l = absurd (let s = length-append ys (x ∷ xs) in omega (arith, s, l))

  pub regains_end : (i at n : ℕ) (before now shares : List (Segment O)) → RegainsTo i at n before now shares → length now ≤ i → AllZip Regains before now
  regains_end i at n before now shares t h =
      let sizes = ap length t.now_is in
      let place = t.place in
      let none : t.rest ≡ [] = last_one t.rest t.settled (omega (arith, sizes, place, h)) in
      let some : SharesSome at n t.shared.left t.shared.old t.shared.new t.todo t.rest shares = t.shared.shared in
      let no : t.todo ≡ [] = nodes_size at n t.shared.left t.shared.old t.shared.new t.todo t.rest some.parts some.nodes none in
      let first : t.done ≡ before = sym (append-nil t.done) ∙ ap (λ xs. t.done ++ xs) (sym no) ∙ sym t.before_is in
      let second : t.settled ≡ now = sym (append-nil t.settled) ∙ ap (λ xs. t.settled ++ xs) (sym none) ∙ sym t.now_is in
      let P : List (Segment O) → Type 0 = λ xs. AllZip Regains xs t.settled in
      let Q : List (Segment O) → Type 0 = λ xs. AllZip Regains before xs in
      subst Q second (subst P first t.regained)

  pub next_size : (i at n : ℕ) (before shares after left : List (Segment O)) → RejoinsNext i at n before shares after left → length after ≡ length before
  next_size i at n before shares after left r = elim r.stays_or_gives [
    | inl (none, stays, kept) ↦ ap length stays
    | inr (has, s, front, back) ↦ ap length back.after_is ∙ length-slice_set i back.settled before
  ]

  pub next_stays : (i at n : ℕ) (before shares : List (Segment O)) (x : Segment O) → slice_get before i ≡ Some x → (HasSome at n x → shares ≡ [])
      → RejoinsNext i at n before shares before shares
  next_stays i at n before shares x there none = record { node = x; there = there; stays_or_gives = inl (none, refl, refl) }

  pub next_gives : (i at n : ℕ) (before shares after left : List (Segment O)) (x s : Segment O) → slice_get before i ≡ Some x → HasSome at n x
      → shares ≡ s ∷ left → RejoinsAt i before s.share after → RejoinsNext i at n before shares after left
  next_gives i at n before shares after left x s there has front back = record { node = x; there = there; stays_or_gives = inr (has, s, front, back) }

  -- a share of some bytes has them all, and so a node
  pub range_some : (at n : ℕ) (old new : Numbers) (bs ms cs : List (Segment O)) → SharesSome at n 0 old new bs ms cs → 0 < n
      → at + n ≤ length (bytes_of bs) → (length (bytes_of cs) ≡ n) × (0 < length cs)
  range_some at n old new bs ms cs s some h =
      let l = length-drop at (bytes_of bs) in
      let all : length (bytes_of cs) ≡ n
      = ap length (range_bytes at n old new bs ms cs s) ∙ length-take-le n (drop at (bytes_of bs)) (omega (arith, l, h)) in (
        all,
        elim cs as (λ xs. length (bytes_of xs) ≡ n → 0 < length xs) [
          | [] ↦ λ e. absurd (omega arith)
          | (x ∷ xs) ↦ λ e. omega arith
        ] all,
      )

  pub empty_keeps : (old new : Numbers) (xs cs : List (Segment O)) → IsEmptyChain old new cs → KeepsTotalsBeside old new (held_by xs) (held_by (xs ++ cs))
  empty_keeps old new xs cs is n h =
      let made = keeps_made old new own is.share is.storage n h in
      let both = keeps-append n (held_by xs) [] (held_by xs) (held is.share ∷ []) (keeps_same (held_by xs) n) made in
      let end : held_by xs ++ held is.share ∷ [] ≡ held_by (xs ++ cs)
      = sym (held_by-append xs (between_rooms 0 0 [] is.share ∷ [])) ∙ ap (λ ys. held_by (xs ++ ys)) (sym is.nodes_are) in
      keeps_over n _ _ _ (keeps_equal _ _ (sym (append-nil (held_by xs))) n) (keeps_over n _ _ _ both (keeps_equal _ _ end n))
