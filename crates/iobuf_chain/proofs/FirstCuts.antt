-- Chains that lose the first bytes of their first node to a clone of it.
use Rattle.std.proofs.Common.{◌≡◌, ℕ, ◌+◌, ◌-◌, ◌<◌, ◌≤◌, List, [], ◌∷◌, ◌++◌, Option, Some, None, length, take, drop, slice_get, slice_set, refl, ap, sym, subst, ◌∙◌, append_assoc, append-nil, arith, length-append, length-drop}
use Rattle.std.specs.Prelude.{IfSome}
use Rattle.std.proofs.lemmas.Option.{none-some}
use Rattle.buffer_model.specs.Segment.{Segment, bytes_of, trimmed_start, trimmed_end}
use Rattle.buffer_model.specs.Share.{Share, part_of}
use Rattle.buffer_model.specs.Stake.{Stake, Storage, held, Keeps, KeepsTotals, KeepsTotalsBeside}
use Rattle.buffer_model.specs.Minted.{Numbers}
use Rattle.buffer_model.specs.Clones.{Clones, SharesPart}
use Rattle.buffer_model.proofs.Totals.{keeps_same, keeps_equal, keeps_then, keeps-append, share_keeps}
use Rattle.buffer_model.proofs.Clones.{clone_keeps_totals}
use Rattle.iobuf_chain.specs.Accounts.{held_by}
use Rattle.iobuf_chain.specs.Lists.{TurnsAt}
use Rattle.iobuf_chain.specs.Shares.{ClonesAt, CutsFirst, SharesFirst}
use Rattle.iobuf_chain.proofs.Accounts.{held_by-append, swaps_stakes}

module _ {O : Type 0} where
  cut_of : (k : ℕ) (old new : Numbers) (before mid after front : List (Segment O)) (s clone end : Segment O) (len : ℕ)
      → ClonesAt 0 old new before mid clone → TurnsAt (trimmed_start k) 0 mid after → slice_get before 0 ≡ Some s → len ≡ length s.window
      → end ≡ trimmed_end (len - k) clone → front ≡ end ∷ [] → CutsFirst k old new before front after
  cut_of k old new [] mid after front s clone end len cloned turned at size is only = absurd (none-some s at)
  cut_of k old new (y ∷ ys) mid after front s clone end len cloned turned at size is only =
      let first : y ≡ cloned.node = let e = cloned.there in cc in
      let same : y ≡ s = cc in
      let there : slice_get (cloned.left ∷ ys) 0 ≡ Some turned.item = ap (λ w. slice_get w 0) (sym cloned.after_is) ∙ turned.there in
      let item : cloned.left ≡ turned.item = cc in record {
        node = cloned.node;
        behind = ys;
        left = cloned.left;
        clone = clone;
        before_is = ap (λ w. w ∷ ys) first;
        clones = cloned.clones;
        front_is = only ∙ ap (λ w. w ∷ []) is ∙ ap (λ (n : ℕ). trimmed_end (n - k) clone ∷ []) (size ∙ ap (λ (t : Segment O). length t.window) (sym same ∙ first));
        after_is = turned.turned ∙ ap (λ w. slice_set w 0 (trimmed_start k turned.item)) cloned.after_is ∙ ap (λ t. trimmed_start k t ∷ ys) (sym item);
      }

  pub cut_as : (k : ℕ) (old new : Numbers) (nodes before mid after front : List (Segment O)) (s clone end : Segment O) (len : ℕ) → nodes ≡ before
      → ClonesAt 0 old new nodes mid clone → TurnsAt (trimmed_start k) 0 mid after → slice_get nodes 0 ≡ Some s → len ≡ length s.window
      → end ≡ trimmed_end (len - k) clone → front ≡ end ∷ [] → CutsFirst k old new before front after
  cut_as k old new nodes before mid after front s clone end len same cloned turned at size is only =
      let P : List (Segment O) → Type 0 = λ w. CutsFirst k old new w front after in
      subst P same (cut_of k old new nodes mid after front s clone end len cloned turned at size is only)

  -- so many bytes fewer are left
  pub cut_size : (k : ℕ) (old new : Numbers) (before after front : List (Segment O)) → CutsFirst k old new before front after → IfSome (slice_get before 0) (λ s. k < length s.window)
      → (length (bytes_of after) + k ≡ length (bytes_of before)) × (length after ≡ length before)
  cut_size k old new before after front cut fits =
      let b = ap (λ w. length (bytes_of w)) cut.before_is in
      let a = ap (λ w. length (bytes_of w)) cut.after_is in
      let lb = length-append cut.node.window (bytes_of cut.behind) in
      let la = length-append (drop k cut.left.window) (bytes_of cut.behind) in
      let d = length-drop k cut.left.window in
      let e = ap (λ (t : Segment O). length t.window) cut.clones.lists in
      let P : List (Segment O) → Type 0 = λ w. IfSome (slice_get w 0) (λ s. k < length s.window) in
      let within : IfSome (Some cut.node) (λ s. k < length s.window) = subst P cut.before_is fits in
      (omega (arith, a, b, la, lb, d, e, within), ap length cut.after_is ∙ sym (ap length cut.before_is))

  -- a node gave a part of its weight to another, which comes last
  parted_totals : (n : Storage) (behind : List (Segment O)) (node left clone : Share O) (before after : List (Stake O)) → Keeps (held node ∷ []) (held left ∷ held clone ∷ []) n
      → before ≡ held node ∷ held_by behind → after ≡ held left ∷ (held_by behind ++ held clone ∷ []) → Keeps before after n
  parted_totals n behind node left clone before after keeps was is =
      let rest = held_by behind in
      let cloned : Keeps (held node ∷ rest) (held left ∷ held clone ∷ rest) n = keeps-append n (held node ∷ []) rest (held left ∷ held clone ∷ []) rest keeps (keeps_same rest n) in
      let moved : KeepsTotals (held left ∷ held clone ∷ rest) after = keeps_then _ _ _ (swaps_stakes (held left ∷ []) (held clone ∷ []) rest) (keeps_equal _ _ (sym is)) in
      let P : List (Stake O) → Type 0 = λ w. Keeps w after n in
      subst P (sym was) (record { total = (moved n).total ∙ cloned.total; way = λ kind is. (moved n).way kind (cloned.way kind is) })

  -- the nodes with the other behind them
  parted_nodes : (k : ℕ) (behind front after : List (Segment O)) (left other : Segment O) → after ≡ trimmed_start k left ∷ behind → front ≡ other ∷ []
      → held_by (after ++ front) ≡ held left.share ∷ (held_by behind ++ held other.share ∷ [])
  parted_nodes k behind front after left other is only =
      ap (λ w. held_by (w ++ front)) is ∙ ap (λ w. held_by (trimmed_start k left ∷ (behind ++ w))) only ∙ ap (λ w. held left.share ∷ w) (held_by-append behind (other ∷ []))

  pub cut_keeps_totals : (k : ℕ) (old new : Numbers) (before after front : List (Segment O)) → CutsFirst k old new before front after → KeepsTotalsBeside old new (held_by before) (held_by (after ++ front))
  cut_keeps_totals k old new before after front cut n lt =
      parted_totals n cut.behind cut.node.share cut.left.share cut.clone.share (held_by before) (held_by (after ++ front)) (clone_keeps_totals old new cut.node cut.left cut.clone cut.clones n lt)
      (ap held_by cut.before_is) (parted_nodes k cut.behind front after cut.left _ cut.after_is cut.front_is)

  part_totals : (before after clone : Segment O) → SharesPart before after clone → KeepsTotals (held before.share ∷ []) (held after.share ∷ held clone.share ∷ [])
  part_totals before after clone s =
      keeps_then _ _ _ (share_keeps before.share s.enough)
      (keeps_equal _ _ (ap (λ w. held w ∷ held (part_of before.share) ∷ []) (sym s.rest) ∙ ap (λ w. held after.share ∷ held w ∷ []) (sym s.part)))

  -- the same by a share of the first node, whose window changed
  pub share_keeps_totals : (k : ℕ) (nodes before mid after front : List (Segment O)) (clone other : Segment O) → nodes ≡ before → SharesFirst nodes mid clone → TurnsAt (trimmed_start k) 0 mid after
      → front ≡ other ∷ [] → other.share ≡ clone.share → KeepsTotals (held_by before) (held_by (after ++ front))
  share_keeps_totals k nodes before mid after front clone other same s turned only kept n =
      let there : slice_get (s.left ∷ s.behind) 0 ≡ Some turned.item = ap (λ w. slice_get w 0) (sym s.after_is) ∙ turned.there in
      let item : s.left ≡ turned.item = cc in
      let is : after ≡ trimmed_start k s.left ∷ s.behind =
      turned.turned ∙ ap (λ w. slice_set w 0 (trimmed_start k turned.item)) s.after_is ∙ ap (λ t. trimmed_start k t ∷ s.behind) (sym item) in
      parted_totals n s.behind s.node.share s.left.share clone.share (held_by before) (held_by (after ++ front)) (part_totals s.node s.left clone s.shares n)
      (ap held_by (sym same ∙ s.before_is))
      (parted_nodes k s.behind front after s.left other is only ∙ ap (λ w. held s.left.share ∷ (held_by s.behind ++ held w ∷ [])) kept)
