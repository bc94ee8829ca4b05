-- Nodes whose letters become capital ones, one after another.
use Rattle.std.proofs.Common.{◌≡◌, ℕ, suc, zero, ◌+◌, ◌≤◌, List, [], ◌∷◌, ◌++◌, Some, length, map, refl, sym, ap, subst, ◌∙◌, append_assoc, arith, length-append, slice_get, slice_set}
use Rattle.std.specs.List.{AllZip}
use Rattle.std.proofs.lemmas.List.{append-nil, map-append}
use Rattle.buffer_model.specs.Share.{IsAlone}
use Rattle.buffer_model.specs.Segment.{Segment, bytes_of}
use Rattle.buffer_model.specs.Stake.{Stake, KeepsTotals}
use Rattle.buffer_model.proofs.Totals.{keeps_same, keeps_then}
use Rattle.iobuf_chain.specs.Accounts.{held_by}
use Rattle.iobuf_chain.specs.Lists.{Each, TurnsAt}
use Rattle.iobuf_chain.proofs.Lists.{at_seam}
use Rattle.iobuf_chain.proofs.Bytes.{bytes_of-append}
use Rattle.pipeline.specs.Plain.{raised}
use Rattle.pipeline.specs.Nodes.{IsKept, Raises, raised_node}
use Rattle.pipeline.proofs.Handing.{kept_self, kept_then, kept_set}
use Rattle.pipeline.proofs.Working.{keeps_at}

module _ {O : Type 0} where
  -- bytes with another node of the same bytes in some place
  pub bytes_set : (i : ℕ) (xs : List (Segment O)) (x y : Segment O) → slice_get xs i ≡ Some x → y.window ≡ x.window → bytes_of (slice_set xs i y) ≡ bytes_of xs
  bytes_set i [] x y there same = refl
  bytes_set zero (z ∷ zs) x y there same =
      let e : z ≡ x = cc in
      ap (λ w. w ++ bytes_of zs) (same ∙ ap (λ (u : Segment O). u.window) (sym e))
  bytes_set (suc i) (z ∷ zs) x y there same = ap (λ bs. z.window ++ bs) (bytes_set i zs x y there same)

  -- so many nodes have capital letters
  pub record Raising (all : List (Segment O)) (i : ℕ) (now : List (Segment O)) : Type 0 where
    pub done : List (Segment O)
    pub raised_ones : List (Segment O)
    pub todo : List (Segment O)
    pub all_is : all ≡ done ++ todo
    pub now_is : now ≡ raised_ones ++ todo
    pub count : length raised_ones ≡ i
    pub had : length done ≡ i
    pub bytes : bytes_of raised_ones ≡ map raised (bytes_of done)
    pub alone : Each (λ s. IsAlone s.share) todo
    pub kept : AllZip IsKept all now
    pub totals : KeepsTotals (held_by all) (held_by now)

  pub raising_begins : (all : List (Segment O)) → Each (λ s. IsAlone s.share) all → Raising all 0 all
  raising_begins all alone = record {
    done = [];
    raised_ones = [];
    todo = all;
    all_is = refl;
    now_is = refl;
    count = refl;
    had = refl;
    bytes = refl;
    alone = alone;
    kept = kept_self all;
    totals = keeps_same (held_by all);
  }

  pub raising_size : (all : List (Segment O)) (i : ℕ) (now : List (Segment O)) → Raising all i now → length now ≡ length all
  raising_size all i now r =
      let a = ap length r.all_is ∙ length-append r.done r.todo in
      let b = ap length r.now_is ∙ length-append r.raised_ones r.todo in
      let c = r.count in
      let d = r.had in
      omega (arith, a, b, c, d)

  -- the next node is alone
  pub raising_alone : (all : List (Segment O)) (i : ℕ) (now : List (Segment O)) (x : Segment O) → Raising all i now → slice_get now i ≡ Some x → IsAlone x.share
  raising_alone all i now x r there =
      let P : ℕ → Type 0 = λ (j : ℕ). slice_get (r.raised_ones ++ r.todo) j ≡ Some x in
      let at = at_seam r.raised_ones r.todo x x (subst P (sym r.count) (ap (λ us. slice_get us i) (sym r.now_is) ∙ there)) in
      let Q : List (Segment O) → Type 0 = λ us. Each (λ s. IsAlone s.share) us in
      (subst Q at.1 r.alone).0

  pub raising_step : (all : List (Segment O)) (i : ℕ) (now new : List (Segment O)) → Raising all i now → TurnsAt raised_node i now new → Raising all (i + 1) new
  raising_step all i now new r t =
      let y : Segment O = raised_node t.item in
      let P : ℕ → Type 0 = λ (j : ℕ). slice_get (r.raised_ones ++ r.todo) j ≡ Some t.item in
      let at = at_seam r.raised_ones r.todo t.item y (subst P (sym r.count) (ap (λ us. slice_get us i) (sym r.now_is) ∙ t.there)) in
      let set : new ≡ r.raised_ones ++ (y ∷ at.0)
      = t.turned ∙ ap (λ us. slice_set us i y) r.now_is ∙ ap (λ (j : ℕ). slice_set (r.raised_ones ++ r.todo) j y) (sym r.count) ∙ at.2 in
      let Q : List (Segment O) → Type 0 = λ us. Each (λ s. IsAlone s.share) us in
      let R : List (Segment O) → Type 0 = λ us. AllZip IsKept now us in
      let K : List (Segment O) → Type 0 = λ us. KeepsTotals (held_by now) (held_by us) in
      let L : List (Stake O) → Type 0 = λ ss. KeepsTotals (held_by now) ss in
      let one : KeepsTotals (held_by now) (held_by (slice_set now i y))
      = subst L (append-nil (held_by (slice_set now i y))) (λ z. keeps_at z i now t.item y [] t.there (record { total = refl; way = λ kind is. is })) in
      let counted = r.count in
      let had = r.had in
      record {
        done = r.done ++ t.item ∷ [];
        raised_ones = r.raised_ones ++ y ∷ [];
        todo = at.0;
        all_is = r.all_is ∙ ap (λ us. r.done ++ us) at.1 ∙ sym (append_assoc r.done (t.item ∷ []) at.0);
        now_is = set ∙ sym (append_assoc r.raised_ones (y ∷ []) at.0);
        count = length-append r.raised_ones (y ∷ []) ∙ omega (arith, counted);
        had = length-append r.done (t.item ∷ []) ∙ omega (arith, had);
        bytes =
            bytes_of-append r.raised_ones (y ∷ [])
            ∙ ap (λ bs. bs ++ (map raised t.item.window ++ [])) r.bytes
            ∙ ap (λ bs. map raised (bytes_of r.done) ++ bs) (sym (map-append raised t.item.window []))
            ∙ sym (map-append raised (bytes_of r.done) (t.item.window ++ []))
            ∙ ap (λ bs. map raised bs) (sym (bytes_of-append r.done (t.item ∷ [])));
        alone = (subst Q at.1 r.alone).1;
        kept = kept_then all now new r.kept (subst R (sym t.turned) (kept_set i now t.item y t.there (refl, refl, refl, refl)));
        totals = keeps_then (held_by all) (held_by now) (held_by new) r.totals (subst K (sym t.turned) one);
      }

  none_left : (xs : List (Segment O)) → length xs ≤ 0 → xs ≡ []
  none_left [] h = refl
  none_left (x ∷ xs) h = absurd (omega arith)

  pub raising_ends : (all : List (Segment O)) (i : ℕ) (now : List (Segment O)) → Raising all i now → length all ≤ i → Raises all now
  raising_ends all i now r le =
      let size = ap length r.all_is ∙ length-append r.done r.todo in
      let none : r.todo ≡ [] = none_left r.todo (let h = r.had in omega (arith, size, h, le)) in
      record {
        bytes =
            ap (λ us. bytes_of us) (r.now_is ∙ ap (λ us. r.raised_ones ++ us) none ∙ append-nil r.raised_ones)
            ∙ r.bytes
            ∙ ap (λ us. map raised (bytes_of us)) (sym (r.all_is ∙ ap (λ us. r.done ++ us) none ∙ append-nil r.done));
        kept = r.kept;
        totals = r.totals;
      }
