-- What stages do to a frame's storages.
use Rattle.std.proofs.Common.{◌≡◌, ◌⊎◌, ℕ, suc, zero, ◌+◌, ◌<◌, List, [], ◌∷◌, ◌++◌, Some, length, refl, sym, ap, subst, ◌∙◌, arith, inl, inr, slice_get, slice_set, length-append}
use Rattle.std.proofs.lemmas.Option.{none-some}
use Rattle.std.proofs.lemmas.List.{append-nil}
use Rattle.std.proofs.lemmas.Bool.Decides.{eqb_tells}
use Rattle.storage.specs.declared.back.Back.{Back}
use Rattle.storage.specs.Back.{stakes_in}
use Rattle.buffer_model.specs.Share.{IsWhole}
use Rattle.buffer_model.specs.Segment.{Segment}
use Rattle.buffer_model.specs.Minted.{Numbers, IsBetween}
use Rattle.buffer_model.specs.Stake.{Stake, Storage, held, weight_in, Keeps, KeepsTotals}
use Rattle.buffer_model.proofs.Totals.{keeps_same, keeps_any, keeps_beside_then, total-append, one_way-append, one_way-front, one_way-back}
use Rattle.buffer_model.proofs.Minted.{same_on, on_then}
use Rattle.iobuf_chain.specs.Accounts.{held_by}
use Rattle.iobuf_chain.proofs.Lists.{all_at, length-slice_set}
use Rattle.iobuf_chain.proofs.GivenBack.{stakes_in-append}
use Rattle.pipeline.specs.Nodes.{IsKept, AddsBacks, Works, Sheds, ClearsAt, Raises}
use Rattle.pipeline.proofs.Thinning.{thins_length, thins_same, thins_each}
use Rattle.pipeline.proofs.Handing.{kept_set, kept_length, kept_whole, each_set, moved_changes, adds_nothing, adds_then}

module _ {O : Type 0} where
  -- what is handed back comes behind what was handed back before
  pub keeps_more : (z : Storage) (xs ys more backs : List (Stake O)) → Keeps xs (ys ++ more) z → Keeps (xs ++ backs) (ys ++ (backs ++ more)) z
  keeps_more z xs ys more backs k = record {
    total =
        let sum = k.total in
        let a = total-append z ys more in
        let b = total-append z xs backs in
        let c = total-append z ys (backs ++ more) in
        let d = total-append z backs more in
        omega (arith, sum, a, b, c, d);
    way = λ kind is.
        let both = k.way kind (one_way-front z kind xs backs is) in
        one_way-append z kind ys (backs ++ more) (one_way-front z kind ys more both)
        (one_way-append z kind backs more (one_way-back z kind xs backs is) (one_way-back z kind ys more both));
  }

  pub backs_more : (z : Storage) (xs ys : List (Stake O)) (backs added now : List (Back O)) → now ≡ backs ++ added
      → Keeps xs (ys ++ stakes_in added) z → Keeps (xs ++ stakes_in backs) (ys ++ stakes_in now) z
  backs_more z xs ys backs added now is k =
      let P : List (Stake O) → Type 0 = λ ss. Keeps (xs ++ stakes_in backs) (ys ++ ss) z in
      subst P (sym (ap (λ bs. stakes_in bs) is ∙ stakes_in-append backs added)) (keeps_more z xs ys (stakes_in added) (stakes_in backs) k)

  -- another node in the place of one, and what that handed back
  pub keeps_at : (z : Storage) (i : ℕ) (ns : List (Segment O)) (x y : Segment O) (more : List (Stake O)) → slice_get ns i ≡ Some x
      → Keeps (held x.share ∷ []) (held y.share ∷ more) z → Keeps (held_by ns) (held_by (slice_set ns i y) ++ more) z
  keeps_at z i [] x y more there k = absurd (none-some x there)
  keeps_at z zero (s ∷ ss) x y more there k =
      let same : s ≡ x = cc in
      let P : Segment O → Type 0 = λ u. Keeps (held u.share ∷ held_by ss) (held y.share ∷ (held_by ss ++ more)) z in
      subst P (sym same) record {
        total =
            let sum = k.total in
            let a = total-append z (held_by ss) more in
            omega (arith, sum, a);
        way = λ kind is.
            let both = k.way kind (is.0, tt) in
            (both.0, one_way-append z kind (held_by ss) more is.1 both.1);
      }
  keeps_at z (suc i) (s ∷ ss) x y more there k =
      let rest = keeps_at z i ss x y more there k in
      record {
        total = ap (λ (n : ℕ). weight_in z (held s.share) + n) rest.total;
        way = λ kind is. (is.0, rest.way kind is.1);
      }

  pub works_same : (m : Numbers) (ns : List (Segment O)) (backs : List (Back O)) → Works m m ns ns backs backs
  works_same m ns backs = record {
    totals = keeps_any m m _ _ (keeps_same (held_by ns ++ stakes_in backs));
    mint = same_on m m refl;
    adds = adds_nothing m ns backs;
    whole = λ w. (w, refl);
  }

  pub works_then : (a b c : Numbers) (ns bs cs : List (Segment O)) (xs ys zs : List (Back O)) → Works a b ns bs xs ys → Works b c bs cs ys zs
      → Works a c ns cs xs zs
  works_then a b c ns bs cs xs ys zs p q = record {
    totals = keeps_beside_then a b c _ _ _ p.mint q.mint p.totals q.totals;
    mint = on_then a b c p.mint q.mint;
    adds = adds_then a b c ns bs cs xs ys zs p.mint q.mint p.adds q.adds;
    whole = λ w.
        let first = p.whole w in
        let second = q.whole first.0 in
        let e = first.1 in
        let f = second.1 in
        (second.0, omega (arith, e, f));
  }

  -- some nodes lost bytes, and some left
  shed_adds : (m : Numbers) (ns bs : List (Segment O)) (backs now : List (Back O)) → Sheds ns bs → length ns + length backs ≡ length bs + length now
      → AddsBacks m m ns bs backs now
  shed_adds m ns bs backs now sheds count =
      let most = thins_length (length bs ≡ 1) ns bs sheds in
      elim (eqb_tells (length bs) (length ns)) [
        | inl same ↦ inl ((let e = same.1 in omega (arith, e, count)), thins_same (length bs ≡ 1) ns bs sheds same.1)
        | inr not ↦
            let other = not.1 in
            let fewer : length bs < length ns = omega (arith, most, other) in
            inr ((omega (arith, fewer, count)), ((omega (arith, most)), inl fewer))
      ]

  pub works_shed : (m : Numbers) (ns bs : List (Segment O)) (backs now : List (Back O)) → Sheds ns bs → length ns + length backs ≡ length bs + length now
      → KeepsTotals (held_by ns ++ stakes_in backs) (held_by bs ++ stakes_in now) → Works m m ns bs backs now
  works_shed m ns bs backs now sheds count keeps = record {
    totals = keeps_any m m _ _ keeps;
    mint = same_on m m refl;
    adds = shed_adds m ns bs backs now sheds count;
    whole = λ w. (thins_each (λ h. IsWhole h) (length bs ≡ 1) ns bs sheds w, count);
  }

  -- a node was made fit for writing
  clear_adds : (a b : Numbers) (i : ℕ) (ns : List (Segment O)) (x y : Segment O) (added backs now : List (Back O)) → slice_get ns i ≡ Some x
      → now ≡ backs ++ added → ((added ≡ []) × IsKept x y) ⊎ ((length added ≡ 1) × IsBetween a b y.share.number)
      → AddsBacks a b ns (slice_set ns i y) backs now
  clear_adds a b i ns x y added backs now there is (inl p) =
      let size = ap length is ∙ length-append backs added in
      let none = ap length p.0 in
      inl ((omega (arith, size, none)), kept_set i ns x y there p.1)
  clear_adds a b i ns x y added backs now there is (inr p) =
      let size = ap length is ∙ length-append backs added in
      let one = p.0 in
      inr ((omega (arith, size, one)), moved_changes a b i ns x y there p.1)

  pub works_clear : (i : ℕ) (a b : Numbers) (ns bs : List (Segment O)) (backs now : List (Back O)) → ClearsAt i a b ns bs backs now
      → Works a b ns bs backs now
  works_clear i a b ns bs backs now c =
      let P : List (Segment O) → Type 0 = λ us. Works a b ns us backs now in
      subst P (sym c.after_is) record {
        totals = λ z apart.
            backs_more z (held_by ns) (held_by (slice_set ns i c.cleared)) backs c.added now c.now_is
            (keeps_at z i ns c.node c.cleared (stakes_in c.added) c.there (c.clears.totals z apart));
        mint = c.clears.mint;
        adds = clear_adds a b i ns c.node c.cleared c.added backs now c.there c.now_is c.clears.handed;
        whole = λ w.
            let one = c.clears.whole (all_at (λ s. IsWhole s.share) i ns c.node w c.there) in
            let size = ap length c.now_is ∙ length-append backs c.added in
            let none = ap length one.1 in
            let same = length-slice_set i c.cleared ns in
            (each_set (λ s. IsWhole s.share) i ns c.cleared w one.0, omega (arith, size, none, same));
      }

  -- letters became capital ones
  pub works_raise : (m : Numbers) (ns bs : List (Segment O)) (backs : List (Back O)) → Raises ns bs → Works m m ns bs backs backs
  works_raise m ns bs backs r = record {
    totals = λ z apart.
        backs_more z (held_by ns) (held_by bs) backs [] backs (sym (append-nil backs))
        (let P : List (Stake O) → Type 0 = λ ss. Keeps (held_by ns) ss z in subst P (sym (append-nil (held_by bs))) (r.totals z));
    mint = same_on m m refl;
    adds = inl (refl, r.kept);
    whole = λ w. (kept_whole ns bs r.kept w, (let same = kept_length ns bs r.kept in omega (arith, same)));
  }
