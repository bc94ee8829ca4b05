-- Nodes that are made fit for writing.
use Rattle.std.proofs.Common.{◌≡◌, ◌⊎◌, ℕ, ◌+◌, ◌<◌, Bool, false, List, [], ◌∷◌, ◌++◌, Option, Some, None, Result, Ok, Err, IfOk, IfNone, IfSome, OnErr, length, take, refl, sym, ap, subst, ◌∙◌, inl, inr, slice_get, slice_set}
use Rattle.std.proofs.lemmas.List.{append-nil}
use Rattle.storage.specs.declared.back.Back.{Back}
use Rattle.storage.specs.Back.{stakes_in, stakes_of}
use Rattle.buffer_model.specs.Share.{IsAlone}
use Rattle.buffer_model.specs.Segment.{Segment, bytes_of, shared_as}
use Rattle.buffer_model.specs.Minted.{Numbers, NumbersOn, IsBetween}
use Rattle.buffer_model.specs.Clones.{MovesOut}
use Rattle.buffer_model.specs.Stake.{Stake, held, Keeps, KeepsTotalsBeside}
use Rattle.buffer_model.proofs.Totals.{keeps_any}
use Rattle.buffer_model.proofs.Minted.{same_on, adds_on}
use Rattle.iobuf_node.specs.Answered.{answered}
use Rattle.iobuf_chain.specs.Lists.{Each}
use Rattle.iobuf_chain.proofs.Lists.{take-set, slice_get-set, all_more}
use Rattle.pipeline.specs.Nodes.{IsKept, Claims, Clears, ClearsAt, given}
use Rattle.pipeline.proofs.Swapping.{put_back}
use Rattle.pipeline.proofs.Handing.{whole_kept}
use Rattle.pipeline.proofs.Raising.{bytes_set}

pub if_some : {X : Type 0} (o : Option X) (P : X → Type 0) → ((x : X) → o ≡ Some x → P x) → IfSome o P
if_some None P f = tt
if_some (Some x) P f = f x refl

module _ {O : Type 0} where
  given_stakes : {E : Type 0} (r : Result (Option (Back O)) E) → answered r ≡ stakes_in (given r)
  given_stakes (Ok None) = refl
  given_stakes (Ok (Some b)) = sym (append-nil (stakes_of b))
  given_stakes (Err e) = refl

  pub clears_alone : (m : Numbers) (x y : Segment O) (found : Bool) → Claims x y found → Clears m m x y []
  clears_alone m x y found k = record {
    lists = k.lists;
    handed = inl (refl, k.kept);
    mint = same_on m m refl;
    totals = keeps_any m m _ _ k.totals;
    whole = λ w. (whole_kept x y k.kept w, refl);
  }

  lists_then : (x y z : Segment O) → y ≡ shared_as y.share x → z ≡ shared_as z.share y → z ≡ shared_as z.share x
  lists_then x y z p q = q ∙ ap (λ u. shared_as z.share u) p

  same_lists : (x y z : Segment O) → y ≡ shared_as y.share x → z ≡ y → z ≡ shared_as z.share x
  same_lists x y z p e = let P : Segment O → Type 0 = λ u. u ≡ shared_as u.share x in subst P (sym e) p

  same_kept : (x y z : Segment O) → IsKept x y → z ≡ y → IsKept x z
  same_kept x y z p e = let P : Segment O → Type 0 = λ u. IsKept x u in subst P (sym e) p

  moved_lists : {E : Type 0} (a b : Numbers) (x y z : Segment O) (r : Result (Option (Back O)) E) → y ≡ shared_as y.share x
      → IfOk r (λ o. IfNone o ((z ≡ y) × (b ≡ a))) → IfOk r (λ o. IfSome o (λ c. MovesOut a b y z)) → OnErr r ((z ≡ y) × (b ≡ a))
      → z ≡ shared_as z.share x
  moved_lists a b x y z (Ok None) p stays moves refused = same_lists x y z p stays.0
  moved_lists a b x y z (Ok (Some c)) p stays moves refused = lists_then x y z p moves.lists
  moved_lists a b x y z (Err e) p stays moves refused = same_lists x y z p refused.0

  moved_handed : {E : Type 0} (a b : Numbers) (x y z : Segment O) (r : Result (Option (Back O)) E) → IsKept x y
      → IfOk r (λ o. IfNone o ((z ≡ y) × (b ≡ a))) → IfOk r (λ o. IfSome o (λ c. MovesOut a b y z)) → OnErr r ((z ≡ y) × (b ≡ a))
      → ((given r ≡ []) × IsKept x z) ⊎ ((length (given r) ≡ 1) × IsBetween a b z.share.number)
  moved_handed a b x y z (Ok None) p stays moves refused = inl (refl, same_kept x y z p stays.0)
  moved_handed a b x y z (Ok (Some c)) p stays moves refused = inr (refl, moves.storage.number)
  moved_handed a b x y z (Err e) p stays moves refused = inl (refl, same_kept x y z p refused.0)

  moved_mint : {E : Type 0} (a b : Numbers) (y z : Segment O) (r : Result (Option (Back O)) E)
      → IfOk r (λ o. IfNone o ((z ≡ y) × (b ≡ a))) → IfOk r (λ o. IfSome o (λ c. MovesOut a b y z)) → OnErr r ((z ≡ y) × (b ≡ a))
      → NumbersOn a b
  moved_mint a b y z (Ok None) stays moves refused = same_on a b stays.1
  moved_mint a b y z (Ok (Some c)) stays moves refused = adds_on 1 a b moves.mint
  moved_mint a b y z (Err e) stays moves refused = same_on a b refused.1

  pub clears_moved : {E : Type 0} (a b : Numbers) (x y z : Segment O) (found : Bool) (r : Result (Option (Back O)) E) → Claims x y found → found ≡ false
      → IfOk r (λ o. IfNone o ((z ≡ y) × (b ≡ a))) → IfOk r (λ o. IfSome o (λ c. MovesOut a b y z)) → OnErr r ((z ≡ y) × (b ≡ a))
      → KeepsTotalsBeside a b (held y.share ∷ []) (held z.share ∷ answered r) → Clears a b x z (given r)
  clears_moved a b x y z found r k other stays moves refused totals = record {
    lists = moved_lists a b x y z r k.lists stays moves refused;
    handed = moved_handed a b x y z r k.kept stays moves refused;
    mint = moved_mint a b y z r stays moves refused;
    totals = λ n apart.
        let P : List (Stake O) → Type 0 = λ ss. Keeps (held x.share ∷ []) (held z.share ∷ ss) n in
        let p = k.totals n in
        let q = totals n apart in
        subst P (given_stakes r) (record { total = q.total ∙ p.total; way = λ kind is. q.way kind (p.way kind is) });
    whole = λ w. absurd (k.other other (whole_kept x y k.kept w));
  }

  pub clears_at : (i : ℕ) (a b : Numbers) (xs mid new : List (Segment O)) (w x y : Segment O) (added backs now : List (Back O)) → slice_get xs i ≡ Some x
      → mid ≡ slice_set xs i w → new ≡ slice_set mid i y → Clears a b x y added → now ≡ backs ++ added → ClearsAt i a b xs new backs now
  clears_at i a b xs mid new w x y added backs now there away back k is = record {
    node = x;
    cleared = y;
    added = added;
    there = there;
    clears = k;
    after_is = put_back i xs mid new w y away back;
    now_is = is;
  }

  pub alone_at : (i : ℕ) (xs mid new : List (Segment O)) (w y : Segment O) → i < length xs → mid ≡ slice_set xs i w → new ≡ slice_set mid i y
      → IsAlone y.share → IfSome (slice_get new i) (λ s. IsAlone s.share)
  alone_at i xs mid new w y low away back alone =
      let at : slice_get new i ≡ Some y = ap (λ us. slice_get us i) (put_back i xs mid new w y away back) ∙ slice_get-set i y xs low in
      let P : Option (Segment O) → Type 0 = λ o. IfSome o (λ s. IsAlone s.share) in
      subst P (sym at) alone

  pub clears_bytes : (i : ℕ) (a b : Numbers) (xs ys : List (Segment O)) (backs now : List (Back O)) → ClearsAt i a b xs ys backs now → bytes_of ys ≡ bytes_of xs
  clears_bytes i a b xs ys backs now c =
      ap (λ us. bytes_of us) c.after_is ∙ bytes_set i xs c.node c.cleared c.there (ap (λ (u : Segment O). u.window) c.clears.lists)

  pub clears_more : (i : ℕ) (a b : Numbers) (xs ys : List (Segment O)) (backs now : List (Back O)) → ClearsAt i a b xs ys backs now → i < length xs
      → Each (λ s. IsAlone s.share) (take i xs) → IfSome (slice_get ys i) (λ s. IsAlone s.share) → Each (λ s. IsAlone s.share) (take (i + 1) ys)
  clears_more i a b xs ys backs now c low so_far alone =
      let at : slice_get ys i ≡ Some c.cleared = ap (λ us. slice_get us i) c.after_is ∙ slice_get-set i c.cleared xs low in
      let same : take i ys ≡ take i xs = ap (λ us. take i us) c.after_is ∙ take-set i c.cleared xs in
      let P : Option (Segment O) → Type 0 = λ o. IfSome o (λ s. IsAlone s.share) in
      let Q : List (Segment O) → Type 0 = λ us. Each (λ s. IsAlone s.share) us in
      all_more (λ s. IsAlone s.share) i ys c.cleared (subst Q (sym same) so_far) at (subst P at alone)
