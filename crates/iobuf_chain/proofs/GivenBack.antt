-- Nodes that are given back.
use Rattle.std.proofs.Common.{◌≡◌, ℕ, List, [], ◌∷◌, ◌++◌, Option, length, refl, sym, ap, subst, ◌∙◌, append_assoc, arith}
use Rattle.std.specs.List.{AllZip}
use Rattle.std.proofs.lemmas.List.{append-nil}
use Rattle.buffer_model.specs.Segment.{Segment, hold_of}
use Rattle.buffer_model.specs.Stake.{Stake, held, Keeps, KeepsTotals}
use Rattle.buffer_model.proofs.Totals.{keeps_same, keeps_equal, keeps_then, keeps-append}
use Rattle.storage.specs.declared.back.Back.{Back}
use Rattle.storage.specs.Back.{GivesBack, stakes_of, stakes_in}
use Rattle.iobuf_chain.specs.Accounts.{held_by}
use Rattle.iobuf_chain.proofs.Accounts.{held_by-append}

pub zip_append : {A B : Type 0} (R : A → B → Type 0) (xs ys : List A) (us vs : List B) → AllZip R xs us → AllZip R ys vs → AllZip R (xs ++ ys) (us ++ vs)
zip_append R [] ys [] vs all more = more
zip_append R [] ys (u ∷ us) vs all more = absurd all
zip_append R (x ∷ xs) ys [] vs all more = absurd all
zip_append R (x ∷ xs) ys (u ∷ us) vs all more = (all.0, zip_append R xs ys us vs all.1 more)

pub stakes_in-append : {O : Type 0} (bs cs : List (Back O)) → stakes_in (bs ++ cs) ≡ stakes_in bs ++ stakes_in cs
stakes_in-append [] cs = refl
stakes_in-append (b ∷ bs) cs = ap (λ ss. stakes_of b ++ ss) (stakes_in-append bs cs) ∙ sym (append_assoc (stakes_of b) (stakes_in bs) (stakes_in cs))

-- what two lists hand back, one behind the other
pub totals_both : {O : Type 0} (xs ys : List (Segment O)) (bs cs : List (Back O)) → KeepsTotals (held_by xs) (stakes_in bs) → KeepsTotals (held_by ys) (stakes_in cs)
    → KeepsTotals (held_by (xs ++ ys)) (stakes_in (bs ++ cs))
totals_both xs ys bs cs first second =
    keeps_then _ _ _ (keeps_equal _ _ (held_by-append xs ys))
    (keeps_then _ _ _ (λ n. keeps-append n (held_by xs) (held_by ys) (stakes_in bs) (stakes_in cs) (first n) (second n))
    (keeps_equal _ _ (sym (stakes_in-append bs cs))))

module _ {O : Type 0} (runs : O → ℕ) (last : O → Option (List ℕ)) where
  -- of all nodes these are left, and the others handed this back
  pub record HandsBack (all left : List (Segment O)) (backs : List (Back O)) : Type 0 where
    pub done : List (Segment O)
    pub all_is : all ≡ done ++ left
    pub backs_are : AllZip (λ s b. GivesBack runs last (hold_of s) b) done backs
    pub totals : KeepsTotals (held_by done) (stakes_in backs)

  pub hands_begin : (all : List (Segment O)) → HandsBack all all []
  hands_begin all = record { done = []; all_is = refl; backs_are = tt; totals = keeps_same [] }

  pub hands_more : (all left rest : List (Segment O)) (backs new : List (Back O)) (x : Segment O) (b : Back O) → HandsBack all left backs
      → left ≡ x ∷ rest → new ≡ backs ++ b ∷ [] → GivesBack runs last (hold_of x) b → KeepsTotals (held x.share ∷ []) (stakes_of b) → HandsBack all rest new
  hands_more all left rest backs new x b h front push gives keeps =
      let P : List (Back O) → Type 0 = λ bs. HandsBack all rest bs in
      subst P (sym push) record {
        done = h.done ++ x ∷ [];
        all_is = h.all_is ∙ ap (λ xs. h.done ++ xs) front ∙ sym (append_assoc h.done (x ∷ []) rest);
        backs_are = zip_append _ h.done (x ∷ []) backs (b ∷ []) h.backs_are (gives, tt);
        totals = totals_both h.done (x ∷ []) backs (b ∷ []) h.totals (keeps_then _ _ _ keeps (keeps_equal _ _ (sym (append-nil (stakes_of b)))));
      }

  pub hands_end : (all : List (Segment O)) (left : List (Segment O)) (backs : List (Back O)) → HandsBack all left backs → left ≡ []
      → AllZip (λ s b. GivesBack runs last (hold_of s) b) all backs × KeepsTotals (held_by all) (stakes_in backs)
  hands_end all left backs h none =
      let whole : h.done ≡ all = sym (append-nil h.done) ∙ ap (λ xs. h.done ++ xs) (sym none) ∙ sym h.all_is in
      let P : List (Segment O) → Type 0 = λ xs. AllZip (λ s b. GivesBack runs last (hold_of s) b) xs backs × KeepsTotals (held_by xs) (stakes_in backs) in
      subst P whole (h.backs_are, h.totals)
