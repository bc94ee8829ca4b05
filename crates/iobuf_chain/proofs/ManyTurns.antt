-- Shares that are given back one after another.
use Rattle.std.proofs.Common.{◌≡◌, List, [], ◌∷◌, ◌++◌, refl, sym, ap, subst, ◌∙◌, append-nil}
use Rattle.std.specs.List.Sorted.{IsPermutation}
use Rattle.std.proofs.lemmas.List.Sorted.{IsPermutation-refl, IsPermutation-to_front, IsPermutation-pop_more}
use Rattle.buffer_model.specs.Segment.{Segment, bytes_of}
use Rattle.iobuf_chain.specs.Lists.{Each}
use Rattle.iobuf_chain.specs.Shares.{AreReturnable, RejoinsEach}
use Rattle.iobuf_chain.specs.Many.{StayOn, RejoinsInTurn, RejoinsAll}
use Rattle.iobuf_chain.proofs.Copied.{each_map, each_before, each_behind}
use Rattle.iobuf_chain.proofs.ManyBack.{rejoins_sum, rejoins_stay, stay_same, stay_then, stays_returnable}

module _ {O : Type 0} where
  -- some of all shares were given back, and these are left
  pub record RejoinsUpTo (before : List (Segment O)) (shares left : List (List (Segment O))) (now : List (Segment O)) : Type 0 where
    pub done : List (List (Segment O))
    pub parts : IsPermutation shares (done ++ left)
    pub in_turn : RejoinsInTurn before done now

  pub up_to_begin : (before : List (Segment O)) (shares : List (List (Segment O))) → RejoinsUpTo before shares shares before
  up_to_begin before shares = record { done = []; parts = IsPermutation-refl shares; in_turn = refl }

  turn_push : (before now after s : List (Segment O)) (cs : List (List (Segment O))) → RejoinsInTurn before cs now → RejoinsEach now s after
      → RejoinsInTurn before (cs ++ s ∷ []) after
  turn_push before now after s [] r one = let P : List (Segment O) → Type 0 = λ xs. RejoinsEach xs s after in (after, subst P r one, refl)
  turn_push before now after s (c ∷ cs) r one = (r.0, r.1, turn_push r.0 now after s cs r.2 one)

  pub up_to_step : (before now after : List (Segment O)) (shares left : List (List (Segment O))) (s : List (Segment O)) (rest : List (List (Segment O)))
      → RejoinsUpTo before shares left now → left ≡ rest ++ s ∷ [] → RejoinsEach now s after → RejoinsUpTo before shares rest after
  up_to_step before now after shares left s rest r last one =
      let P : List (List (Segment O)) → Type 0 = λ xs. IsPermutation xs (s ∷ rest) in record {
        done = r.done ++ s ∷ [];
        parts = IsPermutation-pop_more shares r.done left rest s r.parts (subst P (sym last) (IsPermutation-to_front rest s));
        in_turn = turn_push before now after s r.done r.in_turn one;
      }

  pub up_to_end : (before now : List (Segment O)) (shares left : List (List (Segment O))) → RejoinsUpTo before shares left now → left ≡ []
      → RejoinsAll before shares now
  up_to_end before now shares left r none =
      let P : List (List (Segment O)) → Type 0 = λ xs. IsPermutation shares xs in record {
        order = r.done;
        each_once = subst P (ap (λ xs. r.done ++ xs) none ∙ append-nil r.done) r.parts;
        in_turn = r.in_turn;
      }

  pub may_next : (now : List (Segment O)) (left rest : List (List (Segment O))) (s : List (Segment O)) → Each (AreReturnable now) left
      → left ≡ rest ++ s ∷ [] → AreReturnable now s
  may_next now left rest s may last =
      let P : List (List (Segment O)) → Type 0 = λ xs. Each (AreReturnable now) xs in (each_behind (AreReturnable now) rest (s ∷ []) (subst P last may)).0

  pub may_then : (now after : List (Segment O)) (left rest : List (List (Segment O))) (s : List (Segment O)) → Each (AreReturnable now) left
      → left ≡ rest ++ s ∷ [] → StayOn now after → Each (AreReturnable after) rest
  may_then now after left rest s may last on =
      let P : List (List (Segment O)) → Type 0 = λ xs. Each (AreReturnable now) xs in
      each_map (AreReturnable now) (AreReturnable after) rest (λ x h. stays_returnable now after x h on)
      (each_before (AreReturnable now) rest (s ∷ []) (subst P last may))

  turn_kept : (before : List (Segment O)) (cs : List (List (Segment O))) (after : List (Segment O)) → RejoinsInTurn before cs after → bytes_of after ≡ bytes_of before
  turn_kept before [] after r = ap bytes_of r
  turn_kept before (c ∷ cs) after r = turn_kept r.0 cs after r.2 ∙ (rejoins_sum before c r.0 r.1).1

  turn_stay : (before : List (Segment O)) (cs : List (List (Segment O))) (after : List (Segment O)) → RejoinsInTurn before cs after → StayOn before after
  turn_stay before [] after r = stay_same before after r
  turn_stay before (c ∷ cs) after r = stay_then before r.0 after (rejoins_stay before c r.0 r.1) (turn_stay r.0 cs after r.2)

  pub all_kept : (before : List (Segment O)) (shares : List (List (Segment O))) (after : List (Segment O)) → RejoinsAll before shares after
      → bytes_of after ≡ bytes_of before
  all_kept before shares after r = turn_kept before r.order after r.in_turn

  pub all_stay : (before : List (Segment O)) (shares : List (List (Segment O))) (after : List (Segment O)) → RejoinsAll before shares after → StayOn before after
  all_stay before shares after r = turn_stay before r.order after r.in_turn
