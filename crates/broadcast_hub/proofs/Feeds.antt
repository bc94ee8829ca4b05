-- What a feed was sent, and how its subscription stands.
use Rattle.std.proofs.Common.{◌≡◌, ℕ, ◌≤◌, Bool, true, false, List, [], ◌∷◌, ◌++◌, Option, Some, None, refl, sym, ap, subst, ◌∙◌}
use Rattle.std.specs.Prelude.{Result, Ok, Err, OnOk, OnErr, is_err}
use Rattle.sub_queue.specs.declared.items.Item.{Item}
use Rattle.sub_queue.specs.declared.items.Item.TheVariants.{One, Ended}
use Rattle.sub_queue.specs.Ends.{Fed, end_of}
use Rattle.sub_queue.specs.Sizes.{SentOne}
use Rattle.sub_queue.proofs.Lists.{end_pushed}
use Rattle.frame_batch.specs.Batches.{Batched}
use Rattle.broadcast_hub.specs.declared.subscription.Standing.{Standing}
use Rattle.broadcast_hub.specs.declared.subscription.Standing.TheVariants.{Live, Leaving, Gone}
use Rattle.broadcast_hub.specs.Hubs.{is_live, end_sent, Suits}

pub suits_on : (standing other : Standing) (old new : Fed Batched) (x : Item Batched) → Suits standing old → end_sent standing ≡ None → SentOne x old new
    → end_of (x ∷ []) ≡ end_sent other → Suits other new
suits_on standing other old new x suits none sent last = (
  ap (λ (f : Fed Batched). end_of f.sent) sent.0 ∙ end_pushed old.sent x (suits.0 ∙ none) ∙ last,
  (let P : ℕ → Type 0 = λ n. 1 ≤ n in subst P (sym (ap (λ (f : Fed Batched). f.cap) sent.0)) suits.1),
)

pub live_is_open : (standing : Standing) → is_live standing ≡ true → end_sent standing ≡ None
live_is_open Live is = refl
live_is_open (Leaving stop end) is = refl
live_is_open (Gone stop end) is = let P : Bool → Type 0 = λ b. elim b [ true ↦ ⊥ | false ↦ Unit {0} ] in absurd (subst P is tt)

-- what holds where a call didn't refuse
pub ok_sent : {A E : Type 0} (r : Result A E) (P : Type 0) → false ≡ is_err r → OnOk r P → P
ok_sent (Ok a) P is h = h
ok_sent (Err e) P is h = let Q : Bool → Type 0 = λ b. elim b [ true ↦ ⊥ | false ↦ Unit {0} ] in absurd (subst Q is tt)

pub err_said : {A E : Type 0} (r : Result A E) (P : Type 0) → true ≡ is_err r → OnErr r P → P
err_said (Ok a) P is h = let Q : Bool → Type 0 = λ b. elim b [ true ↦ Unit {0} | false ↦ ⊥ ] in absurd (subst Q is tt)
err_said (Err e) P is h = h
