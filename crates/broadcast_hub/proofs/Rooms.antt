-- The least room of all live subscriptions.
use Rattle.std.proofs.Common.{◌≡◌, ◌⊎◌, ℕ, ◌+◌, ◌<◌, ◌≤◌, Bool, true, false, List, length, refl, sym, ap, subst, ◌∙◌, arith, inl, inr, slice_index_or}
use Rattle.std.proofs.lemmas.Bool.{cases_eq}
use Rattle.std.proofs.lemmas.List.{get_or_default}
use Rattle.sub_queue.specs.Sizes.{behind}
use Rattle.frame_batch.specs.Batches.{room_of}
use Rattle.broadcast_hub.specs.Hubs.{Kept, is_live}
use Rattle.broadcast_hub.specs.Publishing.{HasRoomIfLive}
use Rattle.broadcast_hub.specs.Sending.{IsLeastAt, IsLeastOf}

pub least_begin : (most id : ℕ) (ss : List Kept) → IsLeastOf most most id ss 0
least_begin most id ss = record { most_is = omega arith; fits = λ k d lt. absurd (omega (arith, lt)); least = λ lt. absurd (omega (arith, lt)) }

fits_more : (P : Kept → Type 0) (i : ℕ) (ss : List Kept) (d : Kept) → ((k : ℕ) (e : Kept) → k < i → P (slice_index_or ss k e)) → i < length ss
    → P (slice_index_or ss i d) → (k : ℕ) (e : Kept) → k < i + 1 → P (slice_index_or ss k e)
fits_more P i ss d before there one k e below = elim (cases_eq k i) [
  | inl is ↦
      let Q : ℕ → Type 0 = λ j. P (slice_index_or ss j e) in
      subst Q (sym is) (subst P (get_or_default ss i d e there) one)
  | inr other ↦ before k e (let apart = other in omega (arith, below, apart))
]

-- the next has room, or isn't live
pub least_same : (most n id i : ℕ) (ss : List Kept) (d : Kept) → IsLeastOf most n id ss i → i < length ss → HasRoomIfLive n (slice_index_or ss i d)
    → IsLeastOf most n id ss (i + 1)
least_same most n id i ss d l there one = record {
  most_is = l.most_is;
  fits = fits_more (HasRoomIfLive n) i ss d l.fits there one;
  least = λ lt. let a = l.least lt in let within = a.within in record {
    before = a.before;
    within = omega (arith, within);
    id_is = a.id_is;
    live = a.live;
    just = a.just;
    rooms = a.rooms;
  };
}

-- the next is live, and has less room
pub least_less : (most n id i r new : ℕ) (ss : List Kept) (d : Kept) → IsLeastOf most n id ss i → i < length ss
    → is_live (slice_index_or ss i d).standing ≡ true → behind room_of (slice_index_or ss i d).feed + r ≡ (slice_index_or ss i d).feed.cap → r < n
    → (slice_index_or ss i d).id ≡ new → IsLeastOf most r new ss (i + 1)
least_less most n id i r new ss d l there live just less named = record {
  most_is = (let m = l.most_is in omega (arith, m, less));
  fits = fits_more (HasRoomIfLive r) i ss d (λ k e lt alive. (let room = l.fits k e lt alive in omega (arith, room, less))) there (λ alive. omega (arith, just));
  least = λ lt. record {
    before = i;
    within = omega arith;
    id_is = λ e. at e (λ s. s.id ≡ new) named;
    live = λ e. at e (λ s. is_live s.standing ≡ true) live;
    just = λ e. at e (λ s. behind room_of s.feed + r ≡ s.feed.cap) just;
    rooms = λ k e below alive. (let room = l.fits k e below alive in omega (arith, room, less));
  };
}
  where
    at : (e : Kept) (P : Kept → Type 0) → P (slice_index_or ss i d) → P (slice_index_or ss i e)
    at e P h = subst P (get_or_default ss i d e there) h

pub not_live : (n : ℕ) (s : Kept) → is_live s.standing ≡ false → HasRoomIfLive n s
not_live n s is live = let P : Bool → Type 0 = λ b. elim b [ true ↦ ⊥ | false ↦ Unit {0} ] in absurd (subst P (sym is ∙ live) tt)

pub least_as : (most n id m new i : ℕ) (ss : List Kept) → IsLeastOf most n id ss i → m ≡ n → new ≡ id → IsLeastOf most m new ss i
least_as most n id m new i ss l is named =
    let P : ℕ → Type 0 = λ k. IsLeastOf most k new ss i in
    let Q : ℕ → Type 0 = λ k. IsLeastOf most n k ss i in
    subst P (sym is) (subst Q (sym named) l)
