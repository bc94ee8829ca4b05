-- Each event keeps what holds of all subscriptions, and so does a list of events.
use Rattle.std.proofs.Common.{◌≡◌, ℕ, zero, suc, Bool, true, false, ◌&&◌, not, nat_lt, if◌then◌else◌, List, [], ◌∷◌, ◌++◌, length, Option, Some, None, All, refl}
use Rattle.std.specs.Prelude.{map}
use Rattle.std.proofs.lemmas.List.Elements.{All-nil, All-cons, All-head, All-tail, All-append}
use Rattle.sub_queue.specs.declared.items.End.{End}
use Rattle.hub_model.specs.Hub.{Hub, Subscription, Event, publish, subscribe, unsubscribe, close, flush, take_next, has_room, is_live, sent_frame, left, flushed, took, changed, next_id, first_full, present, most_subscriptions, subscribed, published_unless, joined, if_open, step, after, empty_hub}
use Rattle.hub_model.specs.Laws.{IsServed, ServesAll}
use Rattle.hub_model.proofs.Serving.{Keeps, keeps_frame, keeps_left, keeps_flushed, keeps_took, keeps_joined, is_served}

-- nobody who is live is full
none_next : (o : Option ℕ) → next_id o ≡ None → o ≡ None
none_next None e = refl
none_next (Some i) e = absurd (cc (e))

room_as : (on room : Bool) (rest : Option ℕ) → (if on && not room then Some 0 else rest) ≡ None → (on ≡ true → room ≡ true) × (rest ≡ None)
room_as false room rest e = (λ on. absurd (cc (on)), e)
room_as true true rest e = (λ on. refl, e)
room_as true false rest e = absurd (cc (e))

module _ {X : Type 0} where
  abbrev KeepsAll : Hub X → Type 0
  KeepsAll h = All (Keeps h.published) h.subscriptions

  all_map : (P Q : Subscription X → Type 0) (f : Subscription X → Subscription X) → ((s : Subscription X) → P s → Q (f s)) → (ss : List (Subscription X)) → All P ss → All Q (map f ss)
  all_map P Q f goes [] all = All-nil Q
  all_map P Q f goes (s ∷ ss) all = All-cons Q (f s) (map f ss) (goes s (All-head P s ss all)) (all_map P Q f goes ss (All-tail P s ss all))

  all_changed : (P : Subscription X → Type 0) (f : Subscription X → Subscription X) → ((s : Subscription X) → P s → P (f s)) → (i : ℕ) (ss : List (Subscription X)) → All P ss → All P (changed i f ss)
  all_changed P f goes i [] all = All-nil P
  all_changed P f goes zero (s ∷ ss) all = All-cons P (f s) ss (goes s (All-head P s ss all)) (All-tail P s ss all)
  all_changed P f goes (suc i) (s ∷ ss) all = All-cons P s (changed i f ss) (All-head P s ss all) (all_changed P f goes i ss (All-tail P s ss all))

  all_frames : (all : List X) (x : X) (ss : List (Subscription X)) → first_full ss ≡ None → All (Keeps all) ss → All (Keeps (all ++ x ∷ [])) (map (sent_frame x) ss)
  all_frames all x [] none kept = All-nil (Keeps (all ++ x ∷ []))
  all_frames all x (s ∷ ss) none kept =
      let rooms = room_as (is_live s.standing) (has_room s) (next_id (first_full ss)) none in
      All-cons (Keeps (all ++ x ∷ [])) (sent_frame x s) (map (sent_frame x) ss)
      (keeps_frame all x s rooms.0 (All-head (Keeps all) s ss kept))
      (all_frames all x ss (none_next (first_full ss) rooms.1) (All-tail (Keeps all) s ss kept))

  published_keeps : (h : Hub X) (x : X) (o : Option ℕ) → first_full h.subscriptions ≡ o → KeepsAll h → KeepsAll (published_unless o x h)
  published_keeps h x (Some id) is kept = kept
  published_keeps h x None is kept = all_frames h.published x h.subscriptions is kept

  joined_if : (h : Hub X) (most : ℕ) (b : Bool) → KeepsAll h
      → KeepsAll (if b then record h { subscriptions = h.subscriptions ++ subscribed (length h.published) most ∷ [] } else h)
  joined_if h most false kept = kept
  joined_if h most true kept =
      All-append (Keeps h.published) h.subscriptions (subscribed (length h.published) most ∷ []) kept
      (All-cons (Keeps h.published) (subscribed (length h.published) most) [] (keeps_joined h.published most) (All-nil (Keeps h.published)))

  open_keeps : (o : Option End) (new old : Hub X) → KeepsAll new → KeepsAll old → KeepsAll (if_open o new old)
  open_keeps None new old n k = n
  open_keeps (Some e) new old n k = k

  left_keeps : (h : Hub X) (e : End) (s : Subscription X) → Keeps h.published s → Keeps h.published (left (length h.published) e s)
  left_keeps h e s k = keeps_left h.published e s k

  step_keeps : (h : Hub X) (e : Event X) → KeepsAll h → KeepsAll (step h e)
  step_keeps h (publish x) kept =
      open_keeps h.closed (published_unless (first_full h.subscriptions) x h) h (published_keeps h x (first_full h.subscriptions) refl kept) kept
  step_keeps h (subscribe most) kept =
      open_keeps h.closed (joined most h) h (joined_if h most (nat_lt (present h.subscriptions) most_subscriptions) kept) kept
  step_keeps h (unsubscribe id e) kept = all_changed (Keeps h.published) (left (length h.published) e) (left_keeps h e) id h.subscriptions kept
  step_keeps h (close e) kept =
      open_keeps h.closed (record h { closed = Some e; subscriptions = map (left (length h.published) e) h.subscriptions }) h
      (all_map (Keeps h.published) (Keeps h.published) (left (length h.published) e) (left_keeps h e) h.subscriptions kept) kept
  step_keeps h flush kept =
      all_map (Keeps h.published) (Keeps h.published) flushed (λ s k. keeps_flushed h.published s k) h.subscriptions kept
  step_keeps h (take_next id) kept = all_changed (Keeps h.published) took (λ s k. keeps_took h.published s k) id h.subscriptions kept

  after_keeps : (h : Hub X) (es : List (Event X)) → KeepsAll h → KeepsAll (after h es)
  after_keeps h [] kept = kept
  after_keeps h (e ∷ es) kept = after_keeps (step h e) es (step_keeps h e kept)

  all_served : (all : List X) (ss : List (Subscription X)) → All (Keeps all) ss → All (IsServed all) ss
  all_served all [] kept = All-nil (IsServed all)
  all_served all (s ∷ ss) kept =
      All-cons (IsServed all) s ss (is_served all s (All-head (Keeps all) s ss kept)) (all_served all ss (All-tail (Keeps all) s ss kept))

  pub serves_all : ServesAll X
  serves_all es =
      let h = after empty_hub es in
      all_served h.published h.subscriptions (after_keeps empty_hub es (All-nil (Keeps [])))
