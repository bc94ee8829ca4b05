-- Subscriptions that leave.
use Rattle.std.proofs.Common.{◌≡◌, ℕ, Bool, true, false, if◌then◌else◌, List, [], ◌∷◌, map, length, Option, Some, None, refl, sym, ap, subst, ◌∙◌, arith}
use Rattle.std.proofs.lemmas.List.{length-map}
use Rattle.sub_queue.specs.declared.items.End.{End}
use Rattle.sub_queue.specs.declared.items.Item.{Item}
use Rattle.frame_batch.specs.Batches.{Batched}
use Rattle.broadcast_hub.specs.declared.subscription.Standing.{Standing}
use Rattle.broadcast_hub.specs.declared.subscription.Standing.TheVariants.{Live, Leaving, Gone}
use Rattle.broadcast_hub.specs.Hubs.{Kept, Hubbed, is_live, end_sent, new_hub}
use Rattle.broadcast_hub.specs.Leaving.{left, shut}
use Rattle.hub_model.specs.Hub as model
use Rattle.hub_laws.specs.Standing.{Taps, Sub, Machine, StandsFor, HasLeft, StandFrom, Stands, seen_as, standing_of}
use Rattle.hub_laws.specs.Laws.{NewStands, CloseStands}
use Rattle.hub_laws.proofs.Walking.{change_all, zip_map, change_map}

pub new_stands : NewStands
new_stands taps = record { published = refl; closed = refl; next = refl; each = tt }

-- the machine's subscription is put as it is seen
pub as_seen : (taken : List (Item Batched)) (s t : Kept) (g : Sub → Sub) (m : Sub) (h : StandsFor taken s m)
    → StandsFor taken t (g (seen_as taken h.held s)) → StandsFor taken t (g m)
as_seen taken s t g m h is = let P : Sub → Type 0 = λ n. StandsFor taken t (g n) in subst P (sym h.seen) is

pub leaves : (taken : List (Item Batched)) (stop : ℕ) (end : End) (s : Kept) (m : Sub) → StandsFor taken s m
    → StandsFor taken (left stop end s) (model.left stop end m)
leaves taken stop end s m h = as_seen taken s (left stop end s) (model.left stop end) m h (go s.standing refl)
  where
    go : (st : Standing) → s.standing ≡ st
        → StandsFor taken (if is_live st then record s { standing = Leaving stop end } else s)
        (if model.is_live (standing_of st)
        then record (seen_as taken h.held s) { standing = model.leaving stop end } else seen_as taken h.held s)
    go Live is = record { held = h.held; sent = h.sent; seen = refl; filled = h.filled; known = h.known; ended = h.ended ∙ ap end_sent is }
    go (Leaving n e) is = record { held = h.held; sent = h.sent; seen = refl; filled = h.filled; known = h.known; ended = h.ended }
    go (Gone n e) is = record { held = h.held; sent = h.sent; seen = refl; filled = h.filled; known = h.known; ended = h.ended }

-- who is gone doesn't leave again
pub gone_stays : (taken : List (Item Batched)) (stop : ℕ) (end : End) (m : Sub) → HasLeft taken m → HasLeft taken (model.left stop end m)
gone_stays taken stop end m h = go m.standing h.gone
  where
    go : (st : model.Standing) → model.is_gone st ≡ true → HasLeft taken (if model.is_live st then record m { standing = model.leaving stop end } else m)
    go model.live is = absurd (cc (is))
    go (model.leaving n e) is = absurd (cc (is))
    go (model.gone n e) is = h

pub left_id : (stop : ℕ) (end : End) (s : Kept) → (left stop end s).id ≡ s.id
left_id stop end s = go s.standing
  where
    go : (st : Standing) → (if is_live st then record s { standing = Leaving stop end } else s).id ≡ s.id
    go Live = refl
    go (Leaving n e) = refl
    go (Gone n e) = refl

abbrev closed_with : End → Machine → Machine
closed_with end m = record m { closed = Some end; subscriptions = map (model.left (length m.published) end) m.subscriptions }

pub close_stands : CloseStands
close_stands taps hub end none m h =
    let P : Option End → Type 0 = λ o. Stands taps (shut end hub) (model.if_open o (closed_with end m) m) in
    subst P (sym (h.closed ∙ none)) (record {
      published = h.published;
      closed = refl;
      next = length-map m.subscriptions (model.left (length m.published) end) ∙ h.next;
      each = change_all taps taps (λ s t. t ≡ left hub.published end s) (λ _ k n. n ≡ model.left (length m.published) end k)
          (λ id s t k n at is was one. (
            ap (λ (z : Kept). z.id) is ∙ left_id hub.published end s ∙ at,
            (let Q : Kept → Type 0 = λ z. StandsFor (taps id) z n in
                let S : Sub → Type 0 = λ z. StandsFor (taps id) (left hub.published end s) z in
                let N : ℕ → Type 0 = λ z. StandsFor (taps id) (left hub.published end s) (model.left z end k) in
                subst Q (sym is) (subst S (sym was) (subst N (sym h.published) (leaves (taps id) hub.published end s k one)))),
          ))
          (λ id k n was one. let S : Sub → Type 0 = λ z. HasLeft (taps id) z in subst S (sym was) (gone_stays (taps id) (length m.published) end k one))
          0 hub.kept (map (left hub.published end) hub.kept) m.subscriptions (map (model.left (length m.published) end) m.subscriptions)
          (zip_map (left hub.published end) hub.kept) (change_map (model.left (length m.published) end) 0 m.subscriptions) h.each;
    })
