use Rattle.std.proofs.Common.{ap, sym, subst, ◌∙◌, arith, ◌≡◌, ◌+◌, ◌≤◌, true}
use Rattle.sub_queue.specs.Sizes.{behind}
use Rattle.frame_batch.specs.Batches.{room_of}
use Rattle.broadcast_hub.specs.Hubs.{Kept, is_live}
use Rattle.broadcast_hub.specs.Publishing.{HasRoomIfLive}
use Rattle.broadcast_hub.specs.Sending.{IsLeastOf}
use Rattle.broadcast_hub.proofs.Rooms.{least_begin, least_same, least_less, least_as, not_live}
use Rattle.broadcast_hub.proofs.sending.least_room.Goals.{then-is_live+then-known_room-least, else-is_live, else-is_live-via-then-is_live+else-known_room-least, else-is_live-via-else-is_live}
use Rattle.broadcast_hub.proofs.sending.least_room.Goals as goal

pub subs-init : goal.subs-init
subs-init c = least_begin _ _ _

pub subs-preserved : goal.subs-preserved
subs-preserved c =
    let sub : Kept = c.index-subs-i.result in
    elim c.if-is_live.branch [
      | then-is_live+then-known_room-least w ↦
          let first = w.known_room.ensures in
          let again = w.known_room-least.ensures in
          let less = w.if-known_room-least.true in
          let is = w.least-is in
          least_less _ c.subs.least _ _ c.if-is_live.least c.if-is_live.id _ sub c.subs.invariant c.subs-test.true
          (ap (λ (s : Kept). is_live s.standing) (sym c.index-subs-i.is) ∙ sym c.is_live.ensures ∙ w.if-is_live.true)
          (let P : Kept → Type 0 = λ s. behind room_of s.feed + c.if-is_live.least ≡ s.feed.cap in subst P c.index-subs-i.is (omega (arith, again, is)))
          (omega (arith, first, again, less, is))
          (ap (λ (s : Kept). s.id) (sym c.index-subs-i.is) ∙ sym w.id-id.ensures ∙ sym w.id-is)
      | else-is_live w ↦
          let room : HasRoomIfLive c.subs.least sub = elim w.else-is_live.branch [
            | else-is_live-via-then-is_live+else-known_room-least v ↦
                let first = v.known_room.ensures in let enough = v.if-known_room-least.false in λ live. omega (arith, first, enough)
            | else-is_live-via-else-is_live v ↦ not_live c.subs.least sub (sym c.is_live.ensures ∙ v.if-is_live.false)
          ] in
          let same = least_same _ _ _ _ _ sub c.subs.invariant c.subs-test.true
          (let P : Kept → Type 0 = λ s. HasRoomIfLive c.subs.least s in subst P c.index-subs-i.is room) in
          least_as _ _ _ _ _ _ _ same w.least-is w.id-is
    ]
