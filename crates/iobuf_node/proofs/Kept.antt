-- Totals of nodes that move to new storages, are cloned, or are looked at.
use Rattle.std.proofs.Common.{◌≡◌, ℕ, List, [], ◌∷◌, Option, Some, None, Result, Ok, Err, IfOk, OnErr, refl, sym, ap, subst, ◌∙◌}
use Rattle.share_count.specs.declared.standing.Standing.{Standing}
use Rattle.buffer_model.specs.Share.{Share, Held, Way, own}
use Rattle.buffer_model.specs.Segment.{Segment, cut}
use Rattle.buffer_model.specs.Stake.{Stake, held, Keeps, KeepsTotals, KeepsTotalsBeside}
use Rattle.buffer_model.specs.Minted.{Numbers, IsNew}
use Rattle.buffer_model.specs.Clones.{Clones, MovesOut}
use Rattle.buffer_model.proofs.Totals.{keeps_same, keeps_any, keeps_equal, keeps_beside, keeps_made, keeps_wrapped_out}
use Rattle.buffer_model.proofs.Clones.{clone_keeps_totals}
use Rattle.storage.specs.Looks.{Stands, StandsAt}
use Rattle.storage.specs.Made.{Makes}
use Rattle.iobuf_node.specs.Answered.{KeepsFor, cloned}
use Rattle.iobuf_node.proofs.Made.{new_on}

module _ {O : Type 0} where
  -- a node that was just made
  pub made_keeps : (old new : Numbers) (way : Way O) (b : List ℕ) (h : Held O) (start len : ℕ) (n : Segment O) → Makes old new way b h
      → n ≡ cut h.bytes start len h.share → KeepsTotalsBeside old new [] (held n.share ∷ [])
  made_keeps old new way b h start len n made is = keeps_made old new way n.share (new_on old new way b h start len n made is)

  -- a node that is cloned, or that stays where that is refused
  pub cloned_keeps : {E : Type 0} (old new : Numbers) (before after : Segment O) (r : Result (Segment O) E) → IfOk r (Clones old new before after)
      → OnErr r ((after ≡ before) × (new ≡ old)) → KeepsFor old new before (held after.share ∷ cloned r)
  cloned_keeps old new before after (Ok clone) ok err = clone_keeps_totals old new before after clone ok
  cloned_keeps old new before after (Err e) ok err =
      keeps_any old new _ _ (keeps_equal _ _ (ap (λ (s : Segment O). held s.share ∷ []) (sym err.0)))

  -- a wrapped node that moved to a storage of its own
  pub wrapped_moves : (old new : Numbers) (before after : Segment O) → MovesOut old new before after → before.share.number ≡ None
      → KeepsFor old new before (held after.share ∷ [])
  wrapped_moves old new before after moves none =
      keeps_beside old new own after.share (held before.share ∷ []) [] moves.storage (keeps_wrapped_out before.share none)

  -- a node that moved to a new storage, and what the old one gave back
  pub moved_keeps : (old new : Numbers) (way : Way O) (before after node : Segment O) (back : List (Stake O)) → IsNew old new way node.share → after ≡ node
      → KeepsTotals (held before.share ∷ []) back → KeepsFor old new before (held after.share ∷ back)
  moved_keeps old new way before after node back is same keeps =
      let P : Segment O → Type 0 = λ s. KeepsFor old new before (held s.share ∷ back) in
      subst P (sym same) (keeps_beside old new way node.share (held before.share ∷ []) back is keeps)

  stands_keep : (number : Option ℕ) (s t : Share O) (standing : Standing) → StandsAt number s t standing → KeepsTotals (held s ∷ []) (held t ∷ [])
  stands_keep None s t standing is = keeps_equal _ _ (ap (λ k. held k ∷ []) (sym is.1))
  stands_keep (Some n) s t standing is =
      let P : Share O → Type 0 = λ k. KeepsTotals (held s ∷ []) (held k ∷ []) in
      subst P (sym is.0) (λ z. record { total = refl; way = λ kind one. one })

  -- a look, and then what keeps totals
  pub looked_then : (old new : Numbers) (before mid : Segment O) (standing : Standing) (exit : List (Stake O)) → Stands before.share mid.share standing
      → KeepsFor old new mid exit → KeepsFor old new before exit
  looked_then old new before mid standing exit look keeps z h =
      let first = stands_keep before.share.number before.share mid.share standing look z in
      let next = keeps z h in
      record { total = next.total ∙ first.total; way = λ kind is. next.way kind (first.way kind is) }
