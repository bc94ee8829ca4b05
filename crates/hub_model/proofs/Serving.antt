-- What each change keeps of a subscription.
use Rattle.std.proofs.Common.{◌≡◌, ℕ, ◌+◌, ◌≤◌, ◌<◌, Bool, true, false, if◌then◌else◌, List, [], ◌∷◌, ◌++◌, length, drop, refl, sym, ap, subst, ◌∙◌, arith, append_assoc, append-nil, length-append}
use Rattle.std.specs.Prelude.{map, ⊤}
use Rattle.std.proofs.lemmas.Bool.{ltb-true}
use Rattle.std.proofs.lemmas.List.{map-append, drop-append-le}
use Rattle.sub_queue.specs.declared.items.End.{End}
use Rattle.sub_queue.specs.declared.items.Item.{Item}
use Rattle.sub_queue.specs.declared.items.Item.TheVariants.{One, Ended}
use Rattle.hub_model.specs.Hub.{Standing, live, leaving, gone, Subscription, has_room, is_live, sent_item, sent_frame, left, flushed_as, flushed, took_of, took, subscribed, range_as, range, end_as, sent, frames_of}
use Rattle.hub_model.specs.Laws.{IsServed}
use Rattle.hub_model.proofs.Ranges.{part_more, part_all, drop_none}

-- a place at which somebody left was published
abbrev pub StandsIn : ℕ → Standing → Type 0
StandsIn n live = ⊤
StandsIn n (leaving k e) = k ≤ n
StandsIn n (gone k e) = k ≤ n

-- what is kept of a subscription
pub record Keeps {X : Type 0} (all : List X) (s : Subscription X) : Type 0 where
  pub first : s.first ≤ length all
  pub stands : StandsIn (length all) s.standing
  pub items : s.taken ++ s.held ≡ sent all s
  pub cap : length s.held ≤ s.cap

module _ {X : Type 0} where
  -- what is sent to who stands so
  abbrev sent_as : Standing → ℕ → List X → List (Item X)
  sent_as st j all = map One (range_as st j all) ++ end_as st

  items_as : (all : List X) (s : Subscription X) (st : Standing) → s.standing ≡ st → Keeps all s → s.taken ++ s.held ≡ sent_as st s.first all
  items_as all s st is k = k.items ∙ ap (λ t. sent_as t s.first all) is

  -- an item more
  pushed : (s : Subscription X) (x : Item X) (items : List (Item X)) → s.taken ++ s.held ≡ items → s.taken ++ (s.held ++ x ∷ []) ≡ items ++ x ∷ []
  pushed s x items is = sym (append_assoc s.taken s.held (x ∷ [])) ∙ ap (λ w. w ++ x ∷ []) is

  one_more : (held : List (Item X)) (x : Item X) → length (held ++ x ∷ []) ≡ length held + 1
  one_more held x = length-append held (x ∷ [])

  -- more is published, and who isn't live is sent nothing
  stays_as : (all xs : List X) (s : Subscription X) (st : Standing) → s.standing ≡ st → is_live st ≡ false → Keeps all s → Keeps (all ++ xs) s
  stays_as all xs s live is dead k = absurd (cc (dead))
  stays_as all xs s (leaving n e) is dead k =
      let long = length-append all xs in
      let within : n ≤ length all = subst (StandsIn (length all)) is k.stands in
      let first = k.first in record {
        first = omega (arith, first, long);
        stands = subst (StandsIn (length (all ++ xs))) (sym is) (omega (arith, within, long));
        items = items_as all s (leaving n e) is k
            ∙ ap (λ w. map One w ++ []) (sym (part_more all xs s.first n within))
            ∙ sym (ap (λ t. sent_as t s.first (all ++ xs)) is);
        cap = k.cap;
      }
  stays_as all xs s (gone n e) is dead k =
      let long = length-append all xs in
      let within : n ≤ length all = subst (StandsIn (length all)) is k.stands in
      let first = k.first in record {
        first = omega (arith, first, long);
        stands = subst (StandsIn (length (all ++ xs))) (sym is) (omega (arith, within, long));
        items = items_as all s (gone n e) is k
            ∙ ap (λ w. map One w ++ Ended e ∷ []) (sym (part_more all xs s.first n within))
            ∙ sym (ap (λ t. sent_as t s.first (all ++ xs)) is);
        cap = k.cap;
      }

  -- who is live and has room is sent what is published
  receives : (all : List X) (x : X) (s : Subscription X) → s.standing ≡ live → length s.held < s.cap → Keeps all s → Keeps (all ++ x ∷ []) (sent_item (One x) s)
  receives all x s is room k =
      let long = length-append all (x ∷ []) in
      let first = k.first in
      let more = one_more s.held (One x) in record {
        first = omega (arith, first, long);
        stands = subst (StandsIn (length (all ++ x ∷ []))) (sym is) tt;
        items = pushed s (One x) (map One (drop s.first all)) (items_as all s live is k ∙ append-nil (map One (drop s.first all)))
            ∙ sym (map-append One (drop s.first all) (x ∷ []))
            ∙ ap (map One) (sym (drop-append-le s.first all (x ∷ []) first))
            ∙ sym (append-nil (map One (drop s.first (all ++ x ∷ []))))
            ∙ sym (ap (λ t. sent_as t s.first (all ++ x ∷ [])) is);
        cap = omega (arith, more, room);
      }

  frame_as : (all : List X) (x : X) (s : Subscription X) (st : Standing) → s.standing ≡ st → (is_live st ≡ true → length s.held < s.cap) → Keeps all s
      → Keeps (all ++ x ∷ []) (if is_live st then sent_item (One x) s else s)
  frame_as all x s live is room k = receives all x s is (room refl) k
  frame_as all x s (leaving n e) is room k = stays_as all (x ∷ []) s (leaving n e) is refl k
  frame_as all x s (gone n e) is room k = stays_as all (x ∷ []) s (gone n e) is refl k

  pub keeps_frame : (all : List X) (x : X) (s : Subscription X) → (is_live s.standing ≡ true → has_room s ≡ true) → Keeps all s → Keeps (all ++ x ∷ []) (sent_frame x s)
  keeps_frame all x s room k = frame_as all x s s.standing refl (λ on. ltb-true (length s.held) s.cap (room on)) k

  left_as : (all : List X) (e : End) (s : Subscription X) (st : Standing) → s.standing ≡ st → Keeps all s
      → Keeps all (if is_live st then record s { standing = leaving (length all) e } else s)
  left_as all e s live is k = record {
    first = k.first;
    stands = omega arith;
    items = items_as all s live is k ∙ ap (λ w. map One w ++ []) (sym (part_all all s.first));
    cap = k.cap;
  }
  left_as all e s (leaving n d) is k = k
  left_as all e s (gone n d) is k = k

  pub keeps_left : (all : List X) (e : End) (s : Subscription X) → Keeps all s → Keeps all (left (length all) e s)
  keeps_left all e s k = left_as all e s s.standing refl k

  flushed_if : (all : List X) (n : ℕ) (e : End) (s : Subscription X) (b : Bool) → has_room s ≡ b → s.standing ≡ leaving n e → Keeps all s
      → Keeps all (if b then record s { standing = gone n e; held = s.held ++ Ended e ∷ [] } else s)
  flushed_if all n e s false room is k = k
  flushed_if all n e s true room is k =
      let less = ltb-true (length s.held) s.cap room in
      let more = one_more s.held (Ended e) in record {
        first = k.first;
        stands = subst (StandsIn (length all)) is k.stands;
        items = pushed s (Ended e) (map One (range_as (leaving n e) s.first all)) (items_as all s (leaving n e) is k ∙ append-nil (map One (range_as (leaving n e) s.first all)));
        cap = omega (arith, more, less);
      }

  flush_as : (all : List X) (s : Subscription X) (st : Standing) → s.standing ≡ st → Keeps all s → Keeps all (flushed_as st s)
  flush_as all s live is k = k
  flush_as all s (gone n e) is k = k
  flush_as all s (leaving n e) is k = flushed_if all n e s (has_room s) refl is k

  pub keeps_flushed : (all : List X) (s : Subscription X) → Keeps all s → Keeps all (flushed s)
  keeps_flushed all s k = flush_as all s s.standing refl k

  took_as : (all : List X) (s : Subscription X) (items : List (Item X)) → s.held ≡ items → Keeps all s → Keeps all (took_of items s)
  took_as all s [] is k = k
  took_as all s (x ∷ xs) is k =
      let few : length (x ∷ xs) ≤ s.cap = subst (λ (w : List (Item X)). length w ≤ s.cap) is k.cap in record {
        first = k.first;
        stands = k.stands;
        items = append_assoc s.taken (x ∷ []) xs ∙ ap (λ w. s.taken ++ w) (sym is) ∙ k.items;
        cap = omega (arith, few);
      }

  pub keeps_took : (all : List X) (s : Subscription X) → Keeps all s → Keeps all (took s)
  keeps_took all s k = took_as all s s.held refl k

  pub keeps_joined : (all : List X) (most : ℕ) → Keeps all (subscribed (length all) most)
  keeps_joined all most = record {
    first = omega arith;
    stands = tt;
    items = sym (ap (λ w. map One w ++ []) (drop_none all));
    cap = omega arith;
  }

  -- the frames among what was taken are a beginning of all of them
  frames_append : (xs ys : List (Item X)) → frames_of (xs ++ ys) ≡ frames_of xs ++ frames_of ys
  frames_append [] ys = refl
  frames_append (One x ∷ xs) ys = ap (λ w. x ∷ w) (frames_append xs ys)
  frames_append (Ended e ∷ xs) ys = frames_append xs ys

  frames_ones : (xs : List X) → frames_of (map One xs) ≡ xs
  frames_ones [] = refl
  frames_ones (x ∷ xs) = ap (λ w. x ∷ w) (frames_ones xs)

  frames_end : (st : Standing) → frames_of (end_as {X = X} st) ≡ []
  frames_end live = refl
  frames_end (leaving n e) = refl
  frames_end (gone n e) = refl

  frames_sent : (all : List X) (s : Subscription X) → frames_of (sent all s) ≡ range all s
  frames_sent all s =
      frames_append (map One (range all s)) (end_as s.standing)
      ∙ ap (λ w. frames_of (map One (range all s)) ++ w) (frames_end s.standing)
      ∙ append-nil (frames_of (map One (range all s)))
      ∙ frames_ones (range all s)

  pub is_served : (all : List X) (s : Subscription X) → Keeps all s → IsServed all s
  is_served all s k = record {
    sent = k.items;
    begins = (frames_of s.held, sym (frames_sent all s) ∙ sym (ap frames_of k.items) ∙ frames_append s.taken s.held);
    cap = k.cap;
  }
