-- Events that were worked out by hand.
use Rattle.std.specs.Prelude.{◌≡◌, ℕ, List, [], ◌∷◌, Some, None}
use Rattle.sub_queue.specs.declared.items.End.TheVariants.{Completed, Left}
use Rattle.sub_queue.specs.declared.items.Item.TheVariants.{One, Ended}
use Rattle.hub_model.specs.Hub.{Event, live, gone, publish, subscribe, unsubscribe, close, flush, take_next, after, empty_hub}

-- subscription 0 has a queue of two items
abbrev pub two_published : List (Event ℕ)
two_published = publish 6 ∷ subscribe 2 ∷ publish 7 ∷ publish 8 ∷ []

-- it is full, so 9 is not published until an item was taken
abbrev pub one_blocked : List (Event ℕ)
one_blocked = publish 9 ∷ take_next 0 ∷ publish 9 ∷ []

-- its end waits until there is room
abbrev pub left_and_flushed : List (Event ℕ)
left_and_flushed = unsubscribe 0 Left ∷ flush ∷ publish 5 ∷ take_next 0 ∷ flush ∷ close Completed ∷ publish 4 ∷ []

pub record WorkedEvents : Type 0 where
  pub fresh : after empty_hub two_published ≡ record {
    published = 6 ∷ 7 ∷ 8 ∷ [];
    closed = None;
    subscriptions = record {
      first = 1;
      standing = live;
      cap = 2;
      taken = [];
      held = One 7 ∷ One 8 ∷ [];
    } ∷ [];
  }
  pub blocked : after (after empty_hub two_published) one_blocked ≡ record {
    published = 6 ∷ 7 ∷ 8 ∷ 9 ∷ [];
    closed = None;
    subscriptions = record {
      first = 1;
      standing = live;
      cap = 2;
      taken = One 7 ∷ [];
      held = One 8 ∷ One 9 ∷ [];
    } ∷ [];
  }
  pub ended : after (after (after empty_hub two_published) one_blocked) left_and_flushed ≡ record {
    published = 6 ∷ 7 ∷ 8 ∷ 9 ∷ 5 ∷ [];
    closed = Some Completed;
    subscriptions = record {
      first = 1;
      standing = gone 4 Left;
      cap = 2;
      taken = One 7 ∷ One 8 ∷ [];
      held = One 9 ∷ Ended Left ∷ [];
    } ∷ [];
  }
