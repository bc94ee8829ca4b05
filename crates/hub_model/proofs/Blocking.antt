-- Who blocks a publication.
use Rattle.std.proofs.Common.{◌≡◌, ℕ, suc, Bool, true, false, ◌&&◌, not, if◌then◌else◌, List, [], ◌∷◌, Option, Some, None, All, refl, sym, ap, ◌∙◌}
use Rattle.std.specs.Prelude.{MatchOption}
use Rattle.std.proofs.lemmas.List.Elements.{All-nil, All-cons}
use Rattle.hub_model.specs.Hub.{Subscription, has_room, is_live, next_id, first_full}
use Rattle.hub_model.specs.Laws.{HasRoomIfLive, IsFirstFull, BlocksFirst}

module _ {X : Type 0} where
  abbrev Blocks : List (Subscription X) → Option ℕ → Type 0
  Blocks ss o = MatchOption o (All HasRoomIfLive ss) (IsFirstFull ss)

  -- one more stands in front, who doesn't block
  blocks_next : (s : Subscription X) (ss : List (Subscription X)) (o : Option ℕ) → HasRoomIfLive s → Blocks ss o → Blocks (s ∷ ss) (next_id o)
  blocks_next s ss None room all = All-cons HasRoomIfLive s ss room all
  blocks_next s ss (Some id) room first = record {
    before = s ∷ first.before;
    full = first.full;
    behind = first.behind;
    parts = ap (λ w. s ∷ w) first.parts;
    place = ap suc first.place;
    rooms = All-cons HasRoomIfLive s first.before room first.rooms;
    live = first.live;
    room = first.room;
  }

  blocks_here : (s : Subscription X) (ss : List (Subscription X)) (on room : Bool) → is_live s.standing ≡ on → has_room s ≡ room → Blocks ss (first_full ss)
      → Blocks (s ∷ ss) (if on && not room then Some 0 else next_id (first_full ss))
  blocks_here s ss true false on full rest = record {
    before = [];
    full = s;
    behind = ss;
    parts = refl;
    place = refl;
    rooms = All-nil HasRoomIfLive;
    live = on;
    room = full;
  }
  blocks_here s ss true true on room rest = blocks_next s ss (first_full ss) (λ live. room) rest
  blocks_here s ss false room off is rest = blocks_next s ss (first_full ss) (λ live. absurd (let no : true ≡ false = sym live ∙ off in cc (no))) rest

  pub blocks_first : BlocksFirst X
  blocks_first [] = All-nil HasRoomIfLive
  blocks_first (s ∷ ss) = blocks_here s ss (is_live s.standing) (has_room s) refl refl (blocks_first ss)
