-- What a managed hold stands on.
use Rattle.std.specs.Prelude.{ℕ, List, [], Option, Some, None}
use Rattle.share_count.specs.Held.{Owned}
use Rattle.buffer_model.specs.Share.{Share, Held, wrapped, Way as Release, own, user, lent, tagged}
use Rattle.storage.specs.declared.stored.Stored.{Stored}
use Rattle.storage.specs.declared.stored.Way.{Way}
use Rattle.storage.specs.declared.stored.Way.TheVariants.{Own, User, Lent, Tagged}

module _ {O : Type 0} where
  abbrev pub way_of : Way O → Release O
  way_of Own = own
  way_of (User o) = user o
  way_of (Lent n) = lent n
  way_of (Tagged t) = tagged t

  -- what a unit has of the storage that is its payload
  abbrev pub share_of : Owned (Stored O) → Share O
  share_of u = record {
    number = Some u.number;
    table = Some u.table;
    weight = u.weight;
    absorbed = u.absorbed;
    way = Some (way_of u.payload.way);
    loads = u.loads;
    note = u.note;
    alone = u.alone;
  }

  -- the hold that a unit is
  abbrev pub held_by : Owned (Stored O) → Held O
  held_by u = record { bytes = u.payload.block; share = share_of u }

  abbrev pub held_in : Option (Owned (Stored O)) → Held O
  held_in None = record { bytes = []; share = wrapped }
  held_in (Some u) = held_by u

  -- a unit whose storage has another block
  abbrev pub with_block : Owned (Stored O) → List ℕ → Owned (Stored O)
  with_block u block = record u { payload = record { block = block; way = u.payload.way } }
