-- Storages and all that is held of them, as a machine: what each event makes of them.
use Rattle.std.specs.Prelude.{ℕ, zero, suc, ◌+◌, ◌-◌, ◌==◌, ◌&&◌, not, nat_lt, if◌then◌else◌, List, [], ◌∷◌, ◌++◌, length, set, Option, Some, None}
use Rattle.share_count.specs.Weights.{full, part}

-- a storage: the word, the payload while it is at home, and how often its release ran
pub record Storage : Type 0 where
  pub word : ℕ
  pub payload : Option (List ℕ)
  pub runs : ℕ

-- a hold: its storage, its weight, the weight that it absorbed, and the bytes that it was made with, or wrote since
pub record Hold : Type 0 where
  pub storage : ℕ
  pub weight : ℕ
  pub absorbed : ℕ
  pub bytes : List ℕ

-- a receipt: its storage, its weight and its lasts
pub record Slip : Type 0 where
  pub storage : ℕ
  pub weight : ℕ
  pub lasts : ℕ

-- all storages, holds and receipts by number. A hold that was given back is gone, and so is a receipt that was joined
-- to another or absorbed
pub record Stock : Type 0 where
  pub storages : List (Option Storage)
  pub holds : List (Option Hold)
  pub slips : List (Option Slip)

-- a storage is made with these bytes; the hold is shared; it looks; it writes these bytes; it gives back; the release
-- of the storage runs; the second receipt is joined to the first; the hold absorbs the receipt
pub data Event : Type 0 where
  make : List ℕ → Event
  share : ℕ → Event
  look : ℕ → Event
  write : ℕ → List ℕ → Event
  give : ℕ → Event
  run : ℕ → Event
  join : ℕ → ℕ → Event
  absorb : ℕ → ℕ → Event

-- what has the number i, if it is there
abbrev pub find : {A : Type 0} → List (Option A) → ℕ → Option A
find [] i = None
find (x ∷ xs) zero = x
find (x ∷ xs) (suc i) = find xs i

abbrev pub hold : ℕ → ℕ → ℕ → List ℕ → Hold
hold i w a bytes = record { storage = i; weight = w; absorbed = a; bytes = bytes }

abbrev pub slip : ℕ → ℕ → ℕ → Slip
slip i w l = record { storage = i; weight = w; lasts = l }

abbrev pub made : Stock → List ℕ → Stock
made s bytes = record {
  storages = s.storages ++ Some (record { word = full; payload = Some bytes; runs = 0 }) ∷ [];
  holds = s.holds ++ Some (hold (length s.storages) full 0 bytes) ∷ [];
  slips = s.slips;
}

-- a hold of weight 1 stays as it is
abbrev pub shared : Stock → ℕ → Option Hold → Stock
shared s h None = s
shared s h (Some u) =
    if nat_lt 1 u.weight then record s {
      holds = set s.holds h (Some (record u { weight = u.weight - part u.weight }))
          ++ Some (hold u.storage (part u.weight) 0 u.bytes) ∷ [];
    } else s

-- only where no other hold is live, so that the word is the own weight
abbrev pub written : Stock → ℕ → List ℕ → Hold → Option Storage → Stock
written s h bytes u None = s
written s h bytes u (Some b) =
    if b.word == u.weight then record {
      storages = set s.storages u.storage
          (Some (record b { payload = Some bytes }));
      holds = set s.holds h (Some (record u { bytes = bytes }));
      slips = s.slips;
    } else s

-- the last is who finds its own weight
abbrev pub given : Stock → ℕ → Hold → Option Storage → Stock
given s h u None = s
given s h u (Some b) = record {
  storages = set s.storages u.storage (Some (record b { word = b.word - u.weight }));
  holds = set s.holds h None;
  slips =
      s.slips ++ Some (slip u.storage (u.weight + u.absorbed) (if b.word == u.weight then 1 else 0)) ∷ [];
}

-- only after the last gave its weight back, while the payload is still to be taken out
abbrev pub paid_out : Stock → ℕ → Storage → ℕ → Option (List ℕ) → Stock
paid_out s i b zero (Some bytes) =
    record s { storages = set s.storages i (Some (record { word = 0; payload = None; runs = b.runs + 1 })) }
paid_out s i b _ _ = s

abbrev pub ran : Stock → ℕ → Option Storage → Stock
ran s i None = s
ran s i (Some b) = paid_out s i b b.word b.payload

-- only two different ones of one storage
abbrev pub joined : Stock → ℕ → ℕ → Option Slip → Option Slip → Stock
joined s r q (Some x) (Some y) = if (x.storage == y.storage)
    && not (r == q) then record s {
      slips = set (set s.slips r
          (Some (slip x.storage (x.weight + y.weight) (x.lasts + y.lasts)))) q None;
    } else s
joined s r q _ _ = s

-- only what is of the hold's own storage
abbrev pub absorbed : Stock → ℕ → ℕ → Option Hold → Option Slip → Stock
absorbed s h r (Some u) (Some x) =
    if u.storage == x.storage then record s {
      holds = set s.holds h
          (Some (record u { absorbed = u.absorbed + x.weight }));
      slips = set s.slips r None;
    } else s
absorbed s h r _ _ = s

-- with the hold, where it is there
abbrev pub with_hold : Stock → Option Hold → (Hold → Option Storage → Stock) → Stock
with_hold s None f = s
with_hold s (Some u) f = f u (find s.storages u.storage)

-- what an event makes of a stock. An event that isn't allowed changes nothing
abbrev pub step : Stock → Event → Stock
step s (make bytes) = made s bytes
step s (share h) = shared s h (find s.holds h)
step s (look h) = s
step s (write h bytes) = with_hold s (find s.holds h) (written s h bytes)
step s (give h) = with_hold s (find s.holds h) (given s h)
step s (run i) = ran s i (find s.storages i)
step s (join r q) = joined s r q (find s.slips r) (find s.slips q)
step s (absorb h r) = absorbed s h r (find s.holds h) (find s.slips r)

abbrev pub nothing : Stock
nothing = record { storages = []; holds = []; slips = [] }

-- the stock after these events
abbrev pub after : Stock → List Event → Stock
after s [] = s
after s (e ∷ es) = after (step s e) es
