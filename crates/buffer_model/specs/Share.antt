-- Storages, and what a hold has of one.
use Rattle.std.specs.Prelude.{◌≡◌, ℕ, ◌+◌, ◌-◌, ◌≤◌, ◌<◌, Bool, true, false, IsTrue, List, Option, Some, None, IsSome}
use Rattle.atomic_table.specs.Seated.{TableId}
use Rattle.share_count.specs.Weights.{full, part}
use Rattle.share_count.specs.Held.{Tally}

-- how a storage is released: its bytes are dropped, an owner is told, a lent block goes back, or a tag is answered
pub data Way (O : Type 0) : Type 0 where
  own : Way O
  user : O → Way O
  lent : ℕ → Way O
  tagged : ℕ → Way O

-- a way without its owner
abbrev pub Kind : Type 0
Kind = Way (Unit {0})

abbrev pub ownerless : {O : Type 0} → Way O → Kind
ownerless own = own
ownerless (user o) = user tt
ownerless (lent n) = lent n
ownerless (tagged t) = tagged t

-- what a hold has of its storage: the storage's number and the word that counts it, the hold's own weight, the weight
-- of the receipts that it absorbed, and how the storage is released; how many looks it took, and the word that the
-- latest found; and whether the storage is its alone, to be written. Bytes that are wrapped have no storage
pub record Share (O : Type 0) : Type 0 where
  pub number : Option ℕ
  pub table : Option TableId
  pub weight : ℕ
  pub absorbed : ℕ
  pub way : Option (Way O)
  pub loads : ℕ
  pub note : ℕ
  pub alone : Bool

-- a hold on bytes that are only borrowed
abbrev pub wrapped : {O : Type 0} → Share O
wrapped = record {
  number = None;
  table = None;
  weight = 0;
  absorbed = 0;
  way = None;
  loads = 0;
  note = 0;
  alone = false;
}

-- the one hold on a storage that was just made
abbrev pub fresh : {O : Type 0} → ℕ → TableId → Way O → Share O
fresh n table way = record {
  number = Some n;
  table = Some table;
  weight = full;
  absorbed = 0;
  way = Some way;
  loads = 0;
  note = 0;
  alone = true;
}

-- it has all of its storage's weight. Wrapped bytes have none
abbrev pub IsWhole : {O : Type 0} → Share O → Type 0
IsWhole s = s.weight + s.absorbed ≡ full

-- it has a storage
abbrev pub IsManaged : {O : Type 0} → Share O → Type 0
IsManaged s = IsSome s.number

-- the storage is its alone, and may be written until it is shared
abbrev pub IsAlone : {O : Type 0} → Share O → Type 0
IsAlone s = IsTrue s.alone

abbrev pub IsShareAt : {O : Type 0} → Option ℕ → Option TableId → Option (Way O) → ℕ → ℕ → Bool → Type 0
IsShareAt None None None weight absorbed alone = (weight ≡ 0) × (absorbed ≡ 0) × (alone ≡ false)
IsShareAt (Some n) (Some t) (Some way) weight absorbed alone = (1 ≤ weight) × (weight + absorbed ≤ full)
IsShareAt _ _ _ weight absorbed alone = ⊥

-- the shares that there are: a weight of at least 1 and at most all of it, and of wrapped bytes none
abbrev pub IsShare : {O : Type 0} → Share O → Type 0
IsShare s = IsShareAt s.number s.table s.way s.weight s.absorbed s.alone

-- a hold: the bytes of its block, and its share
pub record Held (O : Type 0) : Type 0 where
  pub bytes : List ℕ
  pub share : Share O

module _ {O : Type 0} where
  -- the receipt for all that a hold has
  abbrev pub IsReceiptFor : Share O → ℕ → Tally → Type 0
  IsReceiptFor s lasts r =
      (s.number ≡ Some r.number) × (s.table ≡ Some r.table) × (r.weight ≡ s.weight + s.absorbed) × (r.lasts ≡ lasts)

  -- a receipt is for weight of the hold's storage
  abbrev pub IsOfStorage : Share O → Tally → Type 0
  IsOfStorage s r = (s.number ≡ Some r.number) × (s.table ≡ Some r.table)

  -- what stays where a share is given away. Nobody writes then
  abbrev pub rest_of : Share O → Share O
  rest_of s = record s { weight = s.weight - part s.weight; alone = false }

  -- the share that is given away
  abbrev pub part_of : Share O → Share O
  part_of s = record s { weight = part s.weight; absorbed = 0; loads = 0; note = 0; alone = false }

  -- it absorbed so much weight of receipts
  abbrev pub absorbed_in : ℕ → Share O → Share O
  absorbed_in weight s = record s { absorbed = s.absorbed + weight }

  -- a look was taken, which found this word
  abbrev pub looked : ℕ → Share O → Share O
  looked word s = record s { loads = s.loads + 1; note = word }

  -- a look found nobody else, and the storage is its alone
  abbrev pub claimed : Share O → Share O
  claimed s = record s { loads = s.loads + 1; note = s.weight; alone = true }

  abbrev pub FindsSharedAt : Option ℕ → Share O → Share O → Type 0
  FindsSharedAt None s t = t ≡ s
  FindsSharedAt (Some n) s t = (t ≡ looked t.note s) × (s.weight < t.note)

  -- a share before and after a look that found more weight than its own. Wrapped bytes take no look
  abbrev pub FindsShared : Share O → Share O → Type 0
  FindsShared s t = FindsSharedAt s.number s t
