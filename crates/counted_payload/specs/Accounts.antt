-- What the seats of a counted word know, and what holds of them all between any two steps.
use Rattle.std.specs.Prelude.{◌≡◌, ℕ, ◌+◌, ◌-◌, ◌%◌, ◌^◌, ◌≤◌, ◌<◌, ◌==◌, List, [], ◌∷◌, ◌++◌, length, slice_index, slice_set}
use mathlib.Core.Option.{some}
use lib.ListN.{get_elem?}
use prog.Atomic.{either}
use Rattle.atomic_table.specs.Table.{State}
use Rattle.counted_payload.specs.declared.Entry.{Entry}

-- an entry: the live weight; the weight held beside it, absorbed or of a receipt; the lasts; the loads; the word last
-- found; how many parts of a lent payload it has, and out of which pool; and how many are out of its own pool
abbrev pub entry : ℕ → ℕ → ℕ → ℕ → ℕ → ℕ → ℕ → ℕ → Entry
entry w h l k n p b o = record { live = w; held = h; lasts = l; loads = k; note = n; parts = p; pool = b; out = o }

-- the entry that stands for nothing
abbrev pub spent : Entry
spent = entry 0 0 0 0 0 0 0 0

abbrev pub live_of : Entry → ℕ
live_of v = v.live

abbrev pub held_of : Entry → ℕ
held_of v = v.held

abbrev pub lasts_of : Entry → ℕ
lasts_of v = v.lasts

abbrev pub out_of : Entry → ℕ
out_of v = v.out

abbrev pub sum_of : (Entry → ℕ) → List Entry → ℕ
sum_of f [] = 0
sum_of f (v ∷ vs) = f v + sum_of f vs

-- lasts beyond the weight held: a last comes with weight
abbrev pub excess : Entry → ℕ
excess v = v.lasts - v.held

-- all weight is live or held; there is one last where nothing is live, and else none
abbrev pub Books : List Entry → Type 0
Books vs = (sum_of live_of vs + sum_of held_of vs ≡ 2 ^ 62) × (sum_of live_of vs ≡ 0 → sum_of lasts_of vs ≡ 1)
    × (0 < sum_of live_of vs → sum_of lasts_of vs ≡ 0) × (sum_of excess vs ≡ 0)

-- the parts of the pool b that an entry has
abbrev pub parts_in : ℕ → Entry → ℕ
parts_in b v = either (v.pool == b) v.parts 0

-- parts beyond the live weight
abbrev pub surplus : Entry → ℕ
surplus v = v.parts - v.live

-- what is out of a pool is what its seats have; none has more parts than live weight; and a pool that isn't there has
-- none out
abbrev pub Pools : List Entry → Type 0
Pools vs = ((b : ℕ) (u : Entry) → get_elem? vs b ≡ some u → u.out ≡ sum_of (parts_in b) vs) × (sum_of surplus vs ≡ 0)
    × ((b : ℕ) → length vs ≤ b → sum_of (parts_in b) vs ≡ 0)

-- live weight without its parts is alone: it is all live weight
abbrev pub Lone : List Entry → Type 0
Lone vs = (i : ℕ) (v : Entry) → get_elem? vs i ≡ some v → v.parts < v.live → v.live ≡ sum_of live_of vs

-- the word is the sum of the live weights, and the accounts are right
abbrev pub Accounted : State (Unit {0}) Entry → Type 0
Accounted s = (s.words ≡ sum_of live_of s.views ∷ []) × Books s.views × Pools s.views × Lone s.views

abbrev pub last_of : ℕ → ℕ → ℕ
last_of n k = either (n == k) 1 0

-- the entry that has given its live weight k back where the word was n
abbrev pub returned : Entry → ℕ → ℕ → Entry
returned v k n = entry 0 (v.live + v.held) (last_of n k) v.loads v.note 0 0 0

-- the entry of a pool of which k parts fewer are out
abbrev pub fewer : Entry → ℕ → Entry
fewer u k = entry u.live u.held u.lasts u.loads u.note u.parts u.pool (u.out - k)

-- the word n lowered by k
abbrev pub lowered : ℕ → ℕ → ℕ
lowered k n = (n + (2 ^ 64 - k)) % 2 ^ 64

-- the word n is at least the own weight k, and is k where the seat has all weight
abbrev pub Gave : Entry → ℕ → ℕ → Type 0
Gave v k n = (k ≤ n) × (v.live + v.held ≡ 2 ^ 62 → n ≡ k)

-- the seat id may give its weight and its parts back
abbrev pub Leaves : ℕ → Entry → ℕ → ℕ → Type 0
Leaves id v k pool = (s : State (Unit {0}) Entry) (u : Entry) → Accounted s → get_elem? s.views id ≡ some v
    → get_elem? s.views pool ≡ some u → ¬ (pool ≡ id)
    → (k ≤ u.out) × (u.out ≤ 2 ^ 62) × ((fewer u k).out ≡ u.out - k) × (slice_index s.words 0 ≡ k → u.out ≡ k)
    × Accounted record {
      words = slice_set s.words 0 (lowered k (slice_index s.words 0));
      homes = s.homes;
      views = slice_set (slice_set s.views id (returned v k (slice_index s.words 0))) pool (fewer u k);
    }
    × Gave v k (slice_index s.words 0)

-- the entry that lends its payload out of the pool b, in as many parts as its weight k
abbrev pub lent : Entry → ℕ → ℕ → Entry
lent v k b = entry v.live v.held v.lasts v.loads v.note k b v.out

-- the entry of a new pool
abbrev pub pool_entry : ℕ → Entry
pool_entry k = entry 0 0 0 0 0 0 0 k

-- the seat id may lend its payload
abbrev pub Lends : ℕ → Entry → ℕ → Type 0
Lends id v k = (s : State (Unit {0}) Entry) → Accounted s → get_elem? s.views id ≡ some v
    → Accounted record {
      words = s.words;
      homes = s.homes;
      views = slice_set s.views id (lent v k (length s.views)) ++ pool_entry k ∷ [];
    }

-- the entry after a load that found n: where that is its weight k, its payload is its own
abbrev pub claimed : Entry → ℕ → ℕ → Entry
claimed v k n = entry v.live v.held v.lasts (v.loads + 1) n (either (n == k) 0 v.parts) v.pool v.out

-- the entry of a pool of which nothing is out
abbrev pub emptied : Entry → Entry
emptied u = entry u.live u.held u.lasts u.loads u.note u.parts u.pool 0

-- the seat id may take the payload home where its load finds its weight
abbrev pub ClaimTaken : ℕ → Entry → ℕ → ℕ → Type 0
ClaimTaken id v k pool = (s : State (Unit {0}) Entry) (u : Entry) → Accounted s → get_elem? s.views id ≡ some v
    → get_elem? s.views pool ≡ some u → ¬ (pool ≡ id) → slice_index s.words 0 ≡ k
    → (u.out ≡ k) × ((emptied u).out ≡ 0)
    × Accounted record {
      words = slice_set s.words 0 (slice_index s.words 0);
      homes = s.homes;
      views = slice_set (slice_set s.views id (claimed v k (slice_index s.words 0))) pool (emptied u);
    }
    × Gave v k (slice_index s.words 0)

-- and may note what it found elsewhere
abbrev pub ClaimKept : ℕ → Entry → ℕ → Type 0
ClaimKept id v k = (s : State (Unit {0}) Entry) → Accounted s → get_elem? s.views id ≡ some v
    → ¬ (slice_index s.words 0 ≡ k)
    → Accounted record {
      words = slice_set s.words 0 (slice_index s.words 0);
      homes = s.homes;
      views = slice_set s.views id (claimed v k (slice_index s.words 0));
    } × Gave v k (slice_index s.words 0)
