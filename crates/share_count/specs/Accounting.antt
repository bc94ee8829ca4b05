-- What is right of a stock.
use Rattle.std.specs.Prelude.{◌≡◌, ◌↔◌, ℕ, ◌+◌, ◌-◌, ◌^◌, ◌<◌, ◌≤◌, ◌==◌, if◌then◌else◌, List, [], ◌∷◌, length, Option, Some, None}
use Rattle.share_count.specs.Weights.{full, part}
use Rattle.share_count.specs.Histories.{Storage, Hold, Slip, Stock, Event, make, share, write, give, run, absorb, slip, find, step, nothing, after}

-- the sum over what is there
abbrev pub over : {A : Type 0} → (A → ℕ) → List (Option A) → ℕ
over f [] = 0
over f (None ∷ xs) = over f xs
over f (Some x ∷ xs) = f x + over f xs

-- n where it is of the storage i
abbrev pub of : ℕ → ℕ → ℕ → ℕ
of i j n = if j == i then n else 0

abbrev pub live : ℕ → Hold → ℕ
live i u = of i u.storage u.weight

abbrev pub taken_in : ℕ → Hold → ℕ
taken_in i u = of i u.storage u.absorbed

abbrev pub given_back : ℕ → Slip → ℕ
given_back i x = of i x.storage x.weight

abbrev pub lasts : ℕ → Slip → ℕ
lasts i x = of i x.storage x.lasts

-- the payload is at home and no release ran; or the last was given, the payload was taken out, and one release ran
abbrev pub IsHoused : Storage → Option (List ℕ) → Type 0
IsHoused b (Some bytes) = b.runs ≡ 0
IsHoused b None = (b.word ≡ 0) × (b.runs ≡ 1)

-- the accounts of the storage i: the word is the sum of the live weights; these, the absorbed weights and the
-- receipts are all its weight; there is one last where nothing is live, and else none; and the payload
abbrev pub IsBalanced : Stock → ℕ → Storage → Type 0
IsBalanced s i b = (b.word ≡ over (live i) s.holds)
    × (over (live i) s.holds + over (taken_in i) s.holds + over (given_back i) s.slips ≡ full)
    × (b.word ≡ 0 → over (lasts i) s.slips ≡ 1) × (0 < b.word → over (lasts i) s.slips ≡ 0) × IsHoused b b.payload

-- a live hold has weight, and its bytes are those of its storage
abbrev pub Shows : Hold → Option Storage → Type 0
Shows u None = ⊥
Shows u (Some b) = (1 ≤ u.weight) × (b.payload ≡ Some u.bytes)

abbrev pub IsRight : Stock → Type 0
IsRight s = ((i : ℕ) (b : Storage) → find s.storages i ≡ Some b → IsBalanced s i b)
    × ((h : ℕ) (u : Hold) → find s.holds h ≡ Some u → Shows u (find s.storages u.storage))
    × ((r : ℕ) (x : Slip) → find s.slips r ≡ Some x → (1 ≤ x.weight) × (x.storage < length s.storages))

-- whatever happens, in every order: the accounts are right
abbrev pub StaysRight : Type 0
StaysRight = (es : List Event) → IsRight (after nothing es)

-- at most one release of a storage runs, exactly where its last was given and its payload taken out
abbrev pub RunsOnce : Type 0
RunsOnce = (es : List Event) (i : ℕ) (b : Storage) → find (after nothing es).storages i ≡ Some b
    → (b.runs ≤ 1) × (b.runs ≡ 1 ↔ (over (lasts i) (after nothing es).slips ≡ 1) × (b.payload ≡ None))

-- whose own weight is the word holds its storage alone
abbrev pub SoleIsAlone : Type 0
SoleIsAlone = (es : List Event) (h k : ℕ) (u v : Hold) (b : Storage) → find (after nothing es).holds h ≡ Some u
    → find (after nothing es).holds k ≡ Some v → find (after nothing es).storages u.storage ≡ Some b
    → b.word ≡ u.weight → v.storage ≡ u.storage → k ≡ h

-- an event keeps the bytes of each hold but those of the hold that writes
abbrev pub IsWriteOf : ℕ → Event → Type 0
IsWriteOf h (write k bytes) = k ≡ h
IsWriteOf h _ = ⊥

abbrev pub KeepsBytes : Type 0
KeepsBytes = (s : Stock) (e : Event) (h : ℕ) (u v : Hold) → find s.holds h ≡ Some u → find (step s e).holds h ≡ Some v
    → ¬ (IsWriteOf h e) → v.bytes ≡ u.bytes

-- shares of shares
abbrev pub WorkedWeights : Type 0
WorkedWeights = (part full ≡ 2 ^ 40) × (part (2 ^ 40) ≡ 2 ^ 30) × (part (2 ^ 30) ≡ 2 ^ 20) × (part (2 ^ 20) ≡ 2 ^ 10)
    × (part (2 ^ 10) ≡ 1) × (part 2 ≡ 1)

-- while a storage is shared a write changes nothing; alone again it is written; its release runs once
abbrev pub WorkedHistory : Type 0
WorkedHistory = (find (after nothing (make (7 ∷ []) ∷ share 0 ∷ write 0 (8 ∷ []) ∷ [])).storages 0 ≡ Some
    (record { word = full; payload = Some (7 ∷ []); runs = 0 }))
    × (find (after nothing (make (7 ∷ []) ∷ share 0 ∷ give 1 ∷ absorb 0 0 ∷ write 0 (9 ∷ []) ∷ [])).storages 0 ≡ Some
    (record { word = full - 2 ^ 40; payload = Some (9 ∷ []); runs = 0 }))
    × (after nothing (make (7 ∷ []) ∷ share 0 ∷ run 0 ∷ give 1 ∷ absorb 0 0 ∷ give 0 ∷ run 0 ∷ run 0 ∷ [])
    ≡ record {
      storages = Some (record { word = 0; payload = None; runs = 1 }) ∷ [];
      holds = None ∷ None ∷ [];
      slips = None ∷ Some (slip 0 full 1) ∷ [];
    })
