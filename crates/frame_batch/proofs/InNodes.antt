-- Nodes, the places of their first bytes, and the parts of a frame in them.
use Rattle.std.proofs.Common.{◌≡◌, ℕ, ◌+◌, ◌-◌, ◌≤◌, ◌<◌, min, List, [], ◌∷◌, Some, length, take, drop, slice_get, ap, sym, ◌∙◌, inl, inr, arith}
use Rattle.std.specs.List.{concat}
use Rattle.std.proofs.lemmas.Bool.{cases_lt}
use Rattle.std.proofs.lemmas.List.{append-nil, take_all}
use Rattle.storage.specs.declared.release.NoOwner.{NoOwner}
use Rattle.buffer_model.specs.Segment.{Segment, bytes_of}
use Rattle.iobuf_chain.proofs.Bytes.{sum_more}
use Rattle.frame_batch.specs.declared.spot.Spot.{Spot}
use Rattle.frame_batch.specs.declared.window.Window.{Window}
use Rattle.frame_batch.specs.Batches.{frames_in}
use Rattle.frame_batch.specs.Parts.{parts_in}
use Rattle.frame_batch.specs.Spots.{IsAt}
use Rattle.frame_batch.proofs.InParts.{first_part, no_parts, parts_joined, some_parts}

-- where bytes lie behind node i, there is another node
pub next_there : (i : ℕ) (ss : List (Segment NoOwner)) (s : Segment NoOwner) → slice_get ss i ≡ Some s
    → length (bytes_of (take i ss)) + length s.window < length (bytes_of ss) → i + 1 < length ss
next_there i ss s is more =
    elim (cases_lt (i + 1) (length ss)) [
      | inl lt ↦ lt
      | inr ge ↦ absurd (
          let sum = sum_more i ss s is in
          let all = ap (λ us. length (bytes_of us)) (take_all (i + 1) ss ge) in
          omega (arith, sum, all, more))
    ]

-- the bytes of a part, as the code slices them
abbrev pub part_at : ℕ → ℕ → Spot → List ℕ
part_at place n spot = take (((place - spot.first) + n) - (place - spot.first)) (drop (place - spot.first) spot.bytes.now)

-- the part in a node comes first, and what is behind it is left
pub next_part : (ss : List (Segment NoOwner)) (spot : Spot) (place size n : ℕ) (v : List (List ℕ)) → parts_in place size ss ≡ v → IsAt ss spot
    → spot.first ≤ place → place < spot.first + length spot.bytes.now → 0 < size → n ≡ min size (length spot.bytes.now - (place - spot.first))
    → v ≡ part_at place n spot ∷ parts_in (place + n) (size - n) ss
next_part ss spot place size n v view is low there some n_is =
    let l = ap length is.bytes in
    let at = is.first in
    let size_is : n ≡ ((place - spot.first) + n) - (place - spot.first) = omega arith in
    sym view
    ∙ first_part spot.index ss is.node spot.first place size n is.there at low (omega (arith, l, there)) some (omega (arith, l, n_is))
    ∙ ap (λ us. take n (drop (place - spot.first) us) ∷ parts_in (place + n) (size - n) ss) (sym is.bytes)
    ∙ ap (λ (m : ℕ). take m (drop (place - spot.first) spot.bytes.now) ∷ parts_in (place + n) (size - n) ss) size_is

-- what lies in one node is one part
pub only_part : (ss : List (Segment NoOwner)) (spot : Spot) (place size : ℕ) (v : List (List ℕ)) → parts_in place size ss ≡ v → IsAt ss spot
    → spot.first ≤ place → place < spot.first + length spot.bytes.now → 0 < size → size ≤ length spot.bytes.now - (place - spot.first)
    → (part_at place size spot ≡ concat v) × (length v ≤ 1)
only_part ss spot place size v view is low there some within =
    let none : size - size ≡ 0 = omega arith in
    let first = next_part ss spot place size size v view is low there some (omega (arith, within)) in
    let one : v ≡ part_at place size spot ∷ [] =
    first ∙ ap (λ (m : ℕ). part_at place size spot ∷ parts_in (place + size) m ss) none ∙ ap (λ us. part_at place size spot ∷ us) (no_parts (place + size) ss) in
    let l = ap length one in
    (sym (ap concat one ∙ append-nil (part_at place size spot)), omega (arith, l))

-- what doesn't lie in one node has more parts
pub more_parts : (ss : List (Segment NoOwner)) (spot : Spot) (place size : ℕ) (v : List (List ℕ)) → parts_in place size ss ≡ v → IsAt ss spot
    → spot.first ≤ place → place < spot.first + length spot.bytes.now → place + size ≤ length (bytes_of ss) → length spot.bytes.now - (place - spot.first) < size
    → 1 < length v
more_parts ss spot place size v view is low there within over =
    let n = length spot.bytes.now - (place - spot.first) in
    let first = next_part ss spot place size n v view is low there (omega (arith, over)) (omega (arith, over)) in
    let more = some_parts (place + n) (size - n) ss (omega (arith, over, within)) (omega (arith, over)) in
    let l = ap length first in
    omega (arith, l, more)

-- no bytes have no part
pub no_part : (ss : List (Segment NoOwner)) (place size : ℕ) (v : List (List ℕ)) → parts_in place size ss ≡ v → size ≡ 0 → v ≡ []
no_part ss place size v view none = sym view ∙ ap (λ (n : ℕ). parts_in place n ss) none ∙ no_parts place ss

-- the parts of the first window are the first frame
pub first_frame : (ss : List (Segment NoOwner)) (ws us : List Window) (w : Window) (parts : List (List ℕ)) (v : List (List ℕ)) → frames_in (bytes_of ss) ws ≡ v
    → ws ≡ w ∷ us → parts ≡ parts_in w.place w.size ss → v ≡ concat parts ∷ frames_in (bytes_of ss) us
first_frame ss ws us w parts v view is made =
    sym view ∙ ap (λ vs. frames_in (bytes_of ss) vs) is
    ∙ ap (λ bs. bs ∷ frames_in (bytes_of ss) us) (sym (ap concat made ∙ parts_joined w.place w.size ss))

pub none_is_one : (ss : List (Segment NoOwner)) (place size : ℕ) (v : List (List ℕ)) → parts_in place size ss ≡ v → size ≡ 0 → ([] ≡ concat v) × (length v ≤ 1)
none_is_one ss place size v view none =
    let nothing = no_part ss place size v view none in
    let l = ap length nothing in
    (sym (ap concat nothing), omega (arith, l))
