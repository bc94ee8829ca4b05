-- How the entries of seats change.
use Rattle.std.specs.Prelude.{◌≡◌, ℕ, ◌+◌, ◌-◌, ◌^◌, ◌≤◌, ◌<◌}
use Rattle.atomic_table.specs.Table.{Me}
use Rattle.counted_payload.specs.declared.Entry.{Entry}
use Rattle.counted_payload.specs.Accounts.{entry, returned}
use Rattle.share_count.specs.Weights.{full, part}

-- a share: what stays and what goes, each with as many parts as weight
abbrev pub stays : Entry → Entry
stays v = entry (v.live - part v.live) v.held v.lasts v.loads v.note (v.parts - part v.live) v.pool v.out

abbrev pub goes : Entry → Entry
goes v = entry (part v.live) 0 0 0 0 (part v.live) v.pool 0

-- two taken together
abbrev pub together : Entry → Entry → Entry
together v w = entry (v.live + w.live) (v.held + w.held) (v.lasts + w.lasts) v.loads v.note v.parts v.pool v.out

-- a load that is noted
abbrev pub noted : Entry → ℕ → Entry
noted v n = entry v.live v.held v.lasts (v.loads + 1) n v.parts v.pool v.out

-- a look: it finds at least the own weight, and exactly that where all weight is the seat's, or where the payload is
-- its own
abbrev pub Looks : Me (Unit {0}) Entry → ℕ → Me (Unit {0}) Entry → Type 0
Looks v found w = (w ≡ (noted v.0 found, v.1)) × (v.0.live ≤ found)
    × (v.0.live + v.0.held ≡ 2 ^ 62 → found ≡ v.0.live) × (v.0.parts < v.0.live → found ≡ v.0.live)

-- a load that tells of the books alone
abbrev pub Learns : Me (Unit {0}) Entry → ℕ → Me (Unit {0}) Entry → Type 0
Learns v found w = (w ≡ v) × (v.0.live + v.0.held ≤ 2 ^ 62) × (0 < v.0.live → v.0.lasts ≡ 0)
    × (v.0.held ≡ 2 ^ 62 → v.0.lasts ≡ 1) × (v.0.lasts ≤ 1)

-- a give back of a seat that is alone
abbrev pub Ends : Me (Unit {0}) Entry → ℕ → Me (Unit {0}) Entry → Type 0
Ends v found w = (w ≡ (returned v.0 v.0.live found, v.1)) × (found ≡ v.0.live)

-- what the seat of a receipt knows: it has nothing live and no parts
abbrev pub IsReceipt : ℕ → ℕ → Entry → Type 0
IsReceipt weight lasts v = (v.live ≡ 0) × (v.held ≡ weight) × (v.lasts ≡ lasts) × (v.parts ≡ 0) × (v.out ≡ 0)
    × (1 ≤ weight) × (weight ≤ full) × (lasts ≤ 1) × (weight ≡ full → lasts ≡ 1)

-- what the seat of a unit knows
abbrev pub IsUnit : ℕ → ℕ → Entry → Type 0
IsUnit weight absorbed v = (v.live ≡ weight) × (v.held ≡ absorbed) × (v.lasts ≡ 0) × (v.out ≡ 0) × (1 ≤ weight)
    × (weight + absorbed ≤ full)
