-- What contracts see of a pool.
use Rattle.std.specs.Prelude.{Bool, false, Option, Some, None, String, is_none, map, string_bytes}
use Rattle.std.specs.Ordering.{nat_cmp}
use Rattle.std.specs.Cmp.Lexicographic.{slice_cmp}
use Rattle.std.specs.FinMap.{FinMap, from_entries}
use Rattle.std.specs.BTreeMap.{BTreeMap}
use Rattle.broadcast_hub.specs.Hubs.{Hubbed, new_hub}

-- hubs by the bytes of their keys
abbrev pub Pooled : Type 0
Pooled = FinMap (slice_cmp nat_cmp) Hubbed

-- the same of a map whose keys are texts
abbrev pub by_bytes : {Y : Type 0} → BTreeMap (String Y) Hubbed → Pooled
by_bytes hubs = from_entries (map (λ e. (string_bytes e.0, e.1)) hubs.entries)

-- the hub, or a new one where there is none
abbrev pub hub_or_new : Option Hubbed → Hubbed
hub_or_new None = new_hub
hub_or_new (Some hub) = hub

-- there is a hub, and it isn't closed
abbrev pub is_open : Option Hubbed → Bool
is_open None = false
is_open (Some hub) = is_none hub.closed
