-- What each call of a hub is to the machine.
use Rattle.std.specs.Prelude.{◌≡◌, ℕ, List, [], ◌∷◌, None}
use Rattle.sub_queue.specs.declared.items.End.{End}
use Rattle.broadcast_hub.specs.Hubs.{Hubbed, new_hub}
use Rattle.broadcast_hub.specs.Leaving.{shut}
use Rattle.hub_model.specs.Hub.{close, empty_hub}
use Rattle.hub_laws.specs.Standing.{Taps, Stands, Leads}

-- a new hub stands for the empty machine
abbrev pub NewStands : Type 0
NewStands = (taps : Taps) → Stands taps new_hub empty_hub

-- `close`
abbrev pub CloseStands : Type 0
CloseStands = (taps : Taps) (hub : Hubbed) (end : End) → hub.closed ≡ None
    → Leads (close end ∷ []) taps hub taps (shut end hub)
