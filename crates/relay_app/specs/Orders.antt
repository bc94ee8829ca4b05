-- What the words come to.
use Rattle.std.specs.Prelude.{◌≡◌, ◌⊎◌, ℕ, Bool, true, false, Option, Some, None, Result, Ok, Err, if◌then◌else◌}
use Rattle.relay_words.specs.declared.faults.UsageKind.{UsageKind}
use Rattle.relay_words.specs.declared.faults.UsageKind.TheVariants.{NotBuilt}
use Rattle.relay_words.specs.declared.faults.WordFault.{WordFault}
use Rattle.relay_words.specs.declared.faults.WordFault.TheVariants.{Usage}
use Rattle.relay_words.specs.declared.order.Order.{Order}
use Rattle.relay_words.specs.declared.order.Order.TheVariants.{Frames, Chain, Relay, Mill}
use Rattle.relay_app.specs.declared.status.Status.{Status}
use Rattle.relay_app.specs.declared.status.Status.TheVariants as status

-- whether a good command can run yet
abbrev pub can_run : Order → Bool
can_run (Frames codec block limit input) = true
can_run (Chain input) = false
can_run (Relay codec out stages block cap drop_slow limit input subs) = false
can_run (Mill n) = false

-- why no command is run, if none is: the first bad word, or a good command that can't run yet
abbrev pub refusal_of : Result Order WordFault → Option WordFault
refusal_of (Err fault) = Some fault
refusal_of (Ok order) = if can_run order then None else Some (Usage 0 NotBuilt)

-- the words are refused so, or memory was refused; all else stays
abbrev pub Refuses : {H : Type 0} → ℕ → UsageKind → H → H → Status → Type 0
Refuses word kind old new result = ((result ≡ status.Usage word kind) ⊎ (result ≡ status.Memory)) × (new ≡ old)
