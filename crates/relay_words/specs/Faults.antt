-- How a bad word is named.
use Rattle.std.specs.Prelude.{ℕ, Bool, Option, Some, None, min, if◌then◌else◌}
use Rattle.relay_words.specs.declared.faults.UsageKind.{UsageKind}
use Rattle.relay_words.specs.declared.faults.WordFault.{WordFault}
use Rattle.relay_words.specs.declared.faults.WordFault.TheVariants.{Usage}

-- the word at this place is bad; a place that no 32 bits hold stands still at the greatest that they do
abbrev pub usage : ℕ → UsageKind → WordFault
usage at kind = Usage (min at 4294967295) kind

abbrev pub fault_where : Bool → ℕ → UsageKind → Option WordFault
fault_where bad at kind = if bad then Some (usage at kind) else None
