-- A list cut at two places.
use Rattle.std.proofs.Math.Seq.{take-add}
use Rattle.std.proofs.lemmas.List.{take-append-drop, drop-drop}

pub ruleset cuts = (take-add, take-append-drop, drop-drop)
