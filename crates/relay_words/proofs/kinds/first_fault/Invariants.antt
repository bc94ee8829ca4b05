use Rattle.std.proofs.Common.{◌≡◌, [], take, drop}
use Rattle.relay_words.specs.Kinds.{first_fault}
use Rattle.relay_words.proofs.kinds.first_fault.Given as goal

abbrev pub invariant-loop-i : goal.invariant-loop-i
invariant-loop-i l = first_fault l.command (take l.i l.items) (drop l.i l.items) ≡ first_fault l.command [] l.items
