use Rattle.std.proofs.Common.{◌≡◌, take}
use Rattle.relay_words.specs.Numbers.{decimal}
use Rattle.relay_words.proofs.numbers.decimal.Given as goal

abbrev pub invariant-loop-d : goal.invariant-loop-d
invariant-loop-d l = l.n ≡ decimal (take l.d-index l.w)
