use Rattle.std.proofs.Common.{◌≡◌, drop}
use Rattle.relay_words.specs.Parts.{value_of}
use Rattle.relay_words.proofs.parts.value_of.Given as goal

abbrev pub invariant-loop-part : goal.invariant-loop-part
invariant-loop-part l = value_of l.key (drop l.part-index l.parts) ≡ value_of l.key l.parts
