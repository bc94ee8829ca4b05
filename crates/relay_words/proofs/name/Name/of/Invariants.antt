use Rattle.std.proofs.Common.{◌≡◌, take, string_bytes}
use Rattle.relay_words.proofs.name.Name.of.Given as goal

abbrev pub invariant-loop-b : goal.invariant-loop-b
invariant-loop-b l = string_bytes l.text ≡ take l.b-index l.word
