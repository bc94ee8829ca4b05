use Rattle.std.proofs.Common.{◌≡◌, ◌++◌, drop}
use Rattle.std.specs.Prelude.{option_map}
use Rattle.relay_words.specs.Hex.{hex_bytes, of_each}
use Rattle.relay_words.proofs.hex.read_marks.Given as goal

abbrev pub invariant-loop-part : goal.invariant-loop-part
invariant-loop-part l = option_map (λ ms. l.list.items ++ ms) (of_each hex_bytes (drop l.part-index l.part-items)) ≡ of_each hex_bytes l.part-items
