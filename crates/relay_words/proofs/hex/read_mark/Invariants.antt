use Rattle.std.proofs.Common.{◌≡◌, ◌++◌, length}
use Rattle.std.specs.Prelude.{option_map}
use Rattle.relay_words.specs.Hex.{hex_bytes}
use Rattle.relay_words.proofs.hex.read_mark.Given as goal

abbrev pub invariant-loop-rest : goal.invariant-loop-rest
invariant-loop-rest l = option_map (λ bs. l.bytes.items ++ bs) (hex_bytes l.rest) ≡ hex_bytes l.w

abbrev pub decreases-loop-rest : goal.decreases-loop-rest
decreases-loop-rest l = length l.rest
