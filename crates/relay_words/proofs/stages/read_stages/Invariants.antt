use Rattle.std.proofs.Common.{◌≡◌, ◌++◌, drop}
use Rattle.std.specs.Prelude.{option_map}
use Rattle.relay_words.specs.Hex.{of_each}
use Rattle.relay_words.specs.Stages.{stage_of}
use Rattle.relay_words.proofs.stages.read_stages.Given as goal

abbrev pub invariant-loop-part : goal.invariant-loop-part
invariant-loop-part l = option_map (λ ms. l.list.items ++ ms) (of_each stage_of (drop l.part-index l.part-items)) ≡ of_each stage_of l.part-items
