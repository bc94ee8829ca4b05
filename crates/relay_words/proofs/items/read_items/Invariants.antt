use Rattle.std.proofs.Common.{◌≡◌, ◌+◌, ◌-◌, ◌≤◌, ◌++◌, length, map, string_bytes}
use Rattle.relay_words.specs.Items.{items}
use Rattle.relay_words.proofs.items.read_items.Given as goal

abbrev pub invariant-loop-item : goal.invariant-loop-item
invariant-loop-item l = record {
  within : length l.rest ≤ length l.words;
  read : l.list.items ++ items (1 + (length l.words - length l.rest)) (map (λ w. string_bytes w) l.rest) ≡ items 1 (map (λ w. string_bytes w) l.words);
}

abbrev pub decreases-loop-item : goal.decreases-loop-item
decreases-loop-item l = length l.rest
