use Rattle.std.proofs.Common.{◌≡◌, take}
use Rattle.std.specs.List.{filter_map}
use Rattle.relay_words.specs.Orders.{sub_given}
use Rattle.relay_words.proofs.values.subs_given.Given as goal

abbrev pub invariant-loop-item : goal.invariant-loop-item
invariant-loop-item l = l.subs.items ≡ filter_map sub_given (take l.item-index l.item-items)
