-- So many of the first are live.
use Rattle.std.proofs.Common.{◌≡◌, ◌≤◌, take}
use Rattle.broadcast_hub.specs.Hubs.{live_in}
use Rattle.broadcast_hub.proofs.members.count_live.Given as goal

abbrev pub invariant-subs : goal.invariant-subs
invariant-subs l = record {
  count : l.count ≡ live_in (take l.sub-index l.subs);
  most : l.count ≤ l.sub-index;
}
