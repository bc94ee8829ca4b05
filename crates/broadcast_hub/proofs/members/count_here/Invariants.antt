-- So many of the first are live or leaving.
use Rattle.std.proofs.Common.{◌≡◌, ◌≤◌, take}
use Rattle.broadcast_hub.specs.Hubs.{here_in}
use Rattle.broadcast_hub.proofs.members.count_here.Given as goal

abbrev pub invariant-subs : goal.invariant-subs
invariant-subs l = record {
  count : l.count ≡ here_in (take l.sub-index l.subs);
  most : l.count ≤ l.sub-index;
}
