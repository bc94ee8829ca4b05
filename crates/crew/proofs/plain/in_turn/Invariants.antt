use Rattle.std.proofs.Common.{◌≡◌, ℕ, ◌<◌, ◌≤◌, length}
use Rattle.std.specs.Prelude.{slice_index_or}
use Rattle.crew.proofs.plain.in_turn.Given as goal

abbrev pub invariant-loop-place : goal.invariant-loop-place
invariant-loop-place g l = record {
  long : length l.items ≡ length l.fn.items;
  to_come : (k : ℕ) (d : g.row.J.Denot) → l.place ≤ k → slice_index_or l.items k d ≡ slice_index_or l.fn.items k d;
  done : (k : ℕ) (d : g.row.J.Denot) → k < l.place → g.J.Work.does (slice_index_or l.fn.items k d) (slice_index_or l.items k d);
}
