use Rattle.std.proofs.Common.{◌≡◌, ◌*◌, ◌^◌, ◌≤◌, length, take, flat_map}
use Rattle.frame_writer.proofs.over.size_of.Given as goal

abbrev pub invariant-loop-part : goal.invariant-loop-part
invariant-loop-part l = (l.size ≡ length (flat_map (λ p. p.now) (take l.part-index l.parts))) × (l.size ≤ l.part-index * 2 ^ 64)
