-- The nodes so far are fit for writing.
use Rattle.std.proofs.Common.{◌≡◌, ◌+◌, ◌≤◌, length, take}
use Rattle.std.specs.VecDeque.{deque_capacity}
use Rattle.buffer_model.specs.Share.{IsAlone}
use Rattle.buffer_model.specs.Segment.{bytes_of}
use Rattle.iobuf_chain.specs.Lists.{Each}
use Rattle.pipeline.specs.Nodes.{Works}
use Rattle.pipeline.proofs.upper.clear_each.Given as goal

abbrev pub invariant-nodes : goal.invariant-nodes
invariant-nodes l = record {
  works : Works l.fn.mint l.mint l.fn.frame l.frame l.fn.backs.items l.backs.items;
  bytes : bytes_of l.frame ≡ bytes_of l.fn.frame;
  alone : Each (λ s. IsAlone s.share) (take l.i l.frame);
  size : length l.frame ≡ length l.fn.frame;
  room : length l.backs.items ≤ length l.fn.backs.items + l.i;
  capacity : length l.fn.backs.items + length l.fn.frame ≤ deque_capacity l.backs;
}
