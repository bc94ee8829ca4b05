-- Where a reader stands in a chain.
use Rattle.std.specs.Prelude.{◌≡◌, List, Some, length, take, slice_get}
use Rattle.storage.specs.declared.release.NoOwner.{NoOwner}
use Rattle.buffer_model.specs.Segment.{Segment, bytes_of}
use Rattle.frame_batch.specs.declared.spot.Spot.{Spot}

-- a spot is a node of the chain: it has that node's bytes, and counts the bytes before it
pub record IsAt (chain : List (Segment NoOwner)) (spot : Spot) : Type 0 where
  pub node : Segment NoOwner
  pub there : slice_get chain spot.index ≡ Some node
  pub bytes : spot.bytes.now ≡ node.window
  pub first : spot.first ≡ length (bytes_of (take spot.index chain))
