-- What is true of the definitions.
use Rattle.std.specs.Prelude.{◌≡◌, ◌≤◌, ℕ, List, length, take, drop}
use Rattle.std.specs.List.Sorted.{IsPermutation}
use Rattle.buffer_model.specs.Segment.{Segment, bytes_of}
use Rattle.buffer_model.specs.Minted.{Numbers}
use Rattle.iobuf_node.specs.Mine.{tail_written}
use Rattle.iobuf_chain.specs.Lists.{rotated}
use Rattle.iobuf_chain.specs.Shares.{SharesRange}
use Rattle.iobuf_chain.specs.Tails.{filled_tail}

-- the bytes of a range that is shared
abbrev pub SharesItsBytes : Type 0 → Type 0
SharesItsBytes O =
    (at n : ℕ) (old new : Numbers) (before after share : List (Segment O)) → SharesRange at n old new before after share
    → bytes_of share ≡ take n (drop at (bytes_of before))

-- nodes that turn are the same nodes in another order
abbrev pub RotationKeepsNodes : Type 0 → Type 0
RotationKeepsNodes O = (i : ℕ) (nodes : List (Segment O)) → IsPermutation nodes (rotated i nodes)

-- bytes that are written behind the data, and that fit, stand at the front of the room there, and all else stays
abbrev pub WritesBehind : Type 0 → Type 0
WritesBehind O = (s : Segment O) (bytes : List ℕ) → length bytes ≤ length s.after → filled_tail s bytes ≡ tail_written bytes s
