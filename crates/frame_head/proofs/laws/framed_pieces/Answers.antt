use Rattle.frame_head.proofs.Written.{framed_pieces}
use Rattle.frame_head.proofs.laws.framed_pieces.Goals as goal

pub returns : goal.returns
returns c = framed_pieces
