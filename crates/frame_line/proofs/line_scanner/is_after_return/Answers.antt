use Rattle.std.proofs.Common.{arith}
use Rattle.frame_line.proofs.Feeds.{return_at}
use Rattle.frame_line.proofs.line_scanner.is_after_return.Goals as goal

pub returns : goal.returns
returns c = λ r seen. return_at r c.args.bytes.now c.args.place (omega arith) c.requires
