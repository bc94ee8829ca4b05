use Rattle.std.proofs.Common.{arith}
use Rattle.std.proofs.lemmas.Grind.{common_steps}
use Rattle.buffered_io.proofs.Prints.{wrote_further, broke_further}
use Rattle.buffered_io.proofs.writing.write_all.Goals as goal

pub pieces-preserved : goal.pieces-preserved
pieces-preserved g c = record {
  within = grind (arith, common_steps);
  wrote = wrote_further (g.W.Sink.state c.args.sink.now) (g.W.Sink.state c.pieces.sink) (g.W.Sink.state c.write.new.self) c.args.text.now c.pieces.at c.in-Ok.n c.pieces.invariant.wrote (c.in-Ok.ensures.took (grind (arith, common_steps)));
}

pub returns-in-Err : goal.returns-in-Err
returns-in-Err g c =
    broke_further (g.W.Sink.state c.args.sink.now) (g.W.Sink.state c.pieces.sink) (g.W.Sink.state c.write.new.self) c.args.text.now c.pieces.at c.pieces-test.true c.pieces.invariant.wrote c.in-Err.ensures.failed
