use Rattle.std.proofs.Common.{arith, refl}
use Rattle.buffered_io.proofs.Prints.{prints_further}
use Rattle.buffered_io.proofs.printer.Printer.put_in_pieces.Goals as goal

pub pieces-preserved : goal.pieces-preserved
pieces-preserved g c = record {
  within = omega arith;
  printed = prints_further (λ x. x) (λ xs ys. refl) c.args.bytes.now c.pieces.at c.min-n.result c.pieces.invariant.printed c.make_room.ensures.prints (c.keep.ensures (g.W.Sink.state c.make_room.new.sink));
}
