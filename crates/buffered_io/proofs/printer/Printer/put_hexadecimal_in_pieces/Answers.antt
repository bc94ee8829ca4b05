use Rattle.std.proofs.Common.{arith, sym}
use Rattle.hex.specs.Hex.{encode_lower}
use Rattle.buffered_io.proofs.Prints.{prints_further, prints_same, prints_nothing}
use Rattle.buffered_io.proofs.Digits.{encode_nothing, encode-append}
use Rattle.buffered_io.proofs.printer.Printer.put_hexadecimal_in_pieces.Goals as goal

pub pieces-init : goal.pieces-init
pieces-init g c = record { within = omega arith; printed = prints_same (sym encode_nothing) (prints_nothing _) }

pub pieces-preserved : goal.pieces-preserved
pieces-preserved g c = record {
  within = omega arith;
  printed = prints_further encode_lower encode-append c.args.bytes.now c.pieces.at c.min-n.result c.pieces.invariant.printed c.make_room.ensures.prints (c.keep_hexadecimal.ensures (g.W.Sink.state c.make_room.new.sink));
}
