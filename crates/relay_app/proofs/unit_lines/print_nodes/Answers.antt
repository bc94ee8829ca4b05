use Rattle.std.proofs.Common.{sym, ap, arith, ◌<◌, length}
use Rattle.hex.specs.Hex.{encode_lower}
use Rattle.buffered_io.proofs.Digits.{encode_nothing}
use Rattle.buffered_io.proofs.Prints.{prints_both, prints_nothing, prints_same}
use Rattle.relay_app.proofs.Texts.{nodes_further}
use Rattle.relay_app.proofs.unit_lines.print_nodes.Goals as goal

pub nodes-init : goal.nodes-init
nodes-init g c = prints_same (sym encode_nothing) (prints_nothing _)

pub nodes-preserved : goal.nodes-preserved
nodes-preserved g c =
    let below : c.nodes.i < length c.args.frame.now = omega (arith, c.nodes-test.true, c.elements-i-end.ensures.count) in
    prints_same (sym (nodes_further c.args.frame.now c.nodes.i c.node.result.now below c.node.ensures)) (prints_both c.nodes.invariant (prints_same (ap encode_lower c.bytes.ensures) c.put_hexadecimal.ensures.prints))
