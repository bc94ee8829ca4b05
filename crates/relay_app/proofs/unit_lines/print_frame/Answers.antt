use Rattle.std.proofs.Common.{length, ap, sym, ◌∙◌}
use Rattle.std.specs.Prelude.{decimal}
use Rattle.buffer_model.specs.Segment.{bytes_of}
use Rattle.buffered_io.specs.Writing.{entry_text}
use Rattle.buffered_io.proofs.Prints.{prints_both, prints_same}
use Rattle.relay_app.proofs.Texts.{frame_head}
use Rattle.relay_app.proofs.unit_lines.print_frame.Goals as goal

pub returns : goal.returns
returns g c =
    let head = ap (λ n. entry_text 70 c.args.at n) c.length.ensures ∙ sym (frame_head (decimal c.args.at) (decimal (length (bytes_of c.args.frame.now)))) in
    prints_both (prints_both (prints_same head c.put_entry.ensures.prints) c.print_bytes.ensures) c.put.ensures.prints
