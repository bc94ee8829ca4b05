use Rattle.std.proofs.Common.{sym, ◌∙◌}
use Rattle.relay_words.proofs.Pairs.{pair_read}
use Rattle.relay_words.proofs.hex.read_mark.Goals as goal

pub loop-rest-preserved : goal.loop-rest-preserved
loop-rest-preserved c =
    pair_read c.loop-rest.bytes.items c.push.new.self.items c.loop-rest.rest.now c.args.w.now c.in-Some.byte c.in-len2-up.len_at_least (sym c.in-Some.is ∙ c.hex_byte.ensures)
    c.in_ok-push.ensures.items c.loop-rest.invariant
