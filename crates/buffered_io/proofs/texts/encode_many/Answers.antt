use Rattle.std.proofs.Common.{◌+◌, ◌-◌, length, arith, sym}
use Rattle.buffered_io.proofs.Digits.{encode_nothing}
use Rattle.buffered_io.proofs.Lanes.{block_more, all_written}
use Rattle.buffered_io.proofs.texts.encode_many.Goals as goal

pub loop-at-init : goal.loop-at-init
loop-at-init c = record { within = omega arith; written = sym encode_nothing }

pub loop-at-preserved : goal.loop-at-preserved
loop-at-preserved c =
    let at = c.loop-at.at in record {
      within = c.loop-at-test.true;
      written = block_more c.args.bytes.now c.loop-at.text c.encode_block.new.text at at (omega arith) c.loop-at.invariant.within c.loop-at-test.true c.loop-at.invariant.written c.encode_block.ensures;
    }

pub returns-then-at-n : goal.returns-then-at-n
returns-then-at-n c =
    let bytes = c.args.bytes.now in
    let from = length bytes - 16 in
    let new = c.encode_block-then-at-n.new.text in
    all_written bytes new (from + 16) (omega (arith, c.requires.some)) (omega (arith, c.requires.room))
    (block_more bytes c.loop-at.text new c.loop-at.at from (omega (arith, c.loop-at-test.false)) c.loop-at.invariant.within (omega (arith, c.requires.some)) c.loop-at.invariant.written c.encode_block-then-at-n.ensures)
