use Rattle.std.proofs.Common.{◌≡◌, ◌/◌, ◌%◌, length, take, drop}
use Rattle.std.proofs.lemmas.Simd.{length-chunk}
use Rattle.buffered_io.proofs.Lanes.{loaded, high_low, low_low, of_halves, block_stored}
use Rattle.buffered_io.proofs.texts.encode_block.Goals as goal

pub digits_of-high-requires : goal.digits_of-high-requires
digits_of-high-requires c =
    high_low (take 16 (drop c.args.at c.args.bytes.now)) (length-chunk c.args.at 16 c.args.bytes.now c.requires.within) (loaded c.args.bytes.now c.args.at c.type_inv.bytes)

pub digits_of-low-requires : goal.digits_of-low-requires
digits_of-low-requires c = low_low (take 16 (drop c.args.at c.args.bytes.now)) (length-chunk c.args.at 16 c.args.bytes.now c.requires.within)

pub returns : goal.returns
returns c =
    let lanes = take 16 (drop c.args.at c.args.bytes.now) in
    let size : length lanes ≡ 16 = length-chunk c.args.at 16 c.args.bytes.now c.requires.within in
    block_stored c.args.bytes.now c.args.text.now c.digits_of-high.result c.digits_of-low.result c.args.at c.requires.within c.requires.room
    (of_halves (λ a b. a / b) lanes c.digits_of-high.result size c.digits_of-high.ensures)
    (of_halves (λ a b. a % b) lanes c.digits_of-low.result size c.digits_of-low.ensures)
