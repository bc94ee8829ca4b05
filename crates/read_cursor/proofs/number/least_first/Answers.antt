use Rattle.std.proofs.Common.{◌≡◌, ◌<◌, ◌*◌, ◌+◌, ◌-◌, ◌^◌, length, arith, ap, sym, ◌∙◌, drop, reverse, slice_index_or, subst, ℕ}
use Rattle.frame_head.specs.Numbers.{number}
use Rattle.read_cursor.proofs.Weights.{room, number_left, below_more}
use Rattle.read_cursor.proofs.number.least_first.Goals as goal

pub overflow_mul-n : goal.overflow_mul-n
overflow_mul-n c = omega (arith, room c.loop-i.n (length c.args.bytes.now - c.loop-i.i) c.loop-i.invariant.below (omega arith))

pub overflow_add-n : goal.overflow_add-n
overflow_add-n c = omega (arith, c.from.ensures, c.type_inv.bytes (c.loop-i.i - 1), room c.loop-i.n (length c.args.bytes.now - c.loop-i.i) c.loop-i.invariant.below (omega arith))

pub loop-i-preserved : goal.loop-i-preserved
loop-i-preserved c =
    let back : c.loop-i.i - 1 + 1 ≡ c.loop-i.i = omega arith in
    let more : length c.args.bytes.now - c.loop-i.i + 1 ≡ length c.args.bytes.now - (c.loop-i.i - 1) = omega arith in
    let small : c.from.result < 256 = omega (arith, c.from.ensures, c.type_inv.bytes (c.loop-i.i - 1)) in
    let so_far : number (reverse (drop (c.loop-i.i - 1) c.args.bytes.now)) ≡ 256 * number (reverse (drop (c.loop-i.i - 1 + 1) c.args.bytes.now)) + slice_index_or c.args.bytes.now (c.loop-i.i - 1) 0 = number_left c.args.bytes.now (c.loop-i.i - 1) (omega arith) in
    let known : number (reverse (drop (c.loop-i.i - 1 + 1) c.args.bytes.now)) ≡ c.loop-i.n = ap (λ w. number (reverse (drop w c.args.bytes.now))) back ∙ sym c.loop-i.invariant.so_far in
    let P : ℕ → Type 0 = λ w. 256 * c.loop-i.n + c.from.result < 256 ^ w in
    record {
      within = omega arith;
      so_far = omega (arith, so_far, known, c.from.ensures);
      below = subst P more (below_more c.loop-i.n c.from.result (length c.args.bytes.now - c.loop-i.i) c.loop-i.invariant.below small);
    }
