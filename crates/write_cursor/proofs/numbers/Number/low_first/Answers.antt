use Rattle.std.proofs.Common.{◌≡◌, ℕ, ◌-◌, take, ap, ◌∙◌, arith}
use Rattle.write_cursor.proofs.Digits.{low_part}
use Rattle.write_cursor.proofs.numbers.Number.low_first.Goals as goal

pub returns : goal.returns
returns c =
    let size = c.from.ensures in
    let e : c.from.result - 0 ≡ c.args.size = omega (arith, size) in
    ap (λ (m : ℕ). take m c.to_le_bytes.result) e ∙ low_part c.to_le_bytes.result c.args.size c.args.value c.requires c.to_le_bytes.ensures
