use Rattle.std.proofs.Common.{◌≡◌, ℕ, ◌-◌, length, take, drop, ap, sym, ◌∙◌}
use Rattle.write_cursor.proofs.Digits.{high_part}
use Rattle.write_cursor.proofs.Writing.{rest_is}
use Rattle.write_cursor.proofs.numbers.Number.high_first.Goals as goal

pub returns : goal.returns
returns c =
    let all : length c.to_be_bytes.result ≡ 16 = ap length c.to_be_bytes.ensures in
    let from : ℕ = 16 - c.from.result in
    ap (λ (m : ℕ). take (m - from) (drop from c.to_be_bytes.result)) (sym all) ∙ rest_is c.to_be_bytes.result from
    ∙ ap (λ (m : ℕ). drop (16 - m) c.to_be_bytes.result) c.from.ensures
    ∙ high_part c.to_be_bytes.result c.args.size c.args.value c.requires c.to_be_bytes.ensures
