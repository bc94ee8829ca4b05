use Rattle.std.proofs.Common.{◌≡◌, ◌<◌, length, refl, arith}
use Rattle.buffer_model.proofs.Minted.{adds_at_most}
use Rattle.iobuf_chain.proofs.Rejoined.{regains_each}
use Rattle.iobuf_chain.proofs.Shared.{refused_keeps}
use Rattle.iobuf_chain.proofs.Ranged.{range_bytes, some_keeps, some_copy_nothing, empty_keeps}
use Rattle.iobuf_chain.proofs.chain.ChainOf.share_range.Goals as goal

pub returns-then-at-had-clause-refused : goal.returns-then-at-had-clause-refused
returns-then-at-had-clause-refused g c = regains_each _ _ refl

pub returns-then-n-left-clause-refused : goal.returns-then-n-left-clause-refused
returns-then-n-left-clause-refused g c = regains_each _ _ refl

pub returns-in-Ok-clause-mint : goal.returns-in-Ok-clause-mint
returns-in-Ok-clause-mint g c =
    let count = c.elements-some.ensures.count in
    let some = c.elements-some.ensures.some in
    adds_at_most 1 (length c.args.self.now) _ _ c.in-Ok.ensures.chain.mint (omega (arith, count, some))

pub returns-in-Ok-clause-totals : goal.returns-in-Ok-clause-totals
returns-in-Ok-clause-totals g c = empty_keeps _ _ _ _ c.in-Ok.ensures.chain

pub returns-in-Err-clause-refused : goal.returns-in-Err-clause-refused
returns-in-Err-clause-refused g c = regains_each _ _ refl

pub returns-in-Ok-share_some-clause-bytes : goal.returns-in-Ok-share_some-clause-bytes
returns-in-Ok-share_some-clause-bytes g c = range_bytes _ _ _ _ _ _ _ c.in-Ok-share_some.ensures.shares

pub returns-in-Ok-share_some-clause-totals : goal.returns-in-Ok-share_some-clause-totals
returns-in-Ok-share_some-clause-totals g c = some_keeps _ _ _ _ _ _ _ _ c.in-Ok-share_some.ensures.shares

pub returns-in-Ok-share_some-clause-copies : goal.returns-in-Ok-share_some-clause-copies
returns-in-Ok-share_some-clause-copies g c = λ may. some_copy_nothing _ _ _ _ _ _ _ _ c.in-Ok-share_some.ensures.shares may

pub returns-in-Err-share_some-clause-totals : goal.returns-in-Err-share_some-clause-totals
returns-in-Err-share_some-clause-totals g c = refused_keeps c.args.mint.now _ _ _ c.in-Err-share_some.ensures.refused
