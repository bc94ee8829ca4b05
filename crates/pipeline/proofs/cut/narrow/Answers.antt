use Rattle.std.proofs.Common.{◌+◌, ◌-◌, arith}
use Rattle.pipeline.proofs.Thinning.{sheds_self}
use Rattle.pipeline.proofs.Cutting.{one_fits, totals_from}
use Rattle.pipeline.proofs.cut.narrow.Goals as goal

pub returns-then-rest-eq0-clause-sheds : goal.returns-then-rest-eq0-clause-sheds
returns-then-rest-eq0-clause-sheds c = sheds_self c.args.frame.now

pub turn-requires : goal.turn-requires
turn-requires c =
    one_fits (c.args.at + (c.length.result - c.args.at - c.args.n)) c.args.frame.now
    (let one = c.if-elements-eq1.true in let count = c.elements.ensures.count in omega (arith, one, count))
    (let size = c.length.ensures in let fits = c.requires in omega (arith, size, fits))

pub returns-in_err-reserve-clause-sheds : goal.returns-in_err-reserve-clause-sheds
returns-in_err-reserve-clause-sheds c = sheds_self c.args.frame.now

pub returns-clause-totals : goal.returns-clause-totals
returns-clause-totals c = totals_from c.args.frame.now c.sift.new.frame c.args.backs.now.items c.reserve.new.self.items c.sift.new.backs.items
    c.reserve.ensures.items c.sift.ensures.totals
