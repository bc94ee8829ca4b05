use Rattle.std.proofs.Common.{refl, ap, Some, inl, inr, arith}
use Rattle.buffer_model.specs.Segment.{bytes_of}
use Rattle.frame_rule.specs.Hauls.{nodes_if}
use Rattle.frame_rule.proofs.Intakes.{given_totals}
use Rattle.frame_rule.proofs.Passing.{no_bytes}
use Rattle.frame_rule.proofs.feeding.settle.Goals as goal

pub returns-then-length-gt0-clause-settled : goal.returns-then-length-gt0-clause-settled
returns-then-length-gt0-clause-settled c = inl (refl, omega (arith, c.length.ensures, c.if-length-gt0.true), refl)

pub returns-in-Ok-clause-settled : goal.returns-in-Ok-clause-settled
returns-in-Ok-clause-settled c =
    inr (ap nodes_if c.requires, no_bytes (bytes_of c.args.chain) (omega (arith, c.length.ensures, c.if-length-gt0.false)), c.in-Ok.ensures.moved)

pub returns-in-Ok-clause-totals : goal.returns-in-Ok-clause-totals
returns-in-Ok-clause-totals c =
    given_totals (Some c.args.chain) c.args.kept.now c.args.chain c.args.haul.now c.give_back.new.haul refl c.requires c.in-Ok.ensures.moved.totals
