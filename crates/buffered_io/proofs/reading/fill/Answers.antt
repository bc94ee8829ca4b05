use Rattle.std.proofs.Common.{◌≡◌, ◌≤◌, length, ap, arith}
use Rattle.relay_ports.specs.States.{SourceState}
use Rattle.std.proofs.lemmas.Grind.{common_steps}
use Rattle.buffered_io.proofs.Blocks.{read_both, gave_read, same_read, filled, filled_none, at_end, kept_behind}
use Rattle.buffered_io.proofs.reading.fill.Goals as goal

pub returns-in-Ok-eq0-clause-reads : goal.returns-in-Ok-eq0-clause-reads
returns-in-Ok-eq0-clause-reads g c =
    let none : c.in-Ok-eq0.field-0 ≡ 0 = omega (arith, c.in-Ok-eq0.field-0-test) in (
      same_read (filled_none c.pieces.block c.read.new.into _ c.pieces.at c.in-Ok-eq0.field-0 c.pieces.invariant.within none) (read_both c.pieces.invariant.read (gave_read _ _ _ _ _ (grind (arith, common_steps)) c.in-Ok-eq0.ensures.gave)),
      at_end _ (g.S.Source.state c.pieces.source) (g.S.Source.state c.read.new.self) c.read.new.into c.in-Ok-eq0.field-0 none c.in-Ok-eq0.ensures.gave (c.in-Ok-eq0.ensures.ended (grind (arith, common_steps))),
      grind (arith, common_steps),
    )

pub pieces-preserved : goal.pieces-preserved
pieces-preserved g c =
    let fits : c.in-Ok.n ≤ length c.read.new.into = omega (arith, c.in-Ok.ensures.fits, c.read.auto.into) in
    record {
      size = grind (arith, common_steps);
      within = grind (arith, common_steps);
      read = same_read (filled c.pieces.block c.read.new.into _ c.pieces.at c.in-Ok.n c.pieces.invariant.within fits) (read_both c.pieces.invariant.read (gave_read _ _ _ _ _ (grind (arith, common_steps)) c.in-Ok.ensures.gave));
      behind = kept_behind (g.S.Source.state c.args.source.now).given (g.S.Source.state c.pieces.source).given _ c.args.block.now c.pieces.block c.read.new.into c.pieces.at c.in-Ok.n
          (ap (λ (x : SourceState). x.given) c.pieces.invariant.read.state) c.pieces.invariant.within fits c.pieces.invariant.behind c.in-Ok.ensures.behind;
    }
