use Rattle.std.proofs.Common.{ap}
use Rattle.relay_app.proofs.Cuts.{let_go}
use Rattle.relay_app.proofs.Inputs.{interrupted, interrupted_none, on_err}
use Rattle.relay_app.proofs.framing.cut_pieces.Goals as goal

pub reading-preserved : goal.reading-preserved
reading-preserved g c =
    let piece = c.in-Ok.ensures.piece in
    let before = let_go c.reading.cutter c.next_piece.new.self c.next_piece.ensures.let_go c.reading.invariant.1 in (
      _,
      c.in_ok-cut.ensures.cut _ _ c.reading.invariant.0 before,
      piece.joins _ _ _ c.reading.invariant.0 c.reading.invariant.2,
      c.in_ok-cut.ensures.kept,
    )

pub returns-in_err-cut-clause-interrupted : goal.returns-in_err-cut-clause-interrupted
returns-in_err-cut-clause-interrupted g c =
    let piece = c.in-Ok.ensures.piece in
    let before = let_go c.reading.cutter c.next_piece.new.self c.next_piece.ensures.let_go c.reading.invariant.1 in
    on_err c.from_residual.result
    (interrupted c.next_piece.new.reader c.in-Ok.piece.window piece.filled before (ap (λ w. g.W.Sink.state w) c.in_err-cut.ensures.unprinted) piece.stop_is
    (piece.joins _ _ _ c.reading.invariant.0 c.reading.invariant.2))

pub returns-in-Err-clause-interrupted : goal.returns-in-Err-clause-interrupted
returns-in-Err-clause-interrupted g c =
    let before = let_go c.reading.cutter c.next_piece.new.self c.next_piece.ensures.let_go c.reading.invariant.1 in
    interrupted_none c.reading.reader c.next_piece.new.reader c.in-Err.none c.stop_of.result c.stop_of.ensures c.in-Err.ensures.none before c.reading.invariant.2
