use Rattle.std.proofs.Common.{ℕ, List}
use Rattle.input_pieces.specs.Pieces.{ReadsPiece}
use Rattle.input_pieces.proofs.Readings.{in_front}
use Rattle.input_pieces.proofs.reader.PieceReader.fill_front.Goals as goal

pub returns-clause-piece : goal.returns-clause-piece
returns-clause-piece g c =
    let P : List ℕ → Type 0 = λ w. ReadsPiece g.S.Source.state w c.args.self.now c.fill_slice.new.self in
    in_front P c.fill_slice.result _ c.fill_slice.new.into _ c.fill_slice.auto.into c.fill_slice.ensures.piece c.fill_slice.ensures.within
