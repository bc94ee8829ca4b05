use Rattle.std.proofs.Common.{◌≡◌}
use Rattle.frame_reader.specs.Frames.{Stays, ahead}
use Rattle.frame_reader.proofs.reader.FrameReader.next.Given as goal

abbrev pub invariant-blocks-2 : goal.invariant-blocks-2
invariant-blocks-2 g l = record {
  stays : Stays g.R.Read.remaining g.D.Decoder.state g.D.Decoder.stands l.fn.self l.self;
  count : l.self.given ≡ l.fn.self.given;
}

abbrev pub decreases-blocks-2 : goal.decreases-blocks-2
decreases-blocks-2 g l = ahead l.self.phase l.self.read
