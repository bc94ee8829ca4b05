use Rattle.std.proofs.Common.{take}
use Rattle.frame_reader.proofs.Steps.{none_taken, on_err}
use Rattle.frame_reader.proofs.reader.FrameReader.feed.Goals as goal

pub returns-in_err-node-clause-part : goal.returns-in_err-node-clause-part
returns-in_err-node-clause-part g c =
    on_err c.from_residual.result (none_taken (g.D.Decoder.stands c.args.self.now.decoder) (g.D.Decoder.state c.args.self.now.decoder).codec (take c.args.count c.args.block.items) c.args.haul.now.units.items
    c.stable_units.ensures (λ h st. (g.met.D.Decoder.counted c.args.self.now.decoder h st).2) c.requires.empty)

pub returns-in_err-share-clause-part : goal.returns-in_err-share-clause-part
returns-in_err-share-clause-part g c =
    on_err c.from_residual-in_err-share.result (none_taken (g.D.Decoder.stands c.args.self.now.decoder) (g.D.Decoder.state c.args.self.now.decoder).codec (take c.args.count c.args.block.items) c.args.haul.now.units.items
    c.stable_units.ensures (λ h st. (g.met.D.Decoder.counted c.args.self.now.decoder h st).2) c.requires.empty)
