use Rattle.std.proofs.Common.{ap}
use Rattle.relay_app.specs.Cutting.{Cutting}
use Rattle.relay_app.proofs.Nodes.{shares_data}
use Rattle.relay_app.proofs.cutter.Cutter.feed.Goals as goal

pub returns-clause-copies : goal.returns-clause-copies
returns-clause-copies g c =
    shares_data _ (g.D.Decoder.state c.args.self.now.decoder).kept (g.D.Decoder.state c.feed.new.self).kept c.args.block c.of-piece.result
    (ap (λ (x : Cutting _). (g.D.Decoder.state x.decoder).kept) c.self.view_is) c.of-piece.ensures c.requires.kept c.requires.heavy
    c.empty.ensures.units c.in-Ok.ensures.copies
