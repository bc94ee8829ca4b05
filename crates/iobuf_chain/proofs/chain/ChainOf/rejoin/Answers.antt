use Rattle.std.proofs.Common.{◌∙◌, length, sym, ap, arith}
use Rattle.buffer_model.specs.Segment.{bytes_of}
use Rattle.iobuf_chain.proofs.ManyBack.{rejoins_sum, rejoins_stay, stay_from, rejoins_keep_from}
use Rattle.iobuf_chain.proofs.chain.ChainOf.rejoin.Goals as goal

pub invariant_of-self : goal.invariant_of-self
invariant_of-self g c =
    let same = rejoins_sum _ _ _ c.rejoin_nodes.ensures in
    let count = same.0 in
    let some = c.self.invariant.0 in
    let most = c.self.invariant.3 in
    (omega (arith, count, some), c.self.invariant.1 ∙ sym (ap length same.1), c.self.invariant.2, omega (arith, count, most))

pub returns-clause-kept : goal.returns-clause-kept
returns-clause-kept g c = (rejoins_sum _ _ _ c.rejoin_nodes.ensures).1 ∙ ap bytes_of c.self.view_is

pub returns-clause-storages : goal.returns-clause-storages
returns-clause-storages g c = stay_from _ _ _ c.self.view_is (rejoins_stay _ _ _ c.rejoin_nodes.ensures)

pub returns-clause-totals : goal.returns-clause-totals
returns-clause-totals g c = rejoins_keep_from _ _ _ _ _ c.self.view_is c.share.view_is c.requires c.rejoin_nodes.ensures
