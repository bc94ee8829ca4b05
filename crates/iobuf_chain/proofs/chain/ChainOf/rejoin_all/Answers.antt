use Rattle.std.proofs.Common.{rules}
use Rattle.iobuf_chain.proofs.ManyTurns.{up_to_begin, up_to_step, up_to_end, may_next, may_then, all_kept, all_stay}
use Rattle.iobuf_chain.proofs.chain.ChainOf.rejoin_all.Goals as goal

pub shares-init : goal.shares-init
shares-init g c = record { back = up_to_begin _ _; may = c.requires }

pub rejoin-requires : goal.rejoin-requires
rejoin-requires g c = may_next _ _ _ c.in-Some.share c.shares.invariant.may c.in-Some.ensures.items

pub shares-preserved : goal.shares-preserved
shares-preserved g c = record {
  back = up_to_step _ _ _ _ _ c.in-Some.share _ c.shares.invariant.back c.in-Some.ensures.items c.rejoin.ensures.rejoins;
  may = may_then _ _ _ _ c.in-Some.share c.shares.invariant.may c.in-Some.ensures.items c.rejoin.ensures.storages;
}

pub returns-clause-rejoins : goal.returns-clause-rejoins
returns-clause-rejoins g c = up_to_end _ _ _ _ c.shares.invariant.back (search rules)

pub returns-clause-kept : goal.returns-clause-kept
returns-clause-kept g c = all_kept _ _ _ (up_to_end _ _ _ _ c.shares.invariant.back (search rules))

pub returns-clause-storages : goal.returns-clause-storages
returns-clause-storages g c = all_stay _ _ _ (up_to_end _ _ _ _ c.shares.invariant.back (search rules))
