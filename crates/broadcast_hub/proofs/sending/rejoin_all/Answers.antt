use Rattle.std.proofs.Common.{rules, ◌∙◌}
use Rattle.iobuf_chain.proofs.ManyTurns.{up_to_begin, up_to_step, up_to_end, may_next, may_then}
use Rattle.broadcast_hub.proofs.Lists.{last_chain, none_left}
use Rattle.broadcast_hub.proofs.sending.rejoin_all.Goals as goal

pub rejoin-requires : goal.rejoin-requires
rejoin-requires c = may_next _ _ _ c.in-Some.share.chain c.shares.invariant.may (last_chain _ _ c.in-Some.share c.in-Some.ensures.items)

pub shares-preserved : goal.shares-preserved
shares-preserved c =
    let last = last_chain _ _ c.in-Some.share c.in-Some.ensures.items in record {
      back = up_to_step _ _ _ _ _ c.in-Some.share.chain _ c.shares.invariant.back last c.rejoin.ensures.rejoins;
      may = may_then _ _ _ _ c.in-Some.share.chain c.shares.invariant.may last c.rejoin.ensures.storages;
      frames = c.rejoin.ensures.frames ∙ c.shares.invariant.frames;
      room = search rules;
    }

pub returns-clause-rejoins : goal.returns-clause-rejoins
returns-clause-rejoins c = up_to_end _ _ _ _ c.shares.invariant.back (none_left _ (search rules))
