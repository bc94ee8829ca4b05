use Rattle.std.proofs.Common.{rules}
use Rattle.iobuf_chain.proofs.Shared.{regains_sum, refused_keeps}
use Rattle.iobuf_chain.proofs.ManyBack.{regains_stay}
use Rattle.iobuf_chain.proofs.ManyShared.{many_kept, many_bytes, many_stay, many_return, many_keep, many_last_of, many_copy_nothing_of, stout_lasts, refused_may}
use Rattle.iobuf_chain.proofs.ManyRegained.{up_to_regains}
use Rattle.iobuf_chain.proofs.chain.ChainOf.share_many.Goals as goal

pub rejoin_all-requires : goal.rejoin_all-requires
rejoin_all-requires g c = refused_may _ _ _ _ c.in-Err.ensures.refused

pub returns-in-Ok-clause-bytes : goal.returns-in-Ok-clause-bytes
returns-in-Ok-clause-bytes g c = many_bytes _ _ _ _ _ c.in-Ok.ensures.shares

pub returns-in-Ok-clause-returnable : goal.returns-in-Ok-clause-returnable
returns-in-Ok-clause-returnable g c = many_return _ _ _ _ _ c.in-Ok.ensures.shares

pub returns-in-Ok-clause-copies : goal.returns-in-Ok-clause-copies
returns-in-Ok-clause-copies g c = λ few enough. many_copy_nothing_of _ _ _ _ _ _ c.in-Ok.ensures.shares (search rules) few enough

pub returns-in-Ok-clause-stout : goal.returns-in-Ok-clause-stout
returns-in-Ok-clause-stout g c =
    λ few stout. many_copy_nothing_of c.args.n _ _ _ _ _ c.in-Ok.ensures.shares (search rules) (search rules) (stout_lasts c.args.n _ few stout)

pub returns-in-Ok-clause-left : goal.returns-in-Ok-clause-left
returns-in-Ok-clause-left g c = λ k few enough. many_last_of c.args.n k _ _ _ _ _ c.in-Ok.ensures.shares (search rules) few enough

pub returns-in-Ok-clause-kept : goal.returns-in-Ok-clause-kept
returns-in-Ok-clause-kept g c = (many_kept _ _ _ _ _ c.in-Ok.ensures.shares).1

pub returns-in-Ok-clause-storages : goal.returns-in-Ok-clause-storages
returns-in-Ok-clause-storages g c = many_stay _ _ _ _ _ c.in-Ok.ensures.shares

pub returns-in-Ok-clause-totals : goal.returns-in-Ok-clause-totals
returns-in-Ok-clause-totals g c = many_keep _ _ _ _ _ c.in-Ok.ensures.shares

pub returns-in-Err-clause-refused : goal.returns-in-Err-clause-refused
returns-in-Err-clause-refused g c = up_to_regains _ _ _ _ _ c.in-Err.ensures.refused c.rejoin_all.ensures.rejoins

pub returns-in-Err-clause-kept : goal.returns-in-Err-clause-kept
returns-in-Err-clause-kept g c = (regains_sum _ _ (up_to_regains _ _ _ _ _ c.in-Err.ensures.refused c.rejoin_all.ensures.rejoins)).1

pub returns-in-Err-clause-storages : goal.returns-in-Err-clause-storages
returns-in-Err-clause-storages g c = regains_stay _ _ (up_to_regains _ _ _ _ _ c.in-Err.ensures.refused c.rejoin_all.ensures.rejoins)

pub returns-in-Err-clause-totals : goal.returns-in-Err-clause-totals
returns-in-Err-clause-totals g c =
    refused_keeps c.args.mint.now _ _ _ (up_to_regains _ _ _ _ _ c.in-Err.ensures.refused c.rejoin_all.ensures.rejoins)
