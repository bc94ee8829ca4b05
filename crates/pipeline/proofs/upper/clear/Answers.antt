use Rattle.pipeline.proofs.Clearing.{clears_alone, clears_moved}
use Rattle.pipeline.proofs.upper.clear.Goals as goal

pub returns-then-claim-clause-clears : goal.returns-then-claim-clause-clears
returns-then-claim-clause-clears c = clears_alone c.args.mint.now c.args.node.now c.claim.new.node c.claim.result c.claim.ensures

pub returns-clause-clears : goal.returns-clause-clears
returns-clause-clears c =
    clears_moved _ _ _ c.claim.new.node c.unshare_known.new.self c.claim.result c.unshare_known.result c.claim.ensures c.if-claim.false
    c.unshare_known.ensures.stays
    c.unshare_known.ensures.window c.unshare_known.ensures.refused c.unshare_known.ensures.totals
