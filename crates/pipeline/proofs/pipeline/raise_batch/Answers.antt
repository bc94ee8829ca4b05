use Rattle.pipeline.proofs.Moving.{moves_batch}
use Rattle.pipeline.proofs.pipeline.raise_batch.Goals as goal

pub returns-in-Ok-clause-back : goal.returns-in-Ok-clause-back
returns-in-Ok-clause-back c =
    moves_batch c.args.mint.now c.raise.new.mint c.args.chain c.raise.new.frame c.from_parts.result.chain c.new-backs.result.items c.raise.new.backs.items
    c.returned.result c.new-backs.ensures.items c.in-Ok.ensures.works c.returned.ensures c.from_parts.ensures.chain

pub returns-in-Err-clause-back : goal.returns-in-Err-clause-back
returns-in-Err-clause-back c =
    moves_batch c.args.mint.now c.raise.new.mint c.args.chain c.raise.new.frame c.from_parts-in-Err.result.chain c.new-backs.result.items
    c.raise.new.backs.items c.returned-in-Err.result c.new-backs.ensures.items c.in-Err.ensures.works c.returned-in-Err.ensures
    c.from_parts-in-Err.ensures.chain
