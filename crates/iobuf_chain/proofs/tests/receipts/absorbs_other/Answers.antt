use Rattle.iobuf_chain.proofs.Absorbed.{lacks_agrees}
use Rattle.iobuf_chain.proofs.tests.receipts.absorbs_other.Goals as goal

pub absorb-requires : goal.absorb-requires
absorb-requires c = lacks_agrees c.args.receipt _ _ _ c.number.ensures c.chain.view_is c.in-None.ensures
