use Rattle.std.proofs.Common.{Some, None}
use Rattle.std.proofs.lemmas.Bool.Decides.{Decides-eqb}
use Rattle.std.proofs.lemmas.Slice.Eq.{strip_prefix_is}
use Rattle.std.proofs.lemmas.Bool.{false≢true}
use Rattle.iobuf_chain.proofs.Sliced.{differs, goes_on}
use Rattle.iobuf_chain.proofs.chain.ChainOf.equals.Goals as goal

pub returns-in-None : goal.returns-in-None
returns-in-None g c =
    let other = strip_prefix_is Decides-eqb c.nodes.left.now c.bytes.result.now None c.in-None.ensures.cases in
    let no = differs c.nodes.i _ c.node.result.now _ _ _ c.node.ensures c.bytes.ensures c.nodes.invariant other in
    ((λ t. absurd (false≢true t)), (λ e. absurd (no e)))

pub nodes-preserved : goal.nodes-preserved
nodes-preserved g c =
    let begins = strip_prefix_is Decides-eqb c.nodes.left.now c.bytes.result.now (Some c.in-Some.rest) c.in-Some.ensures.cases in
    goes_on c.nodes.i _ c.node.result.now _ _ _ _ c.node.ensures c.bytes.ensures c.nodes.invariant begins
