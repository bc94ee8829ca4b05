use Rattle.std.proofs.Common.{◌≡◌, length, refl, arith}
use Rattle.iobuf_chain.proofs.Rejoined.{regains_each}
use Rattle.iobuf_chain.proofs.Shared.{one_cloned_is, each_sum, first_return, first_regains}
use Rattle.buffer_model.proofs.Minted.{adds_none}
use Rattle.iobuf_chain.proofs.Lasting.{each_mint, first_mint}
use Rattle.iobuf_chain.proofs.ManyMinted.{each_same, first_same}
use Rattle.iobuf_chain.proofs.share.share_nodes.Goals as goal

pub returns-in-Ok-clause-shares : goal.returns-in-Ok-clause-shares
returns-in-Ok-clause-shares g c = one_cloned_is _ _ _ _ _ c.in-Ok.clone c.in-Ok.ensures.shares (omega arith) c.of.ensures

pub returns-in-Err-clause-refused : goal.returns-in-Err-clause-refused
returns-in-Err-clause-refused g c = regains_each _ _ c.in-Err.ensures.refused.0

pub returns-in_default-clause-refused : goal.returns-in_default-clause-refused
returns-in_default-clause-refused g c = regains_each _ _ refl

pub rejoin_each-requires : goal.rejoin_each-requires
rejoin_each-requires g c = first_return _ _ _ _ _ c.in-Err-share_each.ensures.refused

pub returns-in-Err-share_each-clause-refused : goal.returns-in-Err-share_each-clause-refused
returns-in-Err-share_each-clause-refused g c = first_regains _ _ _ _ _ _ c.in-Err-share_each.ensures.refused c.rejoin_each.ensures

pub unreachable-requires : goal.unreachable-requires
unreachable-requires g c =
    let sizes = (each_sum _ _ _ _ _ c.in-Ok-share_each.ensures.shares).1 in
    let none = c.in_default-pop_front.ensures.cases.0 in
    omega (arith, sizes, none)

pub returns-in-Ok-clause-mint : goal.returns-in-Ok-clause-mint
returns-in-Ok-clause-mint g c = each_mint _ _ _ _ _ (one_cloned_is _ _ _ _ _ c.in-Ok.clone c.in-Ok.ensures.shares (omega arith) c.of.ensures)

pub returns-clause-mint : goal.returns-clause-mint
returns-clause-mint g c = each_mint _ _ _ _ _ c.in-Ok-share_each.ensures.shares

pub returns-in-Err-share_each-clause-mint : goal.returns-in-Err-share_each-clause-mint
returns-in-Err-share_each-clause-mint g c = first_mint _ _ _ _ _ c.in-Err-share_each.ensures.refused

pub returns-in_default-clause-mint : goal.returns-in_default-clause-mint
returns-in_default-clause-mint g c = adds_none _ _ _ refl

pub returns-in-Err-clause-mint : goal.returns-in-Err-clause-mint
returns-in-Err-clause-mint g c = adds_none _ _ _ c.in-Err.ensures.refused.1

pub returns-in-Ok-clause-numbers : goal.returns-in-Ok-clause-numbers
returns-in-Ok-clause-numbers g c =
    each_same _ _ _ _ _ (one_cloned_is _ _ _ _ _ c.in-Ok.clone c.in-Ok.ensures.shares (omega arith) c.of.ensures)

pub returns-clause-numbers : goal.returns-clause-numbers
returns-clause-numbers g c = each_same _ _ _ _ _ c.in-Ok-share_each.ensures.shares

pub returns-in-Err-share_each-clause-numbers : goal.returns-in-Err-share_each-clause-numbers
returns-in-Err-share_each-clause-numbers g c = first_same _ _ _ _ _ c.in-Err-share_each.ensures.refused

pub returns-in_default-clause-numbers : goal.returns-in_default-clause-numbers
returns-in_default-clause-numbers g c = λ _. refl

pub returns-in-Err-clause-numbers : goal.returns-in-Err-clause-numbers
returns-in-Err-clause-numbers g c = λ _. c.in-Err.ensures.refused.1
