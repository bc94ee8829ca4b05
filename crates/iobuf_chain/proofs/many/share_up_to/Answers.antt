use Rattle.std.proofs.Common.{rules, refl}
use Rattle.buffer_model.proofs.Minted.{adds_none}
use Rattle.iobuf_chain.proofs.ManyShared.{many_push, many_begin, many_up_to, up_to_none, many_mint_of, refused_mint}
use Rattle.iobuf_chain.proofs.ManyMinted.{all_same, refused_same}
use Rattle.iobuf_chain.proofs.many.share_up_to.Goals as goal

pub returns-in_default-clause-refused : goal.returns-in_default-clause-refused
returns-in_default-clause-refused g c = up_to_none c.args.mint.now _ _ c.new.ensures.items

pub returns-in_default-clause-mint : goal.returns-in_default-clause-mint
returns-in_default-clause-mint g c = adds_none _ _ _ refl

pub shares-init : goal.shares-init
shares-init g c = record {
  made = many_begin _ _ _ c.in-Ok.ensures.items;
  most = search rules;
  room = search rules;
}

pub shares-preserved : goal.shares-preserved
shares-preserved g c = record {
  made = many_push _ _ _ _ _ _ c.in-Ok-share_all.share _ _ c.shares.invariant.made c.in-Ok-share_all.ensures.shares c.push_reserved.ensures.items;
  most = search rules;
  room = search rules;
}

pub returns-in-Err-clause-refused : goal.returns-in-Err-clause-refused
returns-in-Err-clause-refused g c = many_up_to _ _ _ _ _ _ c.shares.invariant.made c.in-Err.ensures.refused

pub returns-in-Err-clause-mint : goal.returns-in-Err-clause-mint
returns-in-Err-clause-mint g c = refused_mint _ _ _ _ _ _ _ c.shares.invariant.made c.share_all.ensures.mint (search rules)

pub returns-clause-mint : goal.returns-clause-mint
returns-clause-mint g c = many_mint_of _ _ _ _ _ _ c.shares.invariant.made (search rules)

pub returns-in_default-clause-numbers : goal.returns-in_default-clause-numbers
returns-in_default-clause-numbers g c = λ _ _. refl

pub returns-in-Err-clause-numbers : goal.returns-in-Err-clause-numbers
returns-in-Err-clause-numbers g c =
    λ most enough. refused_same c.args.n _ _ _ _ _ _ c.shares.invariant.made c.share_all.ensures.numbers (search rules) most enough

pub returns-clause-numbers : goal.returns-clause-numbers
returns-clause-numbers g c = λ most enough. all_same c.args.n _ _ _ _ _ c.shares.invariant.made (search rules) most enough
