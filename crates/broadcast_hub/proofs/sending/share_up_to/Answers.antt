use Rattle.std.proofs.Common.{rules, refl, ap, sym, ◌∙◌, arith, take, length, ◌≡◌, ◌<◌, ◌≤◌}
use Rattle.iobuf_chain.proofs.ManyShared.{many_push, many_begin, many_up_to, many_mint_of, refused_mint}
use Rattle.iobuf_chain.proofs.ManyMinted.{all_same, refused_same}
use Rattle.broadcast_hub.proofs.Lists.{last_as, none_left, each_none, each_push, chains_count}
use Rattle.broadcast_hub.proofs.sending.share_up_to.Goals as goal

pub shares-init : goal.shares-init
shares-init c = record {
  made = many_begin _ _ _ (none_left _ c.requires.none);
  frames = each_none _ _ c.requires.none;
  same = refl;
  most = search rules;
  room = refl;
}

pub shares-preserved : goal.shares-preserved
shares-preserved c =
    let kept = c.keep_first.ensures in
    record {
      made = many_push _ _ _ _ _ _ c.in-Ok.share.chain _ _ c.shares.invariant.made c.in-Ok.ensures.shares
          (last_as _ _ c.keep_first.new.self c.in-Ok.share c.push_reserved.ensures.items (ap (λ b. b.chain) kept));
      frames = each_push _ _ _ c.keep_first.new.self c.push_reserved.ensures.items c.shares.invariant.frames
          (ap (λ b. b.frames) kept ∙ ap (take c.args.count) (c.in-Ok.ensures.frames ∙ c.shares.invariant.same));
      same = c.in-Ok.ensures.same ∙ c.shares.invariant.same;
      most = search rules;
      room = search rules;
    }

pub returns-in-Err-clause-mint : goal.returns-in-Err-clause-mint
returns-in-Err-clause-mint c =
    let count = chains_count c.shares.batches.items in
    refused_mint _ _ _ _ _ _ _ c.shares.invariant.made c.share.ensures.mint (search (rules, count))

pub returns-in-Err-clause-numbers : goal.returns-in-Err-clause-numbers
returns-in-Err-clause-numbers c =
    let count = chains_count c.shares.batches.items in
    λ k more most enough. refused_same k _ _ _ _ _ _ c.shares.invariant.made c.share.ensures.numbers
    (let few : length c.shares.batches.items < c.args.n = search rules in omega (arith, count, few, more)) most enough

pub returns-clause-mint : goal.returns-clause-mint
returns-clause-mint c =
    let count = chains_count c.shares.batches.items in
    many_mint_of _ _ _ _ _ _ c.shares.invariant.made (search (rules, count))

pub returns-clause-numbers : goal.returns-clause-numbers
returns-clause-numbers c =
    let count = chains_count c.shares.batches.items in
    λ k more most enough. all_same k _ _ _ _ _ c.shares.invariant.made
    (let few : length c.shares.batches.items ≤ c.args.n = search rules in omega (arith, count, few, more)) most enough
