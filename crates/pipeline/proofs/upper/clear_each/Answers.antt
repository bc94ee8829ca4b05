use Rattle.std.proofs.Common.{refl, ◌∙◌, arith, length, ap}
use Rattle.iobuf_chain.proofs.Lists.{length-slice_set}
use Rattle.pipeline.proofs.Working.{works_same, works_then, works_clear}
use Rattle.pipeline.proofs.Clearing.{clears_bytes, clears_more}
use Rattle.pipeline.proofs.upper.clear_each.Goals as goal

pub nodes-init : goal.nodes-init
nodes-init c = record {
  works = works_same c.args.mint.now c.args.frame.now c.args.backs.now.items;
  bytes = refl;
  alone = tt;
  size = refl;
  room = omega arith;
  capacity = c.requires;
}

pub returns-in-Err-clause-bytes : goal.returns-in-Err-clause-bytes
returns-in-Err-clause-bytes c = clears_bytes _ _ _ _ _ _ _ c.in-Err.ensures.clears ∙ c.nodes.invariant.bytes

pub returns-in-Err-clause-works : goal.returns-in-Err-clause-works
returns-in-Err-clause-works c = works_then _ _ _ _ _ _ _ _ _ c.nodes.invariant.works (works_clear _ _ _ _ _ _ _ c.in-Err.ensures.clears)

pub nodes-preserved : goal.nodes-preserved
nodes-preserved c =
    let k = c.in-Ok.ensures.clears in
    let low = c.nodes.invariant.size in
    record {
      works = works_then _ _ _ _ _ _ _ _ _ c.nodes.invariant.works (works_clear _ _ _ _ _ _ _ k);
      bytes = clears_bytes _ _ _ _ _ _ _ k ∙ c.nodes.invariant.bytes;
      alone = clears_more _ _ _ _ _ _ _ k (let test = c.nodes-test.true in let end = c.elements-i-end.ensures.count in omega (arith, low, test, end)) c.nodes.invariant.alone c.in-Ok.ensures.alone;
      size = ap length k.after_is ∙ length-slice_set _ _ _ ∙ c.nodes.invariant.size;
      room = (let room = c.nodes.invariant.room in let more = c.in-Ok.ensures.room in omega (arith, room, more));
      capacity = (let cap = c.nodes.invariant.capacity in let same = c.in-Ok.ensures.capacity in omega (arith, cap, same));
    }
