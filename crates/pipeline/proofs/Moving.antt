-- What becomes of a batch's storages.
use Rattle.std.proofs.Common.{◌≡◌, ◌<◌, List, [], Option, Some, None, IfSome, length, sym, ap, subst, arith, inl, inr}
use Rattle.std.specs.List.{AllZip}
use Rattle.storage.specs.declared.release.NoOwner.{NoOwner}
use Rattle.storage.specs.declared.back.Back.{Back}
use Rattle.buffer_model.specs.Segment.{Segment}
use Rattle.buffer_model.specs.Minted.{Numbers}
use Rattle.iobuf_chain.specs.Copies.{CopiesNoData}
use Rattle.pipeline.specs.Nodes.{AddsBacks, HandsBack, IsKept, Works}
use Rattle.pipeline.specs.Stages.{IsList}
use Rattle.pipeline.specs.Batches.{MovesBatch}
use Rattle.pipeline.proofs.Handing.{kept_self}
use Rattle.pipeline.proofs.Reading.{whole_count, whole_totals}
use Rattle.pipeline.proofs.Thinning.{sheds_self, thins_copies}

hands : {O : Type 0} (a b : Numbers) (before after : List (Segment O)) (backs now : List (Back O)) (back : Option (List (Back O))) → backs ≡ []
    → AddsBacks a b before after backs now → IsList now back → HandsBack a b before after back
hands a b before after backs now None none (inl p) is = p.1
hands a b before after backs now None none (inr p) is = let few = ap length is in let more = p.0 in absurd (omega (arith, few, more))
hands a b before after backs now (Some ys) none (inl p) is =
    let same = p.0 in
    let few = ap length none in
    let l = ap length is.0 in
    let some = is.1 in
    absurd (omega (arith, same, few, l, some))
hands a b before after backs now (Some ys) none (inr p) is = (is.1, p.1)

some_handed : {O : Type 0} (now : List (Back O)) (back : Option (List (Back O))) → IsList now back → IfSome back (λ backs. 0 < length backs)
some_handed now None is = tt
some_handed now (Some ys) is = is.1

pub moves_batch : (a b : Numbers) (before after nodes : List (Segment NoOwner)) (backs now : List (Back NoOwner)) (back : Option (List (Back NoOwner)))
    → backs ≡ [] → Works a b before after backs now → IsList now back → nodes ≡ after → MovesBatch a b before nodes back
moves_batch a b before after nodes backs now back none w is same =
    let P : List (Segment NoOwner) → Type 0 = λ ns. MovesBatch a b before ns back in
    subst P (sym same) record {
      totals = whole_totals a b before after backs now back none w is;
      mint = w.mint;
      back_is = hands a b before after backs now back none w.adds is;
      some = some_handed now back is;
      whole = λ whole. whole_count a b before after backs now back none w is whole;
    }

-- nodes that nothing was done to
pub kept_as : (ns ms : List (Segment NoOwner)) → ms ≡ ns → AllZip IsKept ns ms
kept_as ns ms same = let P : List (Segment NoOwner) → Type 0 = λ us. AllZip IsKept ns us in subst P (sym same) (kept_self ns)

pub copies_as : (ns ms : List (Segment NoOwner)) → ms ≡ ns → CopiesNoData ns ms
copies_as ns ms same = let P : List (Segment NoOwner) → Type 0 = λ us. CopiesNoData ns us in subst P (sym same) (thins_copies _ ns ns (sheds_self ns))

pub moves_from : (a b : Numbers) (ns before after : List (Segment NoOwner)) (back : Option (List (Back NoOwner))) → before ≡ ns
    → MovesBatch a b before after back → MovesBatch a b ns after back
moves_from a b ns before after back same m = let P : List (Segment NoOwner) → Type 0 = λ us. MovesBatch a b us after back in subst P same m
