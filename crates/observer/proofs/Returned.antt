-- Batches that are given back one by one.
use Rattle.std.proofs.Common.{◌≡◌, List, [], ◌∷◌, ◌++◌, length, sym, ap, ◌∙◌, append_assoc, append-nil, length-append, arith}
use Rattle.storage.specs.declared.release.NoOwner.{NoOwner}
use Rattle.storage.specs.declared.back.Back.{Back}
use Rattle.storage.specs.Back.{stakes_in}
use Rattle.buffer_model.specs.Stake.{KeepsTotals}
use Rattle.buffer_model.proofs.Totals.{keeps-append, keeps_equal, keeps_then}
use Rattle.iobuf_chain.specs.Accounts.{held_by}
use Rattle.iobuf_chain.proofs.Accounts.{held_by-append}
use Rattle.frame_batch.specs.Batches.{Batched}
use Rattle.observer.specs.Items.{nodes_in}
use Rattle.observer.specs.Returning.{GivesAllBack, stakes_in_all}

nodes_more : (bs : List Batched) (b : Batched) → nodes_in (bs ++ b ∷ []) ≡ nodes_in bs ++ b.chain
nodes_more [] b = append-nil b.chain
nodes_more (x ∷ bs) b = ap (λ ss. x.chain ++ ss) (nodes_more bs b) ∙ sym (append_assoc x.chain (nodes_in bs) b.chain)

stakes_more : (rs : List (List (Back NoOwner))) (r : List (Back NoOwner)) → stakes_in_all (rs ++ r ∷ []) ≡ stakes_in_all rs ++ stakes_in r
stakes_more [] r = append-nil (stakes_in r)
stakes_more (x ∷ rs) r = ap (λ ss. stakes_in x ++ ss) (stakes_more rs r) ∙ sym (append_assoc (stakes_in x) (stakes_in_all rs) (stakes_in r))

pub gives_none : (returns : List (List (Back NoOwner))) → returns ≡ [] → GivesAllBack [] returns
gives_none returns none = record {
  each = ap (λ rs. length rs) none;
  totals = keeps_equal _ _ (sym (ap stakes_in_all none));
}

pub gives_more : (bs : List Batched) (b : Batched) (returns more : List (List (Back NoOwner))) (r : List (Back NoOwner)) → GivesAllBack bs returns
    → KeepsTotals (held_by b.chain) (stakes_in r) → more ≡ returns ++ r ∷ [] → GivesAllBack (bs ++ b ∷ []) more
gives_more bs b returns more r given keeps is =
    let both : KeepsTotals (held_by (nodes_in bs) ++ held_by b.chain) (stakes_in_all returns ++ stakes_in r) =
    λ z. keeps-append z (held_by (nodes_in bs)) (held_by b.chain) (stakes_in_all returns) (stakes_in r) (given.totals z) (keeps z) in
    record {
      each = let l = ap (λ rs. length rs) is in omega (arith, l, given.each, length-append returns (r ∷ []), length-append bs (b ∷ []));
      totals =
          keeps_then _ _ _ (keeps_equal _ _ (ap held_by (nodes_more bs b) ∙ held_by-append (nodes_in bs) b.chain))
          (keeps_then _ _ _ both (keeps_equal _ _ (sym (ap stakes_in_all is ∙ stakes_more returns r))));
    }
