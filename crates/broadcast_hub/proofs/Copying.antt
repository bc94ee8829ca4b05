-- A publication copies no data where the nodes last.
use Rattle.std.proofs.Common.{◌≡◌, ◌⊎◌, ℕ, suc, ◌+◌, ◌<◌, ◌≤◌, List, [], ◌∷◌, ◌++◌, length, map, Option, Some, None, refl, sym, ap, subst, ◌∙◌, length-append, arith, inl, inr}
use Rattle.buffer_model.specs.Minted.{Numbers}
use Rattle.buffer_model.specs.Share.{Share}
use Rattle.buffer_model.specs.Segment.{Segment}
use Rattle.storage.specs.declared.release.NoOwner.{NoOwner}
use Rattle.iobuf_chain.specs.Copies.{HasData, HasStorage, CopiesNoData, WithData}
use Rattle.iobuf_chain.specs.Lists.{Each}
use Rattle.iobuf_chain.specs.Shares.{ClonesEach}
use Rattle.iobuf_chain.specs.Many.{StayOn, Lasts, SharesMany, joined}
use Rattle.iobuf_chain.proofs.Copied.{each_append, each_map, own_storages}
use Rattle.iobuf_chain.proofs.ManyBack.{clones_stay}
use Rattle.iobuf_chain.proofs.ManyShared.{many_copy_nothing}
use Rattle.frame_batch.specs.Batches.{Batched}
use Rattle.broadcast_hub.specs.Hubs.{Kept}
use Rattle.broadcast_hub.specs.Publishing.{nodes_sent}
use Rattle.broadcast_hub.specs.Sending.{SendsEach, SharesOut}
use Rattle.broadcast_hub.proofs.Lists.{chain_of, chains_count}
use Rattle.broadcast_hub.proofs.Outcome.{nodes_are}
use Rattle.broadcast_hub.proofs.Sums.{joined_last}

abbrev Nodes : Type 0
Nodes = List (Segment NoOwner)

-- who gave clones has its data on the same storages as before
storage_stays : (k : Share NoOwner) (old new : Numbers) (bs ns cs : Nodes) → ClonesEach old new bs ns cs → StayOn bs ns → HasStorage k ns → HasStorage k bs
storage_stays k old new [] [] [] is on has = absurd has
storage_stays k old new (b ∷ bs) (n ∷ ns) (c ∷ cs) is on (inl has) =
    let same = ap (λ (t : Segment NoOwner). length t.window) is.1.lists in
    let some = has.0 in
    inl (omega (arith, same, some), (sym on.0.0 ∙ has.1.0, sym on.0.1 ∙ has.1.1))
storage_stays k old new (b ∷ bs) (n ∷ ns) (c ∷ cs) is on (inr has) = inr (storage_stays k is.0 new bs ns cs is.2 on.1 has)
storage_stays k old new [] [] (z ∷ cs) is on has = absurd is
storage_stays k old new [] (y ∷ ns) cs is on has = absurd on
storage_stays k old new (x ∷ bs) [] cs is on has = absurd on
storage_stays k old new (x ∷ bs) (y ∷ ns) [] is on has = absurd is

own_data : (old new : Numbers) (before : Nodes) (cs : List Nodes) (after : Nodes) → SharesMany old new before cs after → CopiesNoData before after
own_data old new before [] after is = let P : Nodes → Type 0 = λ ns. CopiesNoData before ns in subst P (sym is.1) (own_storages before)
own_data old new before (c ∷ cs) after is =
    each_map _ _ after (λ s has d. storage_stays s.share old is.0 before is.1 c is.2 (clones_stay old is.0 before is.1 c is.2) (has d))
    (own_data is.0 new is.1 cs after is.3)

joined_copies : (before : Nodes) (cs : List Nodes) → Each (CopiesNoData before) cs → CopiesNoData before (joined cs)
joined_copies before [] all = tt
joined_copies before (c ∷ cs) all = each_append (λ s. HasData s → HasStorage s.share before) c (joined cs) all.0 (joined_copies before cs all.1)

fewer_last : (m n : ℕ) (ns : Nodes) → m ≤ n → WithData (Lasts n) ns → WithData (Lasts m) ns
fewer_last m n ns le all = each_map _ _ ns (λ s lasts some. elim (lasts some) [ inl none ↦ inl none | inr more ↦ inr (omega (arith, more, le)) ]) all

pub copies_sent : (live count : ℕ) (old new : Numbers) (batch : Batched) (rest : Option Batched) (made : List Batched) (ss ts : List Kept)
    → SharesOut live count old new batch rest made → SendsEach made ss ts → live ≤ 1024 → WithData (Lasts live) batch.chain
    → CopiesNoData batch.chain (nodes_sent ss ts)
copies_sent live count old new batch (Some rest) made ss ts s sent few lasts =
    let P : Nodes → Type 0 = λ ns. CopiesNoData batch.chain ns in
    let size = chains_count made in
    let all = s.3 in
    subst P (sym (nodes_are made ss ts sent)) (joined_copies batch.chain (map chain_of made)
    (many_copy_nothing old new batch.chain (map chain_of made) rest.chain s.0.chains (omega (arith, size, all, few)) (fewer_last _ live batch.chain (omega (arith, size, all)) lasts)))
copies_sent live count old new batch None made ss ts s sent few lasts =
    let P : Nodes → Type 0 = λ ns. CopiesNoData batch.chain ns in
    let shares : List Batched = s.0 in
    let after : Nodes = s.1 in
    let last : Batched = record batch { chain = after } in
    let size = chains_count shares in
    let both = ap length s.3 ∙ length-append shares (last ∷ []) in
    let all = s.5 in
    subst P (sym (nodes_are made ss ts sent ∙ ap (λ (cs : List Batched). joined (map chain_of cs)) s.3 ∙ joined_last shares last))
    (each_append (λ n. HasData n → HasStorage n.share batch.chain) (joined (map chain_of shares)) after
    (joined_copies batch.chain (map chain_of shares)
    (many_copy_nothing old new batch.chain (map chain_of shares) after s.2.chains (omega (arith, size, both, all, few))
    (fewer_last _ live batch.chain (omega (arith, size, both, all)) lasts)))
    (own_data old new batch.chain (map chain_of shares) after s.2.chains))
