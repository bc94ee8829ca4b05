-- What a publication has of storages, and what it copies.
use Rattle.std.proofs.Common.{◌≡◌, ℕ, ◌+◌, ◌<◌, ◌≤◌, List, [], ◌∷◌, ◌++◌, length, map, Option, Some, None, IfSome, refl, sym, ap, subst, ◌∙◌, append-nil, append_assoc, arith}
use Rattle.std.proofs.lemmas.List.{map-append, length-map}
use Rattle.buffer_model.specs.Minted.{Numbers}
use Rattle.buffer_model.specs.Segment.{Segment}
use Rattle.buffer_model.specs.Stake.{Stake, Storage, Keeps, KeepsTotalsBeside}
use Rattle.buffer_model.proofs.Totals.{keeps_equal}
use Rattle.storage.specs.declared.release.NoOwner.{NoOwner}
use Rattle.iobuf_chain.specs.Accounts.{held_by}
use Rattle.iobuf_chain.specs.Copies.{CopiesNoData, WithData}
use Rattle.iobuf_chain.specs.Lists.{Each}
use Rattle.iobuf_chain.specs.Many.{Lasts, joined}
use Rattle.iobuf_chain.proofs.Accounts.{held_by-append, swaps_stakes}
use Rattle.iobuf_chain.proofs.ManyShared.{many_keep, many_last_of}
use Rattle.frame_batch.specs.Batches.{Batched}
use Rattle.broadcast_hub.specs.Hubs.{Kept}
use Rattle.broadcast_hub.specs.Publishing.{nodes_sent, nodes_if}
use Rattle.broadcast_hub.specs.Sending.{SendsEach, SharesOut}
use Rattle.broadcast_hub.proofs.Lists.{chain_of, chains_count}
use Rattle.broadcast_hub.proofs.Outcome.{nodes_are, no_nodes}

-- nothing was sent
pub unsent : (ss ts : List Kept) → ts ≡ ss → nodes_sent ss ts ≡ []
unsent ss ts is = ap (nodes_sent ss) is ∙ no_nodes ss

pub keeps_unsent : (nodes : List (Segment NoOwner)) (ss ts : List Kept) (exit : List (Stake NoOwner)) (z : Storage) → ts ≡ ss → Keeps (held_by nodes) exit z
    → Keeps (held_by nodes) (held_by (nodes_sent ss ts) ++ exit) z
keeps_unsent nodes ss ts exit z is k =
    let P : List (Segment NoOwner) → Type 0 = λ ns. Keeps (held_by nodes) (held_by ns ++ exit) z in subst P (sym (unsent ss ts is)) k

pub copies_unsent : (nodes : List (Segment NoOwner)) (ss ts : List Kept) → ts ≡ ss → CopiesNoData nodes (nodes_sent ss ts)
copies_unsent nodes ss ts is = let P : List (Segment NoOwner) → Type 0 = λ ns. CopiesNoData nodes ns in subst P (sym (unsent ss ts is)) tt

pub joined_last : (cs : List Batched) (b : Batched) → joined (map chain_of (cs ++ b ∷ [])) ≡ joined (map chain_of cs) ++ b.chain
joined_last [] b = append-nil b.chain
joined_last (c ∷ cs) b = ap (λ (ns : List (Segment NoOwner)). c.chain ++ ns) (joined_last cs b) ∙ sym (append_assoc c.chain (joined (map chain_of cs)) b.chain)

-- shares and what is left of the chain, the one before the other
pub turned : (after shares : List (Segment NoOwner)) (z : Storage) (entry : List (Stake NoOwner)) → Keeps entry (held_by (after ++ shares)) z
    → Keeps entry (held_by shares ++ held_by after) z
turned after shares z entry k =
    let start = keeps_equal _ _ (held_by-append after shares) z in
    let swap = swaps_stakes [] (held_by after) (held_by shares) z in
    record { total = swap.total ∙ start.total ∙ k.total; way = λ kind is. swap.way kind (start.way kind (k.way kind is)) }

pub keeps_sent : (live count : ℕ) (old new : Numbers) (batch : Batched) (rest : Option Batched) (made : List Batched) (ss ts : List Kept)
    → SharesOut live count old new batch rest made → SendsEach made ss ts
    → KeepsTotalsBeside old new (held_by batch.chain) (held_by (nodes_sent ss ts) ++ (held_by (nodes_if rest) ++ []))
keeps_sent live count old new batch (Some rest) made ss ts s sent z other =
    let P : List (Stake NoOwner) → Type 0 = λ hs. Keeps (held_by batch.chain) hs z in
    subst P (ap (λ (ns : List (Segment NoOwner)). held_by ns ++ held_by rest.chain) (sym (nodes_are made ss ts sent))
    ∙ ap (λ hs. held_by (nodes_sent ss ts) ++ hs) (sym (append-nil (held_by rest.chain))))
    (turned rest.chain (joined (map chain_of made)) z _ (many_keep old new batch.chain (map chain_of made) rest.chain s.0.chains z other))
keeps_sent live count old new batch None made ss ts s sent z other =
    let P : List (Stake NoOwner) → Type 0 = λ hs. Keeps (held_by batch.chain) hs z in
    let after : List (Segment NoOwner) = s.1 in
    let shares : List (Segment NoOwner) = joined (map chain_of s.0) in
    let all : nodes_sent ss ts ≡ shares ++ after =
    nodes_are made ss ts sent ∙ ap (λ (cs : List Batched). joined (map chain_of cs)) s.3 ∙ joined_last s.0 (record batch { chain = after }) in
    subst P (sym (held_by-append shares after) ∙ ap held_by (sym all) ∙ sym (append-nil (held_by (nodes_sent ss ts))))
    (turned after shares z _ (many_keep old new batch.chain (map chain_of s.0) after s.2.chains z other))

-- the others of the frames can be shared on
pub rest_lasts : (live count k : ℕ) (old new : Numbers) (batch rest : Batched) (made : List Batched) → SharesOut live count old new batch (Some rest) made
    → live + k ≤ 1024 → WithData (Lasts (live + k)) batch.chain → WithData (Lasts k) rest.chain
rest_lasts live count k old new batch rest made s few lasts =
    many_last_of live k old new batch.chain (map chain_of made) rest.chain s.0.chains (chains_count made ∙ s.3) few lasts

pub rest_lasts_if : (live count k : ℕ) (old new : Numbers) (batch : Batched) (rest : Option Batched) (made : List Batched) → SharesOut live count old new batch rest made
    → live + k ≤ 1024 → WithData (Lasts (live + k)) batch.chain → IfSome rest (λ r. WithData (Lasts k) r.chain)
rest_lasts_if live count k old new batch None made s few lasts = tt
rest_lasts_if live count k old new batch (Some rest) made s few lasts = rest_lasts live count k old new batch rest made s few lasts
