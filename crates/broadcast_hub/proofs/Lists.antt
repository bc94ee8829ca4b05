-- Batches and their chains.
use Rattle.std.proofs.Common.{◌≡◌, ℕ, ◌+◌, ◌≤◌, ◌<◌, List, [], ◌∷◌, ◌++◌, length, map, take, refl, sym, ap, subst, ◌∙◌, arith}
use Rattle.std.proofs.lemmas.List.{map-append, length-map}
use Rattle.frame_batch.specs.Batches.{Batched}
use Rattle.storage.specs.declared.release.NoOwner.{NoOwner}
use Rattle.buffer_model.specs.Segment.{Segment}
use Rattle.iobuf_chain.specs.Lists.{Each}
use Rattle.iobuf_chain.proofs.Copied.{each_append}

abbrev pub chain_of : Batched → List (Segment NoOwner)
chain_of b = b.chain

-- the last of some batches
pub last_chain : (all left : List Batched) (b : Batched) → all ≡ left ++ b ∷ [] → map chain_of all ≡ map chain_of left ++ b.chain ∷ []
last_chain all left b is = ap (map chain_of) is ∙ map-append chain_of left (b ∷ [])

pub none_left : (all : List Batched) → all ≡ [] → map chain_of all ≡ []
none_left all is = ap (map chain_of) is

pub each_push : (P : Batched → Type 0) (xs ys : List Batched) (b : Batched) → ys ≡ xs ++ b ∷ [] → Each P xs → P b → Each P ys
each_push P xs ys b is all one = let Q : List Batched → Type 0 = λ zs. Each P zs in subst Q (sym is) (each_append P xs (b ∷ []) all (one, tt))

pub last_as : (all left : List Batched) (b c : Batched) → all ≡ left ++ b ∷ [] → b.chain ≡ c.chain → map chain_of all ≡ map chain_of left ++ c.chain ∷ []
last_as all left b c is same = last_chain all left b is ∙ ap (λ (x : List (Segment NoOwner)). map chain_of left ++ x ∷ []) same

pub each_none : (P : Batched → Type 0) (xs : List Batched) → xs ≡ [] → Each P xs
each_none P xs none = let Q : List Batched → Type 0 = λ zs. Each P zs in subst Q (sym none) tt

pub chains_count : (xs : List Batched) → length (map chain_of xs) ≡ length xs
chains_count xs = length-map xs chain_of
