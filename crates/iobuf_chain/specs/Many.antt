-- Many shares of a chain, and shares that are given back to it whole.
use Rattle.std.specs.Prelude.{◌≡◌, ℕ, ◌<◌, ◌⊎◌, List, [], ◌∷◌, ◌++◌, Result, Ok, Err, Vec}
use Rattle.std.specs.Global.{Global}
use Rattle.std.specs.List.{AllZip}
use Rattle.std.specs.List.Sorted.{IsPermutation}
use Rattle.buffer_model.specs.Share.{IsWhole}
use Rattle.buffer_model.specs.Segment.{Segment}
use Rattle.buffer_model.specs.Stake.{Stake, Storage, IsHeldAt, Keeps}
use Rattle.buffer_model.specs.Minted.{Numbers}
use Rattle.iobuf_chain.specs.Lists.{Each}
use Rattle.iobuf_chain.specs.Shares.{ClonesEach, Regains, AreReturnable, RejoinsEach}
use Rattle.iobuf_chain.specs.Copies.{IsSameStorage}

-- the nodes of some chains, one chain after another
abbrev pub joined : {X : Type 0} → List (List X) → List X
joined [] = []
joined (c ∷ cs) = c ++ joined cs

-- the nodes of all chains that a call answers
abbrev pub answered_all : {X E : Type 0} → Result (Vec (List X) Global) E → List X
answered_all (Ok chains) = joined chains.items
answered_all (Err e) = []

module _ {O : Type 0} where
  -- it can be shared so many times without a copy. Wrapped bytes, which have no weight, always can
  abbrev pub Lasts : ℕ → Segment O → Type 0
  Lasts n s = (s.share.weight ≡ 0) ⊎ (n < s.share.weight)

  -- each node stays on its storage
  abbrev pub StayOn : List (Segment O) → List (Segment O) → Type 0
  StayOn before after = AllZip (λ s t. IsSameStorage t.share s.share) before after

  -- a chain is shared some times: the mint, the chain before, the shares in the order in which they are made, and the
  -- chain afterwards
  abbrev pub SharesMany : Numbers → Numbers → List (Segment O) → List (List (Segment O)) → List (Segment O)
      → Type 0
  SharesMany old new before [] after = (new ≡ old) × (after ≡ before)
  SharesMany old new before (c ∷ cs) after =
      (mid : Numbers) × (next : List (Segment O)) × ClonesEach old mid before next c × SharesMany mid new next cs after

  -- shares are given back to a chain, one after another
  abbrev pub RejoinsInTurn : List (Segment O) → List (List (Segment O)) → List (Segment O) → Type 0
  RejoinsInTurn before [] after = after ≡ before
  RejoinsInTurn before (s ∷ ss) after =
      (next : List (Segment O)) × RejoinsEach before s next × RejoinsInTurn next ss after

  -- each of some shares is given back to a chain, in whatever order
  pub record RejoinsAll (before : List (Segment O)) (shares : List (List (Segment O)))
      (after : List (Segment O)) : Type 0 where
    pub order : List (List (Segment O))
    pub each_once : IsPermutation shares order
    pub in_turn : RejoinsInTurn before order after

  -- no node has all of this storage
  abbrev pub HasNoneWhole : Storage → List (Segment O) → Type 0
  HasNoneWhole z ss = Each (λ s. IsHeldAt z s.share → IsWhole s.share → ⊥) ss

  -- totals are kept but for storages that a node of these has whole, which end with it
  abbrev pub KeepsTotalsBut : List (Segment O) → List (Stake O) → List (Stake O) → Type 0
  KeepsTotalsBut nodes entry exit = (z : Storage) → HasNoneWhole z nodes → Keeps entry exit z

  -- a chain was shared, but for the last time: that was refused, and the nodes that had been cloned for it were given
  -- back
  pub record SharesUpTo (old : Numbers) (before : List (Segment O)) (shares : List (List (Segment O)))
      (after : List (Segment O)) : Type 0 where
    pub mid : Numbers
    pub last : List (Segment O)
    pub made : SharesMany old mid before shares last
    pub regains : AllZip Regains last after

-- a share may be given back to its chain
abbrev pub SharesAreReturnable : Type 0 → Type 0
SharesAreReturnable O =
    (old new : Numbers) (before after share : List (Segment O)) → ClonesEach old new before after share
    → AreReturnable after share

-- and still may while the chain's nodes stay on their storages
abbrev pub StaysReturnable : Type 0 → Type 0
StaysReturnable O =
    (before after share : List (Segment O)) → AreReturnable before share → StayOn before after
    → AreReturnable after share

-- shares that were made in turn and are given back, each once, in whatever order, leave the chain with all that it had
abbrev pub ManyAreRejoined : Type 0 → Type 0
ManyAreRejoined O =
    (old new : Numbers) (before mid after : List (Segment O)) (shares : List (List (Segment O)))
    → SharesMany old new before shares mid → RejoinsAll mid shares after → AllZip Regains before after
