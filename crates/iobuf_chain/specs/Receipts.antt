-- Receipts that nodes absorb.
use Rattle.std.specs.Prelude.{◌≡◌, ℕ, List, [], ◌∷◌, take, Some, slice_get, Result, Ok, Err}
use Rattle.share_count.specs.Held.{Tally}
use Rattle.buffer_model.specs.Share.{IsManaged, IsOfStorage, absorbed_in}
use Rattle.buffer_model.specs.Segment.{Segment, shared_as}
use Rattle.buffer_model.specs.Stake.{Stake, counted}
use Rattle.buffer_model.specs.Minted.{Numbers, IsOfMint, IsReceiptOfMint}
use Rattle.iobuf_chain.specs.Lists.{Each, TurnsAt}

module _ {O : Type 0} where
  -- no node has this storage number
  abbrev pub LacksNumber : ℕ → List (Segment O) → Type 0
  LacksNumber n ss = Each (λ s. s.share.number ≡ Some n → ⊥) ss

  -- each node with the receipt's number is on the receipt's storage: so it is where one mint gave all numbers
  abbrev pub AgreesWith : Tally → List (Segment O) → Type 0
  AgreesWith r ss = Each (λ s. s.share.number ≡ Some r.number → IsOfStorage s.share r) ss

  -- the first node with this storage number is node i
  pub record IsFirstWith (number i : ℕ) (ss : List (Segment O)) : Type 0 where
    pub node : Segment O
    pub there : slice_get ss i ≡ Some node
    pub has : node.share.number ≡ Some number
    pub first : LacksNumber number (take i ss)

  -- a node that absorbed so much weight of receipts
  abbrev pub absorbed : ℕ → Segment O → Segment O
  absorbed weight s = shared_as (absorbed_in weight s.share) s

  -- nodes before and after the first of them with a receipt's number absorbed it
  pub record Absorbs (r : Tally) (before after : List (Segment O)) : Type 0 where
    pub place : ℕ
    pub first : IsFirstWith r.number place before
    pub node : TurnsAt (absorbed r.weight) place before after

  -- the managed nodes are on storages of this mint
  abbrev pub AreOfMint : Numbers → List (Segment O) → Type 0
  AreOfMint mint ss = Each (λ s. IsManaged s.share → IsOfMint mint s.share) ss

  -- what a call has of a receipt that wasn't absorbed
  abbrev pub left_over : {A : Type 0} → Result A Tally → List (Stake O)
  left_over (Ok a) = []
  left_over (Err r) = counted r ∷ []

-- where one mint gave all numbers, equal numbers are one storage
abbrev pub OneMintAgrees : Type 0 → Type 0
OneMintAgrees O =
    (mint : Numbers) (r : Tally) (ss : List (Segment O)) → IsReceiptOfMint mint r → AreOfMint mint ss → AgreesWith r ss
