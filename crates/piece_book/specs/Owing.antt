-- What a book has to do with the blocks that a host has out, and with all that is still held of their storages.
use Rattle.std.specs.Prelude.{◌≡◌, ℕ, zero, suc, ◌+◌, true, List, [], ◌∷◌, ◌++◌, Some, None, IfSome, ⊤}
use Rattle.share_count.specs.Weights.{full}
use Rattle.share_count.specs.Numbered.{IsNumbered}
use Rattle.buffer_model.specs.Share.{Share, Kind, lent}
use Rattle.buffer_model.specs.Stake.{Stake, Storage, held, IsNumberedIn, total, IsOneWay, IsReceiptAt, KeepsTotalsBeside}
use Rattle.buffer_model.specs.Minted.{Numbers, NumbersOn, IsReceiptOfMint, IsNew}
use Rattle.iobuf_chain.specs.Lists.{Each}
use Rattle.relay_ports.specs.States.{HostState}
use Rattle.storage.specs.Back.{stakes_of, stakes_in}
use Rattle.storage.specs.declared.back.Back.{Back}
use Rattle.storage.specs.declared.back.Back.TheVariants.{Kept, Done, Ran, Lent, Tag, Nothing}
use Rattle.piece_book.specs.Books.{Noted, noted, piece_of, lasts_in_piece, without, knows, weight_of, lasts_of}

-- the blocks of which no receipt is the last yet; block `way n` was lent for storage n
abbrev pub out_if : ℕ → ℕ → List ℕ → List ℕ
out_if zero block bs = block ∷ bs
out_if (suc k) block bs = bs

abbrev pub outs : (ℕ → ℕ) → List Noted → List ℕ
outs way [] = []
outs way (p ∷ ps) = out_if (lasts_of p.joined) (way p.number) (outs way ps)

-- two pieces have different numbers and different blocks
abbrev pub AreApart : (ℕ → ℕ) → Noted → Noted → Type 0
AreApart way p q = (q.number ≡ p.number → ⊥) × (way q.number ≡ way p.number → ⊥)

abbrev pub Apart : (ℕ → ℕ) → List Noted → Type 0
Apart way [] = ⊤
Apart way (p ∷ ps) = Each (AreApart way p) ps × Apart way ps

module _ {O : Type 0} where
  -- a piece beside all that is still held of its storage: the weights add up, and the storage is that block's
  pub record IsRight (mint : Numbers) (way : ℕ → ℕ) (stakes : List (Stake O)) (p : Noted) : Type 0 where
    pub storage : Storage
    pub number : storage.number ≡ p.number
    pub minted : IsNumbered mint storage.number storage.table
    pub weights : total storage stakes + weight_of p.joined ≡ full
    pub block : IsOneWay storage (lent (way p.number)) stakes
    pub joined : IfSome p.joined (IsReceiptAt storage)

  -- a book, the blocks that are out, and all that is still held: each block is out until its last receipt came
  pub record Owes (mint : Numbers) (way : ℕ → ℕ) (book : List Noted) (out : List ℕ) (stakes : List (Stake O))
      : Type 0 where
    pub right : Each (IsRight mint way stakes) book
    pub out_is : out ≡ outs way book
    pub apart : Apart way book

  -- what was handed back is of a block that the book knows, by a number of this mint
  abbrev pub IsHome : Numbers → List Noted → Back O → Type 0
  IsHome mint book (Kept r) = (knows r.number book ≡ true) × IsReceiptOfMint mint r
  IsHome mint book (Lent block r) = (knows r.number book ≡ true) × IsReceiptOfMint mint r
  IsHome mint book Nothing = ⊤
  IsHome mint book (Done r) = ⊥
  IsHome mint book (Ran o r) = ⊥
  IsHome mint book (Tag t r) = ⊥

-- a call that keeps totals keeps what is owed
abbrev pub OwesOn : Type 0 → Type 0
OwesOn O = (old new : Numbers) (way : ℕ → ℕ) (book : List Noted) (out : List ℕ) (entry exit : List (Stake O))
    → Owes old way book out entry → NumbersOn old new → KeepsTotalsBeside old new entry exit
    → Owes new way book out exit

-- once nothing is held any more no block is out, where a receipt for all weight is the last
abbrev pub NothingIsOut : Type 0 → Type 0
NothingIsOut O = (mint : Numbers) (way : ℕ → ℕ) (book : List Noted) (out : List ℕ) → Owes {O = O} mint way book out []
    → Each (λ p. weight_of p.joined ≡ full → lasts_of p.joined ≡ 1) book → out ≡ []

module _ {O : Type 0} where
  -- a value that was handed back may come home: what is owed counts it, and the book knows its block
  abbrev pub IsOwed : Numbers → (ℕ → ℕ) → List (Stake O) → List Noted → List ℕ → Back O → Type 0
  IsOwed mint way rest book out back = Owes mint way book out (stakes_of back ++ rest) × IsHome mint book back

  abbrev pub MayComeHome : List Noted → List ℕ → Back O → Type 0
  MayComeHome book out back =
      (mint : Numbers) × (way : ℕ → ℕ) × (rest : List (Stake O)) × IsOwed mint way rest book out back

  -- afterwards the rest is owed
  abbrev pub ComesHome : List Noted → List ℕ → Back O → List Noted → List ℕ → Type 0
  ComesHome book out back book' out' = (mint : Numbers) (way : ℕ → ℕ) (rest : List (Stake O))
      → IsOwed mint way rest book out back → Owes mint way book' out' rest

  -- the same for a list of such values
  abbrev pub AreOwed : Numbers → (ℕ → ℕ) → List (Stake O) → List Noted → List ℕ → List (Back O) → Type 0
  AreOwed mint way rest book out backs =
      Owes mint way book out (stakes_in backs ++ rest) × Each (IsHome mint book) backs

  abbrev pub MayAllComeHome : List Noted → List ℕ → List (Back O) → Type 0
  MayAllComeHome book out backs =
      (mint : Numbers) × (way : ℕ → ℕ) × (rest : List (Stake O)) × AreOwed mint way rest book out backs

  abbrev pub AllComeHome : List Noted → List ℕ → List (Back O) → List Noted → List ℕ → Type 0
  AllComeHome book out backs book' out' = (mint : Numbers) (way : ℕ → ℕ) (rest : List (Stake O))
      → AreOwed mint way rest book out backs → Owes mint way book' out' rest

-- a book knows the same numbers as another
abbrev pub KnowsSame : List Noted → List Noted → Type 0
KnowsSame old new = (n : ℕ) → knows n new ≡ knows n old

-- of a host no more changed than which blocks are out
abbrev pub OutsAlone : HostState → HostState → Type 0
OutsAlone old new = new ≡ record old { lent = new.lent }

module _ {O : Type 0} where
  -- nothing is held of the storages that are numbered between two moments
  abbrev pub HoldsNoneBetween : Numbers → Numbers → List (Stake O) → Type 0
  HoldsNoneBetween old new stakes =
      (z : Storage) → IsNumberedIn old new z → (total z stakes ≡ 0) × ((kind : Kind) → IsOneWay z kind stakes)

-- a piece stands for the same block as before, and for another than this one
abbrev pub KeepsBlock : (ℕ → ℕ) → (ℕ → ℕ) → ℕ → Noted → Type 0
KeepsBlock way way' block p = (way' p.number ≡ way p.number) × (way p.number ≡ block → ⊥)

-- a block is lent, and a hold is made on it: its number is entered, and so much more is held
abbrev pub Lends : Type 0 → Type 0
Lends O = (old new : Numbers) (way way' : ℕ → ℕ) (book : List Noted) (out : List ℕ) (rest : List (Stake O))
    (s : Share O) (n block : ℕ) → Owes old way book out rest → HoldsNoneBetween old new rest → NumbersOn old new
    → IsNew old new (lent block) s → s.number ≡ Some n → way' n ≡ block → Each (KeepsBlock way way' block) book
    → Owes new way' (book ++ noted n None ∷ []) (out ++ block ∷ []) (held s ∷ rest)

-- a number is forgotten whose last receipt came
abbrev pub Forgets : Type 0 → Type 0
Forgets O = (mint : Numbers) (way : ℕ → ℕ) (book : List Noted) (out : List ℕ) (stakes : List (Stake O)) (n : ℕ)
    → Owes mint way book out stakes → lasts_in_piece (piece_of n book) ≡ 1
    → Owes mint way (without n book) out stakes
