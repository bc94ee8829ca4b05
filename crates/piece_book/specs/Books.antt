-- What is remembered of the blocks that a host lent: for each storage number the receipts that came back, joined.
use Rattle.std.specs.Prelude.{◌≡◌, ℕ, ◌+◌, ◌==◌, Bool, if◌then◌else◌, is_some, length, List, [], ◌∷◌, ◌++◌, Option, Some, None, IfSome}
use Rattle.share_count.specs.Weights.{full}
use Rattle.share_count.specs.Held.{Tally, tally}

-- a piece: the number of its storage, and the receipts for weight that came back, joined
pub record Noted : Type 0 where
  pub number : ℕ
  pub joined : Option Tally

abbrev pub noted : ℕ → Option Tally → Noted
noted number joined = record { number = number; joined = joined }

abbrev pub weight_of : Option Tally → ℕ
weight_of None = 0
weight_of (Some t) = t.weight

abbrev pub lasts_of : Option Tally → ℕ
lasts_of None = 0
lasts_of (Some t) = t.lasts

-- one more receipt is joined
abbrev pub joined_with : Tally → Option Tally → Tally
joined_with r None = r
joined_with r (Some t) = tally t.table t.number (t.weight + r.weight) (t.lasts + r.lasts)

-- the piece of a number
abbrev pub piece_of : ℕ → List Noted → Option Noted
piece_of n [] = None
piece_of n (p ∷ ps) = if p.number == n then Some p else piece_of n ps

abbrev pub knows : ℕ → List Noted → Bool
knows n book = is_some (piece_of n book)

abbrev pub weight_in_piece : Option Noted → ℕ
weight_in_piece None = 0
weight_in_piece (Some p) = weight_of p.joined

abbrev pub lasts_in_piece : Option Noted → ℕ
lasts_in_piece None = 0
lasts_in_piece (Some p) = lasts_of p.joined

-- all weight of a storage came back
abbrev pub is_settled : ℕ → List Noted → Bool
is_settled n book = weight_in_piece (piece_of n book) == full

-- a receipt was joined to those of its number
abbrev pub with_receipt : Tally → List Noted → List Noted
with_receipt r [] = []
with_receipt r (p ∷ ps) =
    if p.number == r.number then noted p.number (Some (joined_with r p.joined)) ∷ ps else p ∷ with_receipt r ps

-- all but the piece of a number
abbrev pub without : ℕ → List Noted → List Noted
without n [] = []
without n (p ∷ ps) = if p.number == n then ps else p ∷ without n ps

-- the receipt is for weight of the storage of those that came before under its number
abbrev pub Suits : Tally → List Noted → Type 0
Suits r book = IfSome (piece_of r.number book) (λ p. IfSome p.joined (λ t. t.table ≡ r.table))

-- the first piece of a number stands at a place, with these before it and behind it
pub record StandsAt (n i : ℕ) (book : List Noted) : Type 0 where
  pub before : List Noted
  pub piece : Noted
  pub behind : List Noted
  pub parts : book ≡ before ++ piece ∷ behind
  pub place : length before ≡ i
  pub number : piece.number ≡ n
  pub none : piece_of n before ≡ None

-- where the piece of a number stands, if there is one
abbrev pub IsAt : ℕ → List Noted → Option ℕ → Type 0
IsAt n book None = piece_of n book ≡ None
IsAt n book (Some i) = StandsAt n i book
