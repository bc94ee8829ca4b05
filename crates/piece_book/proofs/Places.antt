-- Pieces by their places in the book.
use Rattle.std.proofs.Common.{◌≡◌, ℕ, suc, ◌+◌, ◌<◌, ◌==◌, Bool, true, false, if◌then◌else◌, List, [], ◌∷◌, ◌++◌, length, take, drop, Option, Some, None, refl, sym, ap, subst, ◌∙◌, arith, slice_index_or, slice_set}
use Rattle.std.specs.Option.{is_some}
use Rattle.std.specs.Prelude.{IfSome}
use Rattle.std.proofs.lemmas.Option.{none-some}
use Rattle.std.proofs.lemmas.List.{take_more, drop_more, take-append-drop, length-take-le, get_or_at, set_at, take_at}
use Rattle.share_count.specs.Held.{Tally}
use Rattle.share_count.specs.Weights.{full}
use Rattle.piece_book.specs.Books.{Noted, noted, piece_of, knows, joined_with, weight_of, lasts_of, weight_in_piece, lasts_in_piece, is_settled, with_receipt, without, Suits, StandsAt, IsAt}

pub by_bool : (P : Bool → Type 0) (b : Bool) → P true → P false → P b
by_bool P true t f = t
by_bool P false t f = f

pub eq_yes : (m n : ℕ) → m ≡ n → (m == n) ≡ true
eq_yes m n is = grind (arith, is)

pub eq_no : (m n : ℕ) → (m ≡ n → ⊥) → (m == n) ≡ false
eq_no m n other = grind (arith, other)

pub piece_of-append : (n : ℕ) (xs ys : List Noted) → piece_of n xs ≡ None → piece_of n (xs ++ ys) ≡ piece_of n ys
piece_of-append n [] ys none = refl
piece_of-append n (x ∷ xs) ys none =
    by_bool (λ b. (if b then Some x else piece_of n xs) ≡ None → (if b then Some x else piece_of n
    (xs ++ ys)) ≡ piece_of n ys)
    (x.number == n) (λ h. absurd (none-some x (sym h))) (λ h. piece_of-append n xs ys h) none

pub none_more : (n i : ℕ) (xs : List Noted) (d : Noted) → piece_of n (take i xs) ≡ None → i < length xs
    → ((slice_index_or xs i d).number == n) ≡ false → piece_of n (take (i + 1) xs) ≡ None
none_more n i xs d none there other =
    let x : Noted = slice_index_or xs i d in
    ap (piece_of n) (take_more xs i d there) ∙ piece_of-append n (take i xs) (x ∷ []) none
    ∙ ap (λ (b : Bool). if b then Some x else None) other

pub stands_at : (n i : ℕ) (xs : List Noted) (d : Noted) → piece_of n (take i xs) ≡ None → i < length xs
    → (slice_index_or xs i d).number ≡ n → StandsAt n i xs
stands_at n i xs d none there is = record {
  before = take i xs;
  piece = slice_index_or xs i d;
  behind = drop (i + 1) xs;
  parts = sym (take-append-drop i xs) ∙ ap (λ ys. take i xs ++ ys) (drop_more xs i d there);
  place = length-take-le i xs (omega (arith, there));
  number = is;
  none = none;
}

pub at_place : (n i : ℕ) (ps : List Noted) (d : Noted) (at : StandsAt n i ps) → slice_index_or ps i d ≡ at.piece
at_place n i ps d at = ap (λ xs. slice_index_or xs i d) at.parts ∙ get_or_at at.before at.piece at.behind d i at.place

pub piece_at : (n i : ℕ) (ps : List Noted) (at : StandsAt n i ps) → piece_of n ps ≡ Some at.piece
piece_at n i ps at =
    ap (piece_of n) at.parts ∙ piece_of-append n at.before (at.piece ∷ at.behind) at.none
    ∙ ap (λ (b : Bool). if b then Some at.piece else piece_of n at.behind) (eq_yes at.piece.number n at.number)

pub knows_at : (n : ℕ) (ps : List Noted) (o : Option ℕ) → IsAt n ps o → is_some o ≡ knows n ps
knows_at n ps None none = ap (λ (f : Option Noted). is_some f) (sym none)
knows_at n ps (Some i) at = ap (λ (f : Option Noted). is_some f) (sym (piece_at n i ps at))

-- who is known stands somewhere
pub not_known : (n : ℕ) (ps : List Noted) → piece_of n ps ≡ None → knows n ps ≡ true → ⊥
not_known n ps none known = let bad : false ≡ true = sym (ap (λ (f : Option Noted). is_some f) none)
    ∙ known in absurd (cc (bad))

-- the piece of a number, where it stands
pub same_piece : (n i : ℕ) (ps : List Noted) (d : Noted) → StandsAt n i ps
    → piece_of n ps ≡ Some (slice_index_or ps i d)
same_piece n i ps d at = piece_at n i ps at ∙ ap Some (sym (at_place n i ps d at))

pub suits_at : (r : Tally) (i : ℕ) (ps : List Noted) (d : Noted) → StandsAt r.number i ps → Suits r ps
    → IfSome (slice_index_or ps i d).joined (λ t. t.table ≡ r.table)
suits_at r i ps d at suits = subst (λ o. IfSome o (λ p. IfSome p.joined (λ t. t.table ≡ r.table)))
    (same_piece r.number i ps d at) suits

receipt_front : (r : Tally) (xs : List Noted) (p : Noted) (ys : List Noted) → piece_of r.number xs ≡ None
    → p.number ≡ r.number
    → with_receipt r (xs ++ p ∷ ys) ≡ xs ++ noted p.number (Some (joined_with r p.joined)) ∷ ys
receipt_front r [] p ys none is =
    ap (λ (b : Bool). if b then noted p.number (Some (joined_with r p.joined)) ∷ ys else p ∷ with_receipt r ys)
    (eq_yes p.number r.number is)
receipt_front r (x ∷ xs) p ys none is =
    by_bool (λ b. (if b then Some x else piece_of r.number xs) ≡ None
    → (if b then noted x.number (Some (joined_with r x.joined)) ∷ (xs ++ p ∷ ys) else x ∷ with_receipt r (xs ++ p ∷ ys))
    ≡ x ∷ (xs ++ noted p.number (Some (joined_with r p.joined)) ∷ ys))
    (x.number == r.number) (λ h. absurd (none-some x (sym h))) (λ h. ap (λ zs. x ∷ zs)
    (receipt_front r xs p ys h is)) none

pub receipt_at : (r : Tally) (i : ℕ) (ps : List Noted) (y d : Noted) → StandsAt r.number i ps
    → y ≡ noted (slice_index_or ps i d).number (Some (joined_with r (slice_index_or ps i d).joined))
    → slice_set ps i y ≡ with_receipt r ps
receipt_at r i ps y d at is =
    ap (λ xs. slice_set xs i y) at.parts ∙ set_at at.before at.piece at.behind y i at.place
    ∙ ap (λ z. at.before ++ z ∷ at.behind) (is ∙ ap (λ (p : Noted). noted p.number (Some (joined_with r p.joined)))
    (at_place r.number i ps d at))
    ∙ sym (receipt_front r at.before at.piece at.behind at.none at.number) ∙ ap (with_receipt r) (sym at.parts)

without_front : (n : ℕ) (xs : List Noted) (p : Noted) (ys : List Noted) → piece_of n xs ≡ None → p.number ≡ n
    → without n (xs ++ p ∷ ys) ≡ xs ++ ys
without_front n [] p ys none is = ap (λ (b : Bool). if b then ys else p ∷ without n ys) (eq_yes p.number n is)
without_front n (x ∷ xs) p ys none is =
    by_bool (λ b. (if b then Some x else piece_of n xs) ≡ None
    → (if b then xs ++ p ∷ ys else x ∷ without n (xs ++ p ∷ ys)) ≡ x ∷ (xs ++ ys))
    (x.number == n) (λ h. absurd (none-some x (sym h))) (λ h. ap (λ zs. x ∷ zs) (without_front n xs p ys h is)) none

pub gone_at : (n i : ℕ) (ps now : List Noted) → StandsAt n i ps → now ≡ take i ps ++ drop (i + 1) ps
    → now ≡ without n ps
gone_at n i ps now at is =
    is ∙ ap (λ xs. take i xs ++ drop (i + 1) xs) at.parts
    ∙ ap (λ xs. xs ++ drop (i + 1) (at.before ++ at.piece ∷ at.behind)) (take_at at.before
    (at.piece ∷ at.behind) i at.place)
    ∙ ap (λ xs. at.before ++ xs) (behind_it at.before at.behind i at.place)
    ∙ sym (without_front n at.before at.piece at.behind at.none at.number) ∙ ap (without n) (sym at.parts)
  where
    next : (zs ys : List Noted) → drop (length zs + 1) (zs ++ at.piece ∷ ys) ≡ ys
    next [] ys = refl
    next (z ∷ zs) ys =
        ap (λ (k : ℕ). drop k (z ∷ (zs ++ at.piece ∷ ys))) (let e : suc (length zs) + 1 ≡ suc
        (length zs + 1) = omega arith in e) ∙ next zs ys

    behind_it : (xs ys : List Noted) (k : ℕ) → length xs ≡ k → drop (k + 1) (xs ++ at.piece ∷ ys) ≡ ys
    behind_it xs ys k size = ap (λ (j : ℕ). drop (j + 1) (xs ++ at.piece ∷ ys)) (sym size) ∙ next xs ys

pub settled_at : (n i : ℕ) (ps : List Noted) (d : Noted) → StandsAt n i ps
    → (weight_of (slice_index_or ps i d).joined == full) ≡ is_settled n ps
settled_at n i ps d at = ap (λ (o : Option Noted). weight_in_piece o == full) (sym (same_piece n i ps d at))

pub lasts_at : (n i : ℕ) (ps : List Noted) (d : Noted) → StandsAt n i ps
    → lasts_in_piece (piece_of n ps) ≡ lasts_of (slice_index_or ps i d).joined
lasts_at n i ps d at = ap lasts_in_piece (same_piece n i ps d at)
