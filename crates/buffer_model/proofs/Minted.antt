-- Storages as a mint numbers them.
use Rattle.std.proofs.Common.{◌≡◌, ℕ, ◌+◌, ◌≤◌, [], ◌∷◌, ◌++◌, length, Option, Some, None, sym, refl, ap, subst, ◌∙◌, arith, length-append}
use Rattle.share_count.specs.Histories.{find}
use Rattle.share_count.specs.Numbered.{IsNumbered}
use Rattle.share_count.proofs.Shelves.{find_old, find_new}
use Rattle.atomic_table.specs.Seated.{TableId}
use Rattle.share_count.specs.Held.{Tally}
use Rattle.buffer_model.specs.Share.{Share, Way, IsOfStorage, fresh}
use Rattle.buffer_model.specs.Minted.{Numbers, Adds, AddsAtMost, NumbersOn, IsNumberedAs, IsBetween, IsOfMint, IsReceiptOfMint, IsNew}

pub adds_one : (old new : Numbers) (t : Option TableId) → new ≡ old ++ t ∷ [] → Adds 1 old new
adds_one old new t is =
    ((λ n table at. ap (λ x. find x n) is ∙ find_old old n table t at), ap length is ∙ length-append old (t ∷ []))

pub adds_none : (n : ℕ) (old new : Numbers) → new ≡ old → AddsAtMost n old new
adds_none n old new is = let same = ap length is in ((λ n table at. ap (λ x. find x n) is ∙ at), omega (arith, same), omega (arith, same))

pub adds_at_most : (m n : ℕ) (old new : Numbers) → Adds m old new → m ≤ n → AddsAtMost n old new
adds_at_most m n old new is le = let more = is.1 in (is.0, omega (arith, more), omega (arith, more))

-- each says that the mint went on
pub same_on : (old new : Numbers) → new ≡ old → NumbersOn old new
same_on old new is = let adds = adds_none 0 old new is in (adds.0, adds.1)

pub adds_on : (n : ℕ) (old new : Numbers) → Adds n old new → NumbersOn old new
adds_on n old new is = let more = is.1 in (is.0, omega (arith, more))

pub at_most_on : (n : ℕ) (old new : Numbers) → AddsAtMost n old new → NumbersOn old new
at_most_on n old new is = (is.0, is.1)

pub on_then : (a b c : Numbers) → NumbersOn a b → NumbersOn b c → NumbersOn a c
on_then a b c p q = let low = p.1 in let low' = q.1 in ((λ k table at. q.0 k table (p.0 k table at)), omega (arith, low, low'))

pub adds_then : (m n : ℕ) (a b c : Numbers) → AddsAtMost m a b → AddsAtMost n b c → AddsAtMost (m + n) a c
adds_then m n a b c p q =
    let low = p.1 in let low' = q.1 in let most = p.2 in let most' = q.2 in (
      (λ k table at. q.0 k table (p.0 k table at)),
      omega (arith, low, low'),
      omega (arith, most, most'),
    )

between_later : (n : ℕ) (a b c : Numbers) (o : Option ℕ) → IsBetween a b o → AddsAtMost n b c → IsBetween a c o
between_later n a b c None is adds = is
between_later n a b c (Some m) is adds = let high = is.1 in let low = adds.1 in (is.0, omega (arith, high, low))

between_after : (n : ℕ) (a b c : Numbers) (o : Option ℕ) → AddsAtMost n a b → IsBetween b c o → IsBetween a c o
between_after n a b c None adds is = is
between_after n a b c (Some m) adds is = let from = is.0 in let low = adds.1 in (omega (arith, from, low), is.1)

pub numbered_later : (n : ℕ) (a b : Numbers) (o : Option ℕ) (t : Option TableId) → IsNumberedAs a o t → AddsAtMost n a b → IsNumberedAs b o t
numbered_later n a b None t is adds = is
numbered_later n a b (Some m) None is adds = is
numbered_later n a b (Some m) (Some t) is adds = adds.0 m t is

numbered_same : (mint : Numbers) (n : ℕ) (o : Option ℕ) (t : Option TableId) (table : TableId) → IsNumberedAs mint o t → IsNumbered mint n table → o ≡ Some n → t ≡ Some table
numbered_same mint n None t table is at same = absurd is
numbered_same mint n (Some m) None table is at same = absurd is
numbered_same mint n (Some m) (Some t) table is at same = let e : m ≡ n = cc same in sym is ∙ ap (λ k. find mint k) e ∙ at

module _ {O : Type 0} where
  -- a unit that was just made is new
  pub made_is_new : (old new : Numbers) (t : TableId) (way : Way O) (s : Share O) → s ≡ fresh (length old) t way → new ≡ old ++ Some t ∷ [] → IsNew old new way s
  made_is_new old new t way s is minted =
      let P : Share O → Type 0 = λ x. IsNew old new way x in
      let more : length new ≡ length old + 1 = ap length minted ∙ length-append old (Some t ∷ []) in
      subst P (sym is) record {
        number = (omega arith, omega (arith, more));
        minted = ap (λ x. find x (length old)) minted ∙ find_new old (Some t);
        weight = refl;
        absorbed = refl;
        way = refl;
        alone = refl;
      }

  pub new_stays : (n : ℕ) (a b c : Numbers) (way : Way O) (s : Share O) → IsNew a b way s → AddsAtMost n b c → IsNew a c way s
  new_stays n a b c way s is adds = record {
    number = between_later n a b c s.number is.number adds;
    minted = numbered_later n b c s.number s.table is.minted adds;
    weight = is.weight;
    absorbed = is.absorbed;
    way = is.way;
    alone = is.alone;
  }

  pub new_afterwards : (n : ℕ) (a b c : Numbers) (way : Way O) (s : Share O) → AddsAtMost n a b → IsNew b c way s → IsNew a c way s
  new_afterwards n a b c way s adds is = record {
    number = between_after n a b c s.number adds is.number;
    minted = is.minted;
    weight = is.weight;
    absorbed = is.absorbed;
    way = is.way;
    alone = is.alone;
  }

  pub one_mint : (mint : Numbers) (s : Share O) (r : Tally) → IsOfMint mint s → IsReceiptOfMint mint r → s.number ≡ Some r.number → IsOfStorage s r
  one_mint mint s r is at same = (same, numbered_same mint r.number s.number s.table r.table is at same)
