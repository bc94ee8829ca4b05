-- A block is lent, and another is forgotten.
use Rattle.std.proofs.Common.{◌≡◌, ℕ, zero, suc, ◌+◌, ◌≤◌, ◌==◌, Bool, cond, if◌then◌else◌, List, [], ◌∷◌, ◌++◌, length, Option, Some, None, refl, sym, ap, ◌∙◌, subst, arith, ⊎_elim}
use Rattle.atomic_table.specs.Seated.{TableId}
use Rattle.share_count.specs.Numbered.{IsNumbered}
use Rattle.share_count.proofs.Shelves.{find_less}
use Rattle.buffer_model.specs.Share.{Share, Way, lent}
use Rattle.buffer_model.specs.Stake.{Stake, Storage, held, weight_at, weight_in, IsOfKind, IsOneWay}
use Rattle.buffer_model.specs.Minted.{Numbers, NumbersOn, IsNumberedAs, IsBetween}
use Rattle.buffer_model.proofs.Storages.{at_or_not}
use Rattle.iobuf_chain.specs.Lists.{Each}
use Rattle.piece_book.specs.Books.{Noted, noted, piece_of, lasts_of, lasts_in_piece, without}
use Rattle.piece_book.specs.Owing.{out_if, outs, AreApart, Apart, IsRight, KeepsBlock, Lends, Forgets}
use Rattle.piece_book.proofs.Places.{by_bool}

own_weight : (z : Storage) (w : ℕ) → weight_at z (Some z.number) (Some z.table) w ≡ w
own_weight z w = ⊎_elim (λ is. ap (λ (b : Bool). cond b w 0) is.0) (λ no'. absurd (no'.1 (refl, refl)))
    (at_or_not z z.number z.table)

other_weight : (z : Storage) (w n : ℕ) (t : Option TableId) → (n ≡ z.number → ⊥) → weight_at z (Some n) t w ≡ 0
other_weight z w n None h = refl
other_weight z w n (Some t) h = ⊎_elim (λ is. absurd (h is.1)) (λ no'. ap (λ (b : Bool). cond b w 0) no'.0)
    (at_or_not z n t)

numbered_table : (mint : Numbers) (n : ℕ) (o : Option TableId) → IsNumberedAs mint (Some n) o
    → (t : TableId) × (o ≡ Some t) × IsNumbered mint n t
numbered_table mint n None h = absurd h
numbered_table mint n (Some t) h = (t, refl, h)

each_push : (P : Noted → Type 0) (ps : List Noted) (p : Noted) → Each P ps → P p → Each P (ps ++ p ∷ [])
each_push P [] p h one = (one, tt)
each_push P (q ∷ qs) p h one = (h.0, each_push P qs p h.1 one)

outs_more : (way way' : ℕ → ℕ) (n block : ℕ) (book : List Noted) → way' n ≡ block
    → Each (KeepsBlock way way' block) book → outs way' (book ++ noted n None ∷ []) ≡ outs way book ++ block ∷ []
outs_more way way' n block [] at h = ap (λ b. b ∷ []) at
outs_more way way' n block (p ∷ ps) at h =
    (λ i. out_if (lasts_of p.joined) (h.0.0 i) (outs_more way way' n block ps at h.1 i)) ∙ pushed
    (lasts_of p.joined) (way p.number) (outs way ps)
  where
    pushed : (k c : ℕ) (bs : List ℕ) → out_if k c (bs ++ block ∷ []) ≡ out_if k c bs ++ block ∷ []
    pushed zero c bs = refl
    pushed (suc k) c bs = refl

apart_same : (way way' : ℕ → ℕ) (block : ℕ) (p : Noted) (qs : List Noted) → way' p.number ≡ way p.number
    → Each (KeepsBlock way way' block) qs → Each (AreApart way p) qs → Each (AreApart way' p) qs
apart_same way way' block p [] e h a = tt
apart_same way way' block p (q ∷ qs) e h a = (
  (
    a.0.0,
    λ same. a.0.1 (sym h.0.0 ∙ same
        ∙ e),
  ),
  apart_same way way' block p qs e h.1 a.1,
)

apart_more : (way way' : ℕ → ℕ) (n block : ℕ) (book : List Noted) → way' n ≡ block
    → Each (KeepsBlock way way' block) book → Each (λ p. p.number ≡ n → ⊥) book → Apart way book
    → Apart way' (book ++ noted n None ∷ [])
apart_more way way' n block [] at h new a = (tt, tt)
apart_more way way' n block (p ∷ ps) at h new a = (
  each_push (AreApart way' p) ps (noted n None) (apart_same way way' block p ps h.0.0 h.1 a.0)
      ((λ e. new.0 (sym e)), λ same. h.0.1 (sym h.0.0 ∙ sym same ∙ at)),
  apart_more way way' n block ps at h.1 new.1 a.1,
)

module _ {O : Type 0} where
  rights_still : (old new : Numbers) (way way' : ℕ → ℕ) (rest : List (Stake O)) (s : Share O) (n block : ℕ)
      → s.number ≡ Some n → length old ≤ n → NumbersOn old new → (book : List Noted)
      → Each (KeepsBlock way way' block) book → Each (IsRight old way rest) book
      → Each (IsRight new way' (held s ∷ rest)) book
  rights_still old new way way' rest s n block is low on [] same h = tt
  rights_still old new way way' rest s n block is low on (q ∷ qs) same h =
      let z = h.0.storage in
      let below = find_less old z.number z.table h.0.minted in
      let other : n ≡ z.number → ⊥ = λ e. absurd (omega (arith, below, low, e)) in
      let none : weight_in z (held s) ≡ 0 = ap (λ o. weight_at z o s.table (s.weight + s.absorbed)) is
      ∙ other_weight z (s.weight + s.absorbed) n s.table other in (
        record {
          storage = z;
          number = h.0.number;
          minted = on.0 z.number z.table h.0.minted;
          weights = (let w = h.0.weights in omega (arith, w, none));
          block = (
            (λ at. absurd (other (let e : Some n ≡ Some z.number = sym is ∙ at.0 in let m : n ≡ z.number = cc
                (e) in m))),
            subst (λ b. IsOneWay z (lent b) rest) (sym same.0.0) h.0.block,
          );
          joined = h.0.joined;
        },
        rights_still old new way way' rest s n block is low on qs same.1 h.1,
      )

  all_new : (old : Numbers) (way : ℕ → ℕ) (rest : List (Stake O)) (n : ℕ) → length old ≤ n → (book : List Noted)
      → Each (IsRight old way rest) book → Each (λ p. p.number ≡ n → ⊥) book
  all_new old way rest n low [] h = tt
  all_new old way rest n low (q ∷ qs) h =
      let below = find_less old h.0.storage.number h.0.storage.table h.0.minted in let number = h.0.number in
      ((λ e. absurd (omega (arith, below, low, number, e))), all_new old way rest n low qs h.1)

  kind_is : (way' : ℕ → ℕ) (n block : ℕ) (w : Option (Way O)) → way' n ≡ block → w ≡ Some (lent block)
      → IsOfKind (lent (way' n)) w
  kind_is way' n block w at e = subst (λ z. IsOfKind (lent (way' n)) z) (sym e) (ap (λ b. lent b) (sym at))

pub lends : {O : Type 0} → Lends O
lends {O} old new way way' book out rest s n block o none on is number at ways =
    let between : IsBetween old new (Some n) = subst (IsBetween old new) number is.number in
    let minted : IsNumberedAs new (Some n) s.table = subst (λ m. IsNumberedAs new m s.table) number is.minted in
    let table = numbered_table new n s.table minted in
    let z : Storage = record { number = n; table = table.0 } in
    let empty = none z (between.0, table.2) in
    let total_is = empty.0 in let w = is.weight in let a = is.absorbed in
    let own : weight_in z (held s) ≡ s.weight + s.absorbed =
    (λ i. weight_at z (number i) (table.1 i) (s.weight + s.absorbed)) ∙ own_weight z (s.weight + s.absorbed) in
    record {
      right = each_push (IsRight new way' (held s ∷ rest)) book (noted n None)
          (rights_still old new way way' rest s n block number between.0 on book ways o.right)
          (record {
            storage = z;
            number = refl;
            minted = table.2;
            weights = omega (arith, own, total_is, w, a);
            block = ((λ h. kind_is way' n block s.way at is.way), empty.1 (lent (way' n)));
            joined = tt;
          });
      out_is = ap (λ bs. bs ++ block ∷ []) o.out_is ∙ sym (outs_more way way' n block book at ways);
      apart = apart_more way way' n block book at ways (all_new old way rest n between.0 book o.right) o.apart;
    }

each_without : (P : Noted → Type 0) (n : ℕ) (ps : List Noted) → Each P ps → Each P (without n ps)
each_without P n [] h = tt
each_without P n (p ∷ ps) h = by_bool (λ b. Each P (if b then ps else p ∷ without n ps)) (p.number == n) h.1
    (h.0, each_without P n ps h.1)

apart_without : (way : ℕ → ℕ) (n : ℕ) (ps : List Noted) → Apart way ps → Apart way (without n ps)
apart_without way n [] a = tt
apart_without way n (p ∷ ps) a = by_bool (λ b. Apart way (if b then ps else p ∷ without n ps)) (p.number == n) a.1
    (each_without (AreApart way p) n ps a.0, apart_without way n ps a.1)

outs_without : (way : ℕ → ℕ) (n : ℕ) (ps : List Noted) → lasts_in_piece (piece_of n ps) ≡ 1
    → outs way ps ≡ outs way (without n ps)
outs_without way n [] last = refl
outs_without way n (p ∷ ps) last = by_bool (λ b. lasts_in_piece (if b then Some p else piece_of n ps) ≡ 1 → out_if
    (lasts_of p.joined) (way p.number) (outs way ps) ≡ outs way (if b then ps else p ∷ without n ps))
    (p.number == n)
    (λ one. ap (λ k. out_if k (way p.number) (outs way ps)) one)
    (λ later. ap (λ bs. out_if (lasts_of p.joined) (way p.number) bs) (outs_without way n ps later)) last

pub forgets : {O : Type 0} → Forgets O
forgets {O} mint way book out stakes n o last = record {
  right = each_without (IsRight mint way stakes) n book o.right;
  out_is = o.out_is ∙ outs_without way n book last;
  apart = apart_without way n book o.apart;
}
