-- A receipt comes back: what is owed afterwards.
use Rattle.std.proofs.Common.{◌≡◌, ℕ, zero, suc, ◌+◌, ◌≤◌, ◌==◌, Bool, true, false, not, cond, if◌then◌else◌, List, [], ◌∷◌, Option, Some, None, refl, sym, ap, ◌∙◌, subst, arith, ⊎_elim}
use Rattle.std.specs.Prelude.{IfSome, Contains, is_some}
use Rattle.std.proofs.lemmas.Bool.{eqb-true, eqb-false}
use Rattle.share_count.specs.Held.{Tally}
use Rattle.share_count.specs.Numbered.{IsNumbered}
use Rattle.buffer_model.specs.Share.{Kind, lent}
use Rattle.buffer_model.specs.Stake.{Stake, Storage, kept, ended, received, weight_in, IsReceiptAt}
use Rattle.buffer_model.specs.Minted.{Numbers, IsReceiptOfMint}
use Rattle.buffer_model.proofs.Storages.{at_or_not}
use Rattle.relay_ports.specs.Told.{without_number}
use Rattle.iobuf_chain.specs.Lists.{Each}
use Rattle.piece_book.specs.Books.{Noted, noted, piece_of, knows, weight_of, lasts_of, lasts_in_piece, joined_with, with_receipt}
use Rattle.piece_book.specs.Owing.{out_if, outs, AreApart, Apart, IsRight, Owes}
use Rattle.piece_book.proofs.Places.{by_bool, eq_yes, eq_no}

received_own : (z : Storage) (r : Tally) → IsReceiptAt z r → received z r ≡ r.weight
received_own z r at = ⊎_elim (λ is. ap (λ (b : Bool). cond b r.weight 0) is.0) (λ no'. absurd (no'.1 at))
    (at_or_not z r.number r.table)

received_other : (z : Storage) (r : Tally) → (r.number ≡ z.number → ⊥) → received z r ≡ 0
received_other z r other = ⊎_elim (λ is. absurd (other is.1)) (λ no'. ap (λ (b : Bool). cond b r.weight 0) no'.0)
    (at_or_not z r.number r.table)

-- a receipt of this mint, by the number of the storage, is of the storage
pub at_storage : (mint : Numbers) (z : Storage) (r : Tally) → IsNumbered mint z.number z.table
    → IsReceiptOfMint mint r → r.number ≡ z.number → IsReceiptAt z r
at_storage mint z r at minted is =
    let there : IsNumbered mint z.number r.table = subst (λ n. IsNumbered mint n r.table) is minted in
    let same : Some z.table ≡ Some r.table = sym at ∙ there in
    (is, (let e : r.table ≡ z.table = cc (same) in e))

weight_joined : (r : Tally) (o : Option Tally) → (joined_with r o).weight ≡ weight_of o + r.weight
weight_joined r None = omega arith
weight_joined r (Some t) = refl

lasts_joined : (r : Tally) (o : Option Tally) → (joined_with r o).lasts ≡ lasts_of o + r.lasts
lasts_joined r None = omega arith
lasts_joined r (Some t) = refl

at_joined : (z : Storage) (r : Tally) (o : Option Tally) → IsReceiptAt z r → IfSome o (IsReceiptAt z)
    → IsReceiptAt z (joined_with r o)
at_joined z r None at h = at
at_joined z r (Some t) at h = h

module _ {O : Type 0} where
  -- what a stake that is a receipt, and no more, has of a storage
  record IsReceipt (r : Tally) (s : Stake O) : Type 0 where
    pub own : (z : Storage) → IsReceiptAt z r → weight_in z s ≡ r.weight
    pub other : (z : Storage) → (r.number ≡ z.number → ⊥) → weight_in z s ≡ 0

  other_right : (mint : Numbers) (way : ℕ → ℕ) (r : Tally) (s : Stake O) (rest : List (Stake O)) (q : Noted)
      → IsReceipt r s → (r.number ≡ q.number → ⊥) → IsRight mint way (s ∷ rest) q → IsRight mint way rest q
  other_right mint way r s rest q is apart h = record {
    storage = h.storage;
    number = h.number;
    minted = h.minted;
    weights = (let w = h.weights in let none = is.other h.storage (λ e. apart (e ∙ h.number)) in omega
        (arith, w, none));
    block = h.block.1;
    joined = h.joined;
  }

  own_right : (mint : Numbers) (way : ℕ → ℕ) (r : Tally) (s : Stake O) (rest : List (Stake O)) (p : Noted)
      → IsReceipt r s → p.number ≡ r.number → IsReceiptOfMint mint r → IsRight mint way (s ∷ rest) p
      → IsRight mint way rest (noted p.number (Some (joined_with r p.joined)))
  own_right mint way r s rest p is number minted h =
      let at = at_storage mint h.storage r h.minted minted (sym number ∙ sym h.number) in record {
        storage = h.storage;
        number = h.number;
        minted = h.minted;
        weights = (let w = h.weights in let j = weight_joined r p.joined in let own = is.own h.storage at in omega
            (arith, w, own, j));
        block = h.block.1;
        joined = at_joined h.storage r p.joined at h.joined;
      }

  all_other : (mint : Numbers) (way : ℕ → ℕ) (r : Tally) (s : Stake O) (rest : List (Stake O)) (p : Noted)
      → IsReceipt r s → p.number ≡ r.number → (ps : List Noted) → Each (AreApart way p) ps
      → Each (IsRight mint way (s ∷ rest)) ps
      → Each (IsRight mint way rest) ps
  all_other mint way r s rest p is number [] a h = tt
  all_other mint way r s rest p is number (q ∷ qs) a h = (
    other_right mint way r s rest q is (λ e. a.0.0 (sym e ∙ sym number)) h.0,
    all_other mint way r s rest p is number qs a.1 h.1,
  )

  rights_if : (mint : Numbers) (way : ℕ → ℕ) (r : Tally) (s : Stake O) (rest : List (Stake O)) → IsReceipt r s
      → IsReceiptOfMint mint r → (p : Noted) (ps : List Noted) (b : Bool) → (p.number == r.number) ≡ b
      → Each (AreApart way p) ps
      → IsRight mint way (s ∷ rest) p → Each (IsRight mint way (s ∷ rest)) ps
      → Each (IsRight mint way rest) (with_receipt r ps)
      → Each (IsRight mint way rest) (if b then noted p.number (Some (joined_with r p.joined)) ∷ ps else p ∷ with_receipt r ps)
  rights_if mint way r s rest is minted p ps true e a h hs more =
      let number = eqb-true p.number r.number e in
      (own_right mint way r s rest p is number minted h, all_other mint way r s rest p is number ps a hs)
  rights_if mint way r s rest is minted p ps false e a h hs more =
      (other_right mint way r s rest p is (λ same. eqb-false p.number r.number e (sym same)) h, more)

  rights_with : (mint : Numbers) (way : ℕ → ℕ) (r : Tally) (s : Stake O) (rest : List (Stake O)) → IsReceipt r s
      → IsReceiptOfMint mint r → (book : List Noted) → Apart way book → Each (IsRight mint way (s ∷ rest)) book
      → Each (IsRight mint way rest) (with_receipt r book)
  rights_with mint way r s rest is minted [] a h = tt
  rights_with mint way r s rest is minted (p ∷ ps) a h =
      rights_if mint way r s rest is minted p ps (p.number == r.number) refl a.0 h.0 h.1
      (rights_with mint way r s rest is minted ps a.1 h.1)

  kept_is : (r : Tally) → IsReceipt r (kept r)
  kept_is r = record { own = λ z at. received_own z r at; other = λ z h. received_other z r h }

  ended_is : (k : Kind) (r : Tally) → IsReceipt r (ended k r)
  ended_is k r = record { own = λ z at. received_own z r at; other = λ z h. received_other z r h }

  -- the piece of a known number, with all that is held of its storage
  pub right_of : (mint : Numbers) (way : ℕ → ℕ) (r : Tally) (s : Stake O) (rest : List (Stake O))
      → IsReceiptOfMint mint r → (book : List Noted) → knows r.number book ≡ true
      → Each (IsRight mint way (s ∷ rest)) book
      → (p : Noted) × (piece_of r.number book ≡ Some p) × (p.number ≡ r.number) × IsRight mint way (s ∷ rest) p
  right_of mint way r s rest minted [] known h = absurd (let bad : false ≡ true = known in cc (bad))
  right_of mint way r s rest minted (p ∷ ps) known h =
      found (p.number == r.number) refl known (λ k. right_of mint way r s rest minted ps k h.1)
    where
      found : (b : Bool) → (p.number == r.number) ≡ b → is_some (if b then Some p else piece_of r.number ps) ≡ true
          → (knows r.number ps ≡ true
          → (q : Noted) × (piece_of r.number ps ≡ Some q) × (q.number ≡ r.number) × IsRight mint way (s ∷ rest) q)
          → (q : Noted) × ((if b then Some p else piece_of r.number ps) ≡ Some q) × (q.number ≡ r.number) × IsRight mint way (s ∷ rest) q
      found true e k f = (p, refl, eqb-true p.number r.number e, h.0)
      found false e k f = f k

each_with : (P : Noted → Type 0) (r : Tally) (ps : List Noted) → ((p : Noted) → P p
    → P (noted p.number (Some (joined_with r p.joined)))) → Each P ps → Each P (with_receipt r ps)
each_with P r [] f h = tt
each_with P r (p ∷ ps) f h =
    by_bool (λ b. Each P (if b then noted p.number (Some (joined_with r p.joined)) ∷ ps else p ∷ with_receipt r ps))
    (p.number == r.number)
    (f p h.0, h.1) (h.0, each_with P r ps f h.1)

pub apart_with : (way : ℕ → ℕ) (r : Tally) (book : List Noted) → Apart way book → Apart way (with_receipt r book)
apart_with way r [] a = tt
apart_with way r (p ∷ ps) a =
    by_bool (λ b. Apart way (if b then noted p.number (Some
    (joined_with r p.joined)) ∷ ps else p ∷ with_receipt r ps)) (p.number == r.number)
    (a.0, a.1) (each_with (AreApart way p) r ps (λ q h. h) a.0, apart_with way r ps a.1)

-- no last came: the same blocks are out
pub outs_same : (way : ℕ → ℕ) (r : Tally) (book : List Noted) → r.lasts ≡ 0
    → outs way (with_receipt r book) ≡ outs way book
outs_same way r [] none = refl
outs_same way r (p ∷ ps) none =
    by_bool (λ b. outs way (if b then noted p.number (Some
    (joined_with r p.joined)) ∷ ps else p ∷ with_receipt r ps) ≡ out_if (lasts_of p.joined) (way p.number)
    (outs way ps)) (p.number == r.number)
    (ap (λ k. out_if k (way p.number) (outs way ps)) (let l = lasts_joined r p.joined in omega (arith, l, none)))
    (ap (λ bs. out_if (lasts_of p.joined) (way p.number) bs) (outs_same way r ps none))

-- the block of another piece stays
removed_first : (b : ℕ) (bs : List ℕ) → Each (λ c. c ≡ b → ⊥) bs → without_number b (b ∷ bs) ≡ bs
removed_first b bs others = ap (λ (t : Bool). cond (not t) (b ∷ without_number b bs) (without_number b bs))
    (eq_yes b b refl) ∙ none_removed bs others
  where
    none_removed : (cs : List ℕ) → Each (λ c. c ≡ b → ⊥) cs → without_number b cs ≡ cs
    none_removed [] h = refl
    none_removed (c ∷ cs) h =
        ap (λ (t : Bool). cond (not t) (c ∷ without_number b cs) (without_number b cs)) (eq_no b c (λ e. h.0 (sym e)))
        ∙ ap (λ w. c ∷ w) (none_removed cs h.1)

removed_later : (b c : ℕ) (bs : List ℕ) → (c ≡ b → ⊥) → without_number b (c ∷ bs) ≡ c ∷ without_number b bs
removed_later b c bs h = ap (λ (t : Bool). cond (not t) (c ∷ without_number b bs) (without_number b bs)) (eq_no b c
    (λ e. h (sym e)))

-- the blocks of other pieces are others
others_out : (way : ℕ → ℕ) (p : Noted) (ps : List Noted) → Each (AreApart way p) ps → Each (λ c. c ≡ way p.number
    → ⊥) (outs way ps)
others_out way p [] a = tt
others_out way p (q ∷ qs) a = by_lasts (lasts_of q.joined) (others_out way p qs a.1)
  where
    by_lasts : (k : ℕ) → Each (λ c. c ≡ way p.number → ⊥) (outs way qs) → Each (λ c. c ≡ way p.number
        → ⊥) (out_if k (way q.number) (outs way qs))
    by_lasts zero h = (a.0.1, h)
    by_lasts (suc k) h = h

-- the last came: the block is out no more
pub outs_less : (way : ℕ → ℕ) (r : Tally) (book : List Noted) (p : Noted) → piece_of r.number book ≡ Some p
    → lasts_of p.joined ≡ 0 → r.lasts ≡ 1 → Apart way book
    → outs way (with_receipt r book) ≡ without_number (way p.number) (outs way book)
outs_less way r [] p at before last a = absurd (cc (at))
outs_less way r (q ∷ qs) p at before last a = by_number (q.number == r.number) refl at
    (λ later. outs_less way r qs p later before last a.1)
  where
    stays : (k : ℕ) (bs : List ℕ) → (way q.number ≡ way p.number → ⊥)
        → out_if k (way q.number) (without_number (way p.number) bs) ≡ without_number (way p.number) (out_if k (way q.number) bs)
    stays zero bs h = sym (removed_later (way p.number) (way q.number) bs h)
    stays (suc k) bs h = refl

    apart_from : (ps : List Noted) → Each (AreApart way q) ps → piece_of r.number ps ≡ Some p
        → way q.number ≡ way p.number → ⊥
    apart_from [] h is = absurd (cc (is))
    apart_from (x ∷ xs) h is = by_bool (λ b.
        (if b then Some x else piece_of r.number xs) ≡ Some p → way q.number ≡ way p.number → ⊥)
        (x.number == r.number)
        (λ here e. h.0.1 (let same : x ≡ p = cc (here) in ap (λ (z : Noted). way z.number) same ∙ sym e))
        (λ later. apart_from xs h.1 later) is

    by_number : (b : Bool) → (q.number == r.number) ≡ b → (if b then Some q else piece_of r.number qs) ≡ Some p
        → (piece_of r.number qs ≡ Some p → outs way (with_receipt r qs) ≡ without_number (way p.number) (outs way qs))
        → outs way (if b then noted q.number (Some (joined_with r q.joined)) ∷ qs else q ∷ with_receipt r qs) ≡ without_number (way p.number) (out_if (lasts_of q.joined) (way q.number) (outs way qs))
    by_number true e here f =
        let same : q ≡ p = cc (here) in
        let none : lasts_of q.joined ≡ 0 = ap (λ (z : Noted). lasts_of z.joined) same ∙ before in
        ap (λ k. out_if k (way q.number) (outs way qs)) (let l = lasts_joined r q.joined in let one :
        (joined_with r q.joined).lasts ≡ 1 = omega (arith, l, none, last) in one)
        ∙ sym (removed_first (way q.number) (outs way qs) (others_out way q qs a.0))
        ∙ ap (λ (z : Noted). without_number (way z.number) (way q.number ∷ outs way qs)) same
        ∙ ap (λ k. without_number (way p.number) (out_if k (way q.number) (outs way qs))) (sym none)
    by_number false e later f =
        ap (λ bs. out_if (lasts_of q.joined) (way q.number) bs) (f later)
        ∙ stays (lasts_of q.joined) (outs way qs) (apart_from qs a.0 later)

contains_more : (k c b : ℕ) (bs : List ℕ) → Contains bs b → Contains (out_if k c bs) b
contains_more zero c b bs h = (suc h.0, omega (arith, h.1), h.2)
contains_more (suc k) c b bs h = h

outs_have : (way : ℕ → ℕ) (n : ℕ) (book : List Noted) (p : Noted) → piece_of n book ≡ Some p
    → lasts_of p.joined ≡ 0 → Contains (outs way book) (way p.number)
outs_have way n [] p at none = absurd (cc (at))
outs_have way n (q ∷ qs) p at none = by_bool (λ b. (if b then Some q else piece_of n qs) ≡ Some p → Contains (out_if
    (lasts_of q.joined) (way q.number) (outs way qs)) (way p.number)) (q.number == n)
    (λ here.
    let same : q ≡ p = cc (here) in
    let out : lasts_of q.joined ≡ 0 = ap (λ (z : Noted). lasts_of z.joined) same ∙ none in
    let Q : Noted → Type 0 = λ z. Contains (way z.number ∷ outs way qs) (way p.number) in
    let P : ℕ → Type 0 = λ k. Contains (out_if k (way q.number) (outs way qs)) (way p.number) in
    subst P (sym out) (subst Q (sym same) (0, omega arith, refl)))
    (λ later. contains_more (lasts_of q.joined) (way q.number) (way p.number) (outs way qs)
    (outs_have way n qs p later none)) at

abbrev block_number : Kind → ℕ
block_number (lent n) = n
block_number _ = 0

module _ {O : Type 0} where
  -- a receipt came that is no last
  pub owes_kept : (mint : Numbers) (way : ℕ
      → ℕ) (book : List Noted) (out : List ℕ) (rest : List (Stake O)) (r : Tally)
      → Owes mint way book out (kept r ∷ rest) → knows r.number book ≡ true → IsReceiptOfMint mint r
      → Owes mint way (with_receipt r book) out rest
  owes_kept mint way book out rest r o known m =
      let one = right_of mint way r (kept r) rest m book known o.right in
      let none : r.lasts ≡ 0 = one.3.block.0 (at_storage mint one.3.storage r one.3.minted m (sym one.2
      ∙ sym one.3.number)) in record {
        right = rights_with mint way r (kept r) rest (kept_is r) m book o.apart o.right;
        out_is = o.out_is ∙ sym (outs_same way r book none);
        apart = apart_with way r book o.apart;
      }

  -- the last came, with its block: that was out
  pub block_out : (mint : Numbers) (way : ℕ
      → ℕ) (book : List Noted) (out : List ℕ) (rest : List (Stake O)) (b : ℕ) (r : Tally)
      → Owes mint way book out (ended (lent b) r ∷ rest) → knows r.number book ≡ true → IsReceiptOfMint mint r
      → lasts_in_piece (piece_of r.number book) + r.lasts ≤ 1 → Contains out b
  block_out mint way book out rest b r o known m most =
      let one = right_of mint way r (ended (lent b) r) rest m book known o.right in
      let agrees = one.3.block.0 (at_storage mint one.3.storage r one.3.minted m (sym one.2 ∙ sym one.3.number)) in
      let same : b ≡ way one.0.number = ap block_number agrees.0 in
      let last = agrees.1 in
      let lasts : lasts_in_piece (piece_of r.number book) ≡ lasts_of one.0.joined = ap lasts_in_piece one.1 in
      let none : lasts_of one.0.joined ≡ 0 = omega (arith, last, most, lasts) in
      let P : List ℕ → Type 0 = λ bs. Contains bs b in
      let Q : ℕ → Type 0 = λ x. Contains (outs way book) x in
      subst P (sym o.out_is) (subst Q (sym same) (outs_have way r.number book one.0 one.1 none))

  -- and it is out no more
  pub owes_lent : (mint : Numbers) (way : ℕ
      → ℕ) (book : List Noted) (out : List ℕ) (rest : List (Stake O)) (b : ℕ) (r : Tally)
      → Owes mint way book out (ended (lent b) r ∷ rest) → knows r.number book ≡ true → IsReceiptOfMint mint r
      → lasts_in_piece (piece_of r.number book) + r.lasts ≤ 1
      → Owes mint way (with_receipt r book) (without_number b out) rest
  owes_lent mint way book out rest b r o known m most =
      let one = right_of mint way r (ended (lent b) r) rest m book known o.right in
      let agrees = one.3.block.0 (at_storage mint one.3.storage r one.3.minted m (sym one.2 ∙ sym one.3.number)) in
      let same : b ≡ way one.0.number = ap block_number agrees.0 in
      let last = agrees.1 in
      let lasts : lasts_in_piece (piece_of r.number book) ≡ lasts_of one.0.joined = ap lasts_in_piece one.1 in
      let none : lasts_of one.0.joined ≡ 0 = omega (arith, last, most, lasts) in record {
        right = rights_with mint way r (ended (lent b) r) rest (ended_is (lent b) r) m book o.apart o.right;
        out_is = (λ k. without_number (same k) (o.out_is k)) ∙ sym (outs_less way r book one.0 one.1 none last o.apart);
        apart = apart_with way r book o.apart;
      }
