-- What is owed, from one moment to another.
use Rattle.std.proofs.Common.{◌≡◌, ℕ, List, [], ◌∷◌, refl, ap, ◌∙◌, arith}
use Rattle.share_count.specs.Weights.{full}
use Rattle.share_count.proofs.Shelves.{find_less}
use Rattle.buffer_model.specs.Share.{lent}
use Rattle.buffer_model.specs.Stake.{Stake, KeepsTotalsBeside}
use Rattle.buffer_model.specs.Minted.{Numbers, NumbersOn}
use Rattle.iobuf_chain.specs.Lists.{Each}
use Rattle.piece_book.specs.Books.{Noted, weight_of, lasts_of}
use Rattle.piece_book.specs.Owing.{out_if, outs, IsRight, OwesOn, NothingIsOut}

module _ {O : Type 0} where
  rights_on : (old new : Numbers) (way : ℕ → ℕ) (entry exit : List (Stake O)) → NumbersOn old new
      → KeepsTotalsBeside old new entry exit
      → (book : List Noted) → Each (IsRight old way entry) book → Each (IsRight new way exit) book
  rights_on old new way entry exit on keeps [] h = tt
  rights_on old new way entry exit on keeps (p ∷ ps) h =
      let z = h.0.storage in
      let low = find_less old z.number z.table h.0.minted in
      let one = keeps z (λ is. let from = is.0 in absurd (omega (arith, low, from))) in (
        record {
          storage = z;
          number = h.0.number;
          minted = on.0 z.number z.table h.0.minted;
          weights = (let w = h.0.weights in let t = one.total in omega (arith, w, t));
          block = one.way (lent (way p.number)) h.0.block;
          joined = h.0.joined;
        },
        rights_on old new way entry exit on keeps ps h.1,
      )

pub owes_on : {O : Type 0} → OwesOn O
owes_on {O} old new way book out entry exit o on keeps = record {
  right = rights_on old new way entry exit on keeps book o.right;
  out_is = o.out_is;
  apart = o.apart;
}

none_out : (O : Type 0) (mint : Numbers) (way : ℕ → ℕ) (ps : List Noted) → Each (IsRight {O = O} mint way []) ps
    → Each (λ p. weight_of p.joined ≡ full → lasts_of p.joined ≡ 1) ps → outs way ps ≡ []
none_out O mint way [] h l = refl
none_out O mint way (p ∷ ps) h l =
    ap (λ k. out_if k (way p.number) (outs way ps)) (l.0 (let w = h.0.weights in omega (arith, w)))
    ∙ none_out O mint way ps h.1 l.1

pub nothing_is_out : {O : Type 0} → NothingIsOut O
nothing_is_out {O} mint way book out o last = o.out_is ∙ none_out O mint way book o.right last
