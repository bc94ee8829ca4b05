-- Receipts of holds that were given back.
use Rattle.std.proofs.Common.{◌≡◌, ℕ, List, Option, Some, sym, refl, ap, ◌∙◌}
use Rattle.share_count.specs.Held.{Tally}
use Rattle.buffer_model.specs.Share.{Held, IsReceiptFor, IsOfStorage}
use Rattle.storage.specs.declared.back.Back.{Back}
use Rattle.storage.specs.declared.back.Back.TheVariants.{Kept, Done, Ran, Lent, Tag, Nothing}
use Rattle.storage.specs.Back.{receipt_in, GivesBack}

module _ {O : Type 0} (runs : O → ℕ) (last : O → Option (List ℕ)) where
  for_same : (h : Held O) (lasts : ℕ) (k r : Tally) → IsReceiptFor h.share lasts k → k ≡ r → IsReceiptFor h.share r.lasts r
  for_same h lasts k r is same =
      let number : k.number ≡ r.number = ap (λ (x : Tally). x.number) same in
      let table = ap (λ (x : Tally). x.table) same in
      let weight : k.weight ≡ r.weight = ap (λ (x : Tally). x.weight) same in
      (is.0 ∙ ap (λ (n : ℕ). Some n) number, is.1 ∙ ap (λ t. Some t) table, sym weight ∙ is.2, refl)

  -- the receipt that a hold hands back is for all that it had, and its lasts are 0 or 1
  pub receipt_for : (h : Held O) (b : Back O) (r : Tally) → GivesBack runs last h b → receipt_in b ≡ Some r → IsReceiptFor h.share r.lasts r
  receipt_for h (Kept k) r is same = for_same h 0 k r is.0 (cc same)
  receipt_for h (Done k) r is same = for_same h 1 k r is.0 (cc same)
  receipt_for h (Ran o k) r is same = for_same h 1 k r is.0 (cc same)
  receipt_for h (Lent block k) r is same = for_same h 1 k r is.0 (cc same)
  receipt_for h (Tag t k) r is same = for_same h 1 k r is.0 (cc same)
  receipt_for h Nothing r is same = absurd (cc same)

  -- so it is for the hold's storage
  pub receipt_of_storage : (h : Held O) (b : Back O) (r : Tally) → GivesBack runs last h b → receipt_in b ≡ Some r → IsOfStorage h.share r
  receipt_of_storage h b r is same = let all = receipt_for h b r is same in (all.0, all.1)
