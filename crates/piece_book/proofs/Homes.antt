-- What was handed back comes home.
use Rattle.std.proofs.Common.{◌≡◌, ℕ, ◌+◌, ◌≤◌, ◌==◌, true, if◌then◌else◌, List, [], ◌∷◌, ◌++◌, Option, Some, None, refl, sym, ap, ◌∙◌, subst, append_assoc}
use Rattle.std.specs.Prelude.{IfSome, Contains, is_some}
use Rattle.share_count.specs.Held.{Tally}
use Rattle.buffer_model.specs.Stake.{Stake, Storage, kept, ended, IsReceiptAt}
use Rattle.buffer_model.specs.Share.{lent}
use Rattle.buffer_model.specs.Minted.{Numbers, IsReceiptOfMint}
use Rattle.relay_ports.specs.States.{HostState}
use Rattle.relay_ports.specs.Calls.{ReturnedBlock}
use Rattle.relay_ports.specs.declared.lent.Lent.{Lent}
use Rattle.storage.specs.Back.{stakes_of, stakes_in}
use Rattle.storage.specs.declared.back.Back.{Back}
use Rattle.storage.specs.declared.back.Back.TheVariants.{Kept, Done, Ran, Lent as LentBack, Tag, Nothing}
use Rattle.iobuf_chain.specs.Lists.{Each}
use Rattle.piece_book.specs.Books.{Noted, noted, piece_of, knows, joined_with, lasts_in_piece, with_receipt, Suits}
use Rattle.piece_book.specs.Owing.{Owes, IsHome, IsOwed, AreOwed, KnowsSame}
use Rattle.piece_book.proofs.Places.{by_bool}
use Rattle.piece_book.proofs.Receipts.{at_storage, right_of, owes_kept, owes_lent, block_out}

pub knows_with : (r : Tally) (book : List Noted) → KnowsSame book (with_receipt r book)
knows_with r [] n = refl
knows_with r (p ∷ ps) n =
    by_bool (λ b. knows n (if b then noted p.number (Some
    (joined_with r p.joined)) ∷ ps else p ∷ with_receipt r ps) ≡ is_some
    (if p.number == n then Some p else piece_of n ps)) (p.number == r.number)
    (by_bool (λ c. is_some (if c then Some (noted p.number (Some
    (joined_with r p.joined))) else piece_of n ps) ≡ is_some (if c then Some p else piece_of n ps))
    (p.number == n) refl refl)
    (by_bool (λ c. is_some (if c then Some p else piece_of n (with_receipt r ps)) ≡ is_some
    (if c then Some p else piece_of n ps)) (p.number == n) refl (knows_with r ps n))

joined_table : (o : Option Tally) (z : Storage) (r : Tally) → IsReceiptAt z r → IfSome o (IsReceiptAt z)
    → IfSome o (λ t. t.table ≡ r.table)
joined_table None z r at h = tt
joined_table (Some t) z r at h = h.1 ∙ sym at.1

module _ {O : Type 0} where
  suits : (mint : Numbers) (way : ℕ
      → ℕ) (book : List Noted) (out : List ℕ) (r : Tally) (s : Stake O) (rest : List (Stake O))
      → Owes mint way book out (s ∷ rest) → knows r.number book ≡ true → IsReceiptOfMint mint r → Suits r book
  suits mint way book out r s rest o known m =
      let one = right_of mint way r s rest m book known o.right in
      subst (λ p. IfSome p (λ q. IfSome q.joined (λ t. t.table ≡ r.table))) (sym one.1)
      (joined_table one.0.joined one.3.storage r (at_storage mint one.3.storage r one.3.minted m (sym one.2
      ∙ sym one.3.number)) one.3.joined)

  pub kept_known : (mint : Numbers) (way : ℕ
      → ℕ) (rest : List (Stake O)) (book : List Noted) (out : List ℕ) (back : Back O) (r : Tally) → back ≡ Kept r
      → IsOwed mint way rest book out back → (knows r.number book ≡ true) × Suits r book
  kept_known mint way rest book out back r is o =
      let p : IsOwed mint way rest book out (Kept r) = subst (IsOwed mint way rest book out) is o in
      (p.1.0, suits mint way book out r (kept r) rest p.0 p.1.0 p.1.1)

  pub lent_known : (mint : Numbers) (way : ℕ
      → ℕ) (rest : List (Stake O)) (book : List Noted) (out : List ℕ) (back : Back O) (block : Lent) (r : Tally)
      → back ≡ LentBack block r → IsOwed mint way rest book out back → (knows r.number book ≡ true) × Suits r book
  lent_known mint way rest book out back block r is o =
      let p : IsOwed mint way rest book out (LentBack block r) = subst (IsOwed mint way rest book out) is o in
      (p.1.0, suits mint way book out r (ended (lent block.number) r) rest p.0 p.1.0 p.1.1)

  pub kept_home : (mint : Numbers) (way : ℕ
      → ℕ) (rest : List (Stake O)) (book new : List Noted) (out : List ℕ) (back : Back O) (r : Tally)
      → back ≡ Kept r → new ≡ with_receipt r book
      → IsOwed mint way rest book out back → Owes mint way new out rest
  kept_home mint way rest book new out back r is now o =
      let p : IsOwed mint way rest book out (Kept r) = subst (IsOwed mint way rest book out) is o in
      subst (λ b. Owes mint way b out rest) (sym now) (owes_kept mint way book out rest r p.0 p.1.0 p.1.1)

  pub lent_out : (mint : Numbers) (way : ℕ
      → ℕ) (rest : List (Stake O)) (book : List Noted) (out : List ℕ) (back : Back O) (block : Lent) (r : Tally)
      → back ≡ LentBack block r
      → lasts_in_piece (piece_of r.number book) + r.lasts ≤ 1 → IsOwed mint way rest book out back
      → Contains out block.number
  lent_out mint way rest book out back block r is most o =
      let p : IsOwed mint way rest book out (LentBack block r) = subst (IsOwed mint way rest book out) is o in
      block_out mint way book out rest block.number r p.0 p.1.0 p.1.1 most

  pub lent_home : (mint : Numbers) (way : ℕ
      → ℕ) (rest : List (Stake O)) (book new : List Noted) (s t : HostState) (back : Back O) (block : Lent) (r : Tally) → back ≡ LentBack block r → new ≡ with_receipt r book
      → lasts_in_piece (piece_of r.number book) + r.lasts ≤ 1 → ReturnedBlock block.number s t
      → IsOwed mint way rest book s.lent back → Owes mint way new t.lent rest
  lent_home mint way rest book new s t back block r is now most ret o =
      let p : IsOwed mint way rest book s.lent (LentBack block r) = subst (IsOwed mint way rest book s.lent) is o in
      subst (λ b. Owes mint way b t.lent rest) (sym now)
      (subst (λ bs. Owes mint way (with_receipt r book) bs rest) (sym (ap (λ (h : HostState). h.lent) ret))
      (owes_lent mint way book s.lent rest block.number r p.0 p.1.0 p.1.1 most))

  still_home : (mint : Numbers) (old new : List Noted) (b : Back O) → KnowsSame old new → IsHome mint old b
      → IsHome mint new b
  still_home mint old new (Kept r) f h = (f r.number ∙ h.0, h.1)
  still_home mint old new (LentBack l r) f h = (f r.number ∙ h.0, h.1)
  still_home mint old new Nothing f h = tt
  still_home mint old new (Done r) f h = absurd h
  still_home mint old new (Ran o r) f h = absurd h
  still_home mint old new (Tag t r) f h = absurd h

  all_still : (mint : Numbers) (old new : List Noted) (bs : List (Back O)) → KnowsSame old new
      → Each (IsHome mint old) bs → Each (IsHome mint new) bs
  all_still mint old new [] f h = tt
  all_still mint old new (b ∷ bs) f h = (still_home mint old new b f h.0, all_still mint old new bs f h.1)

  pub next_owed : (mint : Numbers) (way : ℕ
      → ℕ) (rest : List (Stake O)) (book : List Noted) (out : List ℕ) (all bs : List (Back O)) (b : Back O)
      → all ≡ b ∷ bs → AreOwed mint way rest book out all
      → IsOwed mint way (stakes_in bs ++ rest) book out b
  next_owed mint way rest book out all bs b is o =
      let first = subst (AreOwed mint way rest book out) is o in
      (subst (λ xs. Owes mint way book out xs) (append_assoc (stakes_of b) (stakes_in bs) rest) first.0, first.1.0)

  pub then_owed : (mint : Numbers) (way : ℕ
      → ℕ) (rest : List (Stake O)) (book new : List Noted) (out out' : List ℕ) (all bs : List (Back O)) (b : Back O) → all ≡ b ∷ bs → AreOwed mint way rest book out all
      → Owes mint way new out' (stakes_in bs ++ rest) → KnowsSame book new → AreOwed mint way rest new out' bs
  then_owed mint way rest book new out out' all bs b is o owes f =
      (owes, all_still mint book new bs f (subst (AreOwed mint way rest book out) is o).1.1)

  pub none_owed : (mint : Numbers) (way : ℕ
      → ℕ) (rest : List (Stake O)) (book : List Noted) (out : List ℕ) (bs : List (Back O)) → bs ≡ []
      → AreOwed mint way rest book out bs → Owes mint way book out rest
  none_owed mint way rest book out bs is o = (subst (AreOwed mint way rest book out) is o).0

  pub nothing_home : (mint : Numbers) (way : ℕ
      → ℕ) (rest : List (Stake O)) (book : List Noted) (out : List ℕ) (back : Back O) → back ≡ Nothing
      → IsOwed mint way rest book out back → Owes mint way book out rest
  nothing_home mint way rest book out back is o = (subst (IsOwed mint way rest book out) is o).0
