-- What is true of the definitions.
use Rattle.std.specs.Prelude.{◌≡◌, ℕ, ◌+◌, ◌≤◌, List, ◌∷◌, [], ◌++◌, length, Some}
use Rattle.share_count.specs.Held.{Tally}
use Rattle.buffer_model.specs.Share.{Share, Way, IsOfStorage, rest_of, part_of, absorbed_in}
use Rattle.buffer_model.specs.Segment.{Segment, block_of, bytes_of, cut, trimmed_start, trimmed_end, appended, prepended}
use Rattle.buffer_model.specs.Stake.{Stake, Storage, held, counted, total, Keeps, KeepsTotals, KeepsTotalsBeside, IsNumberedIn}
use Rattle.buffer_model.specs.Minted.{Numbers, NumbersOn, AddsAtMost, IsOfMint, IsReceiptOfMint, IsNew}
use Rattle.buffer_model.specs.Clones.{Clones}

abbrev pub CutKeepsBlock : Type 0 → Type 0
CutKeepsBlock O = (block : List ℕ) (start n : ℕ) (share : Share O) → block_of (cut block start n share) ≡ block

abbrev pub TrimsCompose : Type 0 → Type 0
TrimsCompose O = (s : Segment O) (m n : ℕ) → trimmed_start n (trimmed_start m s) ≡ trimmed_start (m + n) s

abbrev pub TrimsKeepBlock : Type 0 → Type 0
TrimsKeepBlock O =
    (s : Segment O) (n : ℕ) → (block_of (trimmed_start n s) ≡ block_of s) × (block_of (trimmed_end n s) ≡ block_of s)

abbrev pub RoomsKeepBlock : Type 0 → Type 0
RoomsKeepBlock O =
    (s : Segment O) (n : ℕ) → (block_of (appended n s) ≡ block_of s) × (block_of (prepended n s) ≡ block_of s)

abbrev pub AppendUndoesTrim : Type 0 → Type 0
AppendUndoesTrim O = (s : Segment O) (n : ℕ) → n ≤ length s.window → appended n (trimmed_end n s) ≡ s

abbrev pub PrependUndoesTrim : Type 0 → Type 0
PrependUndoesTrim O = (s : Segment O) (n : ℕ) → n ≤ length s.window → prepended n (trimmed_start n s) ≡ s

abbrev pub JoinsBytes : Type 0 → Type 0
JoinsBytes O = (xs ys : List (Segment O)) → bytes_of (xs ++ ys) ≡ bytes_of xs ++ bytes_of ys

abbrev pub TotalsAdd : Type 0 → Type 0
TotalsAdd O = (z : Storage) (xs ys : List (Stake O)) → total z (xs ++ ys) ≡ total z xs + total z ys

abbrev pub KeepsAfterKeeps : Type 0 → Type 0
KeepsAfterKeeps O = (xs ys zs : List (Stake O)) → KeepsTotals xs ys → KeepsTotals ys zs → KeepsTotals xs zs

abbrev pub KeepsBesideKeeps : Type 0 → Type 0
KeepsBesideKeeps O =
    (z : Storage) (xs ys us vs : List (Stake O)) → Keeps xs us z → Keeps ys vs z → Keeps (xs ++ ys) (us ++ vs) z

abbrev pub KeepsAsMintGoesOn : Type 0 → Type 0
KeepsAsMintGoesOn O =
    (a b c : Numbers) (xs ys zs : List (Stake O)) → NumbersOn a b → NumbersOn b c
    → KeepsTotalsBeside a b xs ys → KeepsTotalsBeside b c ys zs → KeepsTotalsBeside a c xs zs

abbrev pub NothingNumberedKeepsAll : Type 0 → Type 0
NothingNumberedKeepsAll O =
    (mint : Numbers) (xs ys : List (Stake O)) → KeepsTotalsBeside mint mint xs ys → KeepsTotals xs ys

abbrev pub NoOtherStorage : Type 0 → Type 0
NoOtherStorage O =
    (old new : Numbers) (entry exit : List (Stake O)) (z : Storage) → KeepsTotalsBeside old new entry exit
    → total z entry ≡ 0 → (IsNumberedIn old new z → ⊥) → total z exit ≡ 0

abbrev pub ShareKeepsTotals : Type 0 → Type 0
ShareKeepsTotals O = (s : Share O) → 2 ≤ s.weight → KeepsTotals (held s ∷ []) (held (rest_of s) ∷ held (part_of s) ∷ [])

abbrev pub AbsorbKeepsTotals : Type 0 → Type 0
AbsorbKeepsTotals O =
    (s : Share O) (r : Tally) → IsOfStorage s r
    → KeepsTotals (held s ∷ counted r ∷ []) (held (absorbed_in r.weight s) ∷ [])

abbrev pub CloneKeepsTotals : Type 0 → Type 0
CloneKeepsTotals O =
    (old new : Numbers) (before after clone : Segment O) → Clones old new before after clone
    → KeepsTotalsBeside old new (held before.share ∷ []) (held after.share ∷ held clone.share ∷ [])

abbrev pub OneMintOneStorage : Type 0 → Type 0
OneMintOneStorage O =
    (mint : Numbers) (s : Share O) (r : Tally)
    → IsOfMint mint s → IsReceiptOfMint mint r → s.number ≡ Some r.number → IsOfStorage s r

abbrev pub AddsCompose : Type 0
AddsCompose = (m n : ℕ) (a b c : Numbers) → AddsAtMost m a b → AddsAtMost n b c → AddsAtMost (m + n) a c

abbrev pub NewStaysNew : Type 0 → Type 0
NewStaysNew O =
    (n : ℕ) (a b c : Numbers) (way : Way O) (s : Share O) → IsNew a b way s → AddsAtMost n b c → IsNew a c way s

abbrev pub NewAfterwardsIsNew : Type 0 → Type 0
NewAfterwardsIsNew O =
    (n : ℕ) (a b c : Numbers) (way : Way O) (s : Share O) → AddsAtMost n a b → IsNew b c way s → IsNew a c way s
