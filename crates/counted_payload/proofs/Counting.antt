-- The steps on a counted word, as the walks of the calls take them. Assumes `Logic`.
use Rattle.std.proofs.Common.{◌≡◌, ℕ, ◌+◌, ◌*◌, ◌<◌, ◌≤◌, ◌^◌, [], ◌∷◌, subst, arith}
use seplogic.Ra.Ura.{Ura}
use base.Logic.{ent, sep, SProp}
use base.Fml.{Lft, Share, Fml, fsep, fex, fbor, flft}
use types.Logic.{Logic, sem}
use types.Kit.{‵, ◌⊛◌, ◌$◌, ◌∵◌, !, qed, move, drop, split, fsplit, use1, done}
use denote.Builtin.{unit}
use denote.RattleType.{RattleType}
use denote.RawPtr.{Ptr, block_ptr, block_of, count_of}
use denote.Memory.{hidden_shr}
use denote.Opens.{unhide}
use base.Fml.{fhide}
use denote.Struct.Lending.{lent_out}
use denote.Struct.Tuple.{Tuple}
use Rattle.core.specs.contracts.marker.PhantomData as marker
use Rattle.core.specs.Sync.RawAtomic.{asks, always}
use Rattle.atomic_table.specs.Table.{Me}
use Rattle.atomic_table.specs.Seated.{TableId, age, place, common, inner, lasts, mine}
use Rattle.atomic_table.specs.contracts.shared.Shared as table
use Rattle.atomic_table.specs.contracts.shared.Seat as seat
use Rattle.atomic_table.proofs.Fields.{HandData}
use Rattle.counted_payload.specs.contracts.Entry as entry
use Rattle.counted_payload.specs.contracts.Rule as rule
use Rattle.counted_payload.specs.contracts.RuleTableRuleUnitEntryUnit.TheImpl as impl
use Rattle.counted_payload.specs.declared.Entry.{Entry}
use Rattle.counted_payload.specs.Accounts.{Accounted, out_of, Leaves, Lends, ClaimTaken, ClaimKept, Gave, returned, fewer, lowered, claimed, emptied, lent, pool_entry}
use Rattle.counted_payload.specs.Parted.{tokens}
use Rattle.counted_payload.specs.Loans.{Pool}
use Rattle.counted_payload.specs.CountedLoans.{entry_code}
use Rattle.counted_payload.proofs.Trading as trading

abbrev pub WordRow : RattleType
WordRow = table.the_row unit entry.the_row unit rule.the_row impl.ghosts

abbrev pub SeatRow : RattleType
SeatRow = seat.the_row unit entry.the_row

-- the data fields of a word, as the calls mirror them
abbrev pub WordData : RattleType
WordData = HandData unit entry.the_row unit rule.the_row impl.ghosts

module _ {M : Type 1} {𝓤 : Ura M} (𝓛 : Logic 𝓤) where
  open 𝓛 use {A}

  -- a `&` to a word shows its fields, that its table lasts, and the table's invariant
  pub word_shows : (κ : Lft) (t : WordRow.Denot) (b o : ℕ) → ent 𝓤 (sem 𝓛 (hidden_shr WordRow κ t b o))
      (sep 𝓤 (sem 𝓛 (hidden_shr WordData κ (t.words, (t.slots, (tt, tt))) b o)) (sep 𝓤 (sem 𝓛 (lasts t.table_id κ)) (sem 𝓛 (common unit entry_code.code Accounted t.words t.slots t.table_id))))
  unfolding Rattle.atomic_table.specs.Seated.seal
  word_shows κ t b o = qed 𝓛 (‵ (hidden_shr WordRow κ t b o) ∷ []) ∵
      use1 𝓛 (‵ (hidden_shr WordData κ (t.words, (t.slots, (tt, tt))) b o) ⊛ ‵ (fhide (table.the_lent unit entry.the_row unit rule.the_row impl.ghosts t (block_ptr b o) κ)))
      (lent_out 𝓛 (table.struct unit entry.the_row unit rule.the_row impl.ghosts)
      (table.the_codes (Unit {0}) Entry (Unit {0}) rule.the_row.Denot unit.coded entry.the_row.coded unit.coded rule.the_row.coded (marker.the_row (Tuple (rule.the_row ∷ entry.the_row ∷ unit ∷ []))).coded)
      (table.the_heap unit entry.the_row unit rule.the_row impl.ghosts) (table.the_lent unit entry.the_row unit rule.the_row impl.ghosts) κ t b o) $
      split ! $ move ! (1 ∷ []) $ unhide ! $ fsplit ! $ move ! (2 ∷ 0 ∷ []) $ done !

  module _ (w : Ptr) (z : TableId) where
    -- the word's invariant
    abbrev pub Counts : Fml
    Counts = inner unit entry_code.code Accounted w (place z) z

    -- a step asks for the word where the table's words begin
    first_word : (P : SProp 𝓤) (f : ℕ → ℕ) (then : ℕ → Fml) → ent 𝓤 P (asks 𝓛 (block_ptr (block_of w) (0 * 8 + count_of w)) f always then) → ent 𝓤 P (asks 𝓛 (block_ptr (block_of w) (count_of w)) f always then)
    first_word P f then h = let same : 0 * 8 + count_of w ≡ count_of w = omega arith in subst (λ e. ent 𝓤 P (asks 𝓛 (block_ptr (block_of w) e) f always then)) same h

    module _ (a pool id k : ℕ) (deed : Fml) (v : Me (Unit {0}) Entry) (q : Share) where
      -- both invariants by number, the token of the word's age, and the seat with its parts
      abbrev pub Ready : ℕ → ℕ → SProp 𝓤
      Ready i j = sep 𝓤 (A.named i (fbor (age z) Counts)) (sep 𝓤 (A.named j (Pool entry_code.code out_of z a pool deed)) (sep 𝓤 (A.lft (age z) q) (sem 𝓛 (fsep (mine unit entry_code.code z id v) (tokens a k)))))

      abbrev pub left_due : ℕ → Fml
      left_due = trading.gain 𝓛 unit entry_code Accounted out_of w (place z) z a pool id k deed v (returned v.0 k) (λ u. fewer u k) (Gave v.0 k)

      abbrev pub left : ℕ → Fml
      left n = fsep (flft (age z) q) (trading.after 𝓛 unit entry_code Accounted out_of w (place z) z a pool id k deed v (lowered k) (returned v.0 k) (Gave v.0 k) left_due n)

      pub leaves : (i j : ℕ) → ¬ (j ≡ i) → 0 < z.words → 0 < k → Leaves id v.0 k pool → ent 𝓤 (Ready i j) (asks 𝓛 (block_ptr (block_of w) (count_of w)) (lowered k) always left)
      leaves i j two inside some_parts law = first_word (Ready i j) (lowered k) left
          (trading.trades 𝓛 unit entry_code Accounted out_of w (place z) z a pool id k deed v (lowered k) (returned v.0 k) (Gave v.0 k) left_due q i j two inside
          (trading.gives_back 𝓛 unit entry_code Accounted out_of w (place z) z a pool id k deed v (returned v.0 k) (λ u. fewer u k) (Gave v.0 k) (lowered k) some_parts law))

      abbrev pub claim_due : ℕ → Fml
      claim_due n = fsep (trading.gain 𝓛 unit entry_code Accounted out_of w (place z) z a pool id k deed v (claimed v.0 k) emptied (Gave v.0 k) n) (trading.stay 𝓛 unit entry_code Accounted out_of w (place z) z a pool id k deed v (claimed v.0 k) emptied (Gave v.0 k) n)

      abbrev pub claim : ℕ → Fml
      claim n = fsep (flft (age z) q) (trading.after 𝓛 unit entry_code Accounted out_of w (place z) z a pool id k deed v (λ m. m) (claimed v.0 k) (Gave v.0 k) claim_due n)

      pub claims : (i j : ℕ) → ¬ (j ≡ i) → 0 < z.words → 0 < k → k ≤ 2 ^ 62 → ClaimTaken id v.0 k pool → ClaimKept id v.0 k → ent 𝓤 (Ready i j) (asks 𝓛 (block_ptr (block_of w) (count_of w)) (λ m. m) always claim)
      claims i j two inside some_parts fits taken kept = first_word (Ready i j) (λ m. m) claim
          (trading.trades 𝓛 unit entry_code Accounted out_of w (place z) z a pool id k deed v (λ m. m) (claimed v.0 k) (Gave v.0 k) claim_due q i j two inside
          (trading.takes_home 𝓛 unit entry_code Accounted out_of w (place z) z a pool id k deed v (claimed v.0 k) emptied (Gave v.0 k) some_parts fits taken kept))

    module _ (id k : ℕ) (v : Me (Unit {0}) Entry) (q : Share) where
      abbrev pub new_pool : ℕ → Fml
      new_pool n = fsep (flft (age z) q) (fex ℕ (trading.made 𝓛 unit entry_code Accounted out_of w (place z) z id v (lent v.0 k) (pool_entry k)))

      pub lends : 0 < z.words → Lends id v.0 k → ent 𝓤 (sep 𝓤 (sem 𝓛 (common unit entry_code.code Accounted w (place z) z)) (sep 𝓤 (A.lft (age z) q) (sem 𝓛 (mine unit entry_code.code z id v)))) (asks 𝓛 (block_ptr (block_of w) (count_of w)) (λ m. m) always new_pool)
      lends inside law = first_word (sep 𝓤 (sem 𝓛 (common unit entry_code.code Accounted w (place z) z)) (sep 𝓤 (A.lft (age z) q) (sem 𝓛 (mine unit entry_code.code z id v)))) (λ m. m) new_pool
          (trading.founds 𝓛 unit entry_code Accounted out_of w (place z) z id v (lent v.0 k) (pool_entry k) q inside law)
