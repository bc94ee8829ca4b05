-- One step on the table's word. Whoever opens the table's invariant for it finds a state that keeps the rule, and has
-- to leave one. Assumes `Logic`.
use Rattle.std.proofs.Common.{◌≡◌, ℕ, zero, suc, ◌+◌, ◌*◌, ◌<◌, List, [], ◌∷◌, ◌++◌, length, get_or, set, refl, sym, subst, ◌∙◌, arith, length-set}
use mathlib.Core.Option.{some}
use lib.ListN.{get_elem?}
use seplogic.Ra.Ura.{Ura}
use base.Fraction.{full_share}
use base.Share.{quarter, three_quarters}
use base.Stored.{Coded}
use base.Logic.{SProp, ent, sep, ex, all, upd, guard, apply∗, all_e, upd_i}
use base.Fml.{Lft, Share, Fml, ftrue, fsep}
use types.Logic.{Logic, sem}
use types.Keyed.{entries_take}
use types.Kit as Kit
use types.Kit.{‵, raw, ◌⊛◌, given, ◌$◌, ◌∵◌, !, qed, by, move, drop, split, join, fsplit, fsplit3, fjoin, fjoin3, fpick, fpack, pick, learn, show, frame, each, assume, suffices, settle, done, use1, use2, rewrite}
use denote.RattleType.{RattleType}
use denote.RawPtr.{Ptr, block_of, count_of}
use denote.Steps.{nothing}
use Rattle.core.specs.Sync.RawAtomic.{always}
use Rattle.core.proofs.raw_atomic.Asked.{Lies, Again}
use Rattle.atomic_table.specs.Table.{State}
use Rattle.atomic_table.specs.Seated.{word, fact, row, halved, seen, unused, roster, TableId, age, standing, inner}
use Rattle.atomic_table.proofs.Roster.{row_at, Reset, moves, resets}

module _ {M : Type 1} {𝓤 : Ura M} (𝓛 : Logic 𝓤) {V : Type 0} (cv : Coded V) (γ : ℕ) where
  -- the part of its view that a seat keeps
  abbrev pub own : ℕ → V → Fml
  own i v = seen cv.code γ i three_quarters v

  abbrev pub all_seats : List V → Fml
  all_seats = roster cv.code γ 0

  -- a seat's view is the one that the table has of it, and can become any other
  abbrev pub Revised : List V → ℕ → V → SProp 𝓤
  Revised vs i v = upd 𝓤 (sep 𝓤 (sem 𝓛 (all_seats (set vs i v))) (sem 𝓛 (own i v)))

  pub revise : (vs : List V) (i : ℕ) (old : V) → ent 𝓤 (sep 𝓤 (sem 𝓛 (all_seats vs)) (sem 𝓛 (own i old))) (guard 𝓤 (get_elem? vs i ≡ some old) (all 𝓤 (Revised vs i)))
  revise vs i old = moves 𝓛 cv γ vs 0 i i old (omega arith)

  -- A seat that comes to those from the number k on has the number after theirs: it is split off what no seat has yet
  pub seat_comes : (vs : List V) (k n : ℕ) (v : V) → n ≡ k + length vs → ent 𝓤 (sem 𝓛 (roster cv.code γ k vs)) (upd 𝓤 (sep 𝓤 (sem 𝓛 (own n v)) (sem 𝓛 (roster cv.code γ k (vs ++ v ∷ [])))))
  seat_comes [] k n v number = let Z = sep 𝓤 (sem 𝓛 (own n v)) (sem 𝓛 (roster cv.code γ k (v ∷ []))) in let next : k ≡ n = omega (arith, number) in
      qed 𝓛 (‵ (roster cv.code γ k []) ∷ []) ∵ fpick ! (λ spare.
      use1 𝓛 (‵ (seen cv.code γ k full_share spare) ⊛ ‵ (unused cv.code γ (suc k) spare)) (entries_take halved 𝓛 γ k (λ _. (full_share, cv.code spare))) $ split ! $
      use1 𝓛 (raw (upd 𝓤 (sep 𝓤 (sem 𝓛 (seen cv.code γ k quarter v)) (sem 𝓛 (own k v))))) (resets 𝓛 cv γ k spare v) $
      settle 𝓛 Z (‵ (seen cv.code γ k quarter v) ⊛ ‵ (own k v)) $ suffices ! Z (upd_i 𝓤 Z) $ split ! $
      rewrite ! 1 (λ m. ‵ (own m v)) next refl $ move ! (1 ∷ []) $ frame ! $ frame ! $ fpack ! V (unused cv.code γ (suc k)) spare $ done !)
  seat_comes (u ∷ us) k n v number = let Z = sep 𝓤 (sem 𝓛 (own n v)) (sem 𝓛 (roster cv.code γ k (u ∷ (us ++ v ∷ [])))) in
      qed 𝓛 (‵ (seen cv.code γ k quarter u) ∷ ‵ (roster cv.code γ (suc k) us) ∷ []) ∵ move ! (1 ∷ []) $
      use1 𝓛 (raw (upd 𝓤 (sep 𝓤 (sem 𝓛 (own n v)) (sem 𝓛 (roster cv.code γ (suc k) (us ++ v ∷ [])))))) (seat_comes us (suc k) n v (omega (arith, number))) $
      settle 𝓛 Z (‵ (own n v) ⊛ ‵ (roster cv.code γ (suc k) (us ++ v ∷ []))) $ suffices ! Z (upd_i 𝓤 Z) $ split ! $ frame ! $ move ! (1 ∷ 0 ∷ []) $ done !

module _ {M : Type 1} {𝓤 : Ura M} (𝓛 : Logic 𝓤) (R : RattleType) {V : Type 0} (cv : Coded V) (holds : State R.Denot V → Type 0) (w p : Ptr) (z : TableId) where
  abbrev pub Table : Type 0
  Table = State R.Denot V

  abbrev pub found : Table → ℕ
  found s = get_or s.words 0 0

  -- the word has become f of what it was, and the seats' views are vs
  abbrev pub turned : (ℕ → ℕ) → Table → List V → Table
  turned f s vs = record { words = set s.words 0 (f (found s)); homes = s.homes; views = vs }

  module _ (f : ℕ → ℕ) (left : ℕ → Fml) where
    -- views with which the rule holds of the turned table, and what is left over of the step
    abbrev pub Turns : Table → List V → SProp 𝓤
    Turns s vs = guard 𝓤 (holds (turned f s vs)) (sep 𝓤 (sem 𝓛 (roster cv.code z.views_name 0 vs)) (sem 𝓛 (left (found s))))

    abbrev pub Turning : SProp 𝓤 → Type 1
    Turning brought = (s : Table) → holds s → ent 𝓤 (sep 𝓤 (sem 𝓛 (roster cv.code z.views_name 0 s.views)) brought) (upd 𝓤 (ex 𝓤 (Turns s)))

    -- The word is lent to the step, and once it is back the views turn: nothing else of the table changes
    pub word_turns : (κ : Lft) (q : Share) (brought : SProp 𝓤) → 0 < z.words → Turning brought
        → ent 𝓤 (sep 𝓤 (sem 𝓛 (inner R cv.code holds w p z)) brought) (upd 𝓤 (ex 𝓤 (Lies 𝓛 κ q (inner R cv.code holds w p z) (block_of w) (0 * 8 + count_of w) f always left)))
    word_turns κ q brought inside turning =
        let b = block_of w in let o = count_of w in let e = 0 * 8 + count_of w in let I = inner R cv.code holds w p z in let Asks = Lies 𝓛 κ q I b e f always left in
        qed 𝓛 (‵ I ∷ raw brought ∷ []) ∵ suffices ! _ (upd_i 𝓤 (ex 𝓤 Asks)) $ fpick ! (λ s. fsplit3 ! $ move ! (2 ∷ []) $ fpick ! (λ fine. drop ! $
        let n = found s in let Ends = sep 𝓤 (sem 𝓛 I) (sem 𝓛 (left n)) in
        -- [the words; slots and views; what is brought]
        use1 𝓛 (‵ (word b e n) ⊛ raw (all 𝓤 (Reset 𝓛 b o e s.words 0))) (row_at 𝓛 b o e s.words 0 (let long = fine.1 in omega (arith, inside, long)) refl) $ split ! $
        show ! Asks n $ frame ! $ each ! (λ (_ : Unit {0}). Again 𝓛 κ q I b e f always left n) (λ _. assume ! (‵ (word b e (f n))) $ move ! (1 ∷ []) $
        use1 𝓛 (raw (Reset 𝓛 b o e s.words 0 (f n))) (all_e 𝓤 (Reset 𝓛 b o e s.words 0) (f n)) $ move ! (1 ∷ 0 ∷ []) $
        use2 𝓛 (‵ (row b o (set s.words 0 (f n)))) (apply∗ 𝓤 (sem 𝓛 (word b e (f n))) (sem 𝓛 (row b o (set s.words 0 (f n))))) $ move ! (1 ∷ []) $ fsplit ! $ move ! (1 ∷ 3 ∷ []) $
        -- [the views; what is brought; the slots; the words]
        use2 𝓛 (raw (upd 𝓤 (ex 𝓤 (Turns s)))) (turning s fine.0) $
        settle 𝓛 Ends (Kit.some (λ vs. given (holds (turned f s vs)) (‵ (roster cv.code z.views_name 0 vs) ⊛ ‵ (left n)))) $ suffices ! Ends (upd_i 𝓤 Ends) $
        pick ! (λ vs. learn ! (λ kept. let t = turned f s vs in split ! $ move ! (2 ∷ 0 ∷ []) $ fjoin ! $
        nothing ! $ fpack ! (holds t × (length t.words ≡ z.words) × (length t.homes ≡ z.slots)) (λ _. ftrue) (kept, length-set s.words 0 (f n) ∙ fine.1, fine.2) $
        move ! (3 ∷ 1 ∷ 0 ∷ []) $ fjoin3 ! $ fpack ! Table (standing R cv.code holds w p z) t $ frame ! $ done !)))))
