-- A seat's step with its pool: both views change in the step on the word, and parts go one way or the other. Assumes
-- `Logic`.
use Rattle.std.proofs.Common.{◌≡◌, ℕ, ◌+◌, ◌-◌, ◌*◌, ◌^◌, ◌<◌, ◌≤◌, List, [], ◌∷◌, ◌++◌, length, length-set, get_or, set, sym, ◌∙◌, refl, arith, subst}
use mathlib.Core.Option.{some}
use mathlib.Core.Logic.{dite}
use native.Mathlib.Decide.{ℕ_discrete}
use lib.ListN.{get_elem?}
use seplogic.Ra.Ura.{Ura}
use base.Stored.{Coded}
use base.Logic.{SProp, ent, sep, ex, all, upd, all_e, upd_i}
use base.Fml.{Share, Fml, ftrue, fsep, fex, fall, fbor, flft}
use types.Logic.{Logic, sem}
use types.Kit.{‵, raw, ◌⊛◌, given, ◌$◌, ◌∵◌, !, qed, by, move, drop, split, fsplit, fjoin, fpick, fpack, learn, check, show, frame, suffices, settle, done, use1, use2, rewrite}
use denote.RattleType.{RattleType}
use denote.RawPtr.{Ptr, block_ptr, block_of, count_of}
use denote.Steps.{nothing}
use Rattle.core.specs.Sync.RawAtomic.{asks, always}
use Rattle.core.proofs.raw_atomic.Asked.{borrowed, borrowed_with}
use Rattle.atomic_table.specs.Table.{State, Me}
use Rattle.atomic_table.specs.Seated.{fact, roster, TableId, age, inner, common, mine}
use Rattle.atomic_table.proofs.Roster.{apart}
use Rattle.atomic_table.proofs.Lists.{set_else, set_again}
use Rattle.counted_payload.specs.Parted.{tokens, pile}
use Rattle.counted_payload.specs.Loans.{others, pooled, Pool}
use Rattle.counted_payload.proofs.Parts.{heap, heaped}
use Rattle.counted_payload.proofs.Turning.{own, Revised, revise, seat_comes, turned, Turns, Turning, word_turns}

-- a load leaves the words as they are
same_word : (ns : List ℕ) → set ns 0 (get_or ns 0 0) ≡ ns
same_word [] = refl
same_word (n ∷ ns) = refl

module _ {M : Type 1} {𝓤 : Ura M} (𝓛 : Logic 𝓤) {V : Type 0} (cv : Coded V) (out : V → ℕ) (z : TableId) (a pool k : ℕ) (deed : Fml) where
  abbrev beside : V → Fml
  beside = others cv.code out z a pool deed

  -- what is owned under a condition is owned, and under one that fails it is nothing
  pub under : (φ : Type 0) (F : Fml) → ent 𝓤 (sem 𝓛 F) (sem 𝓛 (fall φ (λ _. F)))
  under φ F = record { apply = λ r had _. had }

  pub vain : (φ : Type 0) (F : Fml) → (φ → ⊥) → ent 𝓤 (sem 𝓛 ftrue) (sem 𝓛 (fall φ (λ _. F)))
  vain φ F never = record { apply = λ r _ x. absurd (never x) }

  -- k parts come to those that the pool has beside it, whose entry says afterwards that k fewer are out
  pub received : (u u' : V) → 0 < k → k ≤ out u → out u ≤ 2 ^ 62 → out u' ≡ out u - k → ent 𝓤 (sep 𝓤 (sem 𝓛 (tokens a k)) (sem 𝓛 (beside u))) (sem 𝓛 (fsep (pile a (2 ^ 62 - out u')) deed))
  received u u' some_parts most all_ fewer = let m = out u in let sum : (2 ^ 62 - m) + k ≡ 2 ^ 62 - out u' = omega (arith, fewer, most, all_) in
      qed 𝓛 (‵ (tokens a k) ∷ ‵ (beside u) ∷ []) ∵ rewrite ! 0 (λ (F : Fml). ‵ F) (sym (heaped a k some_parts)) refl $ move ! (1 ∷ []) $
      use1 𝓛 (‵ (fsep (pile a (2 ^ 62 - m)) deed)) (all_e 𝓤 (λ (_ : 0 < m). sem 𝓛 (fsep (pile a (2 ^ 62 - m)) deed)) (omega (arith, some_parts, most))) $ fsplit ! $ move ! (0 ∷ 2 ∷ []) $
      use2 𝓛 (‵ (pile a (2 ^ 62 - out u'))) (heap 𝓛 a (2 ^ 62 - m) k (2 ^ 62 - out u') sum (omega arith)) $ fjoin ! $ done !

module _ {M : Type 1} {𝓤 : Ura M} (𝓛 : Logic 𝓤) (R : RattleType) {V : Type 0} (cv : Coded V) (holds : State R.Denot V → Type 0) (out : V → ℕ) (w p : Ptr) (z : TableId) where
  open 𝓛 use {A}

  abbrev Table : Type 0
  Table = State R.Denot V

  abbrev PI : Fml
  PI = inner R cv.code holds w p z

  -- The seat id has the view me and k parts out of the pool, whose seat is another. By a step that finds n its view
  -- becomes `went n`, what `told n` says is known, and `due n` is had in place of the parts
  module _ (a pool id k : ℕ) (deed : Fml) (me : Me R.Denot V) (f : ℕ → ℕ) (went : ℕ → V) (told : ℕ → Type 0) (due : ℕ → Fml) where
    abbrev PJ : Fml
    PJ = Pool cv.code out z a pool deed

    abbrev pub after : ℕ → Fml
    after n = fsep (fact (told n)) (fsep (mine R cv.code z id (went n, me.1)) (due n))

    -- where the pool's entry is u, and n is found, it may become u': the parts pay for that, and for what is due
    abbrev pub Pays : ℕ → V → V → Type 1
    Pays n u u' = ent 𝓤 (sep 𝓤 (sem 𝓛 (tokens a k)) (sem 𝓛 (others cv.code out z a pool deed u))) (sep 𝓤 (sem 𝓛 (others cv.code out z a pool deed u')) (sem 𝓛 (due n)))

    -- the rule lets both entries change in one step
    abbrev pub Lets : Type 1
    Lets = (s : Table) (u : V) → holds s → get_elem? s.views id ≡ some me.0 → get_elem? s.views pool ≡ some u → ¬ (pool ≡ id)
        → (u' : V) × Pays (get_or s.words 0 0) u u' × holds (turned 𝓛 R cv holds w p z f s (set (set s.views id (went (get_or s.words 0 0))) pool u')) × told (get_or s.words 0 0)

    abbrev Brought : SProp 𝓤
    Brought = sep 𝓤 (sem 𝓛 (mine R cv.code z id me)) (sem 𝓛 (tokens a k))

    trade : Lets → Turning 𝓛 R cv holds w p z f (λ n. fsep PJ (after n)) (sep 𝓤 (sem 𝓛 PJ) Brought)
    trade lets s fine =
        let γ = z.views_name in let n = get_or s.words 0 0 in let v = went n in let vs = set s.views id v in let Result = Turns 𝓛 R cv holds w p z f (λ m. fsep PJ (after m)) s in
        qed 𝓛 (‵ (roster cv.code γ 0 s.views) ∷ ‵ PJ ∷ ‵ (mine R cv.code z id me) ∷ ‵ (tokens a k) ∷ []) ∵
        move ! (1 ∷ []) $ fpick ! (λ u. fsplit ! $ move ! (3 ∷ []) $ fsplit ! $ move ! (0 ∷ 2 ∷ []) $
        use2 𝓛 (given (¬ (pool ≡ id)) (‵ (own 𝓛 cv γ id me.0) ⊛ ‵ (own 𝓛 cv γ pool u))) (apart 𝓛 cv γ id pool me.0 u) $ learn ! (λ two. split ! $
        -- [the seat's view; the pool's; what it carries; the others; all views; the parts]
        move ! (4 ∷ 0 ∷ []) $ use2 𝓛 (given (get_elem? s.views id ≡ some me.0) (raw (all 𝓤 (Revised 𝓛 cv γ s.views id)))) (revise 𝓛 cv γ s.views id me.0) $ learn ! (λ here.
        use1 𝓛 (raw (Revised 𝓛 cv γ s.views id v)) (all_e 𝓤 (Revised 𝓛 cv γ s.views id) v) $ settle 𝓛 (ex 𝓤 Result) (‵ (roster cv.code γ 0 vs) ⊛ ‵ (own 𝓛 cv γ id v)) $ split ! $ move ! (0 ∷ 2 ∷ []) $
        use2 𝓛 (given (get_elem? vs pool ≡ some u) (raw (all 𝓤 (Revised 𝓛 cv γ vs pool)))) (revise 𝓛 cv γ vs pool u) $ learn ! (λ there.
        let r = lets s u fine here (sym (set_else s.views id pool v two) ∙ there) two in let u' = r.0 in let xs = set vs pool u' in
        use1 𝓛 (raw (Revised 𝓛 cv γ vs pool u')) (all_e 𝓤 (Revised 𝓛 cv γ vs pool) u') $ settle 𝓛 (ex 𝓤 Result) (‵ (roster cv.code γ 0 xs) ⊛ ‵ (own 𝓛 cv γ pool u')) $ split ! $
        -- [all views; the pool's view; the seat's; what it carries; the others; the parts]
        suffices ! _ (upd_i 𝓤 (ex 𝓤 Result)) $ show ! Result xs $ check ! r.2 $ frame ! $ move ! (4 ∷ 3 ∷ []) $
        use2 𝓛 (‵ (others cv.code out z a pool deed u') ⊛ ‵ (due n)) r.1 $ split ! $ move ! (2 ∷ 0 ∷ []) $ fjoin ! $ fpack ! V (pooled cv.code out z a pool deed) u' $
        -- [the pool; what is due; the seat's view; what it carries]
        move ! (2 ∷ 3 ∷ []) $ fjoin ! $ move ! (0 ∷ 2 ∷ []) $ fjoin ! $ nothing ! $ fpack ! (told n) (λ _. ftrue) r.3 $ fjoin ! $ move ! (1 ∷ 0 ∷ []) $ fjoin ! $ done !))))

    -- Both invariants are open for the step, and the trade is what happens in between
    pub trades : (q : Share) (ni nj : ℕ) → ¬ (nj ≡ ni) → 0 < z.words → Lets
        → ent 𝓤 (sep 𝓤 (A.named ni (fbor (age z) PI)) (sep 𝓤 (A.named nj PJ) (sep 𝓤 (A.lft (age z) q) Brought))) (asks 𝓛 (block_ptr (block_of w) (0 * 8 + count_of w)) f always (λ n. fsep (flft (age z) q) (after n)))
    trades q ni nj two inside lets = borrowed_with 𝓛 (age z) q PI (block_of w) (0 * 8 + count_of w) f always after ni nj PJ two Brought
        (word_turns 𝓛 R cv holds w p z f (λ n. fsep PJ (after n)) (age z) q (sep 𝓤 (sem 𝓛 PJ) Brought) inside (trade lets))

  module _ (a pool id k : ℕ) (deed : Fml) (me : Me R.Denot V) (went : ℕ → V) (less : V → V) (told : ℕ → Type 0) where
    -- all parts, and the right that they were lent by, where k is found
    abbrev pub gain : ℕ → Fml
    gain n = fall (n ≡ k) (λ _. fsep (tokens a (2 ^ 62)) deed)

    -- and the parts as they were, where it isn't
    abbrev pub stay : ℕ → Fml
    stay n = fall (¬ (n ≡ k)) (λ _. tokens a k)

    abbrev with_pool : V → Fml
    with_pool = others cv.code out z a pool deed

    -- a pool of which nothing is out has nothing with_pool it: all parts come out
    emptied : (u u' : V) → 0 < k → k ≡ out u → k ≤ 2 ^ 62 → out u' ≡ 0 → ent 𝓤 (sep 𝓤 (sem 𝓛 (tokens a k)) (sem 𝓛 (with_pool u))) (sep 𝓤 (sem 𝓛 (with_pool u')) (sem 𝓛 (fsep (tokens a (2 ^ 62)) deed)))
    emptied u u' some_parts all_out fits none_out = let whole : 2 ^ 62 - out u' ≡ 2 ^ 62 = omega (arith, none_out) in
        qed 𝓛 (‵ (tokens a k) ∷ ‵ (with_pool u) ∷ []) ∵
        use2 𝓛 (‵ (fsep (pile a (2 ^ 62 - out u')) deed)) (received 𝓛 cv out z a pool k deed u u' some_parts (omega (arith, all_out)) (omega (arith, all_out, fits)) (omega (arith, all_out, none_out))) $
        rewrite ! 0 (λ m. ‵ (fsep (pile a m) deed)) whole refl $ nothing ! $
        use1 𝓛 (‵ (with_pool u')) (vain 𝓛 cv out z a pool k deed (0 < out u') (fsep (pile a (2 ^ 62 - out u')) deed) (λ x. omega (arith, x, none_out))) $ frame ! $ done !

    -- a step that gives the parts back
    pub gives_back : (f : ℕ → ℕ) → 0 < k
        → ((s : Table) (u : V) → holds s → get_elem? s.views id ≡ some me.0 → get_elem? s.views pool ≡ some u → ¬ (pool ≡ id)
        → (k ≤ out u) × (out u ≤ 2 ^ 62) × (out (less u) ≡ out u - k) × (get_or s.words 0 0 ≡ k → out u ≡ k)
        × holds (turned 𝓛 R cv holds w p z f s (set (set s.views id (went (get_or s.words 0 0))) pool (less u))) × told (get_or s.words 0 0))
        → Lets a pool id k deed me f went told gain
    gives_back f some_parts law s u fine at there two =
        let r = law s u fine at there two in let most = r.0 in let low = r.1 in let left = r.2 in let n = get_or s.words 0 0 in let u' = less u in let rest = fsep (pile a (2 ^ 62 - out u')) deed in (
          u',
          dite (ℕ_discrete n k)
              (λ hit. let all_out = r.3 hit in qed 𝓛 (‵ (tokens a k) ∷ ‵ (with_pool u) ∷ []) ∵
              use2 𝓛 (‵ (with_pool u') ⊛ ‵ (fsep (tokens a (2 ^ 62)) deed)) (emptied u u' some_parts (sym all_out) (omega (arith, most, low)) (omega (arith, left, all_out))) $ split ! $ frame ! $
              by ! (under 𝓛 cv out z a pool k deed (n ≡ k) (fsep (tokens a (2 ^ 62)) deed)))
              (λ miss. qed 𝓛 (‵ (tokens a k) ∷ ‵ (with_pool u) ∷ []) ∵
              use2 𝓛 (‵ rest) (received 𝓛 cv out z a pool k deed u u' some_parts most low left) $ use1 𝓛 (‵ (with_pool u')) (under 𝓛 cv out z a pool k deed (0 < out u') rest) $ frame ! $
              nothing ! $ by ! (vain 𝓛 cv out z a pool k deed (n ≡ k) (fsep (tokens a (2 ^ 62)) deed) miss)),
          r.4,
          r.5,
        )

    -- a load that takes all parts where it finds k, and else changes the seat's view alone
    pub takes_home : 0 < k → k ≤ 2 ^ 62
        → ((s : Table) (u : V) → holds s → get_elem? s.views id ≡ some me.0 → get_elem? s.views pool ≡ some u → ¬ (pool ≡ id) → get_or s.words 0 0 ≡ k
        → (out u ≡ k) × (out (less u) ≡ 0) × holds (turned 𝓛 R cv holds w p z (λ n. n) s (set (set s.views id (went (get_or s.words 0 0))) pool (less u))) × told (get_or s.words 0 0))
        → ((s : Table) → holds s → get_elem? s.views id ≡ some me.0 → ¬ (get_or s.words 0 0 ≡ k)
        → holds (turned 𝓛 R cv holds w p z (λ n. n) s (set s.views id (went (get_or s.words 0 0)))) × told (get_or s.words 0 0))
        → Lets a pool id k deed me (λ n. n) went told (λ n. fsep (gain n) (stay n))
    takes_home some_parts fits taken kept s u fine at there two =
        let n = get_or s.words 0 0 in let vs = set s.views id (went n) in dite (ℕ_discrete n k)
        (λ hit. let r = taken s u fine at there two hit in let u' = less u in (
          u',
          (qed 𝓛 (‵ (tokens a k) ∷ ‵ (with_pool u) ∷ []) ∵
              use2 𝓛 (‵ (with_pool u') ⊛ ‵ (fsep (tokens a (2 ^ 62)) deed)) (emptied u u' some_parts (sym r.0) fits r.1) $ split ! $ frame ! $
              use1 𝓛 (‵ (gain n)) (under 𝓛 cv out z a pool k deed (n ≡ k) (fsep (tokens a (2 ^ 62)) deed)) $ frame ! $
              nothing ! $ by ! (vain 𝓛 cv out z a pool k deed (¬ (n ≡ k)) (tokens a k) (λ miss. miss hit))),
          r.2,
          r.3,
        ))
        (λ miss. let r = kept s fine at miss in let same = set_again vs pool u (set_else s.views id pool (went n) two ∙ there) in (
          u,
          (qed 𝓛 (‵ (tokens a k) ∷ ‵ (with_pool u) ∷ []) ∵ move ! (1 ∷ []) $ frame ! $
              use1 𝓛 (‵ (stay n)) (under 𝓛 cv out z a pool k deed (¬ (n ≡ k)) (tokens a k)) $
              nothing ! $ use1 𝓛 (‵ (gain n)) (vain 𝓛 cv out z a pool k deed (n ≡ k) (fsep (tokens a (2 ^ 62)) deed) miss) $ frame ! $ done !),
          subst (λ xs. holds (turned 𝓛 R cv holds w p z (λ m. m) s xs)) (sym same) r.0,
          r.1,
        ))

  -- A seat that lends its payload: with the load a seat for the new pool comes, and both know its number
  module _ (id : ℕ) (me : Me R.Denot V) (went : ℕ → V) (u : V) where
    abbrev pub made : ℕ → Fml
    made j = fsep (mine R cv.code z id (went j, me.1)) (own 𝓛 cv z.views_name j u)

    abbrev pub Founds : Type 0
    Founds = (s : Table) → holds s → get_elem? s.views id ≡ some me.0 → holds record { words = s.words; homes = s.homes; views = set s.views id (went (length s.views)) ++ u ∷ [] }

    pool_comes : Founds → Turning 𝓛 R cv holds w p z (λ n. n) (λ _. fex ℕ made) (sem 𝓛 (mine R cv.code z id me))
    pool_comes lets s fine =
        let γ = z.views_name in let j = length s.views in let v = went j in let vs = set s.views id v in let xs = vs ++ u ∷ [] in let Result = Turns 𝓛 R cv holds w p z (λ n. n) (λ _. fex ℕ made) s in
        qed 𝓛 (‵ (roster cv.code γ 0 s.views) ∷ ‵ (mine R cv.code z id me) ∷ []) ∵ move ! (1 ∷ []) $ fsplit ! $ move ! (2 ∷ 0 ∷ []) $
        use2 𝓛 (given (get_elem? s.views id ≡ some me.0) (raw (all 𝓤 (Revised 𝓛 cv γ s.views id)))) (revise 𝓛 cv γ s.views id me.0) $ learn ! (λ here.
        use1 𝓛 (raw (Revised 𝓛 cv γ s.views id v)) (all_e 𝓤 (Revised 𝓛 cv γ s.views id) v) $ settle 𝓛 (ex 𝓤 Result) (‵ (roster cv.code γ 0 vs) ⊛ ‵ (own 𝓛 cv γ id v)) $ split ! $
        use1 𝓛 (raw (upd 𝓤 (sep 𝓤 (sem 𝓛 (own 𝓛 cv γ j u)) (sem 𝓛 (roster cv.code γ 0 xs))))) (seat_comes 𝓛 cv γ vs 0 j u (let long = length-set s.views id v in omega (arith, long))) $
        settle 𝓛 (ex 𝓤 Result) (‵ (own 𝓛 cv γ j u) ⊛ ‵ (roster cv.code γ 0 xs)) $ split ! $
        suffices ! _ (upd_i 𝓤 (ex 𝓤 Result)) $ show ! Result xs $
        check ! (subst (λ ns. holds record { words = ns; homes = s.homes; views = xs }) (sym (same_word s.words)) (lets s fine here)) $ move ! (1 ∷ []) $ frame ! $
        move ! (1 ∷ 2 ∷ []) $ fjoin ! $ fjoin ! $ fpack ! ℕ made j $ done !)

    pub founds : (q : Share) → 0 < z.words → Founds
        → ent 𝓤 (sep 𝓤 (sem 𝓛 (common R cv.code holds w p z)) (sep 𝓤 (A.lft (age z) q) (sem 𝓛 (mine R cv.code z id me)))) (asks 𝓛 (block_ptr (block_of w) (0 * 8 + count_of w)) (λ n. n) always (λ n. fsep (flft (age z) q) (fex ℕ made)))
    founds q inside lets = qed 𝓛 (‵ (common R cv.code holds w p z) ∷ ‵ (flft (age z) q) ∷ ‵ (mine R cv.code z id me) ∷ []) ∵ fsplit ! $ drop ! $
        by ! (borrowed 𝓛 (age z) q PI (block_of w) (0 * 8 + count_of w) (λ n. n) always (λ _. fex ℕ made) (sem 𝓛 (mine R cv.code z id me))
        (word_turns 𝓛 R cv holds w p z (λ n. n) (λ _. fex ℕ made) (age z) q (sem 𝓛 (mine R cv.code z id me)) inside (pool_comes lets)))
