-- `lend` makes the seat of a new pool in one step, and the pool's invariant after it.
use Rattle.atomic_table.proofs.Names.{◌≡◌, ℕ, suc, ◌+◌, ◌*◌, ◌^◌, ◌-◌, ◌<◌, ◌≤◌, List, [], ◌∷◌, ◌++◌, sym, refl, ap, ◌∙◌, arith, lit<, w64, a_type, dcons, dnil, named, Val, vint, vptr, vstruct, vcons, vnil, of_list, inst_fn, SProp, ent, sep, emp, id⊢, Lft, Fml, ftrue, fsep, flft, sem, ‵, raw, ◌⊛◌, given, some, later, mean, at_ret, ◌$◌, ◌∵◌, !, qed, by, move, keep, drop, split, split3, join, fsplit, fsplit3, fjoin, fjoin3, fpick, fpack, pick, learn, await, use0, use1, use2, use3, rewrite, suffices, feq_i, feq_l, stop, fld, addr, load, lit, of_opd, no_more, and_then, first, blocks, exec, Calls-last, returns, enter, alloc_all, pass_all, free_all, look_at, get, get_in, through, sets, sets_last, lands_last, is, env, agg, sub, whole, look_in, tables, no, yes, RattleType, owns, types_at, plain, Ptr, InBlock, block_ptr, ptr_val, nothing, heard, bounded, Valss, Stays, stay_dropped, walk_of, Goes-dropped, fact, fact_i, fact_use, Is, shows, cell_at, peeks, block_of, count_of, at_block, via, guard_i, RefOf, u64, mut_Tells, shr_Tells, uint_Tells, opens, closes, stay_ref, Goes-ref, unhide, hidden_shr, looks, shuts, lent_out, Tuple, shr_bor-open, obor_close, tokens_halve, subst}
use Rattle.atomic_table.proofs.Walks.{proved_at, leaves}
use base.Fml.{feq, fhide, fnamed, fbor, fall}
use denote.Builtin.{unit}
use denote.Struct.Lending.{lent_at}
use types.Owned.{named_past}
use Rattle.core.proofs.atomic.Steps.{tail}
use Rattle.core.proofs.alloc.Calls.{α, handle_tells, Goes-blank}
use Rattle.std_alloc.proofs.BoxSteps.Form as box
use Rattle.core.specs.contracts.marker.PhantomData as marker
use Rattle.core.specs.Sync.RawAtomic.{asks, always}
use Rattle.atomic_table.specs.Table.{Me}
use Rattle.atomic_table.specs.Seated.{TableId, Placed, age, place, common, lasts, mine, inner, seen}
use Rattle.atomic_table.specs.contracts.shared.Shared as table
use Rattle.atomic_table.specs.contracts.shared.Seat as seat
use Rattle.atomic_table.proofs.Fields.{hand_of, hand_good, hand_told, hand_opens, HandData, Ptr-Good, strip_good}
use Rattle.atomic_table.proofs.Moves.{placed, common_twice}
use Rattle.atomic_table.proofs.Calls.{fm, seq_cst, found, finds, loads}
use Rattle.counted_payload.specs.contracts.Entry as entry
use Rattle.counted_payload.specs.contracts.Rule as rule
use Rattle.counted_payload.specs.contracts.RuleTableRuleUnitEntryUnit.TheImpl as impl
use Rattle.counted_payload.specs.declared.Entry.{Entry}
use Rattle.counted_payload.specs.Accounts.{Accounted, out_of, lent, pool_entry, Lends}
use Rattle.counted_payload.specs.Parted.{pile, tokens, part_owns, deed_owns}
use Rattle.counted_payload.specs.Loans.{others, pooled, Pool, numbered}
use Rattle.counted_payload.specs.CountedLoans.{entry_code}
use Rattle.counted_payload.specs.contracts.Loan as loan
use Rattle.counted_payload.specs.contracts.Deed as deed
use Rattle.counted_payload.specs.contracts.Part as part
use Rattle.counted_payload.proofs.Bits.{LoanData, loan_made, handle_loan_fits}
use Rattle.counted_payload.proofs.Bits.{part_bits, part_told}
use Rattle.counted_payload.proofs.Freezing.{lies_somewhere}
use Rattle.counted_payload.proofs.Parts.{dealt, heaped}
use Rattle.counted_payload.proofs.Counting as counting
use Rattle.counted_payload.proofs.Counting.{WordRow, SeatRow, WordData, word_shows}
use Rattle.counted_payload.proofs.Holdings.{two_owned}
use Rattle.counted_payload.specs.contracts.Loan.lend.{ended, clauses}
use Rattle.counted_payload.specs.contracts.Loan.lend.Key.{name as #self}
use Rattle.counted_payload.proofs.Loan.lend.Statement.{statement}
use Rattle.counted_payload.proofs.Loan.lend.Code as code

pub lend_spec : {M : Type 1} → statement M
unfolding Rattle.atomic_table.specs.Seated.seal
lend_spec 𝓤 𝓛 𝓜 𝓡 wired X Z L LZ g d dd met md =
    let H = 𝓛.H in
    let 𝓣 = tables 𝓤 H 𝓜 𝓡 𝓡.env in
    let E : box.Bx = record { row = X; laws = L; al = record { row = Z; laws = LZ; g = g; d = d; drops = dd } } in
    let R : RattleType = box.R E in
    let P : RattleType = box.P E in
    let Row : RattleType = part.the_row R in
    let Dd : RattleType = deed.the_row R P g in
    let Lr : RattleType = loan.the_row R P g in
    let Sh : RattleType = WordRow in
    let Sr : RattleType = SeatRow in
    let D : RattleType = WordData in
    let W : RattleType = entry.the_row in
    let Sig = ended X Z g d dd in
    let inst = bounded (a_type ∷ a_type ∷ []) (X, (Z, tt)) (dcons d (dcons dd dnil)) in
    let fn = inst_fn inst code.function in
    let c = clauses X Z g d dd 𝓛 𝓜.mem 𝓡.returns in
    let shared = RefOf (0 ∷ []) tt (plain (λ _. Sh)) (λ _. tt) in
    let sitter = plain (λ _. Sr) in
    let exits : Stays Sig.signature.params Sig.kept = (stay_dropped (plain (λ _. Dd)) no, (stay_dropped (plain (λ _. Row)) no, (stay_dropped shared yes, (stay_ref (1 ∷ []) tt sitter, (stay_dropped (plain (λ _. u64)) yes, tt))))) in
    proved_at 𝓛 Sig exits c 𝓜 𝓡 (Goes-blank 𝓛 4 (plain (λ _. Dd)) no (λ κs x f. tt), (Goes-dropped 𝓛 4 (plain (λ _. Row)) no (λ κs x f. refl), (Goes-dropped 𝓛 4 shared yes (λ κs x f. refl), (Goes-ref 𝓛 4 1 tt sitter, (Goes-dropped 𝓛 4 (plain (λ _. u64)) yes (λ κs x f. refl), tt)))))
    (#self inst) fn (code.unfolded 𝓤 H 𝓜 𝓡 wired (X, (Z, tt)) d dd) (λ start are.
    let κs = start.0.0 in
    let qs = start.0.1 in
    let Exit : Val → SProp 𝓤 = (walk_of 𝓛 Sig exits c).post start in
    let Run : List Val → SProp 𝓤 = λ ws. prog.Wp.WpFn 𝓤 H 𝓣.C 𝓣.Λ fn ws Exit in
    let v : Dd.Denot = start.0.3.0 in
    let all : Row.Denot = start.0.3.1.0 in
    let t : Sh.Denot = start.0.3.1.1.0.now in
    let h : Sr.Denot = start.0.3.1.1.1.0.now in
    let k : ℕ = start.0.3.1.1.1.1.0 in
    let z : TableId = t.table_id in
    let β : Lft = age z in
    let a : Z.Denot = v.alloc in
    let x : X.Denot = v.value in
    let n₀ : ℕ = v.round in
    let p : Ptr = all.ptr in
    let tw : Ptr = t.words in
    let tq : Ptr = t.slots in
    let b₁ : ℕ = start.0.3.1.1.0.ref_ptr.0 in
    let o₁ : ℕ = start.0.3.1.1.0.ref_ptr.1 in
    let b' : ℕ = start.0.3.1.1.1.0.ref_ptr.0 in
    let o' : ℕ = start.0.3.1.1.1.0.ref_ptr.1 in
    let κ : Lft = κs.0 in
    let id : ℕ = h.id in
    let me : Me (Unit {0}) Entry = h.me in
    let deeds : Ptr → Fml = λ π. deed_owns (g.dealloc_token a) R π x n₀ in
    let Wants : Type 0 = (h.table_id ≡ z) × (0 < z.words) × (0 < k) × (k ≤ 2 ^ 62) × (p ≡ v.ptr) × (all.value ≡ x) × (all.round ≡ n₀) × (all.count ≡ 2 ^ 62) × Lends id me.0 k in
    let rest : Fml = fsep (flft κs.1.1.0 qs.1.1.0) (fsep (flft κs.1.1.1.0 qs.1.1.1.0) ftrue) in
    qed 𝓛 (((‵ (flft κs.0 qs.0) ⊛ ‵ (flft κs.1.0 qs.1.0) ⊛ ‵ rest) ⊛ ‵ (owns (types_at Sig.signature.params κs) start.0.3 start.0.4)) ∷ raw (fact 𝓤 _) ∷ raw (fact 𝓤 _) ∷ raw (fact 𝓤 Wants) ∷ []) ∵
    keep ! (3 ∷ 0 ∷ []) $ heard ! Wants (λ wants. split ! $ split3 ! $ move ! (3 ∷ []) $ fsplit3 ! $ move ! (1 ∷ []) $ fsplit ! $ drop ! $
    use1 𝓛 (given (InBlock p) (‵ (part_owns R p all.value all.round all.count))) (fact_use 𝓤 _ (lies_somewhere 𝓛 R p all.value all.round all.count) (guard_i 𝓤 (InBlock p) (sem 𝓛 (part_owns R p all.value all.round all.count)))) $ learn ! (λ inside.
    fsplit ! $ rewrite ! 0 (λ (m : ℕ × ℕ). ‵ (tokens m.0 m.1)) (λ i. (wants.6 i, wants.7 i)) refl $ use1 𝓛 (‵ (pile n₀ k) ⊛ ‵ (pile n₀ (2 ^ 62 - k))) (dealt 𝓛 n₀ k (2 ^ 62 - k) (2 ^ 62) (let fits = wants.3 in omega (arith, fits)) (omega arith)) $ split ! $ rewrite ! 0 (λ (F : Fml). ‵ F) (heaped n₀ k wants.2) refl $
    rewrite ! 2 (λ (m : X.Denot × ℕ). ‵ (lent_at R p m.0 (m.1 ∷ []))) (λ i. (wants.5 i, wants.6 i)) refl $ move ! (0 ∷ 2 ∷ []) $ fjoin ! $
    -- [the parts; the others; the deed; the other parameters; the tokens of the lifetimes]
    move ! (2 ∷ []) $ fsplit ! $ fpick ! (λ vss. fsplit ! $ feq_l ! (λ ev. fsplit ! $ feq_l ! (λ ep. fsplit ! $ handle_tells E.al ! a vss.1.0 (λ hv eh fa.
    let at : v.ptr ≡ block_ptr (block_of v.ptr) (count_of v.ptr) = at_block v.ptr (subst InBlock wants.4 inside) in
    let vw : Val = box.word E hv (block_of v.ptr) (count_of v.ptr) in
    let typed = box.box_typed E hv (block_of v.ptr) (count_of v.ptr) fa in
    let ew : start.0.4.0 ≡ vw ∷ [] = ev ∙ (λ j. vstruct (of_list ((ep ∙ ap (λ (π : Ptr). ptr_val π ∷ []) at) j ++ (eh j ++ []))) ∷ []) in
    let eall : start.0.4.1.0 ≡ part_bits p ∷ [] = part_told R p start.0.4.1.0 are.1.0.0 in
    let es : start.0.4.1.1.0 ≡ vptr b₁ o₁ ∷ [] = shr_Tells (named 0) κs.0 Sh start.0.3.1.1.0 start.0.4.1.1.0 are.1.1.0 in
    let em : start.0.4.1.1.1.0 ≡ vptr b' o' ∷ [] = mut_Tells (named 1) κs.1.0 Sr start.0.3.1.1.1.0 start.0.4.1.1.1.0 are.1.1.1.0 in
    let ek : start.0.4.1.1.1.1.0 ≡ vint w64 k ∷ [] = uint_Tells w64 k start.0.4.1.1.1.1.0 are.1.1.1.1.0 in
    let us : List Val = vw ∷ part_bits p ∷ vptr b₁ o₁ ∷ vptr b' o' ∷ vint w64 k ∷ [] in
    suffices ! (Run us) (subst (λ (ws : List Val). ent 𝓤 (Run us) (Run ws)) (sym (λ i. ew i ++ (eall i ++ (es i ++ (em i ++ (ek i ++ [])))))) (id⊢ 𝓤 (Run us))) $
    -- [the handle; nothing; the deed; the parts; the others; the other parameters; the tokens of the lifetimes]
    rewrite ! 2 (λ (π : Ptr). ‵ (deeds π)) (sym wants.4) refl $ move ! (5 ∷ []) $ fsplit3 ! $ fsplit ! $ drop ! $ move ! (1 ∷ []) $ fsplit3 ! $ keep ! (3 ∷ 10 ∷ 1 ∷ 2 ∷ 11 ∷ 12 ∷ 5 ∷ 7 ∷ 8 ∷ 9 ∷ []) $
    enter ! 𝓣.C 𝓣.Λ fn us Exit $ alloc_all ! (λ l'. pass_all ! refl (typed, (strip_good p inside, ((tt, tt), ((tt, tt), ((tt, record { fits = are.1.1.1.1.0.1 }), tt))))) $ let Locals = env fn.locals l' in
    let w : Ptr = block_ptr (block_of tw) (count_of tw) in
    let tail5 = tail (tail (tail (tail (tail fn.body)))) in
    let tail7 = tail (tail tail5) in
    let PI : Fml = fbor β (inner unit entry_code.code Accounted w (place z) z) in
    let CC : Fml = common unit entry_code.code Accounted w (place z) z in
    sets ! (of_opd ! (get_in ! (fld ! refl (stop !)) (sub ! 1 refl (whole !)))) refl fa $ sets ! (of_opd ! (get_in ! (fld ! refl (stop !)) (sub ! 0 refl (whole !)))) refl (Ptr-Good p inside) $
    sets ! (addr ! (through ! refl (stop !))) refl (tt, tt) $ sets ! (of_opd ! (get ! refl)) refl (tt, tt) $ first ! $ blocks ! $
    use1 𝓛 (‵ (hidden_shr WordData κ (tw, (tq, (tt, tt))) b₁ o₁) ⊛ ‵ (lasts z κ) ⊛ ‵ (common unit entry_code.code Accounted tw tq z)) (word_shows 𝓛 κ t b₁ o₁) $ split3 ! $ move ! (2 ∷ 1 ∷ []) $
    use1 𝓛 (given (Placed unit tw tq z) (‵ (common unit entry_code.code Accounted tw tq z))) (fact_use 𝓤 _ (placed 𝓛 unit entry_code Accounted tw tq z) (guard_i 𝓤 (Placed unit tw tq z) (sem 𝓛 (common unit entry_code.code Accounted tw tq z)))) $ learn ! (λ there.
    rewrite ! 0 (λ (m : Ptr × Ptr). ‵ (common unit entry_code.code Accounted m.0 m.1 z)) (λ i. (at_block tw there.0 i, there.1 i)) refl $
    use1 𝓛 (‵ CC ⊛ ‵ CC) (common_twice 𝓛 unit entry_code Accounted w (place z) z) $ split ! $
    -- [the table's invariant, twice; that it lasts; its fields; the token; the seat's; ..]
    move ! (3 ∷ 4 ∷ []) $ looks ! tt D (hand_opens unit W unit rule.the_row impl.ghosts 𝓛) (tw, (tq, (tt, tt))) b₁ o₁ (λ q' vs. move ! (1 ∷ []) $ peeks ! D (Is D) (shows 𝓛 D) (tw, (tq, (tt, tt))) vs (λ is-so.
    let et : vs ≡ hand_of tw tq ∷ [] = hand_told unit W unit rule.the_row impl.ghosts tw tq vs is-so in rewrite ! 1 (λ (ws : List Val). ‵ (cell_at q' D.mir ws b₁ o₁)) et refl $
    sets_last ! (is ! (of_opd ! (load ! (through ! refl (fld ! refl (stop !))) (look_in ! 1 (sub ! 0 refl (whole !))))) (ap ptr_val (at_block tw there.0))) refl (tt, tt) $ exec ! 𝓣.C 𝓣.Λ Locals tail5 (at_ret Locals Exit) $ sets ! (of_opd ! (get ! refl)) refl (tt, tt) $
    rewrite ! 1 (λ (ws : List Val). ‵ (cell_at q' D.mir ws b₁ o₁)) (sym et) refl $ move ! (1 ∷ 0 ∷ 2 ∷ []) $ shuts ! tt D q' (tw, (tq, (tt, tt))) vs b₁ o₁ $ first ! $ blocks ! $ move ! (4 ∷ 0 ∷ []) $
    shr_bor-open ! tt (tokens_halve 𝓛 β) (λ s. let out : ℕ → Fml = counting.new_pool 𝓛 w z id k me s in
    move ! (5 ∷ 6 ∷ 7 ∷ []) $ opens ! tt Sr b' o' (λ ts. move ! (1 ∷ []) $ fsplit ! $ rewrite ! 1 (λ (u : TableId). ‵ (mine unit entry_code.code u id me)) wants.0 refl $ move ! (9 ∷ 7 ∷ 1 ∷ []) $
    use3 𝓛 (raw (𝓣.C _ (vptr (block_of tw) (count_of tw) ∷ seq_cst ∷ []) (λ u. mean 𝓛 (found out u))))
    (via 𝓤 _ (counting.lends 𝓛 w z id k me s wants.1 wants.8)
    (loads 𝓛 𝓜 𝓡 (code.calls-core::raw_atomic::load 𝓡.env wired) w out)) $
    sets ! (agg ! (and_then ! (lit ! tt) (no_more !))) refl (tt, (record { fits = lit< tt }, tt)) $
    Calls-last ! (fm 𝓛 𝓜 𝓡) (found out) (and_then ! (get ! refl) (and_then ! (get ! refl) (no_more !))) (λ u. finds ! out (λ n fits.
    lands_last ! refl (tt, record { fits = fits }) $ exec ! 𝓣.C 𝓣.Λ Locals tail7 (at_ret Locals Exit) $ sets ! (of_opd ! (get ! refl)) refl (tt, record { fits = fits }) $
    let loan_val : Val = hand_of p w in
    let ret : Val = vstruct (vcons hv (vcons loan_val vnil)) in
    sets ! (of_opd ! (get ! refl)) refl fa $ sets ! (agg ! (no_more !)) refl (tt, tt) $ sets ! (agg ! (and_then ! (get ! refl) (and_then ! (get ! refl) (and_then ! (get ! refl) (no_more !))))) refl (hand_good p w inside tt) $
    sets ! (agg ! (and_then ! (get ! refl) (and_then ! (get ! refl) (no_more !)))) refl (handle_loan_fits (α E.al) hv p w inside tt fa) $
    fsplit ! $ move ! (7 ∷ 0 ∷ []) $ obor_close ! tt $ drop ! $ move ! (1 ∷ []) $ fpick ! (λ pool. fsplit ! $
    let u : Entry = pool_entry k in
    let PJ : Fml = Pool entry_code.code out_of z n₀ pool (deeds p) in
    let h' : Sr.Denot = record { marker = h.marker; table_id = z; id = id; me = (lent me.0 k pool, me.1) } in
    let new : Lr.Denot = record { at = p; word = w; marker = record {}; value = x; alloc = a; table_id = z; round = n₀; pool = pool; count = k } in
    let Says : Type 0 = (z ≡ h.table_id) × (id ≡ id) × (h'.me ≡ h'.me) × (a ≡ a) × (a ≡ a) × (x ≡ x) × (z ≡ z) × (k ≡ k) in
    -- [the seat; the new seat; the token; the seat's field and cell and open borrow; the table's fields and
    -- invariant; the other tokens; the handle; the deed; the parts; the others]
    move ! (3 ∷ 0 ∷ []) $ fjoin ! $ move ! (3 ∷ 0 ∷ 4 ∷ 5 ∷ 6 ∷ []) $ closes ! tt Sr h' ts b' o' $ feq_i ! (List Val) start.0.4.1.1.1.0 (vptr b' o' ∷ []) em $ fjoin3 ! $
    move ! (10 ∷ 8 ∷ []) $ fjoin ! $ use1 𝓛 (‵ (others entry_code.code out_of z n₀ pool (deeds p) u)) (record { apply = λ r h₁ _. h₁ }) $ move ! (3 ∷ 0 ∷ []) $ fjoin ! $ fpack ! Entry (pooled entry_code.code out_of z n₀ pool (deeds p)) u $
    move ! (5 ∷ []) $ fsplit ! $ drop ! $ use1 𝓛 (some (λ (i : ℕ). ‵ (fnamed i PI))) (𝓛.invs.inv_named PI) $ pick ! (λ i. move ! (1 ∷ []) $
    use1 𝓛 (later (some (λ (j : ℕ). given (suc i ≤ j) (‵ (fnamed j PJ))))) (named_past 𝓛 (suc i) PJ) $ await ! tt $ pick ! (λ j. learn ! (λ above.
    move ! (1 ∷ 0 ∷ []) $ nothing ! $ fpack ! ((¬ (j ≡ i)) × Placed unit w (place z) z) (λ _. ftrue) ((λ same. omega arith), (tt, refl, there.2, there.3)) $ fjoin3 ! $
    fpack ! (ℕ × ℕ) (numbered unit entry_code.code Accounted out_of w (place z) z n₀ pool (deeds p)) (i, j) $
    move ! (7 ∷ 0 ∷ []) $ fjoin ! $ use0 𝓛 (‵ ((LoanData R P g).own_val (p, (w, (tt, tt))) (hand_of p w ∷ []))) (loan_made R P g 𝓛 p w) $ fjoin ! $
    move ! (6 ∷ 0 ∷ []) $ use2 𝓛 (‵ ((Tuple (P ∷ Lr ∷ [])).own_val (a, new) (ret ∷ []))) (two_owned 𝓛 P Lr a new hv (hand_of p w)) $
    move ! (1 ∷ []) $ nothing ! $ nothing ! $ fjoin ! $ move ! (1 ∷ 0 ∷ []) $ fjoin ! $ nothing ! $ fjoin ! $ nothing ! $ fjoin ! $ nothing ! $ fjoin ! $
    move ! (2 ∷ 5 ∷ []) $ join ! $ move ! (3 ∷ 0 ∷ []) $ join ! $ use0 𝓛 (raw (fact 𝓤 Says)) (fact_i 𝓤 Says (emp 𝓤) (sym wants.0, refl, refl, refl, refl, refl, refl, refl)) $
    returns ! (look_at ! 0 refl) $ free_all ! refl $ keep ! (1 ∷ 2 ∷ 3 ∷ 0 ∷ []) $ by ! (leaves 𝓛 Sig exits c start ret (a, new) ((tt, (tt, tt)), (tt, (tt, (h', (tt, tt))))) (tt, (tt, (tt, (tt, (tt, tt)))))))))))))))))))))))))
