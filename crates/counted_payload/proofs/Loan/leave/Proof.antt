-- `leave` is one step on the table's word, and the parts go to the pool with it.
use Rattle.atomic_table.proofs.Names.{◌≡◌, ℕ, ◌+◌, ◌*◌, ◌^◌, ◌%◌, ◌-◌, ◌<◌, List, [], ◌∷◌, ◌++◌, sym, refl, ap, arith, lit<, w64, a_type, dcons, dnil, named, Val, vint, vptr, vstruct, of_list, inst_fn, SProp, ent, sep, emp, Lft, Fml, ftrue, fsep, flft, sem, ‵, raw, ◌⊛◌, given, mean, at_ret, ◌$◌, ◌∵◌, !, qed, by, move, keep, drop, split, split3, join, fsplit, fsplit3, fjoin, fjoin3, fpick, fpack, learn, group, use0, use1, use2, use3, rewrite, feq_i, flt_i, stop, fld, lit, of_opd, no_more, and_then, first, blocks, exec, Calls-last, returns, enter, alloc_all, pass_all, free_all, look_at, get, get_in, sets, lands_last, is, env, agg, sub, whole, tables, no, yes, RattleType, owns, types_at, plain, Ptr, InBlock, block_ptr, ptr_val, nothing, heard, param, bounded, Valss, Stays, stay_dropped, walk_of, Goes-dropped, fact, fact_i, fact_use, block_of, count_of, at_block, via, guard_i, RefOf, u64, mut_vals, mut_Tells, shr_vals, shr_Tells, uint_vals, uint_Tells, opens, closes, stay_ref, Goes-ref, unhide, hidden_shr, lent_out, Tuple, shr_bor-open, obor_close, tokens_halve, subst}
use Rattle.atomic_table.proofs.Walks.{proved, leaves}
use base.Fml.{feq, fhide, fbor}
use denote.Builtin.{unit}
use Rattle.core.proofs.atomic.Steps.{tail}
use Rattle.core.specs.contracts.marker.PhantomData as marker
use Rattle.core.specs.Sync.RawAtomic.{asks, always}
use Rattle.atomic_table.specs.Table.{Me}
use Rattle.atomic_table.specs.Seated.{TableId, Placed, age, place, lasts, mine, common}
use Rattle.atomic_table.specs.contracts.shared.Shared as table
use Rattle.atomic_table.specs.contracts.shared.Seat as seat
use Rattle.atomic_table.proofs.Fields.{hand_of, hand_good, HandData, Ptr-Good}
use Rattle.atomic_table.proofs.Calls.{fm, seq_cst, found, finds, subs}
use Rattle.counted_payload.specs.contracts.Entry as entry
use Rattle.counted_payload.specs.contracts.Rule as rule
use Rattle.counted_payload.specs.contracts.RuleTableRuleUnitEntryUnit.TheImpl as impl
use Rattle.counted_payload.specs.declared.Entry.{Entry}
use Rattle.counted_payload.specs.Accounts.{Accounted, out_of, Leaves, Gave, fewer, lowered}
use Rattle.counted_payload.specs.Accounts as accounts
use Rattle.counted_payload.specs.Parted.{tokens, part_owns, deed_owns}
use Rattle.counted_payload.specs.Loans.{Pool}
use Rattle.counted_payload.specs.CountedLoans.{entry_code}
use Rattle.counted_payload.specs.contracts.Loan as loan
use Rattle.counted_payload.specs.contracts.Returned as left
use Rattle.counted_payload.proofs.Bits.{loan_told, ReturnedData, returned_made, returned_bits, returned_fits, found_returned, found_returned_fits}
use Rattle.counted_payload.proofs.Freezing.{lies_somewhere}
use Rattle.counted_payload.proofs.Counting as counting
use Rattle.counted_payload.proofs.Counting.{WordRow, SeatRow, WordData, word_shows}
use Rattle.counted_payload.proofs.Holdings.{knows, sight, loan_apart, returned_whole, kept_whole, number_owned, two_owned, three_owned}
use Rattle.counted_payload.specs.contracts.Loan.leave.{ended, clauses}
use Rattle.counted_payload.specs.contracts.Loan.leave.Key.{name as #self}
use Rattle.counted_payload.proofs.Loan.leave.Statement.{statement}
use Rattle.counted_payload.proofs.Loan.leave.Code as code

pub leave_spec : {M : Type 1} → statement M
leave_spec 𝓤 𝓛 𝓜 𝓡 wired X Z L LZ g d dd met md =
    let H = 𝓛.H in
    let 𝓣 = tables 𝓤 H 𝓜 𝓡 𝓡.env in
    let R : RattleType = param 0 X in
    let P : RattleType = param 1 Z in
    let Sig = ended X Z g d dd in
    let inst = bounded (a_type ∷ a_type ∷ []) (X, (Z, tt)) (dcons d (dcons dd dnil)) in
    let fn = inst_fn inst code.function in
    let c = clauses X Z g d dd 𝓛 𝓜.mem 𝓡.returns in
    let Lr : RattleType = loan.the_row R P g in
    let Fr : RattleType = left.the_row R P g in
    let Sh : RattleType = WordRow in
    let Sr : RattleType = SeatRow in
    let self = plain (λ _. Lr) in
    let shared = RefOf (0 ∷ []) tt (plain (λ _. Sh)) (λ _. tt) in
    let sitter = plain (λ _. Sr) in
    let exits : Stays Sig.signature.params Sig.kept = (stay_dropped self no, (stay_dropped shared yes, (stay_ref (1 ∷ []) tt sitter, (stay_dropped (plain (λ _. u64)) yes, tt)))) in
    proved 𝓛 Sig exits c 𝓜 𝓡 (Goes-dropped 𝓛 4 self no (λ κs x f. refl), (Goes-dropped 𝓛 4 shared yes (λ κs x f. refl), (Goes-ref 𝓛 4 1 tt sitter, (Goes-dropped 𝓛 4 (plain (λ _. u64)) yes (λ κs x f. refl), tt)))) (#self inst) fn (code.unfolded 𝓤 H 𝓜 𝓡 wired (X, (Z, tt)) d dd)
    (λ κs. ((λ e. hand_of e.at e.word ∷ []), (shr_vals, (mut_vals, (uint_vals w64, tt))))) (λ κs. ((λ e vs so. loan_told R P g e.at e.word vs so.0), (shr_Tells (named 0) κs.0 Sh, (mut_Tells (named 1) κs.1.0 Sr, (uint_Tells w64, tt))))) (λ κs qs bounds a gh are.
    let l : Lr.Denot = a.0 in
    let t : Sh.Denot = a.1.0.now in
    let h : Sr.Denot = a.1.1.0.now in
    let k : ℕ = a.1.1.1.0 in
    let z : TableId = l.table_id in
    let α : Lft = age z in
    let n₀ : ℕ = l.round in
    let x : X.Denot = l.value in
    let p : Ptr = l.at in
    let w : Ptr = l.word in
    let b : ℕ = a.1.0.ref_ptr.0 in
    let o : ℕ = a.1.0.ref_ptr.1 in
    let b' : ℕ = a.1.1.0.ref_ptr.0 in
    let o' : ℕ = a.1.1.0.ref_ptr.1 in
    let κ : Lft = κs.0 in
    let id : ℕ = h.id in
    let v : Me (Unit {0}) Entry = h.me in
    let deed : Fml = deed_owns (g.dealloc_token l.alloc) R p x n₀ in
    let Wants : Type 0 = (h.table_id ≡ z) × (t.table_id ≡ z) × (0 < z.words) × (l.count ≡ k) × (0 < k) × Leaves id v.0 k l.pool in
    let start : (walk_of 𝓛 Sig exits c).Ghost = ((κs, qs, bounds, a, (hand_of p w ∷ [], (vptr b o ∷ [], (vptr b' o' ∷ [], (vint w64 k ∷ [], tt))))), gh) in
    let Exit : Val → SProp 𝓤 = (walk_of 𝓛 Sig exits c).post start in
    let others : Fml = fsep (flft κs.1.1.0 qs.1.1.0) (fsep (flft κs.1.1.1.0 qs.1.1.1.0) ftrue) in
    qed 𝓛 (((‵ (flft κs.0 qs.0) ⊛ ‵ (flft κs.1.0 qs.1.0) ⊛ ‵ others) ⊛ ‵ (owns (types_at Sig.signature.params κs) a start.0.4)) ∷ raw (fact 𝓤 _) ∷ raw (fact 𝓤 _) ∷ raw (fact 𝓤 Wants) ∷ []) ∵
    keep ! (3 ∷ 0 ∷ []) $ heard ! Wants (λ wants. split ! $ split3 ! $ move ! (3 ∷ []) $ fsplit3 ! $
    use1 𝓛 (given (InBlock p) (given (InBlock w) (‵ (tokens n₀ l.count) ⊛ ‵ (sight 𝓛 R P g l) ⊛ ‵ (knows 𝓛 R P g l)))) (loan_apart 𝓛 R P g l (hand_of p w ∷ [])) $ learn ! (λ inside. learn ! (λ at_word. split3 ! $
    rewrite ! 0 (λ (m : ℕ). ‵ (tokens n₀ m)) wants.3 refl $ move ! (1 ∷ []) $ drop ! $
    -- [the tokens; what is known; the `&`; the others of the parameters; the tokens of the lifetimes]
    move ! (1 ∷ []) $ fpick ! (λ ij. fsplit3 ! $ fpick ! (λ near. drop ! $ move ! (3 ∷ []) $ fsplit ! $ drop ! $ move ! (4 ∷ []) $ fsplit ! $ fsplit3 ! $
    keep ! (4 ∷ 8 ∷ 1 ∷ 2 ∷ 9 ∷ 10 ∷ 5 ∷ 6 ∷ 7 ∷ []) $
    enter ! 𝓣.C 𝓣.Λ fn (hand_of p w ∷ vptr b o ∷ vptr b' o' ∷ vint w64 k ∷ []) Exit $ alloc_all ! (λ l'. pass_all ! refl (hand_good p w inside near.1.0, ((tt, tt), ((tt, tt), ((tt, record { fits = are.1.1.1.0.1 }), tt)))) $ let Locals = env fn.locals l' in
    let w' : Ptr = block_ptr (block_of w) (count_of w) in
    sets ! (of_opd ! (get_in ! (fld ! refl (stop !)) (sub ! 0 refl (whole !)))) refl (Ptr-Good p inside) $
    sets ! (is ! (of_opd ! (get_in ! (fld ! refl (stop !)) (sub ! 1 refl (whole !)))) (ap ptr_val (at_block w near.1.0))) refl (tt, tt) $ first ! $ blocks ! $
    use1 𝓛 (‵ (hidden_shr WordData κ (t.words, (t.slots, (tt, tt))) b o) ⊛ ‵ (lasts t.table_id κ) ⊛ ‵ (common unit entry_code.code Accounted t.words t.slots t.table_id)) (word_shows 𝓛 κ t b o) $
    split3 ! $ drop ! $ move ! (1 ∷ []) $ drop ! $ rewrite ! 0 (λ (u : TableId). ‵ (lasts u κ)) wants.1 refl $
    -- [that the table lasts; its token; the seat's name and borrow and token; the other tokens; the two invariants;
    -- the parts]
    shr_bor-open ! tt (tokens_halve 𝓛 α) (λ s. let out : ℕ → Fml = counting.left 𝓛 w z n₀ l.pool id k deed v s in
    move ! (2 ∷ 3 ∷ 4 ∷ []) $ opens ! tt Sr b' o' (λ ts. move ! (1 ∷ []) $ fsplit ! $ rewrite ! 1 (λ (u : TableId). ‵ (mine unit entry_code.code u id v)) wants.0 refl $ move ! (1 ∷ 11 ∷ []) $ fjoin ! $
    move ! (9 ∷ 10 ∷ 7 ∷ 0 ∷ []) $ group ! 4 $
    use1 𝓛 (raw (𝓣.C _ (vptr (block_of w) (count_of w) ∷ vint w64 k ∷ seq_cst ∷ []) (λ u. mean 𝓛 (found out u))))
    (via 𝓤 _ (counting.leaves 𝓛 w z n₀ l.pool id k deed v s ij.0 ij.1 near.0 wants.2 wants.4 wants.5)
    (subs 𝓛 𝓜 𝓡 (code.calls-core::raw_atomic::fetch_sub 𝓡.env wired) w' k are.1.1.1.0.1 out)) $
    sets ! (agg ! (and_then ! (lit ! tt) (no_more !))) refl (tt, (record { fits = lit< tt }, tt)) $
    Calls-last ! (fm 𝓛 𝓜 𝓡) (found out) (and_then ! (get ! refl) (and_then ! (get ! refl) (and_then ! (get ! refl) (no_more !)))) (λ u. finds ! out (λ n fits.
    lands_last ! refl (tt, record { fits = fits }) $ exec ! 𝓣.C 𝓣.Λ Locals (tail (tail (tail fn.body))) (at_ret Locals Exit) $ sets ! (of_opd ! (get ! refl)) refl (tt, record { fits = fits }) $
    sets ! (agg ! (no_more !)) refl (tt, tt) $ sets ! (agg ! (and_then ! (get ! refl) (and_then ! (get ! refl) (no_more !)))) refl (returned_fits p inside) $
    sets ! (agg ! (and_then ! (get ! refl) (and_then ! (get ! refl) (no_more !)))) refl (found_returned_fits n p p fits inside) $
    fsplit ! $ move ! (7 ∷ 0 ∷ []) $ obor_close ! tt $ drop ! $ move ! (1 ∷ []) $ fsplit3 ! $ fpick ! (λ so. drop ! $
    let h' : Sr.Denot = record { marker = h.marker; table_id = z; id = id; me = (accounts.returned v.0 k n, v.1) } in
    let r : Fr.Denot = record { at = p; marker = record {}; value = x; alloc = l.alloc; round = n₀; count = k; found = n } in
    let Says : Type 0 = (z ≡ h.table_id) × (id ≡ id) × (h'.me ≡ h'.me) × Gave v.0 k n × (n ≡ n) × (x ≡ x) × (l.alloc ≡ l.alloc) × (n₀ ≡ n₀) × (k ≡ k) in
    -- [the seat; the gain; the token; the seat's field and cell and open borrow; the other tokens]
    move ! (3 ∷ 0 ∷ []) $ fjoin ! $ move ! (3 ∷ 0 ∷ 4 ∷ 5 ∷ 6 ∷ []) $ closes ! tt Sr h' ts b' o' $ feq_i ! (List Val) (vptr b' o' ∷ []) (vptr b' o' ∷ []) refl $ fjoin3 ! $
    nothing ! $ nothing ! $ fjoin ! $ move ! (1 ∷ 0 ∷ []) $ fjoin ! $ nothing ! $ fjoin ! $ nothing ! $ fjoin ! $ move ! (1 ∷ 4 ∷ []) $ join ! $ move ! (3 ∷ 0 ∷ []) $ join ! $
    move ! (2 ∷ []) $ use1 𝓛 (‵ (Fr.own_val r (returned_bits p ∷ []))) (returned_whole 𝓛 R P g r) $ use0 𝓛 (‵ (u64.own_val n (vint w64 n ∷ []))) (number_owned 𝓛 n fits) $
    use2 𝓛 (‵ ((Tuple (u64 ∷ Fr ∷ [])).own_val (n, r) (found_returned n p ∷ []))) (two_owned 𝓛 u64 Fr n r (vint w64 n) (returned_bits p)) $
    use0 𝓛 (raw (fact 𝓤 Says)) (fact_i 𝓤 Says (emp 𝓤) (sym wants.0, refl, refl, so, refl, refl, refl, refl, refl)) $
    returns ! (look_at ! 0 refl) $ free_all ! refl $ keep ! (2 ∷ 3 ∷ 1 ∷ 0 ∷ []) $ by ! (leaves 𝓛 Sig exits c start (found_returned n p) (n, r) (tt, (tt, (h', (tt, tt)))) (tt, (tt, (tt, (tt, tt)))))))))))))))))
