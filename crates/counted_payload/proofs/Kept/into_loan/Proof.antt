-- `into_loan` keeps the parts, where the load found another word.
use Rattle.atomic_table.proofs.Names.{◌≡◌, ℕ, [], ◌∷◌, refl, a_type, dcons, dnil, Val, inst_fn, SProp, emp, Fml, ftrue, flft, sem, ‵, raw, ◌⊛◌, given, ◌$◌, ◌∵◌, !, qed, by, move, keep, drop, split, split3, fsplit, fjoin, learn, use0, use1, use3, stop, fld, of_opd, no_more, and_then, returns, enter, alloc_all, pass_all, free_all, look_at, get, get_in, sets, agg, sub, whole, tables, no, RattleType, owns, types_at, plain, Ptr, InBlock, nothing, heard, param, bounded, Stays, stay_dropped, walk_of, Goes-dropped, fact, fact_i, fact_use, guard_i}
use Rattle.atomic_table.proofs.Walks.{proved, leaves}
use denote.Builtin.{unit}
use Rattle.atomic_table.specs.Seated.{place}
use Rattle.atomic_table.proofs.Fields.{hand_of, hand_good, Ptr-Good}
use Rattle.counted_payload.specs.Accounts.{Accounted, out_of}
use Rattle.counted_payload.specs.Parted.{tokens, part_owns, deed_owns}
use Rattle.counted_payload.specs.CountedLoans.{entry_code, pool_known}
use Rattle.counted_payload.specs.contracts.Loan as loan
use Rattle.counted_payload.specs.contracts.Kept as kept
use Rattle.counted_payload.proofs.Bits.{kept_told}
use Rattle.counted_payload.proofs.Holdings.{knows, sight, loan_apart, loan_whole}
use Rattle.counted_payload.proofs.Freezing.{lies_somewhere}
use Rattle.counted_payload.proofs.Known.{known_twice}
use Rattle.counted_payload.specs.contracts.Kept.into_loan.{ended, clauses}
use Rattle.counted_payload.specs.contracts.Kept.into_loan.Key.{name as #self}
use Rattle.counted_payload.proofs.Kept.into_loan.Statement.{statement}
use Rattle.counted_payload.proofs.Kept.into_loan.Code as code

pub into_loan_spec : {M : Type 1} → statement M
into_loan_spec 𝓤 𝓛 𝓜 𝓡 wired X Z L LZ g d dd met md =
    let H = 𝓛.H in
    let 𝓣 = tables 𝓤 H 𝓜 𝓡 𝓡.env in
    let R : RattleType = param 0 X in
    let P : RattleType = param 1 Z in
    let Sig = ended X Z g d dd in
    let inst = bounded (a_type ∷ a_type ∷ []) (X, (Z, tt)) (dcons d (dcons dd dnil)) in
    let fn = inst_fn inst code.function in
    let c = clauses X Z g d dd 𝓛 𝓜.mem 𝓡.returns in
    let Cr : RattleType = kept.the_row R P g in
    let Lr : RattleType = loan.the_row R P g in
    let self = plain (λ _. Cr) in
    let exits : Stays Sig.signature.params Sig.kept = (stay_dropped self no, tt) in
    proved 𝓛 Sig exits c 𝓜 𝓡 (Goes-dropped 𝓛 2 self no (λ κs x f. refl), tt) (#self inst) fn (code.unfolded 𝓤 H 𝓜 𝓡 wired (X, (Z, tt)) d dd)
    (λ κs. ((λ e. hand_of e.at e.word ∷ []), tt)) (λ κs. ((λ e vs so. kept_told R P g e.at e.word vs so.0), tt)) (λ κs qs bounds a gh are.
    let v : Cr.Denot = a.0 in
    let x : X.Denot = v.value in
    let p : Ptr = v.at in
    let w : Ptr = v.word in
    let n : ℕ = v.round in
    let k : ℕ = v.count in
    let deed : Fml = deed_owns (g.dealloc_token v.alloc) R p x n in
    let K : Fml = pool_known w v.table_id n v.pool deed in
    let Wants : Type 0 = ¬ (v.found ≡ k) in
    let start : (walk_of 𝓛 Sig exits c).Ghost = ((κs, qs, bounds, a, (hand_of p w ∷ [], tt)), gh) in
    let Exit : Val → SProp 𝓤 = (walk_of 𝓛 Sig exits c).post start in
    qed 𝓛 (((‵ (flft κs.0 qs.0) ⊛ ‵ (flft κs.1.0 qs.1.0) ⊛ ‵ ftrue) ⊛ ‵ (owns (types_at Sig.signature.params κs) a start.0.4)) ∷ raw (fact 𝓤 _) ∷ raw (fact 𝓤 _) ∷ raw (fact 𝓤 Wants) ∷ []) ∵
    keep ! (3 ∷ 0 ∷ []) $ heard ! Wants (λ wants. split ! $ move ! (1 ∷ []) $ fsplit ! $ fsplit ! $ drop ! $ fsplit ! $
    use1 𝓛 (‵ (tokens n k)) (base.Logic.all_e 𝓤 (λ (_ : ¬ (v.found ≡ k)). sem 𝓛 (tokens n k)) wants) $ move ! (1 ∷ []) $ fsplit ! $ move ! (2 ∷ 0 ∷ 1 ∷ []) $
    let new : Lr.Denot = record { at = p; word = w; marker = record {}; value = x; alloc = v.alloc; table_id = v.table_id; round = n; pool = v.pool; count = k } in
    -- what was kept is a loan, and a loan's pointers are not null
    use3 𝓛 (‵ (Lr.own_val new (hand_of p w ∷ []))) (loan_whole 𝓛 R P g new) $
    use1 𝓛 (given (InBlock p) (given (InBlock w) (‵ (tokens n k) ⊛ ‵ (sight 𝓛 R P g new) ⊛ ‵ (knows 𝓛 R P g new)))) (loan_apart 𝓛 R P g new (hand_of p w ∷ [])) $ learn ! (λ inside. learn ! (λ at_word. split3 ! $
    use3 𝓛 (‵ (Lr.own_val new (hand_of p w ∷ []))) (loan_whole 𝓛 R P g new) $
    enter ! 𝓣.C 𝓣.Λ fn (hand_of p w ∷ []) Exit $ alloc_all ! (λ l. pass_all ! refl (hand_good p w inside at_word, tt) $
    sets ! (of_opd ! (get_in ! (fld ! refl (stop !)) (sub ! 0 refl (whole !)))) refl (Ptr-Good p inside) $ sets ! (of_opd ! (get_in ! (fld ! refl (stop !)) (sub ! 1 refl (whole !)))) refl (Ptr-Good w at_word) $
    sets ! (agg ! (no_more !)) refl (tt, tt) $ sets ! (agg ! (and_then ! (get ! refl) (and_then ! (get ! refl) (and_then ! (get ! refl) (no_more !))))) refl (hand_good p w inside at_word) $
    let Says : Type 0 = (x ≡ x) × (v.alloc ≡ v.alloc) × (v.table_id ≡ v.table_id) × (v.pool ≡ v.pool) × (k ≡ k) in
    nothing ! $ nothing ! $ fjoin ! $
    use0 𝓛 (raw (fact 𝓤 Says)) (fact_i 𝓤 Says (emp 𝓤) (refl, refl, refl, refl, refl)) $
    returns ! (look_at ! 0 refl) $ free_all ! refl $ keep ! (4 ∷ 1 ∷ 2 ∷ 0 ∷ []) $ by ! (leaves 𝓛 Sig exits c start (hand_of p w) new (tt, tt) (tt, tt)))))))
