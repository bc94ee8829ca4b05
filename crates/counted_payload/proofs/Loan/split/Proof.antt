-- `split` cuts the tokens, and both parts see the value.
use Rattle.std.proofs.Common.{◌≡◌, ℕ, ◌-◌, ◌^◌, ◌<◌, ◌≤◌, List, [], ◌∷◌, sym, refl, arith}
use mir.Syntax.{a_type, dcons, dnil, named, w64}
use mir.Val.{Val, vint, vptr}
use mir.MapTy.{inst_fn}
use base.Fraction.{full_share}
use base.Logic.{SProp, emp, guard_i}
use base.Fml.{Lft, Fml, ftrue, fsep, flft}
use types.Logic.{sem}
use types.Kit.{‵, raw, ◌⊛◌, given, ◌$◌, ◌∵◌, !, qed, by, move, keep, split, split3, join, fsplit, fsplit3, fjoin, fjoin3, learn, use0, use1, use3, rewrite, feq_i}
use types.Run.{stop, fld, load, of_opd, no_more, and_then, returns, enter}
use types.ByLocal.{alloc_all, pass_all, free_all, look_at, get, through, sets}
use types.Part.{agg, sub, whole, look_in}
use contract.Running.{tables}
use contract.Monad.{fact, fact_i, fact_use}
use denote.Exit.{yes}
use denote.RattleType.{RattleType, owns}
use denote.Signature.{types_at, plain}
use denote.RawPtr.{Ptr, InBlock}
use denote.Steps.{nothing, peeks, heard, opens, closes}
use denote.Laws.{Is, shows}
use denote.Memory.{cell_at}
use denote.Param.{param, bounded}
use denote.Param.Laws.{param_laws}
use denote.Builtin.{u64}
use denote.Plain.{uint_vals, uint_Tells}
use denote.Ref.{mut_vals, mut_Tells}
use denote.Struct.Lending.{lent_at, lent_at_shr_laws}
use denote.SharingLaws.{contraction}
use denote.Triple.Walked.{Stays, stay_dropped, stay_ref, walk_of, Goes-dropped, Goes-ref}
use Rattle.atomic_table.proofs.Walks.{proved, leaves}
use Rattle.atomic_table.proofs.Fields.{Ptr-Good}
use Rattle.counted_payload.specs.Parted.{tokens, part_owns, deed_owns}
use Rattle.atomic_table.proofs.Fields.{hand_of, hand_good}
use Rattle.counted_payload.specs.contracts.Loan as loan
use Rattle.counted_payload.proofs.Bits.{loan_told}
use Rattle.counted_payload.proofs.Holdings.{loan_apart, loan_whole}
use denote.Builtin.{unit}
use Rattle.atomic_table.specs.Seated.{place}
use Rattle.counted_payload.specs.Accounts.{Accounted, out_of}
use Rattle.counted_payload.specs.CountedLoans.{entry_code, pool_known}
use Rattle.counted_payload.proofs.Known.{known_twice}
use Rattle.counted_payload.proofs.Parts.{halves}
use Rattle.counted_payload.specs.contracts.Loan.split.{ended, clauses}
use Rattle.counted_payload.specs.contracts.Loan.split.Key.{name as #self}
use Rattle.counted_payload.proofs.Loan.split.Statement.{statement}
use Rattle.counted_payload.proofs.Loan.split.Code as code

pub split_spec : {M : Type 1} → statement M
split_spec 𝓤 𝓛 𝓜 𝓡 wired X Z L LZ g dct dd met md =
    let H = 𝓛.H in
    let 𝓣 = tables 𝓤 H 𝓜 𝓡 𝓡.env in
    let R : RattleType = param 0 X in
    let P : RattleType = param 1 Z in
    let Sig = ended X Z g dct dd in
    let inst = bounded (a_type ∷ a_type ∷ []) (X, (Z, tt)) (dcons dct (dcons dd dnil)) in
    let fn = inst_fn inst code.function in
    let Row : RattleType = loan.the_row R P g in
    let c = clauses X Z g dct dd 𝓛 𝓜.mem 𝓡.returns in
    let laws = (param_laws 0 X L).shr_laws in
    let self = plain (λ _. Row) in
    let exits : Stays Sig.signature.params Sig.kept = (stay_ref (0 ∷ []) tt self, (stay_dropped (plain (λ _. u64)) yes, tt)) in
    proved 𝓛 Sig exits c 𝓜 𝓡 (Goes-ref 𝓛 3 0 tt self, (Goes-dropped 𝓛 3 (plain (λ _. u64)) yes (λ κs x f. refl), tt)) (#self inst) fn (code.unfolded 𝓤 H 𝓜 𝓡 wired (X, (Z, tt)) dct dd)
    (λ κs. (mut_vals, (uint_vals w64, tt))) (λ κs. (mut_Tells (named 0) κs.0 Row, (uint_Tells w64, tt))) (λ κs qs bounds a gh are.
    let b : ℕ = a.0.ref_ptr.0 in
    let o : ℕ = a.0.ref_ptr.1 in
    let κ : Lft = κs.0 in
    let d : Row.Denot = a.0.now in
    let p : Ptr = d.at in
    let w : Ptr = d.word in
    let K : Fml = pool_known w d.table_id d.round d.pool (deed_owns (g.dealloc_token d.alloc) R p d.value d.round) in
    let x : X.Denot = d.value in
    let others : Fml = fsep (flft κs.1.0 qs.1.0) (fsep (flft κs.1.1.0 qs.1.1.0) ftrue) in
    let n : ℕ = d.round in
    let k : ℕ = d.count in
    let seen : Fml = lent_at R p x (n ∷ []) in
    let j : ℕ = a.1.0 in
    let d' : Row.Denot = record d { count = k - j } in
    let new : Row.Denot = record { at = p; word = w; marker = record {}; value = x; alloc = d.alloc; table_id = d.table_id; round = n; pool = d.pool; count = j } in
    let start : (walk_of 𝓛 Sig exits c).Ghost = ((κs, qs, bounds, a, (vptr b o ∷ [], (vint w64 j ∷ [], tt))), gh) in
    let Exit : Val → SProp 𝓤 = (walk_of 𝓛 Sig exits c).post start in
    let Says : Type 0 = (d' ≡ d') × (x ≡ x) × (d.alloc ≡ d.alloc) × (d.table_id ≡ d.table_id) × (d.pool ≡ d.pool) × (j ≡ j) in
    qed 𝓛 (((‵ (flft κ qs.0) ⊛ ‵ others) ⊛ ‵ (owns (types_at Sig.signature.params κs) a start.0.4)) ∷ raw (fact 𝓤 _) ∷ raw (fact 𝓤 _) ∷ raw (fact 𝓤 ((0 < j) × (j < k) × (k ≤ 2 ^ 62))) ∷ []) ∵
    keep ! (3 ∷ 0 ∷ []) $ heard ! ((0 < j) × (j < k) × (k ≤ 2 ^ 62)) (λ wants. let some_asked = wants.0 in let many = wants.1 in split ! $ split ! $ move ! (2 ∷ []) $ fsplit ! $ fsplit3 ! $ keep ! (1 ∷ 2 ∷ 4 ∷ 5 ∷ []) $
    enter ! 𝓣.C 𝓣.Λ fn (vptr b o ∷ vint w64 j ∷ []) Exit $ alloc_all ! (λ l. pass_all ! refl ((tt, tt), ((tt, record { fits = are.1.0.1 }), tt)) $
    opens ! tt Row b o (λ vs. move ! (1 ∷ []) $ peeks ! Row (Is Row) (shows 𝓛 Row) d vs (λ so. let bits : List Val = hand_of p w ∷ [] in let ev : vs ≡ bits = loan_told R P g p w vs so.0 in
    use1 𝓛 (given (InBlock p) (given (InBlock w) (‵ (tokens n k) ⊛ ‵ seen ⊛ ‵ K))) (loan_apart 𝓛 R P g d vs) $ learn ! (λ inside. learn ! (λ at_word. split3 ! $
    -- the parts are cut, and all else is had twice
    use1 𝓛 (‵ (tokens n j) ⊛ ‵ (tokens n (k - j))) (halves 𝓛 n j (k - j) k (omega (arith, many)) some_asked (omega (arith, many)) wants.2) $ split ! $ move ! (2 ∷ []) $
    use1 𝓛 (‵ seen ⊛ ‵ seen) (contraction 𝓛 (lent_at R p x) (lent_at_shr_laws R laws p x) (n ∷ [])) $ split ! $ move ! (4 ∷ []) $
    use1 𝓛 (given (InBlock w) (‵ K ⊛ ‵ K)) (known_twice 𝓛 unit entry_code Accounted out_of w (place d.table_id) d.table_id d.round d.pool (deed_owns (g.dealloc_token d.alloc) R p d.value d.round)) $ learn ! (λ _. split ! $
    -- [what is known; that again; what is seen; that again; j parts; the others; the cell; the open borrow]
    move ! (4 ∷ 2 ∷ 0 ∷ []) $ use3 𝓛 (‵ (Row.own_val new bits)) (loan_whole 𝓛 R P g new) $
    move ! (3 ∷ 2 ∷ 1 ∷ []) $ use3 𝓛 (‵ (Row.own_val d' bits)) (loan_whole 𝓛 R P g d') $ rewrite ! 2 (λ (ws : List Val). ‵ (cell_at full_share Row.mir ws b o)) ev refl $
    sets ! (of_opd ! (load ! (through ! refl (fld ! refl (stop !))) (look_in ! 2 (sub ! 0 refl (whole !))))) refl (Ptr-Good p inside) $
    sets ! (of_opd ! (load ! (through ! refl (fld ! refl (stop !))) (look_in ! 2 (sub ! 1 refl (whole !))))) refl (Ptr-Good w at_word) $
    sets ! (agg ! (no_more !)) refl (tt, tt) $ sets ! (agg ! (and_then ! (get ! refl) (and_then ! (get ! refl) (and_then ! (get ! refl) (no_more !))))) refl (hand_good p w inside at_word) $
    move ! (2 ∷ 0 ∷ 3 ∷ 4 ∷ 5 ∷ []) $ closes ! tt Row d' bits b o $
    feq_i ! (List Val) (vptr b o ∷ []) (vptr b o ∷ []) refl $ fjoin3 ! $ nothing ! $ nothing ! $ fjoin ! $ move ! (1 ∷ 0 ∷ []) $ fjoin ! $ move ! (1 ∷ 3 ∷ []) $ join ! $
    move ! (2 ∷ []) $ use0 𝓛 (raw (fact 𝓤 Says)) (fact_i 𝓤 Says (emp 𝓤) (refl, refl, refl, refl, refl, refl)) $
    returns ! (look_at ! 0 refl) $ free_all ! refl $ keep ! (2 ∷ 3 ∷ 1 ∷ 0 ∷ []) $ by ! (leaves 𝓛 Sig exits c start (hand_of p w) new (d', (tt, tt)) (tt, (tt, tt)))))))))))
