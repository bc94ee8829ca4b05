-- `get` shows the value for as long as the part is borrowed.
use Rattle.std.proofs.Common.{◌≡◌, ℕ, List, [], ◌∷◌, sym, refl, ap, ◌∙◌}
use mir.Syntax.{a_type, dcons, dnil, named}
use mir.Val.{Val, vptr}
use mir.MapTy.{inst_fn}
use base.Logic.{SProp, emp}
use base.Fml.{Lft, Fml, ftrue, fsep, flft, fhide}
use types.Kit.{‵, raw, ◌⊛◌, at_ret, ◌$◌, ◌∵◌, !, qed, by, move, keep, split, join, fsplit, fjoin, use0, use1, rewrite, feq_i}
use types.Run.{stop, fld, hop, addr, of_opd, first, blocks, exec, returns, enter}
use types.ByLocal.{alloc_all, pass_all, free_all, look_at, get, through, sets, sets_last, env}
use types.Part.{sub, whole, look_in}
use contract.Running.{tables}
use contract.Monad.{fact, fact_i}
use denote.Exit.{yes}
use denote.RattleType.{RattleType, owns}
use denote.Signature.{types_at, plain}
use denote.RawPtr.{Ptr, InBlock, block_ptr, block_of, count_of, at_block}
use denote.Steps.{nothing, peeks, heard, looks, shuts}
use denote.Opens.{unhide, hide}
use denote.Laws.{Is, shows}
use denote.Memory.{cell_at, hidden_shr}
use denote.Param.{param, bounded}
use denote.Param.Laws.{param_laws}
use denote.Builtin.{RefOf}
use denote.Ref.{shr_vals, shr_Tells}
use denote.Struct.Lending.{lent_at, lent_at_shr_laws, lent_out, in_block_says}
use denote.Triple.Walked.{Stays, stay_dropped, walk_of, Goes-dropped}
use Rattle.core.proofs.atomic.Steps.{tail}
use Rattle.atomic_table.proofs.Walks.{proved, leaves}
use Rattle.counted_payload.specs.Parted.{part_shares}
use Rattle.core.specs.contracts.marker.PhantomData as marker
use Rattle.atomic_table.proofs.Fields.{hand_of}
use Rattle.counted_payload.specs.contracts.Loan as loan
use Rattle.counted_payload.proofs.Bits.{LoanData, loan_told, loan_opened}
use Rattle.counted_payload.proofs.Freezing.{in_sight}
use Rattle.counted_payload.specs.contracts.Loan.get.{ended, clauses}
use Rattle.counted_payload.specs.contracts.Loan.get.Key.{name as #self}
use Rattle.counted_payload.proofs.Loan.get.Statement.{statement}
use Rattle.counted_payload.proofs.Loan.get.Code as code

pub get_spec : {M : Type 1} → statement M
get_spec 𝓤 𝓛 𝓜 𝓡 wired X Z L LZ g dct dd met md =
    let H = 𝓛.H in
    let 𝓣 = tables 𝓤 H 𝓜 𝓡 𝓡.env in
    let R : RattleType = param 0 X in
    let P : RattleType = param 1 Z in
    let Sig = ended X Z g dct dd in
    let inst = bounded (a_type ∷ a_type ∷ []) (X, (Z, tt)) (dcons dct (dcons dd dnil)) in
    let fn = inst_fn inst code.function in
    let Row : RattleType = loan.the_row R P g in
    let D : RattleType = LoanData R P g in
    let c = clauses X Z g dct dd 𝓛 𝓜.mem 𝓡.returns in
    let laws = (param_laws 0 X L).shr_laws in
    let self = RefOf (0 ∷ []) tt (plain (λ _. Row)) (λ _. tt) in
    let exits : Stays Sig.signature.params Sig.kept = (stay_dropped self yes, tt) in
    proved 𝓛 Sig exits c 𝓜 𝓡 (Goes-dropped 𝓛 3 self yes (λ κs x f. refl), tt) (#self inst) fn (code.unfolded 𝓤 H 𝓜 𝓡 wired (X, (Z, tt)) dct dd)
    (λ κs. (shr_vals, tt)) (λ κs. (shr_Tells (named 0) κs.0 Row, tt)) (λ κs qs bounds a gh are.
    let b : ℕ = a.0.ref_ptr.0 in
    let o : ℕ = a.0.ref_ptr.1 in
    let κ : Lft = κs.0 in
    let d : Row.Denot = a.0.now in
    let p : Ptr = d.at in
    let w : Ptr = d.word in
    let x : X.Denot = d.value in
    let others : Fml = fsep (flft κs.1.0 qs.1.0) (fsep (flft κs.1.1.0 qs.1.1.0) ftrue) in
    let start : (walk_of 𝓛 Sig exits c).Ghost = ((κs, qs, bounds, a, (vptr b o ∷ [], tt)), gh) in
    let Exit : Val → SProp 𝓤 = (walk_of 𝓛 Sig exits c).post start in
    let there : Val = vptr (block_of p) (count_of p) in
    qed 𝓛 (((‵ (flft κ qs.0) ⊛ ‵ others) ⊛ ‵ (owns (types_at Sig.signature.params κs) a start.0.4)) ∷ raw ((c κs a).requires gh) ∷ []) ∵
    split ! $ split ! $ move ! (2 ∷ []) $ fsplit ! $ fsplit ! $ keep ! (1 ∷ 3 ∷ 4 ∷ []) $
    enter ! 𝓣.C 𝓣.Λ fn (vptr b o ∷ []) Exit $ alloc_all ! (λ l. pass_all ! refl ((tt, tt), tt) $ let Locals = env fn.locals l in
    use1 𝓛 (‵ (hidden_shr D κ (p, (w, (tt, tt))) b o) ⊛ ‵ (fhide (part_shares R p x d.round κ))) (lent_out 𝓛 (loan.struct R P g) (loan.the_codes X.Denot Z.Denot R.coded P.coded (marker.the_row P).coded) (loan.the_heap R P g) (loan.the_lent R P g) κ d b o) $
    split ! $ move ! (1 ∷ []) $ unhide ! $ use1 𝓛 (‵ (lent_at R p x κ)) (in_sight (lent_at R p x) (lent_at_shr_laws R laws p x) 𝓛 d.round κ) $ fsplit ! $
    use1 𝓛 (raw (fact 𝓤 (InBlock p))) (in_block_says 𝓛 p) $ heard ! (InBlock p) (λ inside. hide ! $ move ! (1 ∷ 2 ∷ []) $
    looks ! tt D (loan_opened R P g 𝓛) (p, (w, (tt, tt))) b o (λ q vs. move ! (1 ∷ []) $ peeks ! D (Is D) (shows 𝓛 D) (p, (w, (tt, tt))) vs (λ so.
    let ev : vs ≡ hand_of (block_ptr (block_of p) (count_of p)) w ∷ [] = loan_told R P g p w vs so ∙ ap (λ (r : Ptr). hand_of r w ∷ []) (at_block p inside) in
    rewrite ! 1 (λ (ws : List Val). ‵ (cell_at q D.mir ws b o)) ev refl $ first ! $ blocks ! $
    sets_last ! (addr ! (through ! refl (fld ! refl (hop ! (look_in ! 1 (sub ! 0 refl (whole !))) (stop !))))) refl (tt, tt) $ exec ! 𝓣.C 𝓣.Λ Locals (tail fn.body) (at_ret Locals Exit) $ sets ! (of_opd ! (get ! refl)) refl (tt, tt) $
    rewrite ! 1 (λ (ws : List Val). ‵ (cell_at q D.mir ws b o)) (sym ev) refl $ move ! (1 ∷ 0 ∷ 2 ∷ []) $ shuts ! tt D q (p, (w, (tt, tt))) vs b o $ move ! (0 ∷ 3 ∷ []) $ join ! $
    move ! (2 ∷ []) $ feq_i ! (List Val) (there ∷ []) (there ∷ []) refl $ fjoin ! $ use0 𝓛 (raw (fact 𝓤 (x ≡ x))) (fact_i 𝓤 (x ≡ x) (emp 𝓤) refl) $ nothing ! $ nothing ! $ fjoin ! $
    returns ! (look_at ! 0 refl) $ free_all ! refl $ keep ! (3 ∷ 0 ∷ 2 ∷ 1 ∷ []) $ by ! (leaves 𝓛 Sig exits c start there (record { ref_ptr = (block_of p, count_of p); now = x }) (tt, tt) (tt, tt)))))))
