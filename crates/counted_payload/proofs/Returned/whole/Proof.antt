-- `thaw` ends the lifetime by all of its parts, and makes the box again.
use Rattle.std.proofs.Common.{◌≡◌, ℕ, ◌^◌, T, List, [], ◌∷◌, ◌++◌, sym, refl, ap, ◌∙◌, subst}
use mir.Syntax.{a_type, dcons, dnil}
use mir.Val.{Val, vptr, has_ty, WT}
use mir.MapTy.{inst_fn}
use base.Fraction.{full_share}
use base.Logic.{SProp, ent, sep, emp, id⊢, guard_i, fst∗, never}
use base.Fml.{Fml, ftrue, fsep, flft}
use types.Logic.{sem}
use types.Kit.{Item, ‵, raw, ◌⊛◌, some, later, at_ret, ◌$◌, ◌∵◌, !, qed, by, move, keep, drop, split, split3, join, fsplit, fsplit3, fjoin, fjoin3, fpick, pick, use0, use1, use2, await, rewrite, feq_i, suffices}
use types.Run.{stop, fld, of_opd, no_more, and_then, first, blocks, exec, returns, enter}
use types.ByLocal.{alloc_all, pass_all, free_all, look_at, get, get_in, sets, lands_last, is, env}
use types.Part.{sub, whole}
use contract.Running.{tables}
use contract.Monad.{fact, fact_i}
use contract.BorrowLft.{◌⊑◌}
use denote.Exit.{no}
use denote.RattleType.{RattleType}
use denote.Signature.{plain}
use denote.RawPtr.{Ptr, block_ptr, ptr_val, block_of, count_of, at_block, lies_at}
use denote.Steps.{nothing, only, heard}
use denote.Param.{bounded}
use denote.Param.Laws.{param_laws}
use denote.Struct.Lending.{lent_at, lent_at_shr_laws}
use denote.Triple.Spec.{triple_of}
use denote.Triple.Call.{calls_at_last}
use denote.Triple.Walked.{Stays, stay_dropped, walk_of, Goes-dropped}
use Rattle.core.proofs.atomic.Steps.{tail}
use Rattle.atomic_table.proofs.Walks.{proved_at, leaves}
use Rattle.atomic_table.proofs.Calls.{fm}
use Rattle.counted_payload.specs.Parted.{tokens, deed_owns}
use Rattle.counted_payload.proofs.Freezing.{thaws}
use denote.Triple.Clauses.{Lasts, lasts}
use Rattle.core.proofs.alloc.Calls.{handle_tells, Goes-blank}
use Rattle.std_alloc.proofs.BoxSteps.Form as box
use Rattle.std_alloc.proofs.BoxSteps.Steps.{box_out, box_in}
use Rattle.std_alloc.specs.contracts.boxed.Box.from_raw as callee
use Rattle.std_alloc.proofs.boxed.Box.from_raw.Met as callee_met
use Rattle.counted_payload.specs.contracts.Returned as left
use Rattle.counted_payload.proofs.Bits.{returned_told, returned_bits, returned_fits}
use Rattle.counted_payload.specs.contracts.Returned.whole.{ended, clauses}
use Rattle.counted_payload.specs.contracts.Returned.whole.Key.{name as #self}
use Rattle.counted_payload.proofs.Returned.whole.Statement.{statement}
use Rattle.counted_payload.proofs.Returned.whole.Code as code

pub whole_spec : {M : Type 1} → statement M
whole_spec 𝓤 𝓛 𝓜 𝓡 wired X Z L LZ g d dd met md =
    let H = 𝓛.H in
    let 𝓣 = tables 𝓤 H 𝓜 𝓡 𝓡.env in
    let E : box.Bx = record { row = X; laws = L; al = record { row = Z; laws = LZ; g = g; d = d; drops = dd } } in
    let R : RattleType = box.R E in
    let P : RattleType = box.P E in
    let B : RattleType = box.B E in
    let Fr : RattleType = left.the_row R P g in
    let LR = param_laws 0 X L in
    let Sig = ended X Z g d dd in
    let inst = bounded (a_type ∷ a_type ∷ []) (X, (Z, tt)) (dcons d (dcons dd dnil)) in
    let fn = inst_fn inst code.function in
    let c = clauses X Z g d dd 𝓛 𝓜.mem 𝓡.returns in
    let Made = triple_of 𝓛 (callee.signature X Z g d dd) (callee.spec X Z g d dd 𝓛 𝓜.mem 𝓡.returns) in
    let Ce = callee.ended X Z g d dd in
    let meets = callee_met.met 𝓤 𝓛 𝓜 𝓡 (code.calls-std_alloc::boxed::Box::from_raw 𝓡.env wired) X Z L LZ g d dd met md in
    let exits : Stays Sig.signature.params Sig.kept = (stay_dropped (plain (λ _. Fr)) no, (stay_dropped (plain (λ _. P)) no, tt)) in
    proved_at 𝓛 Sig exits c 𝓜 𝓡 (Goes-dropped 𝓛 2 (plain (λ _. Fr)) no (λ κs x f. refl), (Goes-blank 𝓛 2 (plain (λ _. P)) no (λ κs x f. tt), tt)) (#self inst) fn (code.unfolded 𝓤 H 𝓜 𝓡 wired (X, (Z, tt)) d dd) (λ z are.
    let κs = z.0.0 in
    let qs = z.0.1 in
    let t₁ : Item 𝓤 = ‵ (flft κs.0 qs.0) in
    let t₂ : Item 𝓤 = ‵ (flft κs.1.0 qs.1.0) in
    let inX = κs.0 ⊑ X.lives in
    let inZ = κs.1.0 ⊑ Z.lives in
    let Exit : Val → SProp 𝓤 = (walk_of 𝓛 Sig exits c).post z in
    let Run : List Val → SProp 𝓤 = λ ws. prog.Wp.WpFn 𝓤 H 𝓣.C 𝓣.Λ fn ws Exit in
    let v : Fr.Denot = z.0.3.0 in
    let a : Z.Denot = z.0.3.1.0 in
    let x : X.Denot = v.value in
    let p : Ptr = v.at in
    let n : ℕ = v.round in
    let Wants : Type 0 = (v.found ≡ v.count) × (a ≡ v.alloc) in
    let b : ℕ = block_of p in
    let o : ℕ = count_of p in
    let whole_value : Fml = lies_at R full_share p x in
    qed 𝓛 (((t₁ ⊛ t₂ ⊛ ‵ ftrue) ⊛ ‵ (fsep (Fr.own_val v z.0.4.0) (fsep (P.own_val a z.0.4.1.0) ftrue))) ∷ raw (fact 𝓤 inX) ∷ raw (fact 𝓤 inZ) ∷ raw (fact 𝓤 Wants) ∷ []) ∵
    move ! (1 ∷ 2 ∷ 3 ∷ []) $ heard ! inX (λ leX. heard ! inZ (λ leZ. heard ! Wants (λ wants. split ! $ move ! (1 ∷ []) $ fsplit3 ! $ fsplit ! $ drop ! $
    use1 𝓛 (‵ (fsep (tokens n (2 ^ 62)) (deed_owns (g.dealloc_token v.alloc) R p x n))) (base.Logic.all_e 𝓤 (λ (_ : v.found ≡ v.count). sem 𝓛 (fsep (tokens n (2 ^ 62)) (deed_owns (g.dealloc_token v.alloc) R p x n))) wants.0) $ fsplit ! $
    move ! (1 ∷ []) $ rewrite ! 0 (λ (u : Z.Denot). ‵ (deed_owns (g.dealloc_token u) R p x n)) (sym wants.1) refl $ fsplit3 ! $ fpick ! (λ inside. drop ! $
    -- [the lender's right; the right to free; the tokens; the handle; nothing; the tokens of the lifetimes]
    move ! (3 ∷ []) $ handle_tells E.al ! a z.0.4.1.0 (λ hv eh fa. move ! (3 ∷ 1 ∷ []) $ use2 𝓛 (later (‵ whole_value)) (thaws 𝓛 whole_value n) $
    -- [the value; the handle; the right to free; nothing; the tokens of the lifetimes]
    let at : p ≡ block_ptr b o = at_block p inside in
    let us : List Val = returned_bits p ∷ hv ∷ [] in
    let ew : z.0.4.0 ≡ returned_bits p ∷ [] = returned_told R P g p z.0.4.0 are.0.0 in
    let call : Made.Ghost = ((κs, qs, tt, (a, (p, tt)), (hv ∷ [], (vptr b o ∷ [], tt))), x) in
    suffices ! (Run us) (subst (λ (ws : List Val). ent 𝓤 (Run us) (Run ws)) (sym (λ i. ew i ++ (eh i ++ []))) (id⊢ 𝓤 (Run us))) $ keep ! (0 ∷ 2 ∷ 1 ∷ 4 ∷ []) $
    enter ! 𝓣.C 𝓣.Λ fn us Exit $ alloc_all ! (λ l. pass_all ! refl (returned_fits p inside, (fa, tt)) $ let Locals = env fn.locals l in await ! tt $ fjoin ! $
    sets ! (is ! (of_opd ! (get_in ! (fld ! refl (stop !)) (sub ! 0 refl (whole !)))) (ap ptr_val at)) refl (tt, tt) $ sets ! (of_opd ! (get ! refl)) refl (tt, tt) $
    first ! $ blocks ! $ sets ! (of_opd ! (get ! refl)) refl fa $
    use0 𝓛 (raw (fact 𝓤 inZ)) (fact_i 𝓤 inZ (emp 𝓤) leZ) $ join ! $ use0 𝓛 (raw (fact 𝓤 inX)) (fact_i 𝓤 inX (emp 𝓤) leX) $ join ! $
    nothing ! $ feq_i ! (List Val) (vptr b o ∷ []) (ptr_val p ∷ []) (ap (λ (π : Ptr). ptr_val π ∷ []) (sym at)) $ move ! (3 ∷ 0 ∷ 1 ∷ []) $ fjoin3 ! $ move ! (2 ∷ 0 ∷ []) $ join ! $ join ! $ use1 𝓛 (raw (Made.pre call)) (id⊢ 𝓤 _) $
    calls_at_last ! (fm 𝓛 𝓜 𝓡) Made meets call (and_then ! (get ! refl) (and_then ! (get ! refl) (no_more !))) (λ u.
    use1 𝓛 (later (some (λ (r : B.Denot). ((t₁ ⊛ t₂ ⊛ ‵ ftrue) ⊛ ‵ (B.own_val r (u ∷ []))) ⊛ some (λ (ws : Lasts Ce κs (a, (p, tt))). ‵ (lasts Ce κs (a, (p, tt)) ws) ⊛ (raw (fact 𝓤 (r.value ≡ x)) ⊛ raw (fact 𝓤 (r.alloc ≡ a))))))) (id⊢ 𝓤 _) $
    await ! tt $ pick ! (λ r. split ! $ move ! (1 ∷ []) $ pick ! (λ _. split3 ! $ drop ! $ heard ! (r.value ≡ x) (λ same. heard ! (r.alloc ≡ a) (λ kept. split ! $ move ! (1 ∷ []) $
    box_out E ! r (u ∷ []) (λ b' o' hw e' eu fw. box_in E ! r b' o' r.value e' refl $ let w' : Val = box.word E hw b' o' in let typed' = box.box_typed E hw b' o' fw in let is_word : u ≡ w' = ap only eu in
    lands_last ! refl (subst (λ (s : Val). T (has_ty (box.box_ty E) s) × WT s) (sym is_word) typed') $ exec ! 𝓣.C 𝓣.Λ Locals (tail (tail (tail fn.body))) (at_ret Locals Exit) $ sets ! (is ! (of_opd ! (get ! refl)) is_word) refl typed' $
    use0 𝓛 (raw (fact 𝓤 ((r.value ≡ x) × (r.alloc ≡ v.alloc)))) (fact_i 𝓤 ((r.value ≡ x) × (r.alloc ≡ v.alloc)) (emp 𝓤) (same, kept ∙ wants.1)) $ nothing ! $ nothing ! $ fjoin ! $ nothing ! $ fjoin ! $
    returns ! (look_at ! 0 refl) $ free_all ! refl $ keep ! (3 ∷ 0 ∷ 2 ∷ 1 ∷ []) $ by ! (leaves 𝓛 Sig exits c z w' r (tt, (tt, tt)) (tt, (tt, tt))))))))))))))))
