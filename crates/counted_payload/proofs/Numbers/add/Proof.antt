-- `add` opens the borrow, and closes it at the longer list.
use Rattle.atomic_table.proofs.Names.{◌≡◌, ℕ, List, [], ◌∷◌, ◌++◌, refl, named, Val, vunit, vptr, SProp, emp, Fml, ftrue, fsep, flft, ‵, raw, ◌⊛◌, ◌$◌, ◌∵◌, !, qed, by, move, keep, split, join, fsplit, fsplit3, fjoin, fjoin3, use0, use1, feq_i, unit_lit, of_opd, returns, enter, alloc_all, pass_all, free_all, look_at, sets, tables, yes, RattleType, owns, types_at, plain, nothing, Stays, stay_dropped, Goes-dropped, walk_of, fact, fact_i, RefOf, shr_vals, shr_Tells, mut_vals, mut_Tells, opens, closes, stay_ref, Goes-ref, id⊢}
use Rattle.std.specs.Prelude.{Option, Some}
use denote.Builtin.{unit}
use Rattle.atomic_table.specs.Seated.{TableId}
use Rattle.atomic_table.specs.contracts.shared.Shared as table
use Rattle.atomic_table.proofs.Walks.{proved, leaves}
use Rattle.counted_payload.specs.contracts.Entry as entry
use Rattle.counted_payload.specs.contracts.Rule as rule
use Rattle.counted_payload.specs.contracts.RuleTableRuleUnitEntryUnit.TheImpl as impl
use Rattle.counted_payload.specs.contracts.Numbers as numbers
use Rattle.counted_payload.specs.contracts.Numbers.add.{ended, clauses}
use Rattle.counted_payload.specs.contracts.Numbers.add.Key.{name as #self}
use Rattle.counted_payload.proofs.Numbers.add.Statement.{statement}
use Rattle.counted_payload.proofs.Numbers.add.Code as code

pub add_spec : {M : Type 1} → statement M
add_spec 𝓤 𝓛 𝓜 𝓡 wired =
    let H = 𝓛.H in let 𝓣 = tables 𝓤 H 𝓜 𝓡 𝓡.env in let Row : RattleType = numbers.the_row in let Sh : RattleType = table.the_row unit entry.the_row unit rule.the_row impl.ghosts in
    let En = ended in let fn = code.function in let c = clauses 𝓛 𝓜.mem 𝓡.returns in
    let self = plain (λ _. Row) in let word = RefOf (1 ∷ []) tt (plain (λ _. Sh)) (λ _. tt) in let hs : Stays En.signature.params En.kept = (stay_ref (0 ∷ []) tt self, (stay_dropped word yes, tt)) in
    proved 𝓛 En hs c 𝓜 𝓡 (Goes-ref 𝓛 2 0 tt self, (Goes-dropped 𝓛 2 word yes (λ κs x f. refl), tt)) #self fn (code.unfolded 𝓤 H 𝓜 𝓡 wired)
    (λ κs. (mut_vals, (shr_vals, tt))) (λ κs. (mut_Tells (named 0) κs.0 Row, (shr_Tells (named 1) κs.1.0 Sh, tt))) (λ κs qs bounds a gh are.
    let b : ℕ = a.0.ref_ptr.0 in let o : ℕ = a.0.ref_ptr.1 in let b' : ℕ = a.1.0.ref_ptr.0 in let o' : ℕ = a.1.0.ref_ptr.1 in let h : Row.Denot = a.0.now in let t : Sh.Denot = a.1.0.now in
    let longer : List (Option TableId) = h.words ++ Some t.table_id ∷ [] in let h' : Row.Denot = record { marker = h.marker; words = longer } in let others : Fml = fsep (flft κs.1.0 qs.1.0) ftrue in
    let y : (walk_of 𝓛 En hs c).Ghost = ((κs, qs, bounds, a, (vptr b o ∷ [], (vptr b' o' ∷ [], tt))), gh) in let Post : Val → SProp 𝓤 = (walk_of 𝓛 En hs c).post y in
    qed 𝓛 (((‵ (flft κs.0 qs.0) ⊛ ‵ others) ⊛ ‵ (owns (types_at En.signature.params κs) a y.0.4)) ∷ raw ((c κs a).requires gh) ∷ []) ∵
    split ! $ split ! $ move ! (2 ∷ []) $ fsplit ! $ fsplit3 ! $ keep ! (1 ∷ 2 ∷ 4 ∷ 5 ∷ []) $
    enter ! 𝓣.C 𝓣.Λ fn (vptr b o ∷ vptr b' o' ∷ []) Post $ alloc_all ! (λ l. pass_all ! refl ((tt, tt), ((tt, tt), tt)) $
    opens ! tt Row b o (λ ts. move ! (1 ∷ []) $ use1 𝓛 (‵ (Row.own_val h' ts)) (id⊢ 𝓤 _) $ move ! (1 ∷ 0 ∷ []) $
    closes ! tt Row h' ts b o $ feq_i ! (List Val) (vptr b o ∷ []) (vptr b o ∷ []) refl $ fjoin3 ! $ nothing ! $ nothing ! $ fjoin ! $ move ! (1 ∷ 0 ∷ []) $ fjoin ! $ move ! (1 ∷ 2 ∷ []) $ join ! $
    sets ! (of_opd ! (unit_lit !)) refl (tt, tt) $ use0 𝓛 (raw (fact 𝓤 (longer ≡ longer))) (fact_i 𝓤 (longer ≡ longer) (emp 𝓤) refl) $ feq_i ! (List Val) (vunit ∷ []) (vunit ∷ []) refl $
    returns ! (look_at ! 0 refl) $ free_all ! refl $ keep ! (2 ∷ 3 ∷ 0 ∷ 1 ∷ []) $ by ! (leaves 𝓛 En hs c y vunit tt (h', (tt, tt)) (tt, (tt, tt))))))
