-- `new` picks the empty list, and makes a value of no bytes.
use Rattle.atomic_table.proofs.Names.{◌≡◌, List, [], ◌∷◌, refl, Val, vstruct, vcons, vnil, SProp, emp, ‵, raw, ◌⊛◌, ◌$◌, ◌∵◌, !, qed, by, keep, split, use0, no_more, and_then, returns, enter, alloc_all, pass_all, free_all, look_at, get, sets, agg, tables, RattleType, owns, types_at, nothing, Stays, walk_of, alive, fact, fact_i}
use Rattle.std.specs.Prelude.{Option}
use denote.Shadow.{pure_i}
use Rattle.atomic_table.specs.Seated.{TableId}
use Rattle.atomic_table.proofs.Walks.{proved, leaves}
use Rattle.counted_payload.specs.contracts.Numbers as numbers
use Rattle.counted_payload.specs.contracts.Numbers.new.{ended, clauses}
use Rattle.counted_payload.specs.contracts.Numbers.new.Key.{name as #self}
use Rattle.counted_payload.proofs.Numbers.new.Statement.{statement}
use Rattle.counted_payload.proofs.Numbers.new.Code as code

abbrev no_bytes : Val
no_bytes = vstruct (vcons (vstruct vnil) vnil)

pub new_spec : {M : Type 1} → statement M
new_spec 𝓤 𝓛 𝓜 𝓡 wired =
    let H = 𝓛.H in let 𝓣 = tables 𝓤 H 𝓜 𝓡 𝓡.env in let Row : RattleType = numbers.the_row in let En = ended in let fn = code.function in let c = clauses 𝓛 𝓜.mem 𝓡.returns in
    let hs : Stays En.signature.params En.kept = tt in
    proved 𝓛 En hs c 𝓜 𝓡 tt #self fn (code.unfolded 𝓤 H 𝓜 𝓡 wired) (λ κs. tt) (λ κs. tt) (λ κs qs bounds a gh are.
    let none : List (Option TableId) = [] in let new : Row.Denot = record { marker = record {}; words = none } in
    let y : (walk_of 𝓛 En hs c).Ghost = ((κs, qs, bounds, a, tt), gh) in let Post : Val → SProp 𝓤 = (walk_of 𝓛 En hs c).post y in
    qed 𝓛 ((raw (alive 𝓛 En.signature κs qs) ⊛ ‵ (owns (types_at En.signature.params κs) a y.0.4)) ∷ raw ((c κs a).requires gh) ∷ []) ∵ split ! $ keep ! (0 ∷ []) $
    enter ! 𝓣.C 𝓣.Λ fn [] Post $ alloc_all ! (λ l. pass_all ! refl tt $
    sets ! (agg ! (no_more !)) refl (tt, tt) $ sets ! (agg ! (and_then ! (get ! refl) (no_more !))) refl (tt, (tt, tt)) $
    pure_i ! (Row.own_val new (no_bytes ∷ [])) ((λ vss. (tt, ((λ uss. (tt, tt)), tt))), tt) (((vstruct vnil ∷ [], tt), (refl, ((tt, (refl, tt)), tt))), tt) $
    use0 𝓛 (raw (fact 𝓤 (none ≡ none))) (fact_i 𝓤 (none ≡ none) (emp 𝓤) refl) $ nothing ! $
    returns ! (look_at ! 0 refl) $ free_all ! refl $ keep ! (3 ∷ 0 ∷ 2 ∷ 1 ∷ []) $ by ! (leaves 𝓛 En hs c y no_bytes new tt tt)))
