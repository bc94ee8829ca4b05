-- What a loan owns, taken apart and put together, and tuples of what is owned. Assumes `Logic`.
use Rattle.std.proofs.Common.{◌≡◌, ℕ, ◌<◌, ◌^◌, List, [], ◌∷◌, ◌++◌, refl, w64}
use seplogic.Ra.Ura.{Ura}
use mir.Val.{Val, vint, vstruct, vcons, vnil, of_list}
use base.Logic.{ent, sep, emp, guard, guard_i}
use base.Fml.{Fml, fsep, feq, fall}
use types.Logic.{Logic, sem}
use types.Kit.{‵, ◌⊛◌, given, ◌$◌, ◌∵◌, !, qed, move, drop, split, fsplit, fjoin, fjoin3, fpack, feq_i, learn, check, use0, use1, done}
use contract.Monad.{fact_use}
use denote.RattleType.{RattleType, Valss, owns}
use denote.RawPtr.{Ptr, InBlock}
use denote.Builtin.{u64, unit}
use denote.Plain.{uint_Makes}
use denote.Steps.{nothing}
use denote.Struct.Tuple.{Tuple}
use denote.Struct.Lending.{lent_at}
use Rattle.core.specs.declared.alloc.Allocator.{Ghosts}
use Rattle.atomic_table.specs.Seated.{place}
use Rattle.atomic_table.proofs.Fields.{hand_of}
use Rattle.counted_payload.specs.Accounts.{Accounted, out_of}
use Rattle.counted_payload.specs.Parted.{tokens, part_owns, deed_owns}
use Rattle.counted_payload.specs.Loans.{returned_owns}
use Rattle.counted_payload.specs.CountedLoans.{entry_code, pool_known}
use Rattle.counted_payload.specs.contracts.Part as part
use Rattle.counted_payload.specs.contracts.Loan as loan
use Rattle.counted_payload.specs.contracts.Returned as returned
use Rattle.counted_payload.specs.contracts.Kept as kept
use Rattle.counted_payload.proofs.Bits.{PartData, LoanData, KeptData, ReturnedData, part_bits, part_made, loan_made, kept_made, returned_made, returned_bits}
use Rattle.counted_payload.proofs.Freezing.{lies_somewhere}
use Rattle.counted_payload.proofs.Known.{known_twice}

module _ {M : Type 1} {𝓤 : Ura M} (𝓛 : Logic 𝓤) (R P : RattleType) (g : Ghosts P.Denot) where
  module _ (l : (loan.the_row R P g).Denot) where
    -- how the word's invariant and the pool's are found again
    abbrev pub knows : Fml
    knows = pool_known l.word l.table_id l.round l.pool (deed_owns (g.dealloc_token l.alloc) R l.at l.value l.round)

    abbrev pub sight : Fml
    sight = lent_at R l.at l.value (l.round ∷ [])

    -- parts, what they show, and what is known of the pool; and neither pointer is null
    pub loan_apart : (vs : List Val) → ent 𝓤 (sem 𝓛 ((loan.the_row R P g).own_val l vs)) (guard 𝓤 (InBlock l.at) (guard 𝓤 (InBlock l.word) (sep 𝓤 (sem 𝓛 (tokens l.round l.count)) (sep 𝓤 (sem 𝓛 sight) (sem 𝓛 knows)))))
    loan_apart vs = let parts = part_owns R l.at l.value l.round l.count in qed 𝓛 (‵ ((loan.the_row R P g).own_val l vs) ∷ []) ∵ fsplit ! $ drop ! $ fsplit ! $
        use1 𝓛 (given (InBlock l.at) (‵ parts)) (fact_use 𝓤 (InBlock l.at) (lies_somewhere 𝓛 R l.at l.value l.round l.count) (guard_i 𝓤 (InBlock l.at) (sem 𝓛 parts))) $ learn ! (λ inside. check ! inside $
        move ! (1 ∷ []) $ use1 𝓛 (given (InBlock l.word) (‵ knows ⊛ ‵ knows)) (known_twice 𝓛 unit entry_code Accounted out_of l.word (place l.table_id) l.table_id l.round l.pool (deed_owns (g.dealloc_token l.alloc) R l.at l.value l.round)) $
        learn ! (λ at_word. check ! at_word $ split ! $ drop ! $ move ! (1 ∷ []) $ fsplit ! $ done !))

    pub loan_whole : ent 𝓤 (sep 𝓤 (sem 𝓛 (tokens l.round l.count)) (sep 𝓤 (sem 𝓛 sight) (sem 𝓛 knows))) (sem 𝓛 ((loan.the_row R P g).own_val l (hand_of l.at l.word ∷ [])))
    loan_whole = qed 𝓛 (‵ (tokens l.round l.count) ∷ ‵ sight ∷ ‵ knows ∷ []) ∵ fjoin ! $ fjoin ! $
        use0 𝓛 (‵ ((LoanData R P g).own_val (l.at, (l.word, (tt, tt))) (hand_of l.at l.word ∷ []))) (loan_made R P g 𝓛 l.at l.word) $ fjoin ! $ done !

  pub returned_whole : (r : (returned.the_row R P g).Denot) → ent 𝓤 (sem 𝓛 (returned_owns (g.dealloc_token r.alloc) R r.at r.value r.round r.count r.found)) (sem 𝓛 ((returned.the_row R P g).own_val r (returned_bits r.at ∷ [])))
  returned_whole r = qed 𝓛 (‵ (returned_owns (g.dealloc_token r.alloc) R r.at r.value r.round r.count r.found) ∷ []) ∵
      use0 𝓛 (‵ ((ReturnedData R P g).own_val (r.at, (tt, tt)) (returned_bits r.at ∷ []))) (returned_made R P g 𝓛 r.at) $ fjoin ! $ done !

  pub kept_whole : (r : (kept.the_row R P g).Denot) → ent 𝓤 (sep 𝓤 (sem 𝓛 (fall (¬ (r.found ≡ r.count)) (λ _. tokens r.round r.count))) (sep 𝓤 (sem 𝓛 (lent_at R r.at r.value (r.round ∷ [])))
      (sem 𝓛 (pool_known r.word r.table_id r.round r.pool (deed_owns (g.dealloc_token r.alloc) R r.at r.value r.round))))) (sem 𝓛 ((kept.the_row R P g).own_val r (hand_of r.at r.word ∷ [])))
  kept_whole r = qed 𝓛 (‵ (fall (¬ (r.found ≡ r.count)) (λ _. tokens r.round r.count)) ∷ ‵ (lent_at R r.at r.value (r.round ∷ [])) ∷ ‵ (pool_known r.word r.table_id r.round r.pool (deed_owns (g.dealloc_token r.alloc) R r.at r.value r.round)) ∷ []) ∵
      fjoin3 ! $ use0 𝓛 (‵ ((KeptData R P g).own_val (r.at, (r.word, (tt, tt))) (hand_of r.at r.word ∷ []))) (kept_made R P g 𝓛 r.at r.word) $ fjoin ! $ done !

-- parts and what they show are a `Part`
pub part_whole : {M : Type 1} {𝓤 : Ura M} (𝓛 : Logic 𝓤) (R : RattleType) (d : (part.the_row R).Denot) → ent 𝓤 (sem 𝓛 (part_owns R d.ptr d.value d.round d.count)) (sem 𝓛 ((part.the_row R).own_val d (part_bits d.ptr ∷ [])))
part_whole 𝓛 R d = qed 𝓛 (‵ (part_owns R d.ptr d.value d.round d.count) ∷ []) ∵ use0 𝓛 (‵ ((PartData R).own_val (d.ptr, tt) (part_bits d.ptr ∷ []))) (part_made R 𝓛 d.ptr) $ fjoin ! $ done !

-- ---- a tuple is owned with its members
module _ {M : Type 1} {𝓤 : Ura M} (𝓛 : Logic 𝓤) where
  pub number_owned : (n : ℕ) → n < 2 ^ 64 → ent 𝓤 (emp 𝓤) (sem 𝓛 (u64.own_val n (vint w64 n ∷ [])))
  number_owned n small = uint_Makes 𝓛 w64 n (vint w64 n ∷ []) (refl, small)

  module _ (A B : RattleType) (x : A.Denot) (y : B.Denot) (u v : Val) where
    abbrev of_two : Val
    of_two = vstruct (vcons u (vcons v vnil))

    pub two_owned : ent 𝓤 (sep 𝓤 (sem 𝓛 (A.own_val x (u ∷ []))) (sem 𝓛 (B.own_val y (v ∷ [])))) (sem 𝓛 ((Tuple (A ∷ B ∷ [])).own_val (x, y) (of_two ∷ [])))
    two_owned = qed 𝓛 (‵ (A.own_val x (u ∷ [])) ∷ ‵ (B.own_val y (v ∷ [])) ∷ []) ∵ nothing ! $ move ! (1 ∷ 2 ∷ 0 ∷ []) $ fjoin3 ! $ feq_i ! (List Val) (of_two ∷ []) (of_two ∷ []) refl $ fjoin ! $
        fpack ! (Valss (A ∷ B ∷ [])) (λ vss. fsep (feq (List Val) (of_two ∷ []) (vstruct (of_list (vss.0 ++ (vss.1.0 ++ []))) ∷ [])) (owns (A ∷ B ∷ []) (x, (y, tt)) vss)) (u ∷ [], (v ∷ [], tt)) $ done !

    pub three_owned : (C : RattleType) (c : C.Denot) (w : Val) → ent 𝓤 (sep 𝓤 (sem 𝓛 (A.own_val x (u ∷ []))) (sep 𝓤 (sem 𝓛 (B.own_val y (v ∷ []))) (sem 𝓛 (C.own_val c (w ∷ [])))))
        (sem 𝓛 ((Tuple (A ∷ B ∷ C ∷ [])).own_val (x, y, c) (vstruct (vcons u (vcons v (vcons w vnil))) ∷ [])))
    three_owned C c w = let all = vstruct (vcons u (vcons v (vcons w vnil))) in qed 𝓛 (‵ (A.own_val x (u ∷ [])) ∷ ‵ (B.own_val y (v ∷ [])) ∷ ‵ (C.own_val c (w ∷ [])) ∷ []) ∵
        nothing ! $ move ! (3 ∷ 0 ∷ []) $ fjoin ! $ move ! (1 ∷ 2 ∷ 0 ∷ []) $ fjoin3 ! $ feq_i ! (List Val) (all ∷ []) (all ∷ []) refl $ fjoin ! $
        fpack ! (Valss (A ∷ B ∷ C ∷ [])) (λ vss. fsep (feq (List Val) (all ∷ []) (vstruct (of_list (vss.0 ++ (vss.1.0 ++ (vss.1.1.0 ++ [])))) ∷ [])) (owns (A ∷ B ∷ C ∷ []) (x, (y, (c, tt))) vss)) (u ∷ [], (v ∷ [], (w ∷ [], tt))) $ done !
