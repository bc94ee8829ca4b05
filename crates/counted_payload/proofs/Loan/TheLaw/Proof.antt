-- A `&` to a loan holds a share of its tokens. Assumes `Logic`.
use denote.RattleType.{RattleType}
use denote.Param.Laws.{Laws}
use denote.Param.Shared.{copy_shared}
use denote.Struct.Field.{RawPtr-field}
use denote.Struct.Laws.{RawPtr-copy, field_copy}
use denote.Struct.Lending.{of_Lends, lent_at, lent_at_shr_laws, Lends-first}
use Rattle.core.specs.declared.alloc.Allocator.{Ghosts}
use Rattle.core.specs.contracts.marker.PhantomData as P
use Rattle.counted_payload.specs.contracts.Loan as C
use Rattle.counted_payload.specs.Parted.{part_owns, deed_owns}
use Rattle.counted_payload.specs.CountedLoans.{pool_known}
use Rattle.counted_payload.proofs.Loan.TheLaw.Statement.{statement}
use Rattle.counted_payload.proofs.Freezing.{lent_laws, Lends-part, Lent}

pub shares : (T A : RattleType) (g : Ghosts A.Denot) (L : Laws T) (LA : Laws A) → statement T A g L LA
shares T A g L LA = of_Lends (C.struct T A g) (C.the_codes T.Denot A.Denot T.coded A.coded (P.the_row A).coded) (C.the_heap T A g) (C.the_lent T A g)
    (λ d p. lent_laws (lent_at T d.at d.value) (lent_at_shr_laws T L.shr_laws d.at d.value) d.round)
    (copy_shared RawPtr-field RawPtr-copy, (copy_shared RawPtr-field RawPtr-copy, (copy_shared (P.the_field A) (field_copy (P.the_type A) tt), tt)))
    (λ M 𝓤 𝓛 d p. let laws = lent_at_shr_laws T L.shr_laws d.at d.value in
    Lends-first 𝓛 (part_owns T d.at d.value d.round d.count) (pool_known d.word d.table_id d.round d.pool (deed_owns (g.dealloc_token d.alloc) T d.at d.value d.round))
    (Lent (lent_at T d.at d.value) laws d.round) (C.the_row T A g).lives (Lends-part (lent_at T d.at d.value) laws 𝓛 d.round d.count (C.the_row T A g).lives))
