-- What a unit's home says of its seat.
use Rattle.std.proofs.Common.{◌≡◌, ℕ, false, subst}
use Rattle.std.proofs.lemmas.Bool.{true≢false}
use Rattle.std.specs.Global.{Global}
use Rattle.atomic_table.specs.Seated.{TableId}
use Rattle.counted_payload.specs.declared.Entry.{Entry}
use Rattle.share_count.specs.declared.home.Home.{Home}
use Rattle.share_count.specs.declared.home.Home.TheVariants.{Own, Lent, Moving}
use Rattle.share_count.specs.Homes.{is_own, Houses}

module _ {X : Type 0} (t : TableId) (weight : ℕ) (v : Entry) (alloc : Global) where
  pub lent_parts : (h : Home X) → is_own h ≡ false → Houses t weight v alloc h → v.parts ≡ weight
  lent_parts (Own boxed) not_own houses = absurd (true≢false not_own)
  lent_parts (Lent loan) not_own houses = houses.2
  lent_parts (Moving trace) not_own houses = absurd houses

  pub as_it_is : (h h' : Home X) → h ≡ h' → Houses t weight v alloc h → Houses t weight v alloc h'
  as_it_is h h' same houses = subst (Houses t weight v alloc) same houses
