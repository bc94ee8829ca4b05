-- Pools after changes at one key.
use Rattle.std.proofs.Common.{◌≡◌, ℕ, true, false, Bool, cond, List, Option, Some, None, rules, is_some, IsSome, refl, sym, ap, ◌∙◌}
use Rattle.std.specs.Ordering.{nat_cmp, eq_by_cmp, is_eq}
use Rattle.std.specs.declared.cmp.Ordering.{Ordering}
use Rattle.std.specs.declared.cmp.Ordering.TheVariants.{Less, Equal, Greater}
use Rattle.std.specs.Cmp.{eq_by_cmp_equiv}
use Rattle.std.specs.Cmp.Lexicographic.{slice_cmp, nat_list_cmp_total}
use Rattle.std.specs.FinMap as fin
use Rattle.broadcast_hub.specs.Hubs.{Hubbed, new_hub}
use Rattle.broadcast_pool.specs.Pools.{Pooled, hub_or_new}
use Rattle.broadcast_pool.proofs.Bytes.{same}

equal : (r : Ordering) → is_eq r ≡ true → r ≡ Equal
equal Less h = cc
equal Equal h = refl
equal Greater h = cc

itself : (o : Option Hubbed) → is_some o ≡ true → o ≡ Some (hub_or_new o)
itself None h = cc
itself (Some hub) h = refl

pub fresh : (o : Option Hubbed) → is_some o ≡ false → hub_or_new o ≡ new_hub
fresh None h = refl
fresh (Some hub) h = cc

pub some_is : (o : Option Hubbed) → is_some o ≡ true → IsSome o
some_is None h = cc
some_is (Some hub) h = search rules

pub not_some : (o : Option Hubbed) → is_some o ≡ false → IsSome o → ⊥
not_some None h has = search rules
not_some (Some hub) h has = cc

kept_at : (pool : Pooled) (key q : List ℕ) (b : Bool) → eq_by_cmp (slice_cmp nat_cmp) q key ≡ b
    → is_some (fin.get pool key) ≡ true
    → fin.get pool q ≡ cond b (Some (hub_or_new (fin.get pool key))) (fin.get pool q)
kept_at pool key q true e h =
    sym (fin.get_tied nat_list_cmp_total pool q key (equal _ e)) ∙ itself (fin.get pool key) h
kept_at pool key q false e h = refl

-- a pool stays where a key is set to the hub that it has
pub kept : (pool : Pooled) (key : List ℕ) → is_some (fin.get pool key) ≡ true
    → pool ≡ fin.insert pool key (hub_or_new (fin.get pool key))
kept pool key h = same _ _ (λ q. kept_at pool key q _ refl h
    ∙ sym (fin.get-insert nat_list_cmp_total pool key (hub_or_new (fin.get pool key)) q))

pub at_key : (pool : Pooled) (key : List ℕ) (v : Hubbed) → fin.get (fin.insert pool key v) key ≡ Some v
at_key pool key v = fin.get-insert nat_list_cmp_total pool key v key
    ∙ ap (λ b. cond b (Some v) (fin.get pool key)) ((eq_by_cmp_equiv nat_list_cmp_total).refl key)
