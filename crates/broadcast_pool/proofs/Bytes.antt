-- A map whose keys are texts, and the same by the bytes of the keys.
use Rattle.std.proofs.Common.{◌≡◌, ℕ, cond, List, [], ◌∷◌, Option, Some, None, String, map, string_bytes, refl, sym, ap, ◌∙◌}
use Rattle.std.proofs.lemmas.Map.Text.{btree_map_updates_text, is_eq-slice_cmp}
use Rattle.std.specs.Ordering.{nat_cmp, eq_by_cmp}
use Rattle.std.specs.Cmp.{eq_by_cmp_equiv}
use Rattle.std.specs.Cmp.Lexicographic.{slice_cmp, nat_list_cmp_total}
use Rattle.std.specs.Str.{bytes_eq}
use Rattle.std.specs.String.{string_cmp}
use Rattle.std.specs.Map.{lookup}
use Rattle.std.specs.BTreeMap.{BTreeMap, UpdatesBy, get_by_text, is_at}
use Rattle.std.specs.FinMap as fin
use Rattle.broadcast_hub.specs.Hubs.{Hubbed}
use Rattle.broadcast_pool.specs.Pools.{Pooled, by_bytes}

found : {Y : Type 0} (key : List ℕ) (es : List (String Y × Hubbed))
    → fin.find (slice_cmp nat_cmp) key (map (λ e. (string_bytes e.0, e.1)) es)
    ≡ lookup (is_at (λ k. slice_cmp nat_cmp key (string_bytes k))) es
found key [] = refl
found key (e ∷ es) = ap (cond (is_at (λ k. slice_cmp nat_cmp key (string_bytes k)) e.0) (Some e.1)) (found key es)

-- pools that answer alike are equal
pub same : (m n : Pooled) → ((q : List ℕ) → fin.get m q ≡ fin.get n q) → m ≡ n
same m n is = fin.same_map nat_list_cmp_total (fin.slice_cmp-IsAntisymmetric fin.nat_cmp-IsAntisymmetric) m n is

module _ {Y : Type 0} where
  pub get_by_bytes : (hubs : BTreeMap (String Y) Hubbed) (key : List ℕ)
      → fin.get (by_bytes hubs) key ≡ get_by_text hubs key
  get_by_bytes hubs key = fin.get-from_entries nat_list_cmp_total _ key ∙ found key hubs.entries

  -- what a text finds, in a pool that is seen so
  pub seen : (hubs : BTreeMap (String Y) Hubbed) (pool : Pooled) (key : List ℕ) → by_bytes hubs ≡ pool
      → get_by_text hubs key ≡ fin.get pool key
  seen hubs pool key is = sym (get_by_bytes hubs key) ∙ ap (λ p. fin.get p key) is

  -- one key's hub, and what the others have, in both
  turned : (key q : List ℕ) (hub : Option Hubbed) (hubs : BTreeMap (String Y) Hubbed)
      → cond (bytes_eq key q) hub (get_by_text hubs q)
      ≡ cond (eq_by_cmp (slice_cmp nat_cmp) q key) hub (fin.get (by_bytes hubs) q)
  turned key q hub hubs =
      ap (λ b. cond b hub (get_by_text hubs q)) (sym (is_eq-slice_cmp key q) ∙ (eq_by_cmp_equiv nat_list_cmp_total).symm key q)
      ∙ ap (cond (eq_by_cmp (slice_cmp nat_cmp) q key) hub) (sym (get_by_bytes hubs q))

  pub sets : (key : List ℕ) (old new : BTreeMap (String Y) Hubbed) (hub : Hubbed)
      → UpdatesBy string_cmp (λ k. slice_cmp nat_cmp key (string_bytes k)) old new (Some hub)
      → by_bytes new ≡ fin.insert (by_bytes old) key hub
  sets key old new hub u = same _ _ (λ q. get_by_bytes new q ∙ btree_map_updates_text key old new (Some hub) u q
      ∙ turned key q (Some hub) old ∙ sym (fin.get-insert nat_list_cmp_total (by_bytes old) key hub q))

  pub removes : (key : List ℕ) (old new : BTreeMap (String Y) Hubbed)
      → UpdatesBy string_cmp (λ k. slice_cmp nat_cmp key (string_bytes k)) old new None
      → by_bytes new ≡ fin.remove (by_bytes old) key
  removes key old new u = same _ _ (λ q. get_by_bytes new q ∙ btree_map_updates_text key old new None u q
      ∙ turned key q None old ∙ sym (fin.get-remove nat_list_cmp_total (by_bytes old) key q))
