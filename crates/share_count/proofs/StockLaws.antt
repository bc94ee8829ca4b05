-- The laws of storage histories.
use Rattle.std.proofs.Common.{◌≡◌, ℕ, zero, suc, ◌+◌, ◌-◌, ◌≤◌, List, [], ◌∷◌, ◌++◌, length, set, Some, None, Option, Bool, true, false, sym, refl, ap, ◌∙◌, arith, subst}
use Rattle.std.proofs.lemmas.Option.{none-some, same_Some}
use Rattle.std.specs.Prelude.{if◌then◌else◌, ◌==◌, ◌&&◌, not, nat_lt}
use mathlib.Core.Logic.{⊎_elim}
use Rattle.share_count.specs.Weights.{full, part}
use Rattle.share_count.specs.Histories.{Storage, Hold, Slip, Stock, Event, make, share, look, write, give, run, join, absorb, find, hold, slip, shared, written, given, paid_out, ran, joined, absorbed, with_hold, step, nothing, after}
use Rattle.share_count.specs.Accounting.{over, lasts, IsHoused, IsBalanced, IsRight, StaysRight, RunsOnce, SoleIsAlone, IsWriteOf, KeepsBytes}
use Rattle.share_count.proofs.Shelves.{find_less, find_else, find_set, find_old, find_push, length_set}
use Rattle.share_count.proofs.Histories.{step_right, sole}

after_right : (es : List Event) (s : Stock) → IsRight s → IsRight (after s es)
after_right [] s right = right
after_right (e ∷ es) s right = after_right es (step s e) (step_right s right e)

pub stays_right : StaysRight
stays_right es = after_right es nothing ((λ i b at. absurd (none-some b at)), (λ h u at. absurd (none-some u at)), (λ r x at. absurd (none-some x at)))

once : (s : Stock) (i : ℕ) (b : Storage) (p : Option (List ℕ)) → b.payload ≡ p → IsBalanced s i b → (b.runs ≤ 1) × ((b.runs ≡ 1 → (over (lasts i) s.slips ≡ 1) × (b.payload ≡ None)) × ((over (lasts i) s.slips ≡ 1) × (b.payload ≡ None) → b.runs ≡ 1))
once s i b (Some bytes) is h = let none : b.runs ≡ 0 = subst (IsHoused b) is h.4 in
    (omega (arith, none), ((λ one. absurd (omega (arith, none, one))), (λ both. absurd (none-some bytes (sym both.1 ∙ is)))))
once s i b None is h = let done : (b.word ≡ 0) × (b.runs ≡ 1) = subst (IsHoused b) is h.4 in let one = done.1 in
    (omega (arith, one), ((λ x. (h.2 done.0, is)), (λ x. one)))

pub runs_once : RunsOnce
runs_once es i b at = once (after nothing es) i b b.payload refl ((stays_right es).0 i b at)

pub sole_is_alone : SoleIsAlone
sole_is_alone es h k u v b at at' there own same = sole (after nothing es) (stays_right es) h k u v b at at' there own same

module _ (s : Stock) (h : ℕ) where
  -- the hold h, if it is there before and after, has the same bytes
  abbrev Keeps : Stock → Type 0
  Keeps t = (u v : Hold) → find s.holds h ≡ Some u → find t.holds h ≡ Some v → v.bytes ≡ u.bytes

  unchanged : (u v : Hold) → find s.holds h ≡ Some u → find s.holds h ≡ Some v → v.bytes ≡ u.bytes
  unchanged u v at at' = ap (λ (w : Hold). w.bytes) (same_Some v u (sym at' ∙ at))

  as_before : (t : Stock) → find t.holds h ≡ find s.holds h → Keeps t
  as_before t same u v at at' = ap (λ (w : Hold). w.bytes) (same_Some v u (sym at' ∙ same ∙ at))

  one_changes : (k : ℕ) (w : Hold) (o : Option Hold) → find s.holds k ≡ Some w → ((v : Hold) → o ≡ Some v → v.bytes ≡ w.bytes) → (u v : Hold) → find s.holds h ≡ Some u → find (set s.holds k o) h ≡ Some v → v.bytes ≡ u.bytes
  one_changes k w o at keeps u v at' at2 = ⊎_elim
      (λ same. keeps v same.1 ∙ ap (λ (x : Hold). x.bytes) (same_Some w u (sym at ∙ ap (λ j. find s.holds j) (sym same.0) ∙ at')))
      (λ else_. ap (λ (x : Hold). x.bytes) (same_Some v u (sym else_.1 ∙ at')))
      (find_set s.holds k h w v o at at2)

  if_either : (c : Bool) (t r : Stock) → Keeps t → Keeps r → Keeps (if c then t else r)
  if_either true t r a b = a
  if_either false t r a b = b

  shared_keeps : (k : ℕ) (o : Option Hold) → find s.holds k ≡ o → Keeps (shared s k o)
  shared_keeps k None at = unchanged
  shared_keeps k (Some w) at = let stays : Hold = record w { weight = w.weight - part w.weight } in let goes = hold w.storage (part w.weight) 0 w.bytes in
      if_either (nat_lt 1 w.weight) (record s { holds = set s.holds k (Some stays) ++ Some goes ∷ [] }) s
      (λ u v at' at2. ⊎_elim
      (λ old. one_changes k w (Some stays) at (λ x e. ap (λ (y : Hold). y.bytes) (same_Some x stays (sym e))) u v at' old)
      (λ new. let less = find_less s.holds h u at' in let long = length_set s.holds k (Some stays) in let is = new.0 in absurd (omega (arith, less, long, is)))
      (find_push (set s.holds k (Some stays)) h v (Some goes) at2))
      unchanged

  written_keeps : (k : ℕ) (bytes : List ℕ) (w : Hold) (p : Option Storage) → ¬ (k ≡ h) → Keeps (written s k bytes w p)
  written_keeps k bytes w None other = unchanged
  written_keeps k bytes w (Some b) other = let t : Stock = record { storages = set s.storages w.storage (Some (record b { payload = Some bytes })); holds = set s.holds k (Some (record w { bytes = bytes })); slips = s.slips } in
      if_either (b.word == w.weight) t s (as_before t (find_else s.holds k h (Some (record w { bytes = bytes })) (λ e. other (sym e)))) unchanged

  given_keeps : (k : ℕ) (w : Hold) (p : Option Storage) → find s.holds k ≡ Some w → Keeps (given s k w p)
  given_keeps k w None at = unchanged
  given_keeps k w (Some b) at = λ u v at' at2. one_changes k w None at (λ x e. absurd (none-some x e)) u v at' at2

  with_keeps : (k : ℕ) (f : Hold → Option Storage → Stock) (o : Option Hold) → find s.holds k ≡ o → ((w : Hold) (p : Option Storage) → find s.holds k ≡ Some w → Keeps (f w p)) → Keeps (with_hold s o f)
  with_keeps k f None at each_ = unchanged
  with_keeps k f (Some w) at each_ = each_ w (find s.storages w.storage) at

  paid_keeps : (i : ℕ) (b : Storage) (word : ℕ) (p : Option (List ℕ)) → Keeps (paid_out s i b word p)
  paid_keeps i b zero None = unchanged
  paid_keeps i b zero (Some bytes) = unchanged
  paid_keeps i b (suc n) p = unchanged

  ran_keeps : (i : ℕ) (o : Option Storage) → Keeps (ran s i o)
  ran_keeps i None = unchanged
  ran_keeps i (Some b) = paid_keeps i b b.word b.payload

  joined_keeps : (r q : ℕ) (o p : Option Slip) → Keeps (joined s r q o p)
  joined_keeps r q None p = unchanged
  joined_keeps r q (Some x) None = unchanged
  joined_keeps r q (Some x) (Some y) = if_either ((x.storage == y.storage) && not (r == q)) (record s { slips = set (set s.slips r (Some (slip x.storage (x.weight + y.weight) (x.lasts + y.lasts)))) q None }) s unchanged unchanged

  absorbed_keeps : (k r : ℕ) (o : Option Hold) (p : Option Slip) → find s.holds k ≡ o → Keeps (absorbed s k r o p)
  absorbed_keeps k r None p at = unchanged
  absorbed_keeps k r (Some w) None at = unchanged
  absorbed_keeps k r (Some w) (Some x) at = let grown : Hold = record w { absorbed = w.absorbed + x.weight } in
      if_either (w.storage == x.storage) (record s { holds = set s.holds k (Some grown); slips = set s.slips r None }) s (λ u v at' at2. one_changes k w (Some grown) at (λ z e. ap (λ (y : Hold). y.bytes) (same_Some z grown (sym e))) u v at' at2) unchanged

  step_keeps : (e : Event) → ¬ (IsWriteOf h e) → Keeps (step s e)
  step_keeps (make bytes) other = λ u v at at'. let new = hold (length s.storages) full 0 bytes in ap (λ (w : Hold). w.bytes) (same_Some v u (sym at' ∙ find_old s.holds h u (Some new) at))
  step_keeps (share k) other = shared_keeps k (find s.holds k) refl
  step_keeps (look k) other = unchanged
  step_keeps (write k bytes) other = with_keeps k (written s k bytes) (find s.holds k) refl (λ w p at. written_keeps k bytes w p other)
  step_keeps (give k) other = with_keeps k (given s k) (find s.holds k) refl (λ w p at. given_keeps k w p at)
  step_keeps (run i) other = ran_keeps i (find s.storages i)
  step_keeps (join r q) other = joined_keeps r q (find s.slips r) (find s.slips q)
  step_keeps (absorb k r) other = absorbed_keeps k r (find s.holds k) (find s.slips r) refl

pub keeps_bytes : KeepsBytes
keeps_bytes s e h u v at at' other = step_keeps s h e other u v at at'
