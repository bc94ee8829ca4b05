-- What waits to be opened stays as it was added.
use Rattle.std.proofs.Common.{◌≡◌, Bool, true, false, List, [], ◌∷◌, Option, Some, None, Result, Ok, Err, refl, sym, subst, cond}
use Rattle.std.specs.Prelude.{All, IsSome, IfOk, OnOk, OnErr}
use Rattle.std.specs.Map.{lookup, remove_entry}
use Rattle.std.specs.Str.{bytes_eq}
use Rattle.std.proofs.lemmas.List.Elements.{All-cons, All-head, All-tail}
use Rattle.std.proofs.lemmas.Map.Views.{All-remove_key}
use Rattle.relay_ports.specs.Entries.{Entries, with_waiting, with_opened}
use Rattle.relay_ports.proofs.Places.{entry_removed}

-- what holds of all entries holds of those that are left when one is removed
all_removed : {K X : Type 0} (P : K × X → Type 0) (q : K → Bool) (es : List (K × X)) → All P es → All P (remove_entry q es)
all_removed P q es all = subst (λ (v : List _). All P v) (entry_removed q es) (All-remove_key (λ e. q e.0) P es all)

found_step : {X : Type 0} (P : X → Type 0) (y x : X) (w : Option X) (b : Bool) → P y → (w ≡ Some x → P x) → cond b (Some y) w ≡ Some x → P x
found_step P y x w true p more is = let same : y ≡ x = cc in subst P same p
found_step P y x w false p more is = more is

-- and of the one that is found
pub all_found : {K X : Type 0} (P : X → Type 0) (q : K → Bool) (es : List (K × X)) (x : X) → All (λ e. P e.1) es → lookup q es ≡ Some x → P x
all_found P q [] x all is = absurd (cc)
all_found P q (e ∷ es) x all is =
    found_step P e.1 x (lookup q es) (q e.0) (All-head (λ y. P y.1) e es all) (all_found P q es x (All-tail (λ y. P y.1) e es all)) is

-- adding keeps what holds of all
pub all_added : {X Y E : Type 0} (P : X → Type 0) (r : Result (Unit {0}) E) (old new : Entries X Y) (name : List _) (x : X) → OnOk r (new ≡ with_waiting name x old) → OnErr r (new ≡ old)
    → P x → All (λ e. P e.1) old.waiting → All (λ e. P e.1) new.waiting
all_added {X} {Y} P (Ok u) old new name x ok err p all =
    subst (λ (v : Entries X Y). All (λ e. P e.1) v.waiting) (sym ok) (All-cons (λ e. P e.1) (name, x) (remove_entry (bytes_eq name) old.waiting) p (all_removed (λ e. P e.1) (bytes_eq name) old.waiting all))
all_added {X} {Y} P (Err e) old new name x ok err p all = subst (λ (v : Entries X Y). All (λ e. P e.1) v.waiting) (sym err) all

-- opening keeps what holds of all
pub all_opened : {X Y E : Type 0} (P : X → Type 0) (r : Result (Option X) E) (old new : Entries X Y) (name : List _) → IfOk r (λ x. IsSome x → new ≡ with_opened name old) → IfOk r (λ x. x ≡ None → new ≡ old)
    → OnErr r (new ≡ old) → All (λ e. P e.1) old.waiting → All (λ e. P e.1) new.waiting
all_opened {X} {Y} P (Ok (Some x)) old new name opened missing err all =
    subst (λ (v : Entries X Y). All (λ e. P e.1) v.waiting) (sym (opened refl)) (all_removed (λ e. P e.1) (bytes_eq name) old.waiting all)
all_opened {X} {Y} P (Ok None) old new name opened missing err all = subst (λ (v : Entries X Y). All (λ e. P e.1) v.waiting) (sym (missing refl)) all
all_opened {X} {Y} P (Err e) old new name opened missing err all = subst (λ (v : Entries X Y). All (λ e. P e.1) v.waiting) (sym err) all
