-- One change of a hub's subscriptions, and one of the machine's.
use Rattle.std.proofs.Common.{◌≡◌, ◌⊎◌, ℕ, zero, suc, ◌+◌, List, [], ◌∷◌, map, length, refl, sym, ap, ◌∙◌, arith, inl, inr}
use Rattle.std.specs.List.{AllZip}
use Rattle.std.specs.Prelude.{⊤}
use Rattle.broadcast_hub.specs.Hubs.{Kept}
use Rattle.hub_model.specs.Hub.{changed}
use Rattle.hub_laws.specs.Standing.{Taps, Sub, StandsFor, HasLeft, StandFrom}

-- each of the machine's subscriptions changes so, from this id on
abbrev pub ChangeFrom : (ℕ → Sub → Sub → Type 0) → ℕ → List Sub → List Sub → Type 0
ChangeFrom Q id [] [] = ⊤
ChangeFrom Q id [] (m ∷ ms) = ⊥
ChangeFrom Q id (m ∷ ms) [] = ⊥
ChangeFrom Q id (m ∷ ms) (n ∷ ns) = Q id m n × ChangeFrom Q (suc id) ms ns

-- one that the hub keeps and the machine's change together
abbrev pub KeptChanges : Taps → Taps → (Kept → Kept → Type 0) → (ℕ → Sub → Sub → Type 0) → Type 0
KeptChanges taps then R Q = (id : ℕ) (s t : Kept) (m n : Sub) → s.id ≡ id → R s t → Q id m n → StandsFor (taps id) s m
    → (t.id ≡ id) × StandsFor (then id) t n

abbrev pub LeftChanges : Taps → Taps → (ℕ → Sub → Sub → Type 0) → Type 0
LeftChanges taps then Q = (id : ℕ) (m n : Sub) → Q id m n → HasLeft (taps id) m → HasLeft (then id) n

pub change_all : (taps then : Taps) (R : Kept → Kept → Type 0) (Q : ℕ → Sub → Sub → Type 0)
    → KeptChanges taps then R Q → LeftChanges taps then Q
    → (id : ℕ) (ss ts : List Kept) (ms ns : List Sub) → AllZip R ss ts → ChangeFrom Q id ms ns → StandFrom taps id ss ms
    → StandFrom then id ts ns
change_all taps then R Q kept left id [] [] [] [] r q h = tt
change_all taps then R Q kept left id ss ts [] (n ∷ ns) r q h = absurd q
change_all taps then R Q kept left id ss ts (m ∷ ms) [] r q h = absurd q
change_all taps then R Q kept left id [] (t ∷ ts) ms ns r q h = absurd r
change_all taps then R Q kept left id (s ∷ ss) [] ms ns r q h = absurd r
change_all taps then R Q kept left id (s ∷ ss) (t ∷ ts) [] [] r q h = absurd h
change_all taps then R Q kept left id [] [] (m ∷ ms) (n ∷ ns) r q h =
    (left id m n q.0 h.0, change_all taps then R Q kept left (suc id) [] [] ms ns r q.1 h.1)
change_all taps then R Q kept left id (s ∷ ss) (t ∷ ts) (m ∷ ms) (n ∷ ns) r q (inl h) =
    let k = kept id s t m n h.0 r.0 q.0 h.1 in
    inl (k.0, k.1, change_all taps then R Q kept left (suc id) ss ts ms ns r.1 q.1 h.2)
change_all taps then R Q kept left id (s ∷ ss) (t ∷ ts) (m ∷ ms) (n ∷ ns) r q (inr h) =
    inr (left id m n q.0 h.0, change_all taps then R Q kept left (suc id) (s ∷ ss) (t ∷ ts) ms ns r q.1 h.1)

-- a function on each
pub zip_map : (f : Kept → Kept) (ss : List Kept) → AllZip (λ s t. t ≡ f s) ss (map f ss)
zip_map f [] = tt
zip_map f (s ∷ ss) = (refl, zip_map f ss)

pub change_map : (g : Sub → Sub) (id : ℕ) (ms : List Sub) → ChangeFrom (λ _ m n. n ≡ g m) id ms (map g ms)
change_map g id [] = tt
change_map g id (m ∷ ms) = (refl, change_map g (suc id) ms)
