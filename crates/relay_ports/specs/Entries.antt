-- What a host keeps under names.
use Rattle.std.specs.Prelude.{ℕ, List, [], ◌∷◌, ◌++◌, Option, reverse}
use Rattle.std.specs.Map.{lookup, remove_entry}
use Rattle.std.specs.Str.{bytes_eq}
use Rattle.relay_ports.specs.Told.{without_name}

-- the names that are open, the latest first, and what was kept of those that were finished, in order
pub record Opened (X : Type 0) : Type 0 where
  pub open_names : List (List ℕ)
  pub finished : List (List ℕ × X)

-- with a name opened
abbrev pub after_opening : {X : Type 0} → List ℕ → Opened X → Opened X
after_opening name o = record o { open_names = name ∷ o.open_names }

-- with a name closed, and something kept of it
abbrev pub after_closing : {X : Type 0} → List ℕ → X → Opened X → Opened X
after_closing name x o = record {
  open_names = without_name name o.open_names;
  finished = o.finished ++ (name, x) ∷ [];
}

-- what was kept of the one that was finished last under a name
abbrev pub finished_under : {X : Type 0} → List ℕ → Opened X → Option X
finished_under name o = lookup (bytes_eq name) (reverse o.finished)

-- the inputs or the outputs of a host in memory: those that wait to be opened, by their names, and the openings,
-- with what is kept of each
pub record Entries (X Y : Type 0) : Type 0 where
  pub waiting : List (List ℕ × X)
  pub openings : Opened Y

-- what waits under a name
abbrev pub waiting_under : {X Y : Type 0} → List ℕ → Entries X Y → Option X
waiting_under name e = lookup (bytes_eq name) e.waiting

-- with something that waits under a name, in the place of what waited there
abbrev pub with_waiting : {X Y : Type 0} → List ℕ → X → Entries X Y → Entries X Y
with_waiting name x e = record e { waiting = (name, x) ∷ remove_entry (bytes_eq name) e.waiting }

-- with what waits under a name opened
abbrev pub with_opened : {X Y : Type 0} → List ℕ → Entries X Y → Entries X Y
with_opened name e = record {
  waiting = remove_entry (bytes_eq name) e.waiting;
  openings = after_opening name e.openings;
}

-- with a name closed, and something kept of what was open under it
abbrev pub with_finished : {X Y : Type 0} → List ℕ → Y → Entries X Y → Entries X Y
with_finished name y e = record e { openings = after_closing name y e.openings }
