-- What handlers and lists of stages mean.
use Rattle.std.specs.Prelude.{◌≡◌, ℕ, ◌<◌, List, [], ◌∷◌, ◌++◌, length}
use Rattle.pipeline.specs.Plain.{Plain, strip, keep, upper, least, Said, pass, skip, fail, plain_says}

-- a handler: what it holds, written as numbers; and by that and by a frame's bytes, what it says and what it holds then
pub record Machine : Type 0 where
  pub holds : List ℕ
  pub says : List ℕ → List ℕ → Said
  pub next : List ℕ → List ℕ → List ℕ

-- what a handler says of a frame's bytes
abbrev pub said_by : Machine → List ℕ → Said
said_by m x = m.says m.holds x

-- a handler that a frame reached
abbrev pub reached : List ℕ → Machine → Machine
reached x m = record m { holds = m.next m.holds x }

-- what a stage means: a plain one, or a handler
pub data Meaning : Type 0 where
  plain : Plain → Meaning
  handler : Machine → Meaning

abbrev pub says : Meaning → List ℕ → Said
says (plain p) x = plain_says p x
says (handler m) x = said_by m x

-- a stage that a frame reached
abbrev pub later : Meaning → List ℕ → Meaning
later (plain p) x = plain p
later (handler m) x = handler (reached x m)

-- a frame that is passed on comes to what stands behind
abbrev pub then_says : Said → (List ℕ → Said) → Said
then_says (pass x) behind = behind x
then_says (skip x) behind = skip x
then_says (fail n x) behind = fail n x

-- what stages say of a frame's bytes, one after the other: the first that doesn't pass it on ends it
abbrev pub answer : List Meaning → List ℕ → Said
answer [] x = pass x
answer (m ∷ ms) x = then_says (says m x) (answer ms)

-- stages that a frame comes to where it was passed on, and else not
abbrev pub then_later : Said → (List ℕ → List Meaning) → List Meaning → List Meaning
then_later (pass x) behind stay = behind x
then_later (skip x) behind stay = stay
then_later (fail n x) behind stay = stay

-- the stages once the frame went through: those that it didn't reach stay
abbrev pub later_all : List Meaning → List ℕ → List Meaning
later_all [] x = []
later_all (m ∷ ms) x = later m x ∷ then_later (says m x) (later_all ms) ms

-- stages before and after memory was refused at one of them, with the bytes of the frame that came in and of the one
-- that is handed back: those before it have passed the frame on, and it has what they gave
pub record RefusesAt (before after : List Meaning) (x left : List ℕ) : Type 0 where
  pub done : List Meaning
  pub rest : List Meaning
  pub before_is : before ≡ done ++ rest
  pub some : 0 < length rest
  pub passed : answer done x ≡ pass left
  pub after_is : after ≡ later_all done x ++ rest

-- it is no handler
abbrev pub IsPlain : Meaning → Type 0
IsPlain (plain p) = Unit {0}
IsPlain (handler m) = ⊥

-- it copies nothing and writes nothing
abbrev pub IsCut : Meaning → Type 0
IsCut (plain (strip n)) = Unit {0}
IsCut (plain (keep n)) = Unit {0}
IsCut (plain upper) = ⊥
IsCut (plain (least n)) = Unit {0}
IsCut (handler m) = ⊥
