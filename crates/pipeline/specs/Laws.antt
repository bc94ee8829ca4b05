-- What is true of the definitions.
use Rattle.std.specs.Prelude.{◌≡◌, ℕ, List, ◌++◌, length, take, drop}
use Rattle.pipeline.specs.Plain.{Plain, made, begin_of, size_of}
use Rattle.pipeline.specs.Meanings.{Meaning, IsCut, plain, answer, then_says, later_all, then_later}

abbrev pub CutsAreWindows : Type 0
CutsAreWindows =
    (p : Plain) (x : List ℕ) → IsCut (plain p)
    → made p x ≡ take (size_of p (length x)) (drop (begin_of p (length x)) x)

abbrev pub AnswersJoin : Type 0
AnswersJoin =
    (front behind : List Meaning) (x : List ℕ) → answer (front ++ behind) x ≡ then_says (answer front x) (answer behind)

abbrev pub StatesJoin : Type 0
StatesJoin =
    (front behind : List Meaning) (x : List ℕ)
    → later_all (front ++ behind) x ≡ later_all front x ++ then_later (answer front x) (later_all behind) behind
