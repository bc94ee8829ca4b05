-- An item of the words behind a command.
use Rattle.std.specs.Prelude.{ℕ, Bool, ◌==◌, List, [], Option, length, unwrap_or}

-- an option with its value, where it has one, or a word by itself, which has no name; and the places of the option
-- and of the value among all words
pub record Item : Type 0 where
  pub at : ℕ
  pub name : List ℕ
  pub value : Option (List ℕ)
  pub value_at : ℕ

-- a word that is neither an option nor the value of one
abbrev pub is_word : Item → Bool
is_word i = length i.name == 0

-- the text of such a word, or of a value that is there
abbrev pub text_of : Item → List ℕ
text_of i = unwrap_or i.value []
