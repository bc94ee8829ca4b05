-- What a word of a kind names.
use Rattle.std.proofs.Common.{ℕ, ◌≡◌, List, ◌∷◌, Option, sym, ap, ◌∙◌}
use Rattle.relay_words.specs.Parts.{by_kind}

-- what the kind and the parts name is what the word names
pub named_by : {A : Type 0} (named : List ℕ → List (List ℕ) → Option A) (all : List (List ℕ)) (kind : List ℕ)
    (parts : List (List ℕ)) (c : Option A) → all ≡ kind ∷ parts → c ≡ named kind parts → c ≡ by_kind named all
named_by named all kind parts c cut is = is ∙ sym (ap (by_kind named) cut)
