-- What is true of chains that are split and joined.
use Rattle.std.specs.Prelude.{◌≡◌, ℕ, List, [], ◌++◌, Option}
use Rattle.buffer_model.specs.Segment.{Segment, bytes_of}
use Rattle.buffer_model.specs.Minted.{Numbers}
use Rattle.storage.specs.declared.back.Back.{Back}
use Rattle.chain_unshare.specs.Splits.{SplitsAt}
use Rattle.chain_unshare.specs.Joins.{Folds, Gathers}

abbrev pub SplitKeepsBytes : Type 0 → Type 0
SplitKeepsBytes O =
    (n : ℕ) (old new : Numbers) (before front rest : List (Segment O)) → SplitsAt n old new before front rest
    → bytes_of front ++ bytes_of rest ≡ bytes_of before

abbrev pub CoalesceKeepsBytes : Type 0 → Type 0
CoalesceKeepsBytes O =
    (old new : Numbers) (before after : List (Segment O)) → Folds old new before [] after
    → bytes_of after ≡ bytes_of before

abbrev pub GatherKeepsBytes : Type 0 → Type 0
GatherKeepsBytes O =
    (runs : O → ℕ) (last : O → Option (List ℕ)) (n : ℕ) (old new : Numbers) (before after : List (Segment O))
    (backs : List (Back O)) → Gathers runs last n old new before after backs → bytes_of after ≡ bytes_of before
