-- Words for stages.
use Rattle.std.specs.Prelude.{ℕ, ◌==◌, List, Option, Some, None, bytes_eq, codes, length, nat_le, option_map, if◌then◌else◌}
use Rattle.std.specs.List.{slice_split}
use Rattle.std.specs.Option.{option_or}
use Rattle.relay_words.specs.declared.stages.StageWord.{StageWord}
use Rattle.relay_words.specs.declared.stages.StageWord.TheVariants.{Strip, Keep, Upper, Min}
use Rattle.relay_words.specs.Numbers.{number_in}
use Rattle.relay_words.specs.Parts.{part_value, with}
use Rattle.relay_words.specs.Hex.{of_each}

-- the number of bytes behind a stage's name
abbrev pub stage_bytes : List ℕ → List ℕ → Option ℕ
stage_bytes key w = with (part_value key w) (number_in 0 16777216)

-- `strip=n`, `keep=n`, `upper` or `min=n`
abbrev pub stage_of : List ℕ → Option StageWord
stage_of w =
    if bytes_eq w (codes "upper") then Some Upper
    else option_or (option_map (λ n. Strip n) (stage_bytes (codes "strip=") w))
    (option_or (option_map (λ n. Keep n) (stage_bytes (codes "keep=") w))
    (option_map (λ n. Min n) (stage_bytes (codes "min=") w)))

abbrev pub stages_in : List (List ℕ) → Option (List StageWord)
stages_in parts = if nat_le (length parts) 16 then of_each stage_of parts else None

-- one to 16 stages, joined by `+`
abbrev pub stages_of : List ℕ → Option (List StageWord)
stages_of w = stages_in (slice_split (λ b. b == 43) w)
