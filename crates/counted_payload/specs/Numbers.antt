-- What is remembered for contracts alone.
use Rattle.std.specs.Prelude.{List, Option}
use Rattle.std.specs.Coded.{coded_option}
use base.Stored.{Coded, coded_list}
use base.Fml.{Fml, ftrue}
use Rattle.atomic_table.specs.Seated.{TableId, table_id_coded}

-- it owns no memory
abbrev pub no_memory : Fml
no_memory = ftrue

abbrev pub numbers_coded : Coded (List (Option TableId))
numbers_coded = coded_list (coded_option table_id_coded)
