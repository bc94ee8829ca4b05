-- The numbers with which the program ends.
use Rattle.std.specs.Prelude.{ℕ}
use Rattle.relay_app.specs.declared.status.Status.{Status}
use Rattle.relay_app.specs.declared.status.Status.TheVariants.{Fine, Usage, Stream, Source, NotOpened}
use Rattle.relay_app.specs.declared.status.Status.TheVariants.{Limit, Memory, Report}

abbrev pub number_of : Status → ℕ
number_of Fine = 0
number_of (Usage word kind) = 2
number_of (Stream at kind) = 3
number_of Source = 4
number_of (NotOpened nth) = 6
number_of Limit = 7
number_of Memory = 8
number_of Report = 10
