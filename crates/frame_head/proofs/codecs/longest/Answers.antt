use Rattle.std.proofs.Common.{ap, sym, ◌∙◌}
use Rattle.frame_head.specs.Codecs.{fault_of}
use Rattle.frame_head.proofs.Delimiters.{marks_within}
use Rattle.frame_head.proofs.codecs.longest.Goals as goal

pub longest_delimited-requires-clause-mark : goal.longest_delimited-requires-clause-mark
longest_delimited-requires-clause-mark c = marks_within c.in-Delim.list c.in-Delim.max (ap fault_of (sym c.in-Delim.is) ∙ c.requires)
