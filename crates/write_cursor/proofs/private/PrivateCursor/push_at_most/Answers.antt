use Rattle.write_cursor.proofs.Writing.{each_written, all_whole}
use Rattle.write_cursor.proofs.private.PrivateCursor.push_at_most.Goals as goal

pub write_over-requires-clause-whole : goal.write_over-requires-clause-whole
write_over-requires-clause-whole g c = all_whole _ _ _ c.requires.whole

pub returns-clause-whole : goal.returns-clause-whole
returns-clause-whole g c = each_written _ _ _ _ c.write_over.ensures.nodes c.requires.whole
