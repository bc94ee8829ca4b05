use Rattle.frame_reader.specs.Frames.{left_of}
use Rattle.examples.proofs.log.count_first_words.Given as goal

abbrev pub decreases-units : goal.decreases-units
decreases-units g l = left_of l.frames
