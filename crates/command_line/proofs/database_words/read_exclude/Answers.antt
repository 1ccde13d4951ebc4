use Rattle.command_line.proofs.PointReading.{exclude_stands}
use Rattle.command_line.proofs.database_words.read_exclude.Goals as goal

pub returns-in-Ok-clause-exclude : goal.returns-in-Ok-clause-exclude
returns-in-Ok-clause-exclude c = exclude_stands _ _ _ c.in_ok-given.ensures.read c.in-Ok.ensures.points
