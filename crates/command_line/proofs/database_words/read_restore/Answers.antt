use Rattle.command_line.proofs.PointReading.{restore_stands}
use Rattle.command_line.proofs.database_words.read_restore.Goals as goal

pub returns-in-Ok-clause-restore : goal.returns-in-Ok-clause-restore
returns-in-Ok-clause-restore c = restore_stands _ _ _ c.in_ok-given.ensures.read c.in-Ok.ensures.points
