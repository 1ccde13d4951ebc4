use Rattle.command_line.proofs.LcovReading.{lcov_stands}
use Rattle.command_line.proofs.database_words.read_lcov.Goals as goal

pub returns-in-Ok-clause-lcov : goal.returns-in-Ok-clause-lcov
returns-in-Ok-clause-lcov c = lcov_stands _ _ _ c.in_ok-given.ensures.read c.in-Ok.ensures.lcov
