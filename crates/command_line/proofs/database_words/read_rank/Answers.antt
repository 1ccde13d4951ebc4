use Rattle.command_line.proofs.RankReading.{rank_stands}
use Rattle.command_line.proofs.database_words.read_rank.Goals as goal

pub returns-in-Ok-clause-rank : goal.returns-in-Ok-clause-rank
returns-in-Ok-clause-rank c = rank_stands _ _ c.in-Ok.rank c.in_ok-given.ensures.read c.in-Ok.ensures.rank
