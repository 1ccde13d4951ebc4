use Rattle.std.proofs.Common.{length}
use Rattle.command_line.specs.DatabaseFiles.{files_of}
use Rattle.command_line.specs.RankWords.{rank_values}
use Rattle.database_commands.proofs.Ranking.{HasReadSets}
use Rattle.database_commands.proofs.rank.read_sets.Given as goal

-- the files that are not left were read
abbrev pub invariant-loop-file : goal.invariant-loop-file
invariant-loop-file g l = HasReadSets (rank_values l.words) (g.H.Host.outside l.fn.host) (g.H.Host.outside l.host) (files_of l.others) l.sets.items l.joined

abbrev pub decreases-loop-file : goal.decreases-loop-file
decreases-loop-file g l = length (files_of l.others)
