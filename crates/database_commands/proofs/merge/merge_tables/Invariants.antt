use Rattle.std.proofs.Common.{length}
use Rattle.command_line.specs.DatabaseFiles.{files_of}
use Rattle.command_line.specs.DatabaseWords.{merge_values}
use Rattle.database_commands.proofs.Merging.{HasMerged}
use Rattle.database_commands.proofs.merge.merge_tables.Given as goal

-- the files that are not left were read and joined
abbrev pub invariant-loop-file : goal.invariant-loop-file
invariant-loop-file g l = HasMerged (merge_values l.words) (g.H.Host.outside l.fn.host) (g.H.Host.outside l.host) (files_of l.others) l.table

abbrev pub decreases-loop-file : goal.decreases-loop-file
decreases-loop-file g l = length (files_of l.others)
