use Rattle.std.proofs.Common.{◌≡◌, ◌++◌, length, map}
use Rattle.command_line.specs.DatabaseFiles.{files_of}
use Rattle.command_line.specs.RankWords.{rank_values}
use Rattle.database_commands.specs.Ranking.{ranked_files}
use Rattle.database_commands.proofs.rank.files_of.Given as goal

-- the files that are kept, and then those that are left
abbrev pub invariant-loop-file : goal.invariant-loop-file
invariant-loop-file l = map (λ file. file.now) l.files.items ++ files_of l.others ≡ ranked_files (rank_values l.words)

abbrev pub decreases-loop-file : goal.decreases-loop-file
decreases-loop-file l = length (files_of l.others)
