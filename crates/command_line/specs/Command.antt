-- A command with its values.
use Rattle.std.specs.Prelude.{ℕ, List}
use Rattle.command_line.specs.declared.command.Command.{Command}
use Rattle.command_line.specs.declared.command.Command.TheVariants as command
use Rattle.command_line.specs.CommandWords.{IsScore, ScoreValues, score_values}
use Rattle.command_line.specs.DatabaseWords.{IsMerge, IsReport, MergeValues, ReportValues, merge_values, report_values}
use Rattle.command_line.specs.LcovWords.{IsLcov, LcovValues, lcov_values}
use Rattle.command_line.specs.PointWords.{IsExclude, IsRestore, PointValues, point_values}
use Rattle.command_line.specs.RankWords.{IsRank, RankValues, rank_values}
use Rattle.command_line.specs.SelfrunWords.{IsSelfrun}
use Rattle.command_line.specs.declared.selfrun_words.SelfrunWords.{SelfrunWords}

-- the values of a command
pub data CommandValues : Type 0 where
  score : ScoreValues → CommandValues
  merge : MergeValues → CommandValues
  report : ReportValues → CommandValues
  lcov : LcovValues → CommandValues
  rank : RankValues → CommandValues
  exclude : PointValues → CommandValues
  restore : PointValues → CommandValues
  selfrun : SelfrunWords → CommandValues

-- the words are the command with these values
abbrev pub AreWordsOf : CommandValues → List (List ℕ) → Type 0
AreWordsOf (score values) words = IsScore words values
AreWordsOf (merge values) words = IsMerge words values
AreWordsOf (report values) words = IsReport words values
AreWordsOf (lcov values) words = IsLcov words values
AreWordsOf (rank values) words = IsRank words values
AreWordsOf (exclude values) words = IsExclude words values
AreWordsOf (restore values) words = IsRestore words values
AreWordsOf (selfrun values) words = IsSelfrun words values

-- the values as texts, without where they lie in memory
abbrev pub command_values : Command → CommandValues
command_values (command.Score words) = score (score_values words)
command_values (command.Merge words) = merge (merge_values words)
command_values (command.Report words) = report (report_values words)
command_values (command.Lcov words) = lcov (lcov_values words)
command_values (command.Rank words) = rank (rank_values words)
command_values (command.Exclude words) = exclude (point_values words)
command_values (command.Restore words) = restore (point_values words)
command_values (command.Selfrun words) = selfrun words

-- the words are this command
abbrev pub IsCommand : List (List ℕ) → Command → Type 0
IsCommand words command = AreWordsOf (command_values command) words
