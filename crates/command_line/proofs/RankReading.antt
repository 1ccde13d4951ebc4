-- What was read of a `rank` command.
use Rattle.std.proofs.Common.{◌∙◌, ℕ, ap, List, []}
use Rattle.std.specs.Prelude.{unwrap_or}
use Rattle.command_line.specs.declared.database_command.DatabaseCommand.TheVariants.{Rank}
use Rattle.command_line.specs.declared.given_words.GivenWords.{GivenWords}
use Rattle.command_line.specs.declared.rank_words.RankWords.{RankWords}
use Rattle.command_line.specs.GivenWords.{HasRead}
use Rattle.command_line.specs.RankWords.{GivesRank, IsRank, rank_values}
use Rattle.command_line.proofs.DatabaseReading.{files_are}

pub rank_stands : (words : List (List ℕ)) (values : GivenWords) (rank : RankWords) → HasRead Rank words [] values → GivesRank values rank → IsRank words (rank_values rank)
rank_stands words values rank read gives = (read.items, read.up_to, files_are Rank words values read ∙ ap (λ found. unwrap_or found []) gives)
