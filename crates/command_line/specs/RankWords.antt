-- The words of the command `rank`.
use Rattle.std.specs.Prelude.{◌≡◌, ℕ, List, [], ◌∷◌, Some}
use Rattle.command_line.specs.declared.database_command.DatabaseCommand.TheVariants.{Rank}
use Rattle.command_line.specs.declared.given_words.GivenWords.{GivenWords}
use Rattle.command_line.specs.declared.rank_words.RankWords.{RankWords}
use Rattle.command_line.specs.DatabaseFiles.{files_of}
use Rattle.command_line.specs.DatabaseWords.{Item, files_in, IsUpTo}
use Rattle.command_line.specs.GivenWords.{files_from}

-- the databases of a `rank` command, in the order of the words
pub record RankValues : Type 0 where
  pub first : List ℕ
  pub others : List (List ℕ)

-- one or more databases, in the order of the words
abbrev pub AreRankValues : List Item → RankValues → Type 0
AreRankValues items values = files_in items ≡ values.first ∷ values.others

-- the words are `rank` and one or more databases
abbrev pub IsRank : List (List ℕ) → RankValues → Type 0
IsRank words values = (items : List Item) × IsUpTo Rank words items [] × AreRankValues items values

-- the values as texts, without where they lie in memory
abbrev pub rank_values : RankWords → RankValues
rank_values rank = record { first = rank.first.now; others = files_of rank.others }

-- what was read is the databases of a `rank` command
abbrev pub GivesRank : GivenWords → RankWords → Type 0
GivesRank given rank = files_from given ≡ Some (rank.first.now ∷ files_of rank.others)
