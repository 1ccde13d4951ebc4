-- The words of the command `lcov`.
use Rattle.std.specs.Prelude.{◌≡◌, ℕ, List, [], ◌∷◌, Some}
use Rattle.command_line.specs.declared.database_command.DatabaseCommand.TheVariants.{Lcov}
use Rattle.command_line.specs.declared.database_option.DatabaseOption.TheVariants.{Output}
use Rattle.command_line.specs.declared.given_words.GivenWords.{GivenWords}
use Rattle.command_line.specs.declared.lcov_words.LcovWords.{LcovWords}
use Rattle.command_line.specs.DatabaseWords.{Item, files_in, value_in, IsUpTo}
use Rattle.command_line.specs.GivenWords.{files_from, value_of}

-- the values of an `lcov` command
pub record LcovValues : Type 0 where
  pub output : List ℕ
  pub file : List ℕ

-- the output and the database
pub record AreLcovValues (items : List Item) (values : LcovValues) : Type 0 where
  pub output : value_in items Output ≡ Some values.output
  pub file : files_in items ≡ values.file ∷ []

-- the words are `lcov`, `-o` with its value, and one database, in any order
abbrev pub IsLcov : List (List ℕ) → LcovValues → Type 0
IsLcov words values = (items : List Item) × IsUpTo Lcov words items [] × AreLcovValues items values

-- the values as texts, without where they lie in memory
abbrev pub lcov_values : LcovWords → LcovValues
lcov_values lcov = record { output = lcov.output.now; file = lcov.file.now }

-- what was read is the values of an `lcov` command
pub record GivesLcov (given : GivenWords) (lcov : LcovWords) : Type 0 where
  pub others : List (List ℕ)
  pub output : value_of given Output ≡ Some lcov.output.now
  pub files : files_from given ≡ Some (lcov.file.now ∷ others)
