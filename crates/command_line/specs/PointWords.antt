-- The words of the commands `exclude` and `restore`.
use Rattle.std.specs.Prelude.{◌≡◌, ◌≢◌, ℕ, List, [], ◌∷◌, Some, IsSome}
use Rattle.command_line.specs.declared.database_command.DatabaseCommand.TheVariants.{Exclude, Restore}
use Rattle.command_line.specs.declared.database_option.DatabaseOption.TheVariants.{Output, Point}
use Rattle.command_line.specs.declared.given_words.GivenWords.{GivenWords}
use Rattle.command_line.specs.declared.point_words.PointWords.{PointWords}
use Rattle.command_line.specs.DatabaseWords.{Item, files_in, value_in, values_in, IsUpTo}
use Rattle.command_line.specs.GivenWords.{all_words, files_from, value_of}
use Rattle.command_line.specs.PointAddresses.{addresses_among, addresses_of}

-- the values of an `exclude` or a `restore` command
pub record PointValues : Type 0 where
  pub output : List ℕ
  pub addresses : List (List ℕ)
  pub file : List ℕ

-- the output, the addresses of points, at least one, in the order of the words, and the database
pub record ArePointValues (items : List Item) (values : PointValues) : Type 0 where
  pub output : value_in items Output ≡ Some values.output
  pub addresses : values_in items Point ≡ values.addresses
  pub some : values.addresses ≢ []
  pub file : files_in items ≡ values.file ∷ []

-- the words are `exclude`, `-o` with its value, `-point` with its value, once or more, and one database, in any order
abbrev pub IsExclude : List (List ℕ) → PointValues → Type 0
IsExclude words values = (items : List Item) × IsUpTo Exclude words items [] × ArePointValues items values

-- the words are `restore`, and those that `exclude` has
abbrev pub IsRestore : List (List ℕ) → PointValues → Type 0
IsRestore words values = (items : List Item) × IsUpTo Restore words items [] × ArePointValues items values

-- the values as texts, without where they lie in memory
abbrev pub point_values : PointWords → PointValues
point_values points = record { output = points.output.now; addresses = addresses_of points.addresses; file = points.file.now }

-- what was read is the values of such a command, with the addresses among all its words
pub record GivesPoints (given : GivenWords) (points : PointWords) : Type 0 where
  pub others : List (List ℕ)
  pub output : value_of given Output ≡ Some points.output.now
  pub addresses : addresses_of points.addresses ≡ addresses_among (all_words given)
  pub some : IsSome (value_of given Point)
  pub files : files_from given ≡ Some (points.file.now ∷ others)
