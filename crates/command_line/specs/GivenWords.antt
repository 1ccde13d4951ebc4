-- What was read so far of the words of a command that reads databases.
use Rattle.std.specs.Prelude.{◌≡◌, ◌≢◌, ◌==◌, ◌||◌, ℕ, Bool, false, List, [], ◌∷◌, ◌++◌, length, Option, Some, None, is_none, is_some, unwrap_or}
use Rattle.std.specs.Borrow.{Bor}
use Rattle.std.specs.Option.{option_copied}
use Rattle.command_line.specs.declared.database_command.DatabaseCommand.{DatabaseCommand}
use Rattle.command_line.specs.declared.database_files.DatabaseFiles.{DatabaseFiles}
use Rattle.command_line.specs.declared.database_option.DatabaseOption.{DatabaseOption}
use Rattle.command_line.specs.declared.database_option.DatabaseOption.TheVariants.{Level, Metrics, ByInstance, Covered, Output, Point}
use Rattle.command_line.specs.declared.given_words.GivenWords.{GivenWords}
use Rattle.command_line.specs.declared.merge_words.MergeWords.{MergeWords}
use Rattle.command_line.specs.declared.report_words.ReportWords.{ReportWords}
use Rattle.command_line.specs.DatabaseFault.{missing_of}
use Rattle.command_line.specs.DatabaseFiles.{files_among, files_of}
use Rattle.command_line.specs.DatabaseOption.{repeats}
use Rattle.command_line.specs.DatabaseWords.{Item, command_text, files_in, value_in, IsUpTo}
use Rattle.command_line.specs.ReportLevel.{level_of}
use Rattle.command_line.specs.ReportMetrics.{metrics_of}
use Rattle.command_line.specs.WordsLeft.{left_words}

-- the value that an option was given last
abbrev pub value_of : GivenWords → DatabaseOption → Option (List ℕ)
value_of given Level = option_copied given.level
value_of given Metrics = option_copied given.metrics
value_of given ByInstance = option_copied given.by_instance
value_of given Covered = option_copied given.covered
value_of given Output = option_copied given.output
value_of given Point = option_copied given.point

-- one more value of the option may be given
abbrev pub has_room_for : GivenWords → DatabaseOption → Bool
has_room_for given option = repeats option || is_none (value_of given option)

-- all words after the command
abbrev pub all_words : GivenWords → List (List ℕ)
all_words given = left_words given.words

abbrev pub files_behind : Option (Bor (List ℕ)) → DatabaseFiles → Option (List (List ℕ))
files_behind None others = None
files_behind (Some first) others = Some (first.now ∷ files_of others)

-- the databases from the first one on, also those that are left to be read
abbrev pub files_from : GivenWords → Option (List (List ℕ))
files_from given = files_behind given.first given.others

-- all databases are those that were read, of which there is one, and those that are left; or none was read
abbrev pub AreFiles : Option (List (List ℕ)) → List (List ℕ) → List (List ℕ) → Type 0
AreFiles None read left = read ≡ []
AreFiles (Some all) read left = (all ≡ read ++ left) × ((length read == 0) ≡ false)

-- the words were read up to what is left, and this is what they gave
pub record HasRead (command : DatabaseCommand) (words left : List (List ℕ)) (given : GivenWords) : Type 0 where
  pub items : List Item
  pub up_to : IsUpTo command words items left
  pub all : words ≡ command_text command ∷ all_words given
  pub same : (option : DatabaseOption) → value_in items option ≡ value_of given option
  pub files : AreFiles (files_from given) (files_in items) (files_among left)

-- what was read is the values of a `merge` command
pub record GivesMerge (given : GivenWords) (merge : MergeWords) : Type 0 where
  pub output : value_of given Output ≡ Some merge.output.now
  pub files : files_from given ≡ Some (merge.first.now ∷ files_of merge.others)
  pub several : files_of merge.others ≢ []

-- what was read is the values of a `report` command
pub record GivesReport (given : GivenWords) (report : ReportWords) : Type 0 where
  pub others : List (List ℕ)
  pub files : files_from given ≡ Some (report.file.now ∷ others)
  pub level : report.level ≡ level_of (value_of given Level)
  pub metrics : report.metrics ≡ metrics_of (value_of given Metrics)
  pub by_instance : report.by_instance ≡ is_some (value_of given ByInstance)
  pub covered : report.covered ≡ is_some (value_of given Covered)
  pub output : option_copied report.output ≡ value_of given Output

-- the word is the first that is missing at the end of the words
abbrev pub IsMissing : DatabaseCommand → GivenWords → List ℕ → Type 0
IsMissing command given word = missing_of command (value_of given Output) (value_of given Point) (unwrap_or (files_from given) []) ≡ Some word
