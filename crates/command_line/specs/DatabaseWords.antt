-- The words of a command that reads databases.
use Rattle.std.specs.Prelude.{◌≡◌, ◌≢◌, ◌==◌, ◌||◌, ℕ, Bool, if◌then◌else◌, IsTrue, List, [], ◌∷◌, ◌++◌, length, Option, Some, None, is_none, is_some, codes}
use Rattle.std.specs.List.{last_or}
use Rattle.command_line.specs.declared.database_command.DatabaseCommand.{DatabaseCommand}
use Rattle.command_line.specs.declared.database_command.DatabaseCommand.TheVariants.{Merge, Report, Lcov, Rank, Exclude, Restore}
use Rattle.command_line.specs.declared.database_option.DatabaseOption.{DatabaseOption}
use Rattle.command_line.specs.declared.database_option.DatabaseOption.TheVariants.{Level, Metrics, ByInstance, Covered, Output}
use Rattle.command_line.specs.declared.merge_words.MergeWords.{MergeWords}
use Rattle.command_line.specs.declared.report_level.ReportLevel.{ReportLevel}
use Rattle.command_line.specs.declared.report_metrics.ReportMetrics.{ReportMetrics}
use Rattle.command_line.specs.declared.report_words.ReportWords.{ReportWords}
use Rattle.command_line.specs.DatabaseFiles.{files_of}
use Rattle.command_line.specs.DatabaseOption.{accepts, has_option, has_room, is_database_name, is_same, option_text, repeats, takes_value}
use Rattle.command_line.specs.ReportLevel.{level_of}
use Rattle.command_line.specs.ReportMetrics.{metrics_of}
use Rattle.std.specs.Option.{option_copied}

-- a database, or an option with its value
pub data Item : Type 0 where
  file : List ℕ → Item
  given : DatabaseOption → List ℕ → Item

-- the value as words: none where the option takes none
abbrev pub value_words : DatabaseOption → List ℕ → List (List ℕ)
value_words option value = if takes_value option then value ∷ [] else []

abbrev pub item_words : Item → List (List ℕ)
item_words (file name) = name ∷ []
item_words (given option value) = option_text option ∷ value_words option value

-- items as words
abbrev pub spelled : List Item → List (List ℕ)
spelled [] = []
spelled (item ∷ items) = item_words item ++ spelled items

-- the databases among items, in order
abbrev pub files_in : List Item → List (List ℕ)
files_in [] = []
files_in (file name ∷ items) = name ∷ files_in items
files_in (given option value ∷ items) = files_in items

-- the values that an option was given, in order
abbrev pub values_in : List Item → DatabaseOption → List (List ℕ)
values_in [] option = []
values_in (file name ∷ items) option = values_in items option
values_in (given other value ∷ items) option = if is_same other option then value ∷ values_in items option else values_in items option

-- the value that an option was given last
abbrev pub value_in : List Item → DatabaseOption → Option (List ℕ)
value_in items option = last_or None (values_in items option)

-- the option may follow these: it repeats, or has no value in them
abbrev pub may_follow : List Item → DatabaseOption → Bool
may_follow items option = repeats option || is_none (value_in items option)

-- the item may follow these: a database where there is room, or an option of the command with a value of its form, once where it does not repeat
abbrev pub MayFollow : DatabaseCommand → List Item → Item → Type 0
MayFollow command before (file name) = IsTrue (is_database_name name) × IsTrue (has_room command (length (files_in before) == 0))
MayFollow command before (given option value) = IsTrue (has_option command option) × IsTrue (may_follow before option) × IsTrue (accepts option value)

-- each of the items may follow those before it
abbrev pub AreItems : DatabaseCommand → List Item → List Item → Type 0
AreItems command before [] = Unit {0}
AreItems command before (item ∷ items) = MayFollow command before item × AreItems command (before ++ item ∷ []) items

abbrev pub command_text : DatabaseCommand → List ℕ
command_text Merge = codes "merge"
command_text Report = codes "report"
command_text Lcov = codes "lcov"
command_text Rank = codes "rank"
command_text Exclude = codes "exclude"
command_text Restore = codes "restore"

-- the words are the command, items, and what is left
pub record IsUpTo (command : DatabaseCommand) (words : List (List ℕ)) (items : List Item) (left : List (List ℕ)) : Type 0 where
  pub spells : words ≡ command_text command ∷ spelled items ++ left
  pub are_items : AreItems command [] items

-- the values of a `merge` command
pub record MergeValues : Type 0 where
  pub output : List ℕ
  pub first : List ℕ
  pub others : List (List ℕ)

-- the output and two or more databases, in the order of the words
pub record AreMergeValues (items : List Item) (values : MergeValues) : Type 0 where
  pub output : value_in items Output ≡ Some values.output
  pub files : files_in items ≡ values.first ∷ values.others
  pub several : values.others ≢ []

-- the words are `merge`, `-o` with its value, and two or more databases, in any order
abbrev pub IsMerge : List (List ℕ) → MergeValues → Type 0
IsMerge words values = (items : List Item) × IsUpTo Merge words items [] × AreMergeValues items values

-- the values as texts, without where they lie in memory
abbrev pub merge_values : MergeWords → MergeValues
merge_values merge = record { output = merge.output.now; first = merge.first.now; others = files_of merge.others }

-- the values of a `report` command
pub record ReportValues : Type 0 where
  pub file : List ℕ
  pub level : ReportLevel
  pub metrics : ReportMetrics
  pub by_instance : Bool
  pub covered : Bool
  pub output : Option (List ℕ)

-- the database, and what its options say
pub record AreReportValues (items : List Item) (values : ReportValues) : Type 0 where
  pub file : files_in items ≡ values.file ∷ []
  pub level : values.level ≡ level_of (value_in items Level)
  pub metrics : values.metrics ≡ metrics_of (value_in items Metrics)
  pub by_instance : values.by_instance ≡ is_some (value_in items ByInstance)
  pub covered : values.covered ≡ is_some (value_in items Covered)
  pub output : values.output ≡ value_in items Output

-- the words are `report`, one database, and options of it, in any order
abbrev pub IsReport : List (List ℕ) → ReportValues → Type 0
IsReport words values = (items : List Item) × IsUpTo Report words items [] × AreReportValues items values

abbrev pub report_values : ReportWords → ReportValues
report_values report = record {
  file = report.file.now;
  level = report.level;
  metrics = report.metrics;
  by_instance = report.by_instance;
  covered = report.covered;
  output = option_copied report.output;
}
