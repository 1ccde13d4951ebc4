-- The options of the commands that read databases.
use Rattle.std.specs.Prelude.{◌≡◌, ℕ, Bool, true, false, not, ◌&&◌, ◌==◌, IsTrue, List, [], ◌∷◌, length, Option, is_some, codes}
use Rattle.std.specs.List.{find}
use Rattle.std.specs.Str.{bytes_eq}
use Rattle.command_line.specs.declared.database_command.DatabaseCommand.{DatabaseCommand}
use Rattle.command_line.specs.declared.database_command.DatabaseCommand.TheVariants.{Merge, Report, Lcov, Rank, Exclude, Restore}
use Rattle.command_line.specs.declared.database_option.DatabaseOption.{DatabaseOption}
use Rattle.command_line.specs.declared.database_option.DatabaseOption.TheVariants.{Level, Metrics, ByInstance, Covered, Output, Point}
use Rattle.command_line.specs.ReportLevel.{level_named}
use Rattle.command_line.specs.ReportMetrics.{is_letters}
use Rattle.command_line.specs.ValueForm.{is_file_name}

-- all options
abbrev pub options : List DatabaseOption
options = Level ∷ Metrics ∷ ByInstance ∷ Covered ∷ Output ∷ Point ∷ []

-- the option as it is written
abbrev pub option_text : DatabaseOption → List ℕ
option_text Level = codes "-d"
option_text Metrics = codes "-m"
option_text ByInstance = codes "-i"
option_text Covered = codes "-c"
option_text Output = codes "-o"
option_text Point = codes "-point"

-- the option that a word is
abbrev pub option_named : List ℕ → Option DatabaseOption
option_named word = find (λ option. bytes_eq word (option_text option)) options

-- options are the same where they are written alike
abbrev pub is_same : DatabaseOption → DatabaseOption → Bool
is_same a b = bytes_eq (option_text a) (option_text b)

-- the option may be repeated
abbrev pub repeats : DatabaseOption → Bool
repeats Point = true
repeats option = false

-- the next word is the option's value
abbrev pub takes_value : DatabaseOption → Bool
takes_value Level = true
takes_value Metrics = true
takes_value ByInstance = false
takes_value Covered = false
takes_value Output = true
takes_value Point = true

-- the value has the option's form; an option that takes none has the empty one, and an address of a point has the form of a file's name
abbrev pub accepts : DatabaseOption → List ℕ → Bool
accepts Level value = is_some (level_named value)
accepts Metrics value = is_letters value
accepts ByInstance value = length value == 0
accepts Covered value = length value == 0
accepts Output value = is_file_name value
accepts Point value = is_file_name value

-- `merge` and `lcov` have `-o` alone, `report` has all options except `-point`, `rank` has no option, and `exclude` and `restore` have `-o` and `-point`
abbrev pub has_option : DatabaseCommand → DatabaseOption → Bool
has_option Merge Output = true
has_option Merge option = false
has_option Report Point = false
has_option Report option = true
has_option Lcov Output = true
has_option Lcov option = false
has_option Rank option = false
has_option Exclude Output = true
has_option Exclude Point = true
has_option Exclude option = false
has_option Restore Output = true
has_option Restore Point = true
has_option Restore option = false

-- the word is this option of the command
abbrev pub IsOptionOf : DatabaseCommand → DatabaseOption → List ℕ → Type 0
IsOptionOf command option word = IsTrue (has_option command option) × (word ≡ option_text option)

-- the word is no option of the command
abbrev pub IsNoOptionOf : DatabaseCommand → List ℕ → Type 0
IsNoOptionOf command word = (option : DatabaseOption) → IsOptionOf command option word → ⊥

-- `merge` and `rank` have room for any number of databases, the others for one, the first
abbrev pub has_room : DatabaseCommand → Bool → Bool
has_room Merge first = true
has_room Report first = first
has_room Lcov first = first
has_room Rank first = true
has_room Exclude first = first
has_room Restore first = first

-- a database is named by a file's name that does not begin as an option does
abbrev pub is_database_name : List ℕ → Bool
is_database_name [] = false
is_database_name (byte ∷ bytes) = not (byte == 45) && is_file_name (byte ∷ bytes)
