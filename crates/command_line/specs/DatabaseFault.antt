-- The first fault of words that begin as a command that reads databases.
use Rattle.std.specs.Prelude.{◌≡◌, ◌⊎◌, ◌==◌, ℕ, false, IsTrue, List, [], ◌∷◌, length, Option, Some, None, codes}
use Rattle.command_line.specs.declared.database_command.DatabaseCommand.{DatabaseCommand}
use Rattle.command_line.specs.declared.database_command.DatabaseCommand.TheVariants.{Merge, Report, Lcov, Rank, Exclude, Restore}
use Rattle.command_line.specs.declared.database_option.DatabaseOption.{DatabaseOption}
use Rattle.command_line.specs.declared.database_option.DatabaseOption.TheVariants.{Output, Point}
use Rattle.command_line.specs.declared.usage_fault.UsageFault.{UsageFault}
use Rattle.command_line.specs.declared.usage_fault.UsageFault.TheVariants.{NoCommand, UnknownCommand, UnknownWord, GivenTwice, NeedsValue, BadValue, Missing}
use Rattle.command_line.specs.DatabaseOption.{accepts, has_room, is_database_name, takes_value, IsOptionOf, IsNoOptionOf}
use Rattle.command_line.specs.DatabaseWords.{Item, files_in, may_follow, value_in, IsUpTo}

-- the word cannot be a database that follows these items
abbrev pub IsNoDatabase : DatabaseCommand → List Item → List ℕ → Type 0
IsNoDatabase command items word = (is_database_name word ≡ false) ⊎ (has_room command (length (files_in items) == 0) ≡ false)

-- `-o` and two databases are needed
abbrev pub missing_of_merge : Option (List ℕ) → List (List ℕ) → Option (List ℕ)
missing_of_merge None files = Some (codes "-o")
missing_of_merge (Some output) (first ∷ second ∷ others) = None
missing_of_merge (Some output) files = Some (codes "file")

-- a database is needed
abbrev pub missing_file : List (List ℕ) → Option (List ℕ)
missing_file [] = Some (codes "file")
missing_file (first ∷ others) = None

-- `-o` and a database are needed
abbrev pub missing_of_lcov : Option (List ℕ) → List (List ℕ) → Option (List ℕ)
missing_of_lcov None files = Some (codes "-o")
missing_of_lcov (Some output) files = missing_file files

-- `-o`, a point and a database are needed
abbrev pub missing_of_points : Option (List ℕ) → Option (List ℕ) → List (List ℕ) → Option (List ℕ)
missing_of_points None point files = Some (codes "-o")
missing_of_points (Some output) None files = Some (codes "-point")
missing_of_points (Some output) (Some point) files = missing_file files

-- what the command needs first of what it has not: of the value of `-o`, that of `-point`, and the databases
abbrev pub missing_of : DatabaseCommand → Option (List ℕ) → Option (List ℕ) → List (List ℕ) → Option (List ℕ)
missing_of Merge output point files = missing_of_merge output files
missing_of Report output point files = missing_file files
missing_of Lcov output point files = missing_of_lcov output files
missing_of Rank output point files = missing_file files
missing_of Exclude output point files = missing_of_points output point files
missing_of Restore output point files = missing_of_points output point files

-- what the command needs first of what the items lack
abbrev pub missing_in : DatabaseCommand → List Item → Option (List ℕ)
missing_in command items = missing_of command (value_in items Output) (value_in items Point) (files_in items)

abbrev pub IsGivenTwice : DatabaseCommand → List Item → List ℕ → List (List ℕ) → Type 0
IsGivenTwice command items word left = (option : DatabaseOption) × (rest : List (List ℕ)) × (left ≡ word ∷ rest) × IsOptionOf command option word × (may_follow items option ≡ false)

-- the word is an option of the command that may follow and takes a value
abbrev pub Needs : DatabaseCommand → List Item → DatabaseOption → List ℕ → Type 0
Needs command items option word = IsOptionOf command option word × IsTrue (may_follow items option) × IsTrue (takes_value option)

-- after the items this is the fault of the words that are left
abbrev pub DatabaseFaultAfter : DatabaseCommand → List Item → List (List ℕ) → UsageFault → Type 0
DatabaseFaultAfter command items left NoCommand = ⊥
DatabaseFaultAfter command items left (UnknownCommand word) = ⊥
DatabaseFaultAfter command items left (UnknownWord word) = (rest : List (List ℕ)) × (left ≡ word.now ∷ rest) × IsNoOptionOf command word.now × IsNoDatabase command items word.now
DatabaseFaultAfter command items left (GivenTwice word) = IsGivenTwice command items word.now left
DatabaseFaultAfter command items left (NeedsValue word) = (option : DatabaseOption) × (left ≡ word.now ∷ []) × Needs command items option word.now
DatabaseFaultAfter command items left (BadValue value) =
    (option : DatabaseOption) × (word : List ℕ) × (rest : List (List ℕ)) × (left ≡ word ∷ value.now ∷ rest) × Needs command items option word × (accepts option value.now ≡ false)
DatabaseFaultAfter command items left (Missing word) = (left ≡ []) × (missing_in command items ≡ Some word.now)

-- the words begin as the command, and this is their first fault from the left
abbrev pub HasDatabaseFault : DatabaseCommand → List (List ℕ) → UsageFault → Type 0
HasDatabaseFault command words fault = (items : List Item) × (left : List (List ℕ)) × IsUpTo command words items left × DatabaseFaultAfter command items left fault
