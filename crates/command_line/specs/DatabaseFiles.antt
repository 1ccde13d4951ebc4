-- The databases among words.
use Rattle.std.specs.Prelude.{ℕ, if◌then◌else◌, List, [], ◌∷◌, Option, Some, None}
use Rattle.command_line.specs.declared.database_files.DatabaseFiles.{DatabaseFiles}
use Rattle.command_line.specs.declared.database_option.DatabaseOption.{DatabaseOption}
use Rattle.command_line.specs.DatabaseOption.{option_named, takes_value}
use Rattle.command_line.specs.WordsLeft.{left_words}

-- a word that is no option is a database; after an option its value, if it takes one, is left out
abbrev pub file_or_option : List ℕ → Option DatabaseOption → List (List ℕ) → List (List ℕ) → List (List ℕ)
file_or_option word None others behind = word ∷ others
file_or_option word (Some option) others behind = if takes_value option then behind else others

-- the words that are neither an option nor an option's value
abbrev pub files_among : List (List ℕ) → List (List ℕ)
files_among [] = []
files_among (word ∷ []) = file_or_option word (option_named word) [] []
files_among (word ∷ next ∷ words) = file_or_option word (option_named word) (files_among (next ∷ words)) (files_among words)

-- the databases among the words that are left
abbrev pub files_of : DatabaseFiles → List (List ℕ)
files_of files = files_among (left_words files.words)
