-- The first fault of words that are no command.
use Rattle.std.specs.Prelude.{◌≡◌, ◌≢◌, ◌⊎◌, ℕ, Bool, false, IsTrue, List, [], ◌∷◌, ◌++◌, Option, Some, codes}
use Rattle.std.specs.List.{find}
use Rattle.command_line.specs.declared.score_option.ScoreOption.{ScoreOption}
use Rattle.command_line.specs.declared.usage_fault.UsageFault.{UsageFault}
use Rattle.command_line.specs.declared.usage_fault.UsageFault.TheVariants.{NoCommand, UnknownCommand, UnknownWord, GivenTwice, NeedsValue, BadValue, Missing}
use Rattle.command_line.specs.declared.database_command.DatabaseCommand.TheVariants.{Merge, Report, Lcov, Rank, Exclude, Restore}
use Rattle.command_line.specs.DatabaseFault.{HasDatabaseFault}
use Rattle.command_line.specs.ScoreOption.{required, option_text, accepts, takes_value}
use Rattle.command_line.specs.CommandWords.{GivenOption, is_absent, may_follow, IsScoreUpTo}
use Rattle.command_line.specs.SelfrunWords.{HasSelfrunFault}

-- the text of the fault
abbrev pub usage_text : UsageFault → List ℕ
usage_text NoCommand = codes "no command"
usage_text (UnknownCommand word) = codes "unknown command " ++ word.now
usage_text (UnknownWord word) = codes "unknown word " ++ word.now
usage_text (GivenTwice word) = word.now ++ codes " given twice"
usage_text (NeedsValue word) = word.now ++ codes " needs a value"
usage_text (BadValue word) = codes "bad value " ++ word.now
usage_text (Missing word) = codes "missing " ++ word.now

-- the first option that is missing, where these are absent
abbrev pub first_missing : (ScoreOption → Bool) → Option ScoreOption
first_missing absent = find absent required

-- the words begin with this one
abbrev pub BeginsWith : List ℕ → List (List ℕ) → Type 0
BeginsWith word words = (rest : List (List ℕ)) × (words ≡ word ∷ rest)

-- the word is no option
abbrev pub IsNoOption : List ℕ → Type 0
IsNoOption word = (option : ScoreOption) → word ≢ option_text option

-- the word is an option that may not follow these
abbrev pub IsGivenTwice : List GivenOption → List ℕ → Type 0
IsGivenTwice given word = (option : ScoreOption) × (word ≡ option_text option) × (may_follow given option ≡ false)

-- the word is an option that may follow these and takes a value
abbrev pub NeedsOne : List GivenOption → List ℕ → Type 0
NeedsOne given word = (option : ScoreOption) × (word ≡ option_text option) × IsTrue (may_follow given option) × IsTrue (takes_value option)

-- the words are an option that may come next, a value that is not of its form, and any others
abbrev pub BeginsWithBadValue : List GivenOption → List ℕ → List (List ℕ) → Type 0
BeginsWithBadValue given value words =
    (option : ScoreOption) × (rest : List (List ℕ)) × (words ≡ option_text option ∷ value ∷ rest) × IsTrue (may_follow given option) × IsTrue (takes_value option) × (accepts option value ≡ false)

-- the first option that is missing is this word
abbrev pub IsMissing : List GivenOption → List ℕ → Type 0
IsMissing given word = (option : ScoreOption) × (first_missing (is_absent given) ≡ Some option) × (word ≡ option_text option)

-- after options with their values this is the fault of the words that are left
abbrev pub FaultAfter : List GivenOption → List (List ℕ) → UsageFault → Type 0
FaultAfter given left NoCommand = ⊥
FaultAfter given left (UnknownCommand word) = ⊥
FaultAfter given left (UnknownWord word) = BeginsWith word.now left × IsNoOption word.now
FaultAfter given left (GivenTwice word) = BeginsWith word.now left × IsGivenTwice given word.now
FaultAfter given left (NeedsValue word) = (left ≡ word.now ∷ []) × NeedsOne given word.now
FaultAfter given left (BadValue word) = BeginsWithBadValue given word.now left
FaultAfter given left (Missing word) = (left ≡ []) × IsMissing given word.now

-- the words begin as `score`, and this is their first fault from the left
abbrev pub HasScoreFault : List (List ℕ) → UsageFault → Type 0
HasScoreFault words fault = (given : List GivenOption) × (left : List (List ℕ)) × IsScoreUpTo words given left × FaultAfter given left fault

-- the word names no command
abbrev pub NamesNoCommand : List ℕ → Type 0
NamesNoCommand word =
    (word ≢ codes "score") × (word ≢ codes "merge") × (word ≢ codes "report") × (word ≢ codes "lcov") × (word ≢ codes "rank") × (word ≢ codes "exclude") × (word ≢ codes "restore") × (word ≢ codes "selfrun")

-- the words are no command, and this is their first fault from the left
abbrev pub HasUsageFault : List (List ℕ) → UsageFault → Type 0
HasUsageFault words NoCommand = words ≡ []
HasUsageFault words (UnknownCommand word) = BeginsWith word.now words × NamesNoCommand word.now
HasUsageFault words fault =
    HasScoreFault words fault ⊎ HasDatabaseFault Merge words fault ⊎ HasDatabaseFault Report words fault ⊎ HasDatabaseFault Lcov words fault
    ⊎ HasDatabaseFault Rank words fault ⊎ HasDatabaseFault Exclude words fault ⊎ HasDatabaseFault Restore words fault ⊎ HasSelfrunFault words fault
