-- The values of an option that may be repeated.
use Rattle.std.specs.Prelude.{ℕ, Bool, if◌then◌else◌, List, [], ◌∷◌, map}
use Rattle.std.specs.Str.{bytes_eq}
use Rattle.command_line.specs.declared.given_defines.GivenDefines.{GivenDefines}
use Rattle.command_line.specs.declared.given_drawings.GivenDrawings.{GivenDrawings}
use Rattle.command_line.specs.declared.given_machines.GivenMachines.{GivenMachines}
use Rattle.command_line.specs.declared.option_values.OptionValues.{OptionValues}
use Rattle.command_line.specs.declared.score_option.ScoreOption.{ScoreOption}
use Rattle.command_line.specs.declared.score_option.ScoreOption.TheVariants.{Late}
use Rattle.command_line.specs.declared.source_files.SourceFiles.{SourceFiles}
use Rattle.command_line.specs.Define.{Define, define_of}
use Rattle.command_line.specs.DrawingWords.{DrawingNames, drawing_of}
use Rattle.command_line.specs.MachineWords.{MachineNames, machine_of}
use Rattle.command_line.specs.ScoreOption.{option_text}
use Rattle.command_line.specs.WordsLeft.{left_words}

-- the word is the option that takes no value
abbrev pub is_flag : List ℕ → Bool
is_flag word = bytes_eq word (option_text Late)

-- of a word and the one after it: a flag is left out, and after any other option its value is taken where it is of this one
abbrev pub flag_or_value : ScoreOption → List ℕ → List ℕ → List (List ℕ) → List (List ℕ) → List (List ℕ)
flag_or_value option word value others behind = if is_flag word then others else (if bytes_eq word (option_text option) then value ∷ behind else behind)

-- the values of the option among the words of options
abbrev pub values_among : ScoreOption → List (List ℕ) → List (List ℕ)
values_among option [] = []
values_among option (word ∷ []) = []
values_among option (word ∷ value ∷ words) = flag_or_value option word value (values_among option (value ∷ words)) (values_among option words)

-- the values among the words that are left
abbrev pub values_left : OptionValues → List (List ℕ)
values_left values = values_among values.option (left_words values.words)

-- the files that are left
abbrev pub sources_of : SourceFiles → List (List ℕ)
sources_of sources = values_left sources.values

-- the names with their texts that are left
abbrev pub defines_of : GivenDefines → List Define
defines_of defines = map define_of (values_left defines.values)

-- the machines that are left
abbrev pub machines_of : GivenMachines → List MachineNames
machines_of machines = map machine_of (values_left machines.values)

-- the machines to be drawn that are left
abbrev pub drawings_of : GivenDrawings → List DrawingNames
drawings_of drawings = map drawing_of (values_left drawings.values)
