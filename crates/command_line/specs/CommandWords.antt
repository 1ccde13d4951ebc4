-- The words of the command `score`.
use Rattle.std.specs.Prelude.{◌≡◌, ◌≢◌, ◌==◌, ◌≤◌, ℕ, Bool, true, false, ◌||◌, if◌then◌else◌, IsTrue, IfSome, List, [], ◌∷◌, ◌++◌, length, map, Option, Some, None, codes}
use Rattle.std.specs.List.{All, AllByRecursion}
use Rattle.std.specs.Option.{option_copied}
use Rattle.cov_host.specs.Identifier.{is_identifier}
use Rattle.command_line.specs.declared.score_option.ScoreOption.{ScoreOption}
use Rattle.command_line.specs.declared.score_option.ScoreOption.TheVariants as option
use Rattle.command_line.specs.declared.score_words.ScoreWords.{ScoreWords}
use Rattle.command_line.specs.Define.{Define, define_of}
use Rattle.command_line.specs.DrawingWords.{DrawingNames, drawing_of}
use Rattle.command_line.specs.MachineWords.{MachineNames, machine_of}
use Rattle.command_line.specs.OptionValues.{defines_of, drawings_of, machines_of, sources_of}
use Rattle.command_line.specs.ScoreOption.{option_text, is_same, accepts, repeats, takes_value}
use Rattle.command_line.specs.ValueForm.{is_file_name, is_instance_path}

-- an option with its value
pub record GivenOption : Type 0 where
  pub option : ScoreOption
  pub value : List ℕ

-- the value as words: none where the option takes none
abbrev pub value_words : ScoreOption → List ℕ → List (List ℕ)
value_words option value = if takes_value option then value ∷ [] else []

-- options with their values, as words
abbrev pub spelled : List GivenOption → List (List ℕ)
spelled [] = []
spelled (given ∷ others) = option_text given.option ∷ value_words given.option given.value ++ spelled others

-- the values that an option was given, in order
abbrev pub values_in : List GivenOption → ScoreOption → List (List ℕ)
values_in [] option = []
values_in (given ∷ others) option = if is_same given.option option then given.value ∷ values_in others option else values_in others option

-- the option was given no value
abbrev pub is_absent : List GivenOption → ScoreOption → Bool
is_absent given option = length (values_in given option) == 0

-- the option may follow these
abbrev pub may_follow : List GivenOption → ScoreOption → Bool
may_follow given option = repeats option || is_absent given option

-- each value has its option's form, and an option that does not repeat occurs at most once
pub record AreGiven (given : List GivenOption) : Type 0 where
  pub forms : AllByRecursion (λ one. IsTrue (accepts one.option one.value)) given
  pub once : (option : ScoreOption) → repeats option ≡ false → length (values_in given option) ≤ 1

-- the words are `score`, options with their values, and what is left
pub record IsScoreUpTo (words : List (List ℕ)) (given : List GivenOption) (left : List (List ℕ)) : Type 0 where
  pub spells : words ≡ codes "score" ∷ spelled given ++ left
  pub are_given : AreGiven given

-- the values of a `score` command
pub record ScoreValues : Type 0 where
  pub top : List ℕ
  pub instance : List ℕ
  pub sources : List (List ℕ)
  pub defines : List Define
  pub folder : Option (List ℕ)
  pub dump : List ℕ
  pub output : List ℕ
  pub machines : List MachineNames  -- the state machines that are named
  pub drawings : List DrawingNames  -- the signals whose case statements draw state machines
  pub late : Bool  -- whether inputs move late

-- an optional value as a list
abbrev pub at_most_one : Option (List ℕ) → List (List ℕ)
at_most_one None = []
at_most_one (Some value) = value ∷ []

-- what was given for an option that takes no value
abbrev pub flag_values : Bool → List (List ℕ)
flag_values true = [] ∷ []
flag_values false = []

-- sources, defines, machines and drawings in order, the folder and the habit at most once, and each other option once
pub record AreValues (given : List GivenOption) (values : ScoreValues) : Type 0 where
  pub top : values_in given option.Top ≡ values.top ∷ []
  pub instance : values_in given option.Instance ≡ values.instance ∷ []
  pub sources : values_in given option.Source ≡ values.sources
  pub some : values.sources ≢ []
  pub defines : map define_of (values_in given option.Define) ≡ values.defines
  pub folder : values_in given option.Folder ≡ at_most_one values.folder
  pub dump : values_in given option.Dump ≡ values.dump ∷ []
  pub output : values_in given option.Output ≡ values.output ∷ []
  pub machines : map machine_of (values_in given option.States) ≡ values.machines
  pub drawings : map drawing_of (values_in given option.Arcs) ≡ values.drawings
  pub late : values_in given option.Late ≡ flag_values values.late

-- the names of a machine are identifiers
pub record AreIdentifiers (m : MachineNames) : Type 0 where
  pub of_module : IsTrue (is_identifier m.of_module)
  pub variable : IsTrue (is_identifier m.variable)
  pub names : All (λ name. IsTrue (is_identifier name)) m.names

-- the names of two signals are identifiers
pub record AreDrawingIdentifiers (m : DrawingNames) : Type 0 where
  pub of_module : IsTrue (is_identifier m.of_module)
  pub current : IsTrue (is_identifier m.current)
  pub next : IsTrue (is_identifier m.next)

-- each value has its form, and there is a source
pub record HaveForms (values : ScoreValues) : Type 0 where
  pub top : IsTrue (is_identifier values.top)
  pub instance : IsTrue (is_instance_path values.instance)
  pub some : values.sources ≢ []
  pub sources : All (λ name. IsTrue (is_file_name name)) values.sources
  pub defines : All (λ define. IsTrue (is_identifier define.name)) values.defines
  pub folder : IfSome values.folder (λ name. IsTrue (is_file_name name))
  pub dump : IsTrue (is_file_name values.dump)
  pub output : IsTrue (is_file_name values.output)
  pub machines : All AreIdentifiers values.machines
  pub drawings : All AreDrawingIdentifiers values.drawings

-- the words are `score` and options with their values, in any order
abbrev pub IsScore : List (List ℕ) → ScoreValues → Type 0
IsScore words values = (given : List GivenOption) × IsScoreUpTo words given [] × AreValues given values

-- the values as texts, without where they lie in memory
abbrev pub score_values : ScoreWords → ScoreValues
score_values score = record {
  top = score.top.now;
  instance = score.instance.now;
  sources = sources_of score.sources;
  defines = defines_of score.defines;
  folder = option_copied score.folder;
  dump = score.dump.now;
  output = score.output.now;
  machines = machines_of score.machines;
  drawings = drawings_of score.drawings;
  late = score.late;
}
