-- The values of the options that were read so far.
use Rattle.std.specs.Prelude.{◌≡◌, ℕ, Bool, ◌||◌, List, map, Option, Some, is_none, is_some, IsSome}
use Rattle.std.specs.Option.{option_copied}
use Rattle.command_line.specs.declared.score_option.ScoreOption.{ScoreOption}
use Rattle.command_line.specs.declared.score_option.ScoreOption.TheVariants.{Top, Instance, Source, Define, Folder, Dump, Output, States, Arcs, Late}
use Rattle.command_line.specs.declared.given_values.GivenValues.{GivenValues}
use Rattle.command_line.specs.declared.score_words.ScoreWords.{ScoreWords}
use Rattle.command_line.specs.Define.{define_of}
use Rattle.command_line.specs.DrawingWords.{drawing_of}
use Rattle.command_line.specs.MachineWords.{machine_of}
use Rattle.command_line.specs.OptionValues.{defines_of, drawings_of, machines_of, sources_of, values_among}
use Rattle.command_line.specs.ScoreOption.{repeats}
use Rattle.command_line.specs.WordsLeft.{left_words}

-- the value that an option was given last
abbrev pub value_of : GivenValues → ScoreOption → Option (List ℕ)
value_of given Top = option_copied given.top
value_of given Instance = option_copied given.instance
value_of given Source = option_copied given.source
value_of given Define = option_copied given.define
value_of given Folder = option_copied given.folder
value_of given Dump = option_copied given.dump
value_of given Output = option_copied given.output
value_of given States = option_copied given.machine
value_of given Arcs = option_copied given.drawing
value_of given Late = option_copied given.late

-- one more value of the option may be given
abbrev pub has_room : GivenValues → ScoreOption → Bool
has_room given option = repeats option || is_none (value_of given option)

-- all words of the options
abbrev pub all_words : GivenValues → List (List ℕ)
all_words given = left_words given.words

-- what was read is the values of a `score` command, with the sources, defines, machines and drawings among all its words
pub record GivesScore (given : GivenValues) (score : ScoreWords) : Type 0 where
  pub top : value_of given Top ≡ Some score.top.now
  pub instance : value_of given Instance ≡ Some score.instance.now
  pub sources : sources_of score.sources ≡ values_among Source (all_words given)
  pub some : IsSome (value_of given Source)
  pub defines : defines_of score.defines ≡ map define_of (values_among Define (all_words given))
  pub folder : option_copied score.folder ≡ value_of given Folder
  pub dump : value_of given Dump ≡ Some score.dump.now
  pub output : value_of given Output ≡ Some score.output.now
  pub machines : machines_of score.machines ≡ map machine_of (values_among States (all_words given))
  pub drawings : drawings_of score.drawings ≡ map drawing_of (values_among Arcs (all_words given))
  pub late : score.late ≡ is_some (value_of given Late)
