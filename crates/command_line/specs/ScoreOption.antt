-- The options of the command `score`.
use Rattle.std.specs.Prelude.{ℕ, Bool, true, false, ◌==◌, List, [], ◌∷◌, length, codes}
use Rattle.std.specs.Str.{bytes_eq}
use Rattle.cov_host.specs.Identifier.{is_identifier}
use Rattle.command_line.specs.declared.score_option.ScoreOption.{ScoreOption}
use Rattle.command_line.specs.declared.score_option.ScoreOption.TheVariants.{Top, Instance, Source, Define, Folder, Dump, Output, States, Arcs, Late}
use Rattle.command_line.specs.Define.{name_of}
use Rattle.command_line.specs.DrawingWords.{is_drawing}
use Rattle.command_line.specs.MachineWords.{is_machine}
use Rattle.command_line.specs.ValueForm.{is_instance_path, is_file_name}

-- the options that a command has to have, in the order in which a missing one is named
abbrev pub required : List ScoreOption
required = Top ∷ Instance ∷ Source ∷ Dump ∷ Output ∷ []

-- the option may be repeated
abbrev pub repeats : ScoreOption → Bool
repeats Source = true
repeats Define = true
repeats States = true
repeats Arcs = true
repeats option = false

-- the option as it is written
abbrev pub option_text : ScoreOption → List ℕ
option_text Top = codes "-t"
option_text Instance = codes "-i"
option_text Source = codes "-v"
option_text Define = codes "-D"
option_text Folder = codes "-I"
option_text Dump = codes "-vcd"
option_text Output = codes "-o"
option_text States = codes "-states"
option_text Arcs = codes "-F"
option_text Late = codes "-late"

-- options are the same where they are written alike
abbrev pub is_same : ScoreOption → ScoreOption → Bool
is_same a b = bytes_eq (option_text a) (option_text b)

-- the next word is the option's value
abbrev pub takes_value : ScoreOption → Bool
takes_value Late = false
takes_value option = true

-- the value has the option's form; an option that takes none has the empty one
abbrev pub accepts : ScoreOption → List ℕ → Bool
accepts Top value = is_identifier value
accepts Instance value = is_instance_path value
accepts Source value = is_file_name value
accepts Define value = is_identifier (name_of value)
accepts Folder value = is_file_name value
accepts Dump value = is_file_name value
accepts Output value = is_file_name value
accepts States value = is_machine value
accepts Arcs value = is_drawing value
accepts Late value = length value == 0
