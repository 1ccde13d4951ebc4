-- What the values of a `score` command say of its sources.
use Rattle.std.specs.Prelude.{map}
use Rattle.command_line.specs.CommandWords.{ScoreValues}
use Rattle.command_line.specs.Define.{Define}
use Rattle.verilog_lexer.specs.Defines.{DefineText}
use Rattle.source_design.specs.Words.{SourceValues}

-- a name with its text, as the lexer takes it
abbrev pub define_text : Define → DefineText
define_text define = record { name = define.name; text = define.text }

-- the top module, the files, the folder and the macros
abbrev pub sources_in : ScoreValues → SourceValues
sources_in score = record { top = score.top; files = score.sources; folder = score.folder; defines = map define_text score.defines }
