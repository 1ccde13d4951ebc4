-- What the words of a command say of its sources.
use Rattle.std.specs.Prelude.{ℕ, List, map, Option}
use Rattle.std.specs.Option.{option_copied}
use Rattle.verilog_lexer.specs.Defines.{DefineText}
use Rattle.source_design.specs.declared.words.SourceWords.{SourceWords}

-- the top module, the files, the folder of included files, and the macros that are defined before the first file
pub record SourceValues : Type 0 where
  pub top : List ℕ
  pub files : List (List ℕ)
  pub folder : Option (List ℕ)
  pub defines : List DefineText

-- the words without where they lie in memory
abbrev pub source_values : SourceWords → SourceValues
source_values words = record {
  top = words.top.now;
  files = map (λ file. file.now) words.files.now;
  folder = option_copied words.folder;
  defines = words.defines.now;
}
