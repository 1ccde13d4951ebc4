-- The macros that the program keeps.
use Rattle.std.specs.Option.{option_map}
use Rattle.std.specs.Str.{bytes_eq}
use Rattle.indexmap.specs.IndexMap.{get_by}
use Rattle.verilog_lexer.specs.Defines.{Macros}
use Rattle.verilog_lexer.specs.declared.macros.Macros.{Macros as CodeMacros}

-- each macro's text
abbrev pub macros_view : CodeMacros → Macros
macros_view macros asked = option_map (λ text. text.now) (get_by (λ name. bytes_eq asked name.now) macros.texts)
