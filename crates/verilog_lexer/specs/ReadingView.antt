-- What the program has read, as the definition sees it.
use Rattle.std.specs.Prelude.{Option}
use Rattle.std.specs.Option.{option_map}
use Rattle.verilog_lexer.specs.TokenView.{lexemes}
use Rattle.verilog_lexer.specs.MacrosView.{macros_view}
use Rattle.verilog_lexer.specs.Reading.{Reading, Entry, macro_text, file, PassageText}
use Rattle.verilog_lexer.specs.declared.reading.Reading.{Reading as CodeReading}
use Rattle.verilog_lexer.specs.declared.reading.Entry.{Entry as CodeEntry}
use Rattle.verilog_lexer.specs.declared.reading.Entry.TheVariants as code
use Rattle.verilog_lexer.specs.declared.passage.Passage.{Passage}

abbrev pub reading_view : CodeReading → Reading
reading_view reading = record { tokens = lexemes reading.tokens.items; macros = macros_view reading.macros; conditions = reading.conditions.items; room = reading.room }

abbrev pub entry_view : CodeEntry → Entry
entry_view (code.MacroText text) = macro_text text.now
entry_view (code.File name) = file name.now

abbrev pub entry_option : Option CodeEntry → Option Entry
entry_option entry = option_map entry_view entry

abbrev pub passage_view : Passage → PassageText
passage_view passage = record { text = passage.text.now; spot = passage.spot; ending = option_map (λ outer. outer.items) passage.ending }
