-- The tokens of the program as the tokens of the definition.
use Rattle.std.specs.Prelude.{List, map, Option}
use Rattle.std.specs.Option.{option_map}
use Rattle.verilog_lexer.specs.Tokens.{Lexeme}
use Rattle.verilog_lexer.specs.declared.token.Token.{Token}

abbrev pub lexeme : Token → Lexeme
lexeme token = record { kind = token.kind; text = token.text.now; place = token.place }

abbrev pub lexemes : List Token → List Lexeme
lexemes tokens = map lexeme tokens

abbrev pub lexeme_option : Option Token → Option Lexeme
lexeme_option token = option_map lexeme token
