-- The modules that tokens spell.
use Rattle.std.specs.Prelude.{List}
use Rattle.verilog_lexer.specs.Tokens.{Lexeme}
use Rattle.verilog_tree.specs.Tree.{Module}
use Rattle.grammar_rules.specs.Grammar.{IsSpelled}
use Rattle.verilog_grammar.specs.Language.{verilog}
use Rattle.verilog_grammar.specs.Verilog.{grammar}

-- the tokens spell the modules, and statements and expressions nest no deeper than 256
abbrev pub AreModules : List Lexeme → List Module → Type 0
AreModules tokens ms = IsSpelled verilog grammar 256 tokens ms
