-- Taking tokens.
use Rattle.std.specs.Prelude.{List, [], ◌∷◌, length, Ok}
use Rattle.verilog_lexer.specs.Tokens.{Lexeme}
use Rattle.grammar_rules.specs.Rule.{Outcome, refuse}
use Rattle.verilog_grammar.specs.Language.{verilog}
use Rattle.verilog_expressions.specs.declared.fault.ReadFault.{ReadFault}
use Rattle.verilog_expressions.specs.declared.fault.ReadFault.TheVariants as read_fault
use Rattle.verilog_expressions.specs.declared.fault.Wrong.TheVariants as wrong

-- the next token, of whatever kind
abbrev pub take_next : List Lexeme → Outcome verilog Lexeme
take_next [] = refuse verilog []
take_next (t ∷ i) = Ok (t, i)

-- the part that begins with the next token nests too deep
abbrev pub deep_fault : List Lexeme → ReadFault
deep_fault [] = read_fault.At (record { wrong = wrong.Unexpected; left = 0 })
deep_fault (t ∷ i) = read_fault.At (record { wrong = wrong.TooDeep t.place; left = length (t ∷ i) })
