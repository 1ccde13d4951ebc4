-- What is read is low.
use Rattle.std.proofs.Common.{◌≡◌, ◌<◌, ◌≤◌, ◌^◌, ℕ, Ok, true, nat_le, List, arith}
use Rattle.verilog_lexer.specs.Tokens.{Lexeme}
use Rattle.verilog_tree.specs.Tree.{Expr}
use Rattle.verilog_tree.specs.Depth.{depth}
use Rattle.grammar_rules.specs.Grammar.{phrase}
use Rattle.grammar_rules.proofs.Language.{phrase_sound}
use Rattle.verilog_grammar.specs.Height.{height}
use Rattle.verilog_grammar.specs.Language.{verilog, Phrase, Value}
use Rattle.verilog_grammar.specs.Verilog.{grammar}
use Rattle.verilog_grammar.proofs.Low.{phrase_low}
use Rattle.verilog_expressions.specs.Measured.{IsLow}

-- a phrase that is read within a depth is no higher
pub read_low : (d : ℕ) (p : Phrase) (i : List Lexeme) (v : Value p) (o : List Lexeme) → d < 2 ^ 32 → phrase verilog grammar d p i ≡ Ok (v, o) → height p v < 2 ^ 32
read_low d p i v o few e = let low : height p v ≤ d = phrase_low d p v i o (phrase_sound verilog grammar d p i v o e) in omega arith

-- what fits into a depth
pub fit_low : (d : ℕ) (e : Expr) → d < 2 ^ 32 → nat_le (depth e).height d ≡ true → IsLow e
fit_low d e few fits = let low : (depth e).height ≤ d = grind (arith, fits) in omega arith
