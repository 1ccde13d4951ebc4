-- The kind of the next token.
use Rattle.std.proofs.Common.{◌≡◌, ℕ, List, [], ◌∷◌, Ok, refl, ap}
use Rattle.verilog_lexer.specs.Tokens.{Lexeme}
use Rattle.grammar_rules.specs.Rule.{next, take_one}
use Rattle.grammar_rules.specs.Grammar.{reads}
use Rattle.grammar_rules.proofs.Shorter.{taken}
use Rattle.verilog_grammar.specs.Kind.{code, kind_of, next_kind}
use Rattle.verilog_grammar.specs.Language.{verilog}
use Rattle.verilog_grammar.specs.declared.level.Level.{Level}
use Rattle.verilog_grammar.specs.declared.level.Level.TheVariants as level
use Rattle.verilog_grammar.specs.Verilog.{grammar}
use Rattle.verilog_grammar.specs.Expressions.{operators}

pub next_is_code : (i : List Lexeme) → code (next_kind i) ≡ next verilog i
next_is_code [] = refl
next_is_code (t ∷ i) = refl

-- a token that was taken was the next one
pub kind_taken : (ks : List ℕ) (i : List Lexeme) (t : Lexeme) (o : List Lexeme) → take_one verilog ks i ≡ Ok (t, o) → next_kind i ≡ kind_of t
kind_taken ks i t o e = ap next_kind (taken verilog ks i t o e).0

pub operator_taken : (l : Level) (i : List Lexeme) (t : Lexeme) (o : List Lexeme) → reads verilog grammar 0 (operators l) i ≡ Ok (t, o) → next_kind i ≡ kind_of t
operator_taken level.Unary i t o e = kind_taken _ i t o e
operator_taken level.Product i t o e = kind_taken _ i t o e
operator_taken level.Sum i t o e = kind_taken _ i t o e
operator_taken level.Shift i t o e = kind_taken _ i t o e
operator_taken level.Relation i t o e = kind_taken _ i t o e
operator_taken level.Equality i t o e = kind_taken _ i t o e
operator_taken level.BitwiseAnd i t o e = kind_taken _ i t o e
operator_taken level.BitwiseXor i t o e = kind_taken _ i t o e
operator_taken level.BitwiseOr i t o e = kind_taken _ i t o e
operator_taken level.LogicalAnd i t o e = kind_taken _ i t o e
operator_taken level.LogicalOr i t o e = kind_taken _ i t o e
