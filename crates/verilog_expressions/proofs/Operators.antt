-- Operators and their operands.
use Rattle.std.proofs.Common.{◌≡◌, ℕ, true, nat_le, List, Ok, refl, ◌∷◌, []}
use Rattle.verilog_lexer.specs.Tokens.{Lexeme}
use Rattle.verilog_tree.specs.Tree.{Expr, unary_operator, binary_operator, sign_cast, place_of}
use Rattle.verilog_tree.specs.Depth.{depth}
use Rattle.grammar_rules.specs.Rule.{next, member, first, both, nest}
use Rattle.grammar_rules.specs.Grammar.{reads, phrase}
use Rattle.verilog_grammar.specs.declared.kind.Kind.TheVariants as k
use Rattle.verilog_grammar.specs.declared.level.Level.{Level}
use Rattle.verilog_grammar.specs.declared.level.Level.TheVariants as level
use Rattle.verilog_grammar.specs.Kind.{code, next_kind}
use Rattle.verilog_grammar.specs.Language.{verilog, tighter, expression, operand}
use Rattle.verilog_grammar.specs.Verilog.{grammar, begins}
use Rattle.verilog_grammar.specs.Parts.{only, any_of, before}
use Rattle.verilog_grammar.specs.Expressions.{operators, operation_rule, unary_of_kind, binary_of_kind, unary_rule, cast_rule, is_signed_cast}
use Rattle.verilog_expressions.specs.Grows.{by_operator}
use Rattle.verilog_expressions.proofs.Taking.{kind_taken, operator_taken}

pub unary_read : (d : ℕ) (i m o : List Lexeme) (t : Lexeme) (e : Expr) → member (next verilog i) (first verilog begins (operators level.Unary)) ≡ true
    → reads verilog grammar 0 (operators level.Unary) i ≡ Ok (t, m) → phrase verilog grammar d (operand level.Unary) m ≡ Ok (e, o)
    → reads verilog grammar d unary_rule i ≡ Ok (unary_operator t.place (unary_of_kind (next_kind i)) e, o)
unfolding unary_rule
unary_read d i m o t e s h l = rw (operator_taken level.Unary i t m h) (rw (s, h, l) refl)

pub operation_read : (d : ℕ) (l : Level) (a : Expr) (i m o : List Lexeme) (t : Lexeme) (e : Expr) → nat_le (depth a).height d ≡ true
    → reads verilog grammar 0 (operators l) i ≡ Ok (t, m) → phrase verilog grammar d (operand (tighter l)) m ≡ Ok (e, o)
    → by_operator d l a i ≡ Ok (binary_operator (place_of a) (binary_of_kind (next_kind i)) a e, o)
unfolding operation_rule
operation_read d l a i m o t e s h p = rw (operator_taken l i t m h) (rw (s, operators_read d l i, h, p) refl)
  where
    operators_read : (d : ℕ) (l : Level) (i : List Lexeme) → reads verilog grammar d (operators l) i ≡ reads verilog grammar 0 (operators l) i
    operators_read d level.Unary i = refl
    operators_read d level.Product i = refl
    operators_read d level.Sum i = refl
    operators_read d level.Shift i = refl
    operators_read d level.Relation i = refl
    operators_read d level.Equality i = refl
    operators_read d level.BitwiseAnd i = refl
    operators_read d level.BitwiseXor i = refl
    operators_read d level.BitwiseOr i = refl
    operators_read d level.LogicalAnd i = refl
    operators_read d level.LogicalOr i = refl

pub cast_read : (d : ℕ) (i m o : List Lexeme) (t bracket : Lexeme) (e : Expr) → reads verilog grammar 0 (any_of k.SignedCast (k.UnsignedCast ∷ [])) i ≡ Ok (t, m)
    → reads verilog grammar d (both (only k.OpenParen) (before (nest expression) k.CloseParen)) m ≡ Ok ((bracket, e), o)
    → reads verilog grammar d cast_rule i ≡ Ok (sign_cast t.place (is_signed_cast (next_kind i)) e, o)
unfolding cast_rule
cast_read d i m o t bracket e h l = rw (kind_taken (code k.SignedCast ∷ code k.UnsignedCast ∷ []) i t m h) (rw (h, l) refl)
