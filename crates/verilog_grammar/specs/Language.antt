-- The tokens and the phrases of the language.
use Rattle.std.specs.Prelude.{ℕ}
use Rattle.cov_host.specs.declared.place.Place.{Place}
use Rattle.verilog_lexer.specs.Tokens.{Lexeme}
use Rattle.verilog_tree.specs.Tree.{Expr, Statement}
use Rattle.grammar_rules.specs.Rule.{Language}
use Rattle.verilog_grammar.specs.Kind.{code, kind_of}
pub use Rattle.verilog_grammar.specs.declared.level.Level.{Level}
use Rattle.verilog_grammar.specs.declared.level.Level.TheVariants as level
pub use Rattle.verilog_grammar.specs.declared.body.Body.{Body}
pub use Rattle.verilog_grammar.specs.declared.body.Body.TheVariants.{Combinational, Clocked, Initial}

-- what nests: each is one deeper than what is round it
pub data Phrase : Type 0 where
  expression : Phrase
  -- what follows an operator, as tight as this
  operand : Level → Phrase
  -- the left side of an assignment
  target : Phrase
  statement : Body → Phrase

abbrev pub Value : Phrase → Type 0
Value expression = Expr
Value (operand l) = Expr
Value target = Expr
Value (statement b) = Statement

abbrev pub verilog : Language
verilog = record { Token = Lexeme; Place = Place; Phrase = Phrase; Value = Value; code = λ t. code (kind_of t); place = λ t. t.place }

-- the level of the operands of a level
abbrev pub tighter : Level → Level
tighter level.Unary = level.Unary
tighter level.Product = level.Unary
tighter level.Sum = level.Product
tighter level.Shift = level.Sum
tighter level.Relation = level.Shift
tighter level.Equality = level.Relation
tighter level.BitwiseAnd = level.Equality
tighter level.BitwiseXor = level.BitwiseAnd
tighter level.BitwiseOr = level.BitwiseXor
tighter level.LogicalAnd = level.BitwiseOr
tighter level.LogicalOr = level.LogicalAnd

-- the level whose operands have a level
abbrev pub looser : Level → Level
looser level.Unary = level.Product
looser level.Product = level.Sum
looser level.Sum = level.Shift
looser level.Shift = level.Relation
looser level.Relation = level.Equality
looser level.Equality = level.BitwiseAnd
looser level.BitwiseAnd = level.BitwiseXor
looser level.BitwiseXor = level.BitwiseOr
looser level.BitwiseOr = level.LogicalAnd
looser level.LogicalAnd = level.LogicalOr
looser level.LogicalOr = level.LogicalOr

-- how many levels are tighter
abbrev pub rank : Level → ℕ
rank level.Unary = 0
rank level.Product = 1
rank level.Sum = 2
rank level.Shift = 3
rank level.Relation = 4
rank level.Equality = 5
rank level.BitwiseAnd = 6
rank level.BitwiseXor = 7
rank level.BitwiseOr = 8
rank level.LogicalAnd = 9
rank level.LogicalOr = 10
