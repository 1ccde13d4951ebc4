-- Expressions (IEEE 1364-2001 annex A.8). A rule reads from left to right.
use Rattle.std.specs.Prelude.{◌≡◌, refl, Bool, true, false, List, [], ◌∷◌, Option, Some, None}
use Rattle.four_state.specs.declared.operator.Unary.{Unary}
use Rattle.four_state.specs.declared.operator.Unary.TheVariants as unary
use Rattle.four_state.specs.declared.operator.Binary.{Binary}
use Rattle.four_state.specs.declared.operator.Binary.TheVariants as binary
use Rattle.verilog_lexer.specs.Tokens.{Lexeme}
use Rattle.verilog_tree.specs.Tree.{Expr, literal, identifier, bit_select, part_select, indexed_part, unary_operator, binary_operator, conditional, concatenation, replication, sign_cast, parentheses, exprs_of, place_of}
use Rattle.verilog_tree.specs.Depth.{depth}
use Rattle.grammar_rules.specs.Rule.{Growth, both, either, many, grow, made, nest}
use Rattle.verilog_grammar.specs.Kind.{Kind, kind_of}
use Rattle.verilog_grammar.specs.declared.kind.Kind.TheVariants as k
use Rattle.verilog_grammar.specs.declared.level.Level.{Level}
use Rattle.verilog_grammar.specs.declared.level.Level.TheVariants as level
use Rattle.verilog_grammar.specs.Language.{verilog, operand, target}
use Rattle.verilog_grammar.specs.Literal.{decimal_vector, based_vector, width_of}
use Rattle.verilog_grammar.specs.Parts.{Phrased, only, any_of, after, before, optional, listed, in_parentheses, an_expression}

-- ---- numbers

-- a decimal number, or the size of a based number that follows
abbrev pub sized_or_decimal : Lexeme → Option Lexeme → Expr
sized_or_decimal t None = literal t.place (decimal_vector t.text)
sized_or_decimal t (Some b) = literal t.place (based_vector (width_of t.text) b.text)

abbrev pub decimal_of : Lexeme × Option Lexeme → Expr
decimal_of p = sized_or_decimal p.0 p.1

-- a based number without size has 32 bits
abbrev pub unsized_of : Lexeme → Expr
unsized_of t = literal t.place (based_vector 32 t.text)

-- number = decimal [ based ] | based
unfoldable pub number_rule : Phrased Expr
number_rule = either (made decimal_of (both (only k.Decimal) (optional (only k.Based)))) (made unsized_of (only k.Based))

-- ---- names and selects

-- what follows the first expression in a bracket
pub data SelectEnd : Type 0 where
  closed : SelectEnd
  low_end : Expr → SelectEnd
  up_end : Expr → SelectEnd
  down_end : Expr → SelectEnd

abbrev pub closed_of : Lexeme → SelectEnd
closed_of t = closed

-- "]" | ":" expr "]" | "+:" expr "]" | "-:" expr "]"
unfoldable pub select_end_rule : Phrased SelectEnd
select_end_rule =
    either (made closed_of (only k.CloseBracket))
    (either (made low_end (after k.Colon (before an_expression k.CloseBracket)))
    (either (made up_end (after k.PlusColon (before an_expression k.CloseBracket))) (made down_end (after k.MinusColon (before an_expression k.CloseBracket)))))

-- the bracket, the first expression in it, and what follows
abbrev pub Select : Type 0
Select = Lexeme × (Expr × SelectEnd)

-- select = "[" expr "]" | "[" expr ":" expr "]" | "[" expr "+:" expr "]" | "[" expr "-:" expr "]"
unfoldable pub select_rule : Phrased Select
select_rule = both (only k.OpenBracket) (both an_expression select_end_rule)

abbrev pub selected_by : Expr → Lexeme → Expr → SelectEnd → Expr
selected_by x t e closed = bit_select (place_of x) x e
selected_by x t e (low_end l) = part_select (place_of x) x e l t.place
selected_by x t e (up_end w) = indexed_part (place_of x) x e w true t.place
selected_by x t e (down_end w) = indexed_part (place_of x) x e w false t.place

abbrev pub selected : Expr → Select → Expr
selected x s = selected_by x s.0 s.1.0 s.1.1

abbrev pub is_identifier : Expr → Bool
is_identifier (identifier p x) = true
is_identifier _ = false

-- a name, or a select of one
abbrev pub is_selected_once : Expr → Bool
is_selected_once (identifier p x) = true
is_selected_once (bit_select p x i) = is_identifier x
is_selected_once (part_select p x h l b) = is_identifier x
is_selected_once (indexed_part p x e w up b) = is_identifier x
is_selected_once _ = false

-- what grows has the depth of its tree
abbrev pub growing_where : (again : Bool) → (Expr → Bool) → Growth verilog Expr
growing_where again may = record { may = may; again = again; height = λ e. (depth e).height; deepest = λ e. (depth e).place }

abbrev pub identifier_of : Lexeme → Expr
identifier_of t = identifier t.place t.text

-- name [ select [ select ] ]
unfoldable pub selects_rule : Phrased Expr
selects_rule = grow (growing_where true is_selected_once) selected tt (made identifier_of (only k.Identifier)) select_rule

-- ---- what binds tightest

unfoldable pub exprs_rule : Phrased (List Expr)
exprs_rule = listed an_expression

abbrev pub paren_of : Lexeme × Expr → Expr
paren_of p = parentheses p.0.place p.1

unfoldable pub paren_rule : Phrased Expr
paren_rule = made paren_of (both (only k.OpenParen) (before an_expression k.CloseParen))

-- what follows the first expression in a brace
pub data BraceEnd : Type 0 where
  repeated : List Expr → BraceEnd
  others : List Expr → BraceEnd

-- "{" expr { "," expr } "}" "}" | { "," expr } "}"
unfoldable pub brace_end_rule : Phrased BraceEnd
brace_end_rule =
    either (made repeated (after k.OpenBrace (before (before exprs_rule k.CloseBrace) k.CloseBrace)))
    (made others (before (many (after k.Comma an_expression)) k.CloseBrace))

abbrev pub braced_by : Lexeme → Expr → BraceEnd → Expr
braced_by t e (repeated es) = replication t.place e (exprs_of es)
braced_by t e (others es) = concatenation t.place (exprs_of (e ∷ es))

abbrev pub braced_of : Lexeme × (Expr × BraceEnd) → Expr
braced_of p = braced_by p.0 p.1.0 p.1.1

-- "{" expr { "," expr } "}" | "{" expr "{" expr { "," expr } "}" "}"
unfoldable pub braced_rule : Phrased Expr
braced_rule = made braced_of (both (only k.OpenBrace) (both an_expression brace_end_rule))

abbrev pub is_signed_cast : Kind → Bool
is_signed_cast k.SignedCast = true
is_signed_cast _ = false

abbrev pub cast_of : Lexeme × Expr → Expr
cast_of p = sign_cast p.0.place (is_signed_cast (kind_of p.0)) p.1

-- ( "$signed" | "$unsigned" ) "(" expr ")"
unfoldable pub cast_rule : Phrased Expr
cast_rule = made cast_of (both (any_of k.SignedCast (k.UnsignedCast ∷ [])) (in_parentheses an_expression))

unfoldable pub prim_rule : Phrased Expr
prim_rule = either number_rule (either selects_rule (either paren_rule (either braced_rule cast_rule)))

-- ---- operators

abbrev pub unary_of_kind : Kind → Unary
unary_of_kind k.Minus = unary.Negative
unary_of_kind k.Not = unary.LogicalNot
unary_of_kind k.Tilde = unary.BitwiseNot
unary_of_kind k.And = unary.ReduceAnd
unary_of_kind k.TildeAnd = unary.ReduceNand
unary_of_kind k.Or = unary.ReduceOr
unary_of_kind k.TildeOr = unary.ReduceNor
unary_of_kind k.Xor = unary.ReduceXor
unary_of_kind k.TildeXor = unary.ReduceXnor
unary_of_kind k.XorTilde = unary.ReduceNxor
unary_of_kind _ = unary.Positive

abbrev pub unary_operators : Phrased Lexeme
unary_operators = any_of k.Plus (k.Minus ∷ k.Not ∷ k.Tilde ∷ k.And ∷ k.TildeAnd ∷ k.Or ∷ k.TildeOr ∷ k.Xor ∷ k.TildeXor ∷ k.XorTilde ∷ [])

abbrev pub unary_of : Lexeme × Expr → Expr
unary_of p = unary_operator p.0.place (unary_of_kind (kind_of p.0)) p.1

-- an operand, with any number of operators before it
unfoldable pub unary_rule : Phrased Expr
unary_rule = either (made unary_of (both unary_operators (nest (operand level.Unary)))) prim_rule

abbrev pub binary_of_kind : Kind → Binary
binary_of_kind k.Star = binary.Multiply
binary_of_kind k.Slash = binary.Divide
binary_of_kind k.Percent = binary.Modulus
binary_of_kind k.Minus = binary.Subtract
binary_of_kind k.ShiftLeft = binary.ShiftLeft
binary_of_kind k.ShiftRight = binary.ShiftRight
binary_of_kind k.ArithmeticShiftLeft = binary.ArithmeticShiftLeft
binary_of_kind k.ArithmeticShiftRight = binary.ArithmeticShiftRight
binary_of_kind k.Less = binary.LessThan
binary_of_kind k.LessOrEqual = binary.LessOrEqual
binary_of_kind k.Greater = binary.GreaterThan
binary_of_kind k.GreaterOrEqual = binary.GreaterOrEqual
binary_of_kind k.EqualEqual = binary.Equal
binary_of_kind k.NotEqual = binary.NotEqual
binary_of_kind k.CaseEqual = binary.CaseEqual
binary_of_kind k.CaseNotEqual = binary.CaseNotEqual
binary_of_kind k.And = binary.BitwiseAnd
binary_of_kind k.Xor = binary.BitwiseXor
binary_of_kind k.TildeXor = binary.BitwiseXnor
binary_of_kind k.XorTilde = binary.BitwiseNxor
binary_of_kind k.Or = binary.BitwiseOr
binary_of_kind k.AndAnd = binary.LogicalAnd
binary_of_kind k.OrOr = binary.LogicalOr
binary_of_kind _ = binary.Add

-- the operators of a level (clause 4.1.2); the tightest has those that are before an operand
abbrev pub operators : Level → Phrased Lexeme
operators level.Unary = unary_operators
operators level.Product = any_of k.Star (k.Slash ∷ k.Percent ∷ [])
operators level.Sum = any_of k.Plus (k.Minus ∷ [])
operators level.Shift = any_of k.ShiftLeft (k.ShiftRight ∷ k.ArithmeticShiftLeft ∷ k.ArithmeticShiftRight ∷ [])
operators level.Relation = any_of k.Less (k.LessOrEqual ∷ k.Greater ∷ k.GreaterOrEqual ∷ [])
operators level.Equality = any_of k.EqualEqual (k.NotEqual ∷ k.CaseEqual ∷ k.CaseNotEqual ∷ [])
operators level.BitwiseAnd = only k.And
operators level.BitwiseXor = any_of k.Xor (k.TildeXor ∷ k.XorTilde ∷ [])
operators level.BitwiseOr = only k.Or
operators level.LogicalAnd = only k.AndAnd
operators level.LogicalOr = only k.OrOr

-- an operator of a level, and the operand after it
unfoldable pub operation_rule : (l : Level) → (tight : Level) → Phrased (Lexeme × Expr)
operation_rule l tight = both (operators l) (nest (operand tight))

abbrev pub binary_of : Expr → Lexeme × Expr → Expr
binary_of a p = binary_operator (place_of a) (binary_of_kind (kind_of p.0)) a p.1

abbrev pub anything : Expr → Bool
anything e = true

-- operands and operators of a level group to the left
abbrev pub operations : (l : Level) → (tight : Level) → Phrased Expr → Phrased Expr
operations l tight g = grow (growing_where true anything) binary_of tt g (operation_rule l tight)

unfoldable pub product_rule : Phrased Expr
product_rule = operations level.Product level.Unary unary_rule

unfoldable pub sum_rule : Phrased Expr
sum_rule = operations level.Sum level.Product product_rule

unfoldable pub shift_rule : Phrased Expr
shift_rule = operations level.Shift level.Sum sum_rule

unfoldable pub relation_rule : Phrased Expr
relation_rule = operations level.Relation level.Shift shift_rule

unfoldable pub equality_rule : Phrased Expr
equality_rule = operations level.Equality level.Relation relation_rule

unfoldable pub bitwise_and_rule : Phrased Expr
bitwise_and_rule = operations level.BitwiseAnd level.Equality equality_rule

unfoldable pub bitwise_xor_rule : Phrased Expr
bitwise_xor_rule = operations level.BitwiseXor level.BitwiseAnd bitwise_and_rule

unfoldable pub bitwise_or_rule : Phrased Expr
bitwise_or_rule = operations level.BitwiseOr level.BitwiseXor bitwise_xor_rule

unfoldable pub logical_and_rule : Phrased Expr
logical_and_rule = operations level.LogicalAnd level.BitwiseOr bitwise_or_rule

unfoldable pub logical_or_rule : Phrased Expr
logical_or_rule = operations level.LogicalOr level.LogicalAnd logical_and_rule

-- an expression of a level
abbrev pub level_rule : Level → Phrased Expr
level_rule level.Unary = unary_rule
level_rule level.Product = product_rule
level_rule level.Sum = sum_rule
level_rule level.Shift = shift_rule
level_rule level.Relation = relation_rule
level_rule level.Equality = equality_rule
level_rule level.BitwiseAnd = bitwise_and_rule
level_rule level.BitwiseXor = bitwise_xor_rule
level_rule level.BitwiseOr = bitwise_or_rule
level_rule level.LogicalAnd = logical_and_rule
level_rule level.LogicalOr = logical_or_rule

-- "?" expr ":" expr
unfoldable pub branches_rule : Phrased (Expr × Expr)
branches_rule = both (after k.Question an_expression) (after k.Colon an_expression)

abbrev pub choice_of : Expr → Expr × Expr → Expr
choice_of c p = conditional (place_of c) c p.0 p.1

abbrev pub is_no_choice : Expr → Bool
is_no_choice (conditional p c a b) = false
is_no_choice _ = true

-- a choice does not grow to a choice
pub ends_with_choice : (c : Expr) (p : Expr × Expr) → is_no_choice (choice_of c p) ≡ false
ends_with_choice c p = refl

-- ?: groups to the right
unfoldable pub expr_rule : Phrased Expr
expr_rule = grow (growing_where false is_no_choice) choice_of ends_with_choice logical_or_rule branches_rule

-- ---- left sides of assignments

-- a name, or one with an index
abbrev pub may_be_indexed : Expr → Bool
may_be_indexed (identifier p x) = true
may_be_indexed (bit_select p x i) = is_identifier x
may_be_indexed _ = false

-- name [ select ] | name "[" expr "]" select
unfoldable pub target_name_rule : Phrased Expr
target_name_rule = grow (growing_where true may_be_indexed) selected tt (made identifier_of (only k.Identifier)) select_rule

unfoldable pub targets_rule : Phrased (List Expr)
targets_rule = listed (nest target)

abbrev pub concat_of : Lexeme × List Expr → Expr
concat_of p = concatenation p.0.place (exprs_of p.1)

-- lvalue = name [ select ] | name "[" expr "]" select | "{" lvalue { "," lvalue } "}"
unfoldable pub target_rule : Phrased Expr
target_rule = either target_name_rule (made concat_of (both (only k.OpenBrace) (before targets_rule k.CloseBrace)))
