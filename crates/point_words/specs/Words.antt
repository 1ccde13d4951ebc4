-- The words of the database text.
use Rattle.std.specs.Prelude.{ℕ, List, [], ◌∷◌, Option, codes, Bool, true, false, ◌||◌, bytes_eq}
use Rattle.std.specs.List.{find}
use Rattle.point_words.specs.declared.line_word.LineWord.{LineWord}
use Rattle.point_words.specs.declared.line_word.LineWord.TheVariants as line
use Rattle.point_words.specs.declared.node_case.NodeCase.{NodeCase}
use Rattle.point_words.specs.declared.node_case.NodeCase.TheVariants as case
use Rattle.point_words.specs.declared.operator.Operator.{Operator}
use Rattle.point_words.specs.declared.operator.Operator.TheVariants as operator

-- the kind of a statement
abbrev pub line_word_text : LineWord → List ℕ
line_word_text line.If = codes "if"
line_word_text line.Case = codes "case"
line_word_text line.For = codes "for"
line_word_text line.Assign = codes "assign"

abbrev pub line_words : List LineWord
line_words = line.If ∷ line.Case ∷ line.For ∷ line.Assign ∷ []

-- the kind that a word names
unfoldable pub line_word_of : List ℕ → Option LineWord
line_word_of text = find (λ word. bytes_eq (line_word_text word) text) line_words

-- the truths that a case asks of a node or of its operands
abbrev pub node_case_text : NodeCase → List ℕ
node_case_text case.ValueFalse = codes "0"
node_case_text case.ValueTrue = codes "1"
node_case_text case.LeftFalse = codes "0-"
node_case_text case.RightFalse = codes "-0"
node_case_text case.LeftTrue = codes "1-"
node_case_text case.RightTrue = codes "-1"
node_case_text case.BothFalse = codes "00"
node_case_text case.FalseTrue = codes "01"
node_case_text case.TrueFalse = codes "10"
node_case_text case.BothTrue = codes "11"

abbrev pub node_cases : List NodeCase
node_cases =
    case.ValueFalse ∷ case.ValueTrue ∷ case.LeftFalse ∷ case.RightFalse ∷ case.LeftTrue ∷ case.RightTrue ∷ case.BothFalse ∷ case.FalseTrue ∷ case.TrueFalse ∷ case.BothTrue ∷ []

-- the case that a word names
unfoldable pub node_case_of : List ℕ → Option NodeCase
node_case_of text = find (λ case. bytes_eq (node_case_text case) text) node_cases

-- the place of a case in the order of point lines
abbrev pub node_case_rank : NodeCase → ℕ
node_case_rank case.ValueFalse = 0
node_case_rank case.ValueTrue = 1
node_case_rank case.LeftFalse = 2
node_case_rank case.RightFalse = 3
node_case_rank case.LeftTrue = 4
node_case_rank case.RightTrue = 5
node_case_rank case.BothFalse = 6
node_case_rank case.FalseTrue = 7
node_case_rank case.TrueFalse = 8
node_case_rank case.BothTrue = 9

-- the operator as it is written (IEEE 1364-2001 clause 4.1)
abbrev pub operator_text : Operator → List ℕ
operator_text operator.Value = codes "value"
operator_text operator.LogicalNot = codes "!"
operator_text operator.BitwiseNot = codes "~"
operator_text operator.ReduceNand = codes "~&"
operator_text operator.ReduceNor = codes "~|"
operator_text operator.And = codes "&"
operator_text operator.Or = codes "|"
operator_text operator.LogicalAnd = codes "&&"
operator_text operator.LogicalOr = codes "||"
operator_text operator.Plus = codes "+"
operator_text operator.Minus = codes "-"
operator_text operator.Xor = codes "^"
operator_text operator.Xnor = codes "~^"
operator_text operator.Nxor = codes "^~"
operator_text operator.Multiply = codes "*"
operator_text operator.Divide = codes "/"
operator_text operator.Modulus = codes "%"
operator_text operator.ShiftLeft = codes "<<"
operator_text operator.ShiftRight = codes ">>"
operator_text operator.ArithmeticShiftLeft = codes "<<<"
operator_text operator.ArithmeticShiftRight = codes ">>>"
operator_text operator.LessThan = codes "<"
operator_text operator.LessOrEqual = codes "<="
operator_text operator.GreaterThan = codes ">"
operator_text operator.GreaterOrEqual = codes ">="
operator_text operator.Equal = codes "=="
operator_text operator.NotEqual = codes "!="
operator_text operator.CaseEqual = codes "==="
operator_text operator.CaseNotEqual = codes "!=="

abbrev pub operators : List Operator
operators =
    operator.Value ∷ operator.LogicalNot ∷ operator.BitwiseNot ∷ operator.ReduceNand ∷ operator.ReduceNor ∷ operator.And ∷ operator.Or ∷ operator.LogicalAnd ∷ operator.LogicalOr ∷ operator.Plus
    ∷ operator.Minus ∷ operator.Xor ∷ operator.Xnor ∷ operator.Nxor ∷ operator.Multiply ∷ operator.Divide ∷ operator.Modulus ∷ operator.ShiftLeft ∷ operator.ShiftRight ∷ operator.ArithmeticShiftLeft
    ∷ operator.ArithmeticShiftRight ∷ operator.LessThan ∷ operator.LessOrEqual ∷ operator.GreaterThan ∷ operator.GreaterOrEqual ∷ operator.Equal ∷ operator.NotEqual ∷ operator.CaseEqual ∷ operator.CaseNotEqual ∷ []

-- the operator that a word names
unfoldable pub operator_of : List ℕ → Option Operator
operator_of text = find (λ op. bytes_eq (operator_text op) text) operators

-- the operator takes one operand, or is the value of a condition
abbrev pub is_unary : Operator → Bool
is_unary operator.Value = true
is_unary operator.LogicalNot = true
is_unary operator.BitwiseNot = true
is_unary operator.ReduceNand = true
is_unary operator.ReduceNor = true
is_unary operator.And = true
is_unary operator.Or = true
is_unary operator.Plus = true
is_unary operator.Minus = true
is_unary operator.Xor = true
is_unary operator.Xnor = true
is_unary operator.Nxor = true
is_unary _ = false

-- one false operand decides the operator
abbrev pub is_and : Operator → Bool
is_and operator.And = true
is_and operator.LogicalAnd = true
is_and _ = false

-- one true operand decides the operator
abbrev pub is_or : Operator → Bool
is_or operator.Or = true
is_or operator.LogicalOr = true
is_or _ = false

-- the operator takes two operands, and neither of them decides it alone
abbrev pub is_plain : Operator → Bool
is_plain operator.Value = false
is_plain operator.LogicalNot = false
is_plain operator.BitwiseNot = false
is_plain operator.ReduceNand = false
is_plain operator.ReduceNor = false
is_plain operator.And = false
is_plain operator.Or = false
is_plain operator.LogicalAnd = false
is_plain operator.LogicalOr = false
is_plain _ = true

-- a node of the operator has the case
abbrev pub can_have : Operator → NodeCase → Bool
can_have op case.ValueFalse = is_unary op
can_have op case.ValueTrue = is_unary op
can_have op case.LeftFalse = is_and op
can_have op case.RightFalse = is_and op
can_have op case.LeftTrue = is_or op
can_have op case.RightTrue = is_or op
can_have op case.BothFalse = is_or op || is_plain op
can_have op case.FalseTrue = is_plain op
can_have op case.TrueFalse = is_plain op
can_have op case.BothTrue = is_and op || is_plain op

-- the place of a kind among all kinds
abbrev pub line_word_rank : LineWord → ℕ
line_word_rank line.If = 0
line_word_rank line.Case = 1
line_word_rank line.For = 2
line_word_rank line.Assign = 3

-- the place of an operator among all operators
abbrev pub operator_rank : Operator → ℕ
operator_rank operator.Value = 0
operator_rank operator.LogicalNot = 1
operator_rank operator.BitwiseNot = 2
operator_rank operator.ReduceNand = 3
operator_rank operator.ReduceNor = 4
operator_rank operator.And = 5
operator_rank operator.Or = 6
operator_rank operator.LogicalAnd = 7
operator_rank operator.LogicalOr = 8
operator_rank operator.Plus = 9
operator_rank operator.Minus = 10
operator_rank operator.Xor = 11
operator_rank operator.Xnor = 12
operator_rank operator.Nxor = 13
operator_rank operator.Multiply = 14
operator_rank operator.Divide = 15
operator_rank operator.Modulus = 16
operator_rank operator.ShiftLeft = 17
operator_rank operator.ShiftRight = 18
operator_rank operator.ArithmeticShiftLeft = 19
operator_rank operator.ArithmeticShiftRight = 20
operator_rank operator.LessThan = 21
operator_rank operator.LessOrEqual = 22
operator_rank operator.GreaterThan = 23
operator_rank operator.GreaterOrEqual = 24
operator_rank operator.Equal = 25
operator_rank operator.NotEqual = 26
operator_rank operator.CaseEqual = 27
operator_rank operator.CaseNotEqual = 28
