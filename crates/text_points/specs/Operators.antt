-- The operator that a term is as a counted node.
use Rattle.four_state.specs.declared.operator.Binary.{Binary}
use Rattle.four_state.specs.declared.operator.Binary.TheVariants as two_operands
use Rattle.four_state.specs.declared.operator.Unary.{Unary}
use Rattle.four_state.specs.declared.operator.Unary.TheVariants as one_operand
use Rattle.design_model.specs.Tree.{Term, binary, unary}
use Rattle.point_words.specs.declared.operator.Operator.{Operator}
use Rattle.point_words.specs.declared.operator.Operator.TheVariants as operator

-- an operator with one operand
abbrev pub unary_operator : Unary → Operator
unary_operator one_operand.Positive = operator.Plus
unary_operator one_operand.Negative = operator.Minus
unary_operator one_operand.LogicalNot = operator.LogicalNot
unary_operator one_operand.BitwiseNot = operator.BitwiseNot
unary_operator one_operand.ReduceAnd = operator.And
unary_operator one_operand.ReduceNand = operator.ReduceNand
unary_operator one_operand.ReduceOr = operator.Or
unary_operator one_operand.ReduceNor = operator.ReduceNor
unary_operator one_operand.ReduceXor = operator.Xor
unary_operator one_operand.ReduceXnor = operator.Xnor
unary_operator one_operand.ReduceNxor = operator.Nxor

-- an operator with two operands
abbrev pub binary_operator : Binary → Operator
binary_operator two_operands.Multiply = operator.Multiply
binary_operator two_operands.Divide = operator.Divide
binary_operator two_operands.Modulus = operator.Modulus
binary_operator two_operands.Add = operator.Plus
binary_operator two_operands.Subtract = operator.Minus
binary_operator two_operands.ShiftLeft = operator.ShiftLeft
binary_operator two_operands.ShiftRight = operator.ShiftRight
binary_operator two_operands.ArithmeticShiftLeft = operator.ArithmeticShiftLeft
binary_operator two_operands.ArithmeticShiftRight = operator.ArithmeticShiftRight
binary_operator two_operands.LessThan = operator.LessThan
binary_operator two_operands.LessOrEqual = operator.LessOrEqual
binary_operator two_operands.GreaterThan = operator.GreaterThan
binary_operator two_operands.GreaterOrEqual = operator.GreaterOrEqual
binary_operator two_operands.Equal = operator.Equal
binary_operator two_operands.NotEqual = operator.NotEqual
binary_operator two_operands.CaseEqual = operator.CaseEqual
binary_operator two_operands.CaseNotEqual = operator.CaseNotEqual
binary_operator two_operands.BitwiseAnd = operator.And
binary_operator two_operands.BitwiseXor = operator.Xor
binary_operator two_operands.BitwiseXnor = operator.Xnor
binary_operator two_operands.BitwiseNxor = operator.Nxor
binary_operator two_operands.BitwiseOr = operator.Or
binary_operator two_operands.LogicalAnd = operator.LogicalAnd
binary_operator two_operands.LogicalOr = operator.LogicalOr

-- what names a node: its operator, or that it is the value of a condition
abbrev pub operator_of : Term → Operator
operator_of (unary h op t) = unary_operator op
operator_of (binary h op t u) = binary_operator op
operator_of _ = operator.Value
