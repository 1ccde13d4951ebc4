-- The operator of a node is the one with the node's text.
use Rattle.std.proofs.Common.{◌≡◌, refl}
use Rattle.four_state.specs.declared.operator.Binary.{Binary}
use Rattle.four_state.specs.declared.operator.Binary.TheVariants as two_operands
use Rattle.four_state.specs.declared.operator.Unary.{Unary}
use Rattle.four_state.specs.declared.operator.Unary.TheVariants as one_operand
use Rattle.design_model.specs.Numbered.{binary_text, node_text, unary_text}
use Rattle.design_model.specs.Tree.{Term, binary, bit, choice, concat, number, part, repeat, sign, signal, slide, unary, word}
use Rattle.point_words.specs.Words.{operator_text}
use Rattle.text_points.specs.Operators.{binary_operator, operator_of, unary_operator}

unary_is : (op : Unary) → operator_text (unary_operator op) ≡ unary_text op
unary_is one_operand.Positive = refl
unary_is one_operand.Negative = refl
unary_is one_operand.LogicalNot = refl
unary_is one_operand.BitwiseNot = refl
unary_is one_operand.ReduceAnd = refl
unary_is one_operand.ReduceNand = refl
unary_is one_operand.ReduceOr = refl
unary_is one_operand.ReduceNor = refl
unary_is one_operand.ReduceXor = refl
unary_is one_operand.ReduceXnor = refl
unary_is one_operand.ReduceNxor = refl

binary_is : (op : Binary) → operator_text (binary_operator op) ≡ binary_text op
binary_is two_operands.Multiply = refl
binary_is two_operands.Divide = refl
binary_is two_operands.Modulus = refl
binary_is two_operands.Add = refl
binary_is two_operands.Subtract = refl
binary_is two_operands.ShiftLeft = refl
binary_is two_operands.ShiftRight = refl
binary_is two_operands.ArithmeticShiftLeft = refl
binary_is two_operands.ArithmeticShiftRight = refl
binary_is two_operands.LessThan = refl
binary_is two_operands.LessOrEqual = refl
binary_is two_operands.GreaterThan = refl
binary_is two_operands.GreaterOrEqual = refl
binary_is two_operands.Equal = refl
binary_is two_operands.NotEqual = refl
binary_is two_operands.CaseEqual = refl
binary_is two_operands.CaseNotEqual = refl
binary_is two_operands.BitwiseAnd = refl
binary_is two_operands.BitwiseXor = refl
binary_is two_operands.BitwiseXnor = refl
binary_is two_operands.BitwiseNxor = refl
binary_is two_operands.BitwiseOr = refl
binary_is two_operands.LogicalAnd = refl
binary_is two_operands.LogicalOr = refl

-- a node is named by its operator
pub text_is : (t : Term) → operator_text (operator_of t) ≡ node_text t
text_is (number h n) = refl
text_is (signal h s) = refl
text_is (word h m i) = refl
text_is (bit h t i) = refl
text_is (part h t i j) = refl
text_is (slide h t b w up) = refl
text_is (unary h op t) = unary_is op
text_is (binary h op t u) = binary_is op
text_is (choice h c t u) = refl
text_is (concat h ts) = refl
text_is (repeat h n ts) = refl
text_is (sign h s t) = refl
