-- Each case of a counted node is one that its operator can have.
use Rattle.std.proofs.Common.{◌≡◌, ◌∙◌, true, [], ◌∷◌, inl, inr, refl, sym, ap, subst}
use Rattle.std.proofs.lemmas.Option.{same_Some}
use Rattle.design_model.specs.Design.{In}
use Rattle.design_model.specs.Execution.{node_cases, operator_cases}
use Rattle.design_model.specs.Tree.{Term, binary, bit, choice, concat, number, part, repeat, sign, signal, slide, unary, word}
use Rattle.four_state.specs.declared.operator.Binary.{Binary}
use Rattle.four_state.specs.declared.operator.Binary.TheVariants as two
use Rattle.four_state.specs.declared.operator.Unary.{Unary}
use Rattle.four_state.specs.declared.operator.Unary.TheVariants as one
use Rattle.point_words.proofs.WordLaws.{operator_again}
use Rattle.point_words.specs.Words.{can_have, operator_of as operator_named, operator_text}
use Rattle.point_words.specs.declared.node_case.NodeCase.{NodeCase}
use Rattle.point_words.specs.declared.node_case.NodeCase.TheVariants.{ValueFalse, ValueTrue, LeftFalse, RightFalse, LeftTrue, RightTrue, BothFalse, FalseTrue, TrueFalse, BothTrue}
use Rattle.point_words.specs.declared.operator.Operator.{Operator}
use Rattle.point_words.specs.declared.operator.Operator.TheVariants.{Value}
use Rattle.point_table.specs.text_points.Operators.{binary_operator, operator_of, unary_operator}

-- operators with one text are one
pub same_operator : (a b : Operator) → operator_text a ≡ operator_text b → a ≡ b
same_operator a b e = same_Some a b (sym (operator_again a) ∙ ap operator_named e ∙ operator_again b)

-- the cases of a node of one operand
own : (op : Operator) (c : NodeCase) → can_have op ValueFalse ≡ true → can_have op ValueTrue ≡ true → In c (ValueFalse ∷ ValueTrue ∷ []) → can_have op c ≡ true
own op c p q (inl e) = subst (λ x. can_have op x ≡ true) e p
own op c p q (inr (inl e)) = subst (λ x. can_have op x ≡ true) e q
own op c p q (inr (inr h)) = absurd h

three : (op : Operator) (x y z c : NodeCase) → can_have op x ≡ true → can_have op y ≡ true → can_have op z ≡ true → In c (x ∷ y ∷ z ∷ []) → can_have op c ≡ true
three op x y z c p q r (inl e) = subst (λ x. can_have op x ≡ true) e p
three op x y z c p q r (inr (inl e)) = subst (λ x. can_have op x ≡ true) e q
three op x y z c p q r (inr (inr (inl e))) = subst (λ x. can_have op x ≡ true) e r
three op x y z c p q r (inr (inr (inr h))) = absurd h

-- those of a node of two operands, neither of which decides it alone
all : (op : Operator) (c : NodeCase) → can_have op BothFalse ≡ true → can_have op FalseTrue ≡ true → can_have op TrueFalse ≡ true → can_have op BothTrue ≡ true → In c (BothFalse ∷ FalseTrue ∷ TrueFalse ∷ BothTrue ∷ []) → can_have op c ≡ true
all op c p q r s (inl e) = subst (λ x. can_have op x ≡ true) e p
all op c p q r s (inr h) = three op FalseTrue TrueFalse BothTrue c q r s h

unary_case : (op : Unary) (c : NodeCase) → In c (ValueFalse ∷ ValueTrue ∷ []) → can_have (unary_operator op) c ≡ true
unary_case one.Positive c h = own (unary_operator one.Positive) c refl refl h
unary_case one.Negative c h = own (unary_operator one.Negative) c refl refl h
unary_case one.LogicalNot c h = own (unary_operator one.LogicalNot) c refl refl h
unary_case one.BitwiseNot c h = own (unary_operator one.BitwiseNot) c refl refl h
unary_case one.ReduceAnd c h = own (unary_operator one.ReduceAnd) c refl refl h
unary_case one.ReduceNand c h = own (unary_operator one.ReduceNand) c refl refl h
unary_case one.ReduceOr c h = own (unary_operator one.ReduceOr) c refl refl h
unary_case one.ReduceNor c h = own (unary_operator one.ReduceNor) c refl refl h
unary_case one.ReduceXor c h = own (unary_operator one.ReduceXor) c refl refl h
unary_case one.ReduceXnor c h = own (unary_operator one.ReduceXnor) c refl refl h
unary_case one.ReduceNxor c h = own (unary_operator one.ReduceNxor) c refl refl h

binary_case : (op : Binary) (c : NodeCase) → In c (operator_cases op) → can_have (binary_operator op) c ≡ true
binary_case two.BitwiseAnd c h = three (binary_operator two.BitwiseAnd) LeftFalse RightFalse BothTrue c refl refl refl h
binary_case two.LogicalAnd c h = three (binary_operator two.LogicalAnd) LeftFalse RightFalse BothTrue c refl refl refl h
binary_case two.BitwiseOr c h = three (binary_operator two.BitwiseOr) LeftTrue RightTrue BothFalse c refl refl refl h
binary_case two.LogicalOr c h = three (binary_operator two.LogicalOr) LeftTrue RightTrue BothFalse c refl refl refl h
binary_case two.Multiply c h = all (binary_operator two.Multiply) c refl refl refl refl h
binary_case two.Divide c h = all (binary_operator two.Divide) c refl refl refl refl h
binary_case two.Modulus c h = all (binary_operator two.Modulus) c refl refl refl refl h
binary_case two.Add c h = all (binary_operator two.Add) c refl refl refl refl h
binary_case two.Subtract c h = all (binary_operator two.Subtract) c refl refl refl refl h
binary_case two.ShiftLeft c h = all (binary_operator two.ShiftLeft) c refl refl refl refl h
binary_case two.ShiftRight c h = all (binary_operator two.ShiftRight) c refl refl refl refl h
binary_case two.ArithmeticShiftLeft c h = all (binary_operator two.ArithmeticShiftLeft) c refl refl refl refl h
binary_case two.ArithmeticShiftRight c h = all (binary_operator two.ArithmeticShiftRight) c refl refl refl refl h
binary_case two.LessThan c h = all (binary_operator two.LessThan) c refl refl refl refl h
binary_case two.LessOrEqual c h = all (binary_operator two.LessOrEqual) c refl refl refl refl h
binary_case two.GreaterThan c h = all (binary_operator two.GreaterThan) c refl refl refl refl h
binary_case two.GreaterOrEqual c h = all (binary_operator two.GreaterOrEqual) c refl refl refl refl h
binary_case two.Equal c h = all (binary_operator two.Equal) c refl refl refl refl h
binary_case two.NotEqual c h = all (binary_operator two.NotEqual) c refl refl refl refl h
binary_case two.CaseEqual c h = all (binary_operator two.CaseEqual) c refl refl refl refl h
binary_case two.CaseNotEqual c h = all (binary_operator two.CaseNotEqual) c refl refl refl refl h
binary_case two.BitwiseXor c h = all (binary_operator two.BitwiseXor) c refl refl refl refl h
binary_case two.BitwiseXnor c h = all (binary_operator two.BitwiseXnor) c refl refl refl refl h
binary_case two.BitwiseNxor c h = all (binary_operator two.BitwiseNxor) c refl refl refl refl h

-- a case of a node is one of its operator
pub case_of : (t : Term) (c : NodeCase) → In c (node_cases t) → can_have (operator_of t) c ≡ true
case_of (unary h op t) c k = unary_case op c k
case_of (binary h op t u) c k = binary_case op c k
case_of (number h n) c k = own Value c refl refl k
case_of (signal h s) c k = own Value c refl refl k
case_of (word h m i) c k = own Value c refl refl k
case_of (bit h t i) c k = own Value c refl refl k
case_of (part h t i j) c k = own Value c refl refl k
case_of (slide h t b w up) c k = own Value c refl refl k
case_of (choice h x t u) c k = own Value c refl refl k
case_of (concat h ts) c k = own Value c refl refl k
case_of (repeat h n ts) c k = own Value c refl refl k
case_of (sign h s t) c k = own Value c refl refl k
