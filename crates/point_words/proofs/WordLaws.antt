-- The words: what is read is spelled so, and what is spelled so is read.
use Rattle.std.proofs.Common.{◌≡◌, ℕ, Bool, true, List, [], ◌∷◌, Some, refl, sym, subst, inl, inr}
use Rattle.std.specs.Prelude.{bytes_eq}
use Rattle.std.specs.List.{find}
use Rattle.std.proofs.lemmas.Bool.{cases_Bool}
use Rattle.std.proofs.lemmas.Option.{same_Some}
use Rattle.std.proofs.lemmas.Slice.Eq.{bytes_eq-Decides}
use Rattle.point_words.specs.declared.line_word.LineWord.{LineWord}
use Rattle.point_words.specs.declared.line_word.LineWord.TheVariants as line
use Rattle.point_words.specs.declared.node_case.NodeCase.{NodeCase}
use Rattle.point_words.specs.declared.node_case.NodeCase.TheVariants as case
use Rattle.point_words.specs.declared.operator.Operator.{Operator}
use Rattle.point_words.specs.declared.operator.Operator.TheVariants as operator
use Rattle.point_words.specs.Words.{line_words, line_word_text, line_word_of, node_cases, node_case_text, node_case_of, operators, operator_text, operator_of}

found_passes : {X : Type 0} (test : X → Bool) (items : List X) (item : X) → find test items ≡ Some item → test item ≡ true
found_passes test [] item e = absurd cc
found_passes test (x ∷ xs) item e =
    elim (cases_Bool (test x)) [
      | inl passes ↦ let same : Some x ≡ Some item = rw passes at e in subst (λ y. test y ≡ true) (same_Some x item same) passes
      | inr other ↦ found_passes test xs item (rw other at e)
    ]

pub line_word_takes : (text : List ℕ) (word : LineWord) → line_word_of text ≡ Some word → text ≡ line_word_text word
unfolding line_word_of
line_word_takes text word e = sym ((bytes_eq-Decides (line_word_text word) text).0 (found_passes (λ w. bytes_eq (line_word_text w) text) line_words word e))

pub node_case_takes : (text : List ℕ) (case : NodeCase) → node_case_of text ≡ Some case → text ≡ node_case_text case
unfolding node_case_of
node_case_takes text case e = sym ((bytes_eq-Decides (node_case_text case) text).0 (found_passes (λ w. bytes_eq (node_case_text w) text) node_cases case e))

pub operator_takes : (text : List ℕ) (op : Operator) → operator_of text ≡ Some op → text ≡ operator_text op
unfolding operator_of
operator_takes text op e = sym ((bytes_eq-Decides (operator_text op) text).0 (found_passes (λ w. bytes_eq (operator_text w) text) operators op e))

pub line_word_again : (word : LineWord) → line_word_of (line_word_text word) ≡ Some word
unfolding line_word_of
line_word_again line.If = refl
line_word_again line.Case = refl
line_word_again line.For = refl
line_word_again line.Assign = refl

pub node_case_again : (c : NodeCase) → node_case_of (node_case_text c) ≡ Some c
unfolding node_case_of
node_case_again case.ValueFalse = refl
node_case_again case.ValueTrue = refl
node_case_again case.LeftFalse = refl
node_case_again case.RightFalse = refl
node_case_again case.LeftTrue = refl
node_case_again case.RightTrue = refl
node_case_again case.BothFalse = refl
node_case_again case.FalseTrue = refl
node_case_again case.TrueFalse = refl
node_case_again case.BothTrue = refl

pub operator_again : (op : Operator) → operator_of (operator_text op) ≡ Some op
unfolding operator_of
operator_again operator.Value = refl
operator_again operator.LogicalNot = refl
operator_again operator.BitwiseNot = refl
operator_again operator.ReduceNand = refl
operator_again operator.ReduceNor = refl
operator_again operator.And = refl
operator_again operator.Or = refl
operator_again operator.LogicalAnd = refl
operator_again operator.LogicalOr = refl
operator_again operator.Plus = refl
operator_again operator.Minus = refl
operator_again operator.Xor = refl
operator_again operator.Xnor = refl
operator_again operator.Nxor = refl
operator_again operator.Multiply = refl
operator_again operator.Divide = refl
operator_again operator.Modulus = refl
operator_again operator.ShiftLeft = refl
operator_again operator.ShiftRight = refl
operator_again operator.ArithmeticShiftLeft = refl
operator_again operator.ArithmeticShiftRight = refl
operator_again operator.LessThan = refl
operator_again operator.LessOrEqual = refl
operator_again operator.GreaterThan = refl
operator_again operator.GreaterOrEqual = refl
operator_again operator.Equal = refl
operator_again operator.NotEqual = refl
operator_again operator.CaseEqual = refl
operator_again operator.CaseNotEqual = refl
