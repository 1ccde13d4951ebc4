use Rattle.std.proofs.Common.{◌≡◌, drop}
use Rattle.std.specs.Prelude.{bytes_eq}
use Rattle.std.specs.List.{find}
use Rattle.point_words.specs.Words.{operator_text, operator_of, operators}
use Rattle.point_words.proofs.operator.Operator.of_text.Given as goal

abbrev pub invariant-loop-operator : goal.invariant-loop-operator
invariant-loop-operator l = find (λ one. bytes_eq (operator_text one) l.text) (drop l.operator-index operators) ≡ operator_of l.text
