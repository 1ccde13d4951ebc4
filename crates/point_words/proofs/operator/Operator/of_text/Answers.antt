use Rattle.std.proofs.Common.{sym, ◌∙◌, arith}
use Rattle.std.specs.Prelude.{bytes_eq}
use Rattle.point_words.specs.Words.{operator_text, operators}
use Rattle.point_words.proofs.Finding.{find_on}
use Rattle.point_words.proofs.operator.Operator.of_text.Goals as goal

pub loop-operator-preserved : goal.loop-operator-preserved
loop-operator-preserved c =
    let other = rw (c.as_bytes.ensures.value ∙ c.text.ensures) at (sym c.eq.ensures ∙ c.if-eq.false) in
    sym (find_on (λ one. bytes_eq (operator_text one) c.args.text.now) operators c.loop-operator.operator-index _ (omega arith) other) ∙ c.loop-operator.invariant
