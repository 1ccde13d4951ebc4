use Rattle.std.proofs.Common.{sym, ◌∙◌, arith}
use Rattle.std.specs.Prelude.{bytes_eq}
use Rattle.point_words.specs.Words.{node_case_text, node_cases}
use Rattle.point_words.proofs.Finding.{find_on}
use Rattle.point_words.proofs.node_case.NodeCase.of_text.Goals as goal

pub loop-case-preserved : goal.loop-case-preserved
loop-case-preserved c =
    let other = rw (c.as_bytes.ensures.value ∙ c.text.ensures) at (sym c.eq.ensures ∙ c.if-eq.false) in
    sym (find_on (λ one. bytes_eq (node_case_text one) c.args.text.now) node_cases c.loop-case.case-index _ (omega arith) other) ∙ c.loop-case.invariant
