use Rattle.std.proofs.Common.{◌≡◌, drop}
use Rattle.std.specs.Prelude.{bytes_eq}
use Rattle.std.specs.List.{find}
use Rattle.point_words.specs.Words.{node_case_text, node_case_of, node_cases}
use Rattle.point_words.proofs.node_case.NodeCase.of_text.Given as goal

abbrev pub invariant-loop-case : goal.invariant-loop-case
invariant-loop-case l = find (λ one. bytes_eq (node_case_text one) l.text) (drop l.case-index node_cases) ≡ node_case_of l.text
