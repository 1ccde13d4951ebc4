use Rattle.std.proofs.Common.{◌≡◌, ◌++◌, map, take}
use Rattle.design_model.specs.View.{term_view}
use Rattle.text_points.specs.Nodes.{node_at}
use Rattle.text_points.specs.Operators.{operator_of}
use Rattle.text_points.proofs.nodes.push_each.Given as goal

abbrev pub invariant-loop-case : goal.invariant-loop-case
invariant-loop-case l =
    l.found.items ≡ l.fn.found.items ++ map (node_at l.owner l.node l.term.place (operator_of (term_view l.term))) (take l.case-index l.cases)
