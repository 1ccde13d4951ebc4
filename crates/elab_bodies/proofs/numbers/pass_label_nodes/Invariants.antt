use Rattle.std.proofs.Common.{◌≡◌, ◌+◌, drop}
use Rattle.flat_design.specs.Numbering.{all_nodes}
use Rattle.flat_design.specs.Scope.{binding_of}
use Rattle.verilog_tree.specs.Tree.{exprs_of}
use Rattle.verilog_tree.specs.View.{exprs_view}
use Rattle.elab_bodies.proofs.numbers.pass_label_nodes.Given as goal

-- the numbers so far, with those of the rest, are those of all labels
abbrev pub invariant-loop-label : goal.invariant-loop-label
invariant-loop-label l =
    l.nodes + all_nodes (binding_of l.scope) (exprs_of (exprs_view (drop l.label-index l.labels))) ≡ l.fn.nodes + all_nodes (binding_of l.fn.scope) (exprs_of (exprs_view l.fn.labels))
