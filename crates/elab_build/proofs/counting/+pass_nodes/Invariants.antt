use Rattle.std.proofs.Common.{◌≡◌, ◌+◌, ◌*◌, max, drop}
use Rattle.flat_design.specs.Numbering.{all_nodes}
use Rattle.flat_design.specs.Scope.{binding_of}
use Rattle.verilog_tree.specs.Tree.{exprs_of}
use Rattle.verilog_tree.specs.View.{exprs_view}
use Rattle.verilog_tree.specs.declared.expr.Expr.{size-Expr}
use Rattle.elab_build.proofs.counting.+pass_nodes.Given as goal

-- the numbers so far, with those of the rest, are those of all parts
abbrev pub invariant-pass_all_nodes-loop-part : goal.invariant-pass_all_nodes-loop-part
invariant-pass_all_nodes-loop-part l =
    l.nodes + all_nodes (binding_of l.scope) (exprs_of (exprs_view (drop l.part-index l.parts))) ≡ l.fn.nodes + all_nodes (binding_of l.fn.scope) (exprs_of (exprs_view l.fn.parts))

-- each call is of a part
abbrev pub decreases-pass_nodes : goal.decreases-pass_nodes
decreases-pass_nodes l = 2 * size-Expr l.expr.now

abbrev pub decreases-pass_three : goal.decreases-pass_three
decreases-pass_three l = 2 * max (size-Expr l.a.now) (max (size-Expr l.b.now) (size-Expr l.c.now)) + 1

abbrev pub decreases-pass_all_nodes : goal.decreases-pass_all_nodes
decreases-pass_all_nodes l = 2 * goal.size-pass_all_nodes l + 1
