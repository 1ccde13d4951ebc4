use Rattle.std.proofs.Common.{◌≡◌, ◌+◌, ◌*◌, ◌++◌, max, drop}
use Rattle.flat_design.specs.Identifiers.{all_identifiers}
use Rattle.flat_design.specs.Processes.{listed_signals}
use Rattle.flat_design.specs.Scope.{binding_of}
use Rattle.verilog_tree.specs.Tree.{exprs_of}
use Rattle.verilog_tree.specs.View.{exprs_view}
use Rattle.verilog_tree.specs.declared.expr.Expr.{size-Expr}
use Rattle.elab_bodies.proofs.reads.+add_expr.Given as goal

-- the signals so far, with those of the rest, are those of all
abbrev pub invariant-add_exprs-loop-expr : goal.invariant-add_exprs-loop-expr
invariant-add_exprs-loop-expr l =
    l.signals ++ listed_signals (binding_of l.scope) (all_identifiers (exprs_of (exprs_view (drop l.expr-index l.exprs)))) ≡ l.fn.signals ++ listed_signals (binding_of l.fn.scope) (all_identifiers (exprs_of (exprs_view l.fn.exprs)))

-- each call is of a part, or of the same expression by a function further down
abbrev pub decreases-add_expr : goal.decreases-add_expr
decreases-add_expr l = 3 * size-Expr l.expr.now

abbrev pub decreases-add_two : goal.decreases-add_two
decreases-add_two l = 3 * max (size-Expr l.a.now) (size-Expr l.b.now) + 1

abbrev pub decreases-add_three : goal.decreases-add_three
decreases-add_three l = 3 * max (max (size-Expr l.a.now) (size-Expr l.b.now)) (size-Expr l.c.now) + 2

abbrev pub decreases-add_exprs : goal.decreases-add_exprs
decreases-add_exprs l = 3 * goal.size-add_exprs l + 1
