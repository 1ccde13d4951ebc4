use Rattle.std.proofs.Common.{◌≡◌, ◌+◌, ◌*◌, max, drop}
use Rattle.verilog_tree.specs.Tree.{exprs_of}
use Rattle.verilog_tree.specs.View.{exprs_view}
use Rattle.verilog_tree.specs.declared.expr.Expr.{size-Expr}
use Rattle.flat_design.specs.Identifiers.{all_identifiers}
use Rattle.flat_design.specs.Scope.{binding_of}
use Rattle.elab_scope.specs.Tally.{after_faults}
use Rattle.elab_processes.specs.Listed.{lacking}
use Rattle.elab_processes.proofs.incomplete.+check_names.Given as goal

-- what was reported so far, and then what is reported of the rest, is what is reported of all
abbrev pub invariant-check_all_names-loop-expr : goal.invariant-check_all_names-loop-expr
invariant-check_all_names-loop-expr l =
    after_faults l.tally (lacking (binding_of l.scope) l.known (all_identifiers (exprs_of (exprs_view (drop l.expr-index l.exprs))))) ≡ after_faults l.fn.tally (lacking (binding_of l.fn.scope) l.fn.known (all_identifiers (exprs_of (exprs_view l.fn.exprs))))

-- each call is of a part, or of the same expressions by a function further down
abbrev pub decreases-check_names : goal.decreases-check_names
decreases-check_names l = 2 * size-Expr l.expr.now

abbrev pub decreases-check_two : goal.decreases-check_two
decreases-check_two l = 2 * max (size-Expr l.a.now) (size-Expr l.b.now) + 1

abbrev pub decreases-check_three : goal.decreases-check_three
decreases-check_three l = 2 * max (size-Expr l.a.now) (max (size-Expr l.b.now) (size-Expr l.c.now)) + 1

abbrev pub decreases-check_all_names : goal.decreases-check_all_names
decreases-check_all_names l = 2 * goal.size-check_all_names l + 1
