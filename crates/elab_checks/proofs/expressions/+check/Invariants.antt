use Rattle.std.proofs.Common.{◌≡◌, ◌&&◌, ◌+◌, ◌*◌, max, drop}
use Rattle.flat_design.specs.Expressions.{all_faults}
use Rattle.flat_design.specs.Fault.{none}
use Rattle.flat_design.specs.Scope.{binding_of}
use Rattle.verilog_tree.specs.Tree.{exprs_of}
use Rattle.verilog_tree.specs.View.{exprs_view}
use Rattle.verilog_tree.specs.declared.expr.Expr.{size-Expr}
use Rattle.elab_scope.specs.Tally.{after_faults}
use Rattle.elab_checks.proofs.expressions.+check.Given as goal

-- what was reported so far, and then what is reported of the rest, is what is reported of all
abbrev pub invariant-check_all-loop-expr : goal.invariant-check_all-loop-expr
invariant-check_all-loop-expr l =
    let rest = all_faults (binding_of l.scope) (exprs_of (exprs_view (drop l.expr-index l.exprs))) in
    let all = all_faults (binding_of l.fn.scope) (exprs_of (exprs_view l.fn.exprs)) in
    record {
      met : after_faults l.tally rest ≡ after_faults l.fn.tally all;
      sound : (l.sound && none rest) ≡ none all;
    }

-- each call is of a part, or of the same expression by a function further down
abbrev pub decreases-check : goal.decreases-check
decreases-check l = 8 * size-Expr l.expr.now

abbrev pub decreases-check_all : goal.decreases-check_all
decreases-check_all l = 8 * goal.size-check_all l + 1

abbrev pub decreases-check_constant : goal.decreases-check_constant
decreases-check_constant l = 8 * size-Expr l.expr.now + 1

abbrev pub decreases-check_number : goal.decreases-check_number
decreases-check_number l = 8 * size-Expr l.expr.now + 2

abbrev pub decreases-check_bound : goal.decreases-check_bound
decreases-check_bound l = 8 * size-Expr l.expr.now + 3

abbrev pub decreases-check_width : goal.decreases-check_width
decreases-check_width l = 8 * size-Expr l.expr.now + 3

abbrev pub decreases-check_bit : goal.decreases-check_bit
decreases-check_bit l = 8 * max (size-Expr l.of.now) (size-Expr l.index.now) + 1

abbrev pub decreases-check_part : goal.decreases-check_part
decreases-check_part l = 8 * max (size-Expr l.of.now) (max (size-Expr l.high.now) (size-Expr l.low.now)) + 4

abbrev pub decreases-check_slide : goal.decreases-check_slide
decreases-check_slide l = 8 * max (size-Expr l.of.now) (max (size-Expr l.base.now) (size-Expr l.width.now)) + 4
