use Rattle.std.proofs.Common.{◌≡◌, ◌&&◌, ◌+◌, ◌*◌, max, drop, flat_map, is_none}
use Rattle.flat_design.specs.Fault.{fault_at, fault_if, none}
use Rattle.flat_design.specs.Identifiers.{all_identifiers}
use Rattle.flat_design.specs.Scope.{binding_of, look_up}
use Rattle.flat_design.specs.declared.fault.ElabKind.TheVariants.{Undeclared}
use Rattle.verilog_tree.specs.Tree.{exprs_of}
use Rattle.verilog_tree.specs.View.{exprs_view}
use Rattle.verilog_tree.specs.declared.expr.Expr.{size-Expr}
use Rattle.elab_scope.specs.Tally.{after_faults}
use Rattle.elab_checks.proofs.undeclared.+check_declared.Given as goal

-- what was reported so far, and then what is reported of the rest, is what is reported of all
abbrev pub invariant-check_each-loop-expr : goal.invariant-check_each-loop-expr
invariant-check_each-loop-expr l =
    let rest = flat_map (λ x. fault_if (is_none (look_up (binding_of l.scope) x.name)) (fault_at Undeclared x)) (all_identifiers (exprs_of (exprs_view (drop l.expr-index l.exprs)))) in
    let all = flat_map (λ x. fault_if (is_none (look_up (binding_of l.fn.scope) x.name)) (fault_at Undeclared x)) (all_identifiers (exprs_of (exprs_view l.fn.exprs))) in
    record {
      met : after_faults l.tally rest ≡ after_faults l.fn.tally all;
      sound : (l.declared && none rest) ≡ none all;
    }

-- each call is of a part, or of the same expression by a function further down
abbrev pub decreases-check_declared : goal.decreases-check_declared
decreases-check_declared l = 2 * size-Expr l.expr.now

abbrev pub decreases-check_two : goal.decreases-check_two
decreases-check_two l = 2 * max (size-Expr l.a.now) (size-Expr l.b.now) + 1

abbrev pub decreases-check_each : goal.decreases-check_each
decreases-check_each l = 2 * goal.size-check_each l + 1
