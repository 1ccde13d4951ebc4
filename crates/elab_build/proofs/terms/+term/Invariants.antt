use Rattle.std.proofs.Common.{◌≡◌, ◌+◌, ◌*◌, max, map, drop}
use Rattle.design_model.specs.View.{term_view}
use Rattle.elab_build.specs.Sound.{AreSound}
use Rattle.elab_build.proofs.TermLists.{terms_before}
use Rattle.flat_design.specs.Numbering.{all_nodes}
use Rattle.flat_design.specs.Scope.{binding_of}
use Rattle.flat_design.specs.Terms.{terms}
use Rattle.verilog_tree.specs.Tree.{exprs_of}
use Rattle.verilog_tree.specs.View.{exprs_view}
use Rattle.verilog_tree.specs.declared.expr.Expr.{size-Expr}
use Rattle.elab_build.proofs.terms.+term.Given as goal

-- the terms so far, with those of the rest, are those of all parts
abbrev pub invariant-terms-loop-part : goal.invariant-terms-loop-part
invariant-terms-loop-part l =
    let g = binding_of l.scope in
    let rest = exprs_of (exprs_view (drop l.part-index l.parts)) in
    let all = exprs_of (exprs_view l.fn.parts) in
    record {
      built : terms_before (map term_view l.all.items) (terms l.base g rest l.nodes) ≡ terms l.fn.base (binding_of l.fn.scope) all l.fn.nodes;
      counted : l.nodes + all_nodes g rest ≡ l.fn.nodes + all_nodes (binding_of l.fn.scope) all;
      sound : AreSound g rest;
    }

-- each call is of a part, or of the same expression by a function further down
abbrev pub decreases-term : goal.decreases-term
decreases-term l = 8 * size-Expr l.expr.now

abbrev pub decreases-alone : goal.decreases-alone
decreases-alone l = 8 * size-Expr l.expr.now + 1

abbrev pub decreases-condition_term : goal.decreases-condition_term
decreases-condition_term l = 8 * size-Expr l.condition.now + 2

abbrev pub decreases-terms : goal.decreases-terms
decreases-terms l = 8 * goal.size-terms l + 2

abbrev pub decreases-bit_term : goal.decreases-bit_term
decreases-bit_term l = 8 * max (size-Expr l.of.now) (size-Expr l.index.now) + 3

abbrev pub decreases-part_term : goal.decreases-part_term
decreases-part_term l = 8 * max (size-Expr l.of.now) (max (size-Expr l.high.now) (size-Expr l.low.now)) + 3

abbrev pub decreases-slide_term : goal.decreases-slide_term
decreases-slide_term l = 8 * max (size-Expr l.of.now) (max (size-Expr l.from.now) (size-Expr l.width.now)) + 3

abbrev pub decreases-unary_term : goal.decreases-unary_term
decreases-unary_term l = 8 * size-Expr l.a.now + 3

abbrev pub decreases-binary_term : goal.decreases-binary_term
decreases-binary_term l = 8 * max (size-Expr l.a.now) (size-Expr l.b.now) + 3

abbrev pub decreases-choice_term : goal.decreases-choice_term
decreases-choice_term l = 8 * max (size-Expr l.test.now) (max (size-Expr l.yes.now) (size-Expr l.no.now)) + 3

abbrev pub decreases-concat_term : goal.decreases-concat_term
decreases-concat_term l = 8 * goal.size-concat_term l + 3

abbrev pub decreases-repeat_term : goal.decreases-repeat_term
decreases-repeat_term l = 8 * max (goal.size-repeat_term l) (size-Expr l.times.now) + 3
