use Rattle.std.proofs.Common.{◌+◌, ◌++◌, ◌∙◌, append_assoc, sym, ap, drop}
use Rattle.verilog_tree.proofs.ExprViews.{bit_view, part_view, slide_view}
use Rattle.verilog_tree.specs.Tree.{exprs_of}
use Rattle.verilog_tree.specs.View.{expr_view, exprs_view}
use Rattle.flat_design.specs.Identifiers.{identifiers}
use Rattle.flat_design.specs.Scope.{binding_of}
use Rattle.flat_design.specs.Targets.{all_target_reads, target_reads}
use Rattle.elab_scope.specs.Tally.{after_faults}
use Rattle.elab_checks.proofs.ExpressionLemmas.{next_is}
use Rattle.elab_processes.specs.Listed.{lacking}
use Rattle.elab_processes.proofs.SignalLemmas.{lacking_next, lacking_then}
use Rattle.elab_processes.proofs.incomplete.+check_target_names.Goals as goal

pub check_target_names-returns-in-Bit : goal.check_target_names-returns-in-Bit
check_target_names-returns-in-Bit t c =
    let g = binding_of c.args.scope.now in
    let k = c.args.known.now in
    let u = c.args.tally.now in
    let of = target_reads (expr_view c.in-Bit.of) in
    let index = identifiers (expr_view c.in-Bit.index) in
    let first = c.check_target_names.ensures in
    let last = c.check_names.ensures in
    lacking_then g k u c.check_target_names.new.tally c.check_names.new.tally of index first last ∙ sym (ap (λ e. after_faults u (lacking g k (target_reads e))) (bit_view c.args.expr.now c.in-Bit.of c.in-Bit.index (sym c.deref.ensures ∙ c.in-Bit.is)))

pub check_target_names-returns-in-Part : goal.check_target_names-returns-in-Part
check_target_names-returns-in-Part t c =
    let g = binding_of c.args.scope.now in
    let k = c.args.known.now in
    let u = c.args.tally.now in
    let of = target_reads (expr_view c.in-Part.of) in
    let xs = identifiers (expr_view c.in-Part.high) in
    let ys = identifiers (expr_view c.in-Part.low) in
    let first = c.check_target_names-in-Part.ensures in
    let last = c.check_two.ensures in
    lacking_then g k u c.check_target_names-in-Part.new.tally c.check_two.new.tally of (xs ++ ys) first last ∙ ap (λ ns. after_faults u (lacking g k ns)) (sym (append_assoc of xs ys)) ∙ sym (ap (λ e. after_faults u (lacking g k (target_reads e))) (part_view c.args.expr.now c.in-Part.of c.in-Part.high c.in-Part.low c.in-Part.bracket (sym c.deref.ensures ∙ c.in-Part.is)))

pub check_target_names-returns-in-Slide : goal.check_target_names-returns-in-Slide
check_target_names-returns-in-Slide t c =
    let g = binding_of c.args.scope.now in
    let k = c.args.known.now in
    let u = c.args.tally.now in
    let of = target_reads (expr_view c.in-Slide.of) in
    let xs = identifiers (expr_view c.in-Slide.base) in
    let ys = identifiers (expr_view c.in-Slide.width) in
    let first = c.check_target_names-in-Slide.ensures in
    let last = c.check_two-in-Slide.ensures in
    lacking_then g k u c.check_target_names-in-Slide.new.tally c.check_two-in-Slide.new.tally of (xs ++ ys) first last ∙ ap (λ ns. after_faults u (lacking g k ns)) (sym (append_assoc of xs ys)) ∙ sym (ap (λ e. after_faults u (lacking g k (target_reads e))) (slide_view c.args.expr.now c.in-Slide.of c.in-Slide.base c.in-Slide.width c.in-Slide.up c.in-Slide.bracket (sym c.deref.ensures ∙ c.in-Slide.is)))

pub check_all_target_names-loop-expr-preserved : goal.check_all_target_names-loop-expr-preserved
check_all_target_names-loop-expr-preserved t c =
    let g = binding_of c.args.scope.now in
    let e = c.expr-item.result in
    let i = c.loop-expr.expr-index in
    let rest = all_target_reads (exprs_of (exprs_view (drop (i + 1) c.args.exprs.now))) in
    let next = ap all_target_reads (next_is c.args.exprs.now i e c.loop-expr-test.true c.expr-item.is) in
    lacking_next g c.args.known.now c.loop-expr.tally c.check_target_names.new.tally _ (target_reads (expr_view e)) rest _ next c.loop-expr.invariant c.check_target_names.ensures
