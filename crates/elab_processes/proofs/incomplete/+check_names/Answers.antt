use Rattle.std.proofs.Common.{◌+◌, ◌++◌, ◌∙◌, sym, ap, drop}
use Rattle.verilog_tree.proofs.ExprViews.{bit_view, part_view, slide_view, binary_view, choice_view, repeat_view}
use Rattle.verilog_tree.specs.Tree.{exprs_of}
use Rattle.verilog_tree.specs.View.{expr_view, exprs_view}
use Rattle.flat_design.specs.Identifiers.{all_identifiers, identifiers}
use Rattle.flat_design.specs.Scope.{binding_of}
use Rattle.elab_scope.specs.Tally.{after_faults}
use Rattle.elab_checks.proofs.ExpressionLemmas.{next_is}
use Rattle.elab_processes.specs.Listed.{lacking}
use Rattle.elab_processes.proofs.SignalLemmas.{lacking_next, lacking_then}
use Rattle.elab_processes.proofs.incomplete.+check_names.Goals as goal

pub check_names-returns-in-Bit : goal.check_names-returns-in-Bit
check_names-returns-in-Bit t c =
    c.check_two.ensures ∙ sym (ap (λ e. after_faults c.args.tally.now (lacking (binding_of c.args.scope.now) c.args.known.now (identifiers e))) (bit_view c.args.expr.now c.in-Bit.of c.in-Bit.index (sym c.deref.ensures ∙ c.in-Bit.is)))

pub check_names-returns-in-Part : goal.check_names-returns-in-Part
check_names-returns-in-Part t c =
    c.check_three.ensures ∙ sym (ap (λ e. after_faults c.args.tally.now (lacking (binding_of c.args.scope.now) c.args.known.now (identifiers e))) (part_view c.args.expr.now c.in-Part.of c.in-Part.high c.in-Part.low c.in-Part.bracket (sym c.deref.ensures ∙ c.in-Part.is)))

pub check_names-returns-in-Slide : goal.check_names-returns-in-Slide
check_names-returns-in-Slide t c =
    c.check_three-in-Slide.ensures ∙ sym (ap (λ e. after_faults c.args.tally.now (lacking (binding_of c.args.scope.now) c.args.known.now (identifiers e))) (slide_view c.args.expr.now c.in-Slide.of c.in-Slide.base c.in-Slide.width c.in-Slide.up c.in-Slide.bracket (sym c.deref.ensures ∙ c.in-Slide.is)))

pub check_names-returns-in-Binary : goal.check_names-returns-in-Binary
check_names-returns-in-Binary t c =
    c.check_two-in-Binary.ensures ∙ sym (ap (λ e. after_faults c.args.tally.now (lacking (binding_of c.args.scope.now) c.args.known.now (identifiers e))) (binary_view c.args.expr.now c.in-Binary.field-0 c.in-Binary.a c.in-Binary.b (sym c.deref.ensures ∙ c.in-Binary.is)))

pub check_names-returns-in-Choice : goal.check_names-returns-in-Choice
check_names-returns-in-Choice t c =
    c.check_three-in-Choice.ensures ∙ sym (ap (λ e. after_faults c.args.tally.now (lacking (binding_of c.args.scope.now) c.args.known.now (identifiers e))) (choice_view c.args.expr.now c.in-Choice.test c.in-Choice.yes c.in-Choice.no (sym c.deref.ensures ∙ c.in-Choice.is)))

pub check_names-returns-in-Repeat : goal.check_names-returns-in-Repeat
check_names-returns-in-Repeat t c =
    let g = binding_of c.args.scope.now in
    let k = c.args.known.now in
    let u = c.args.tally.now in
    let count = identifiers (expr_view c.in-Repeat.count) in
    let parts = all_identifiers (exprs_of (exprs_view c.in-Repeat.parts.items)) in
    let first = c.check_names.ensures in
    let others = rw c.deref-in-Repeat.ensures.value at c.check_all_names-in-Repeat.ensures in
    lacking_then g k u c.check_names.new.tally c.check_all_names-in-Repeat.new.tally count parts first others ∙ sym (ap (λ e. after_faults u (lacking g k (identifiers e))) (repeat_view c.args.expr.now c.in-Repeat.count c.in-Repeat.parts (sym c.deref.ensures ∙ c.in-Repeat.is)))

pub check_two-returns : goal.check_two-returns
check_two-returns t c = lacking_then (binding_of c.args.scope.now) c.args.known.now c.args.tally.now c.check_names.new.tally c.check_names-2.new.tally (identifiers (expr_view c.args.a.now)) (identifiers (expr_view c.args.b.now)) c.check_names.ensures c.check_names-2.ensures

pub check_three-returns : goal.check_three-returns
check_three-returns t c =
    let g = binding_of c.args.scope.now in
    let k = c.args.known.now in
    let u = c.args.tally.now in
    let xs = identifiers (expr_view c.args.a.now) in
    let ys = identifiers (expr_view c.args.b.now) in
    let two = lacking_then g k u c.check_names.new.tally c.check_names-2.new.tally xs ys c.check_names.ensures c.check_names-2.ensures in
    lacking_then g k u c.check_names-2.new.tally c.check_names-3.new.tally (xs ++ ys) (identifiers (expr_view c.args.c.now)) two c.check_names-3.ensures

pub check_all_names-loop-expr-preserved : goal.check_all_names-loop-expr-preserved
check_all_names-loop-expr-preserved t c =
    let g = binding_of c.args.scope.now in
    let e = c.expr-item.result in
    let i = c.loop-expr.expr-index in
    let rest = all_identifiers (exprs_of (exprs_view (drop (i + 1) c.args.exprs.now))) in
    let next = ap all_identifiers (next_is c.args.exprs.now i e c.loop-expr-test.true c.expr-item.is) in
    lacking_next g c.args.known.now c.loop-expr.tally c.check_names.new.tally _ (identifiers (expr_view e)) rest _ next c.loop-expr.invariant c.check_names.ensures
