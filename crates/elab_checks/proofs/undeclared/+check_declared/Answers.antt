use Rattle.std.proofs.Common.{◌+◌, ◌∙◌, sym, ap, drop}
use Rattle.verilog_tree.proofs.ExprViews.{bit_view, part_view, slide_view, binary_view, choice_view, repeat_view}
use Rattle.flat_design.specs.Expressions.{undeclared}
use Rattle.flat_design.specs.Fault.{none}
use Rattle.flat_design.specs.Identifiers.{identifiers, all_identifiers}
use Rattle.flat_design.specs.Scope.{binding_of}
use Rattle.verilog_tree.specs.Tree.{exprs_of}
use Rattle.verilog_tree.specs.View.{expr_view, exprs_view}
use Rattle.elab_scope.specs.Tally.{after_faults}
use Rattle.elab_checks.proofs.ExpressionLemmas.{missing_then, missing_both, missing_then_more, missing_both_more, missing, missing_append, met_then, none_then_both, met_next, none_next, next_is}
use Rattle.elab_checks.proofs.undeclared.+check_declared.Goals as goal

pub check_declared-returns-in-Part-clause-met : goal.check_declared-returns-in-Part-clause-met
check_declared-returns-in-Part-clause-met t c =
    let two = c.check_two-in-Part.ensures.met in
    let last = c.check_declared.ensures.met in
    missing_then_more (binding_of c.args.scope.now) c.args.tally.now c.check_two-in-Part.new.tally c.check_declared.new.tally (identifiers (expr_view c.in-Part.of)) (identifiers (expr_view c.in-Part.high)) (identifiers (expr_view c.in-Part.low)) two last ∙ sym (ap (λ e. after_faults c.args.tally.now (undeclared (binding_of c.args.scope.now) e)) (part_view c.args.expr.now c.in-Part.of c.in-Part.high c.in-Part.low c.in-Part.bracket (sym c.deref.ensures ∙ c.in-Part.is)))

pub check_declared-returns-in-Part-clause-sound : goal.check_declared-returns-in-Part-clause-sound
check_declared-returns-in-Part-clause-sound t c =
    let two = c.check_two-in-Part.ensures.sound in
    let last = c.check_declared.ensures.sound in
    missing_both_more (binding_of c.args.scope.now) c.check_two-in-Part.result c.check_declared.result (identifiers (expr_view c.in-Part.of)) (identifiers (expr_view c.in-Part.high)) (identifiers (expr_view c.in-Part.low)) two last ∙ sym (ap (λ e. none (undeclared (binding_of c.args.scope.now) e)) (part_view c.args.expr.now c.in-Part.of c.in-Part.high c.in-Part.low c.in-Part.bracket (sym c.deref.ensures ∙ c.in-Part.is)))

pub check_declared-returns-in-Slide-clause-met : goal.check_declared-returns-in-Slide-clause-met
check_declared-returns-in-Slide-clause-met t c =
    let two = c.check_two-in-Slide.ensures.met in
    let last = c.check_declared-in-Slide.ensures.met in
    missing_then_more (binding_of c.args.scope.now) c.args.tally.now c.check_two-in-Slide.new.tally c.check_declared-in-Slide.new.tally (identifiers (expr_view c.in-Slide.of)) (identifiers (expr_view c.in-Slide.base)) (identifiers (expr_view c.in-Slide.width)) two last ∙ sym (ap (λ e. after_faults c.args.tally.now (undeclared (binding_of c.args.scope.now) e)) (slide_view c.args.expr.now c.in-Slide.of c.in-Slide.base c.in-Slide.width c.in-Slide.up c.in-Slide.bracket (sym c.deref.ensures ∙ c.in-Slide.is)))

pub check_declared-returns-in-Slide-clause-sound : goal.check_declared-returns-in-Slide-clause-sound
check_declared-returns-in-Slide-clause-sound t c =
    let two = c.check_two-in-Slide.ensures.sound in
    let last = c.check_declared-in-Slide.ensures.sound in
    missing_both_more (binding_of c.args.scope.now) c.check_two-in-Slide.result c.check_declared-in-Slide.result (identifiers (expr_view c.in-Slide.of)) (identifiers (expr_view c.in-Slide.base)) (identifiers (expr_view c.in-Slide.width)) two last ∙ sym (ap (λ e. none (undeclared (binding_of c.args.scope.now) e)) (slide_view c.args.expr.now c.in-Slide.of c.in-Slide.base c.in-Slide.width c.in-Slide.up c.in-Slide.bracket (sym c.deref.ensures ∙ c.in-Slide.is)))

pub check_declared-returns-in-Choice-clause-met : goal.check_declared-returns-in-Choice-clause-met
check_declared-returns-in-Choice-clause-met t c =
    let two = c.check_two-in-Choice.ensures.met in
    let last = c.check_declared-in-Choice.ensures.met in
    missing_then_more (binding_of c.args.scope.now) c.args.tally.now c.check_two-in-Choice.new.tally c.check_declared-in-Choice.new.tally (identifiers (expr_view c.in-Choice.test)) (identifiers (expr_view c.in-Choice.yes)) (identifiers (expr_view c.in-Choice.no)) two last ∙ sym (ap (λ e. after_faults c.args.tally.now (undeclared (binding_of c.args.scope.now) e)) (choice_view c.args.expr.now c.in-Choice.test c.in-Choice.yes c.in-Choice.no (sym c.deref.ensures ∙ c.in-Choice.is)))

pub check_declared-returns-in-Choice-clause-sound : goal.check_declared-returns-in-Choice-clause-sound
check_declared-returns-in-Choice-clause-sound t c =
    let two = c.check_two-in-Choice.ensures.sound in
    let last = c.check_declared-in-Choice.ensures.sound in
    missing_both_more (binding_of c.args.scope.now) c.check_two-in-Choice.result c.check_declared-in-Choice.result (identifiers (expr_view c.in-Choice.test)) (identifiers (expr_view c.in-Choice.yes)) (identifiers (expr_view c.in-Choice.no)) two last ∙ sym (ap (λ e. none (undeclared (binding_of c.args.scope.now) e)) (choice_view c.args.expr.now c.in-Choice.test c.in-Choice.yes c.in-Choice.no (sym c.deref.ensures ∙ c.in-Choice.is)))

pub check_declared-returns-in-Binary-clause-met : goal.check_declared-returns-in-Binary-clause-met
check_declared-returns-in-Binary-clause-met t c =
    let two = c.check_two-in-Binary.ensures.met in
    two ∙ sym (ap (after_faults c.args.tally.now) (missing_append (binding_of c.args.scope.now) (identifiers (expr_view c.in-Binary.a)) (identifiers (expr_view c.in-Binary.b)))) ∙ sym (ap (λ e. after_faults c.args.tally.now (undeclared (binding_of c.args.scope.now) e)) (binary_view c.args.expr.now c.in-Binary.field-0 c.in-Binary.a c.in-Binary.b (sym c.deref.ensures ∙ c.in-Binary.is)))

pub check_declared-returns-in-Binary-clause-sound : goal.check_declared-returns-in-Binary-clause-sound
check_declared-returns-in-Binary-clause-sound t c =
    let two = c.check_two-in-Binary.ensures.sound in
    two ∙ sym (ap none (missing_append (binding_of c.args.scope.now) (identifiers (expr_view c.in-Binary.a)) (identifiers (expr_view c.in-Binary.b)))) ∙ sym (ap (λ e. none (undeclared (binding_of c.args.scope.now) e)) (binary_view c.args.expr.now c.in-Binary.field-0 c.in-Binary.a c.in-Binary.b (sym c.deref.ensures ∙ c.in-Binary.is)))

pub check_declared-returns-in-Bit-clause-met : goal.check_declared-returns-in-Bit-clause-met
check_declared-returns-in-Bit-clause-met t c =
    let two = c.check_two.ensures.met in
    two ∙ sym (ap (after_faults c.args.tally.now) (missing_append (binding_of c.args.scope.now) (identifiers (expr_view c.in-Bit.of)) (identifiers (expr_view c.in-Bit.index)))) ∙ sym (ap (λ e. after_faults c.args.tally.now (undeclared (binding_of c.args.scope.now) e)) (bit_view c.args.expr.now c.in-Bit.of c.in-Bit.index (sym c.deref.ensures ∙ c.in-Bit.is)))

pub check_declared-returns-in-Bit-clause-sound : goal.check_declared-returns-in-Bit-clause-sound
check_declared-returns-in-Bit-clause-sound t c =
    let two = c.check_two.ensures.sound in
    two ∙ sym (ap none (missing_append (binding_of c.args.scope.now) (identifiers (expr_view c.in-Bit.of)) (identifiers (expr_view c.in-Bit.index)))) ∙ sym (ap (λ e. none (undeclared (binding_of c.args.scope.now) e)) (bit_view c.args.expr.now c.in-Bit.of c.in-Bit.index (sym c.deref.ensures ∙ c.in-Bit.is)))

pub check_declared-returns-in-Repeat-clause-met : goal.check_declared-returns-in-Repeat-clause-met
check_declared-returns-in-Repeat-clause-met t c =
    let one = c.check_declared-in-Repeat.ensures.met in
    let others = rw c.deref-in-Repeat.ensures.value at c.check_each-in-Repeat.ensures.met in
    missing_then (binding_of c.args.scope.now) c.args.tally.now c.check_declared-in-Repeat.new.tally c.check_each-in-Repeat.new.tally (identifiers (expr_view c.in-Repeat.count)) (all_identifiers (exprs_of (exprs_view c.in-Repeat.parts.items))) one others ∙ sym (ap (λ e. after_faults c.args.tally.now (undeclared (binding_of c.args.scope.now) e)) (repeat_view c.args.expr.now c.in-Repeat.count c.in-Repeat.parts (sym c.deref.ensures ∙ c.in-Repeat.is)))

pub check_declared-returns-in-Repeat-clause-sound : goal.check_declared-returns-in-Repeat-clause-sound
check_declared-returns-in-Repeat-clause-sound t c =
    let one = c.check_declared-in-Repeat.ensures.sound in
    let others = rw c.deref-in-Repeat.ensures.value at c.check_each-in-Repeat.ensures.sound in
    missing_both (binding_of c.args.scope.now) c.check_declared-in-Repeat.result c.check_each-in-Repeat.result (identifiers (expr_view c.in-Repeat.count)) (all_identifiers (exprs_of (exprs_view c.in-Repeat.parts.items))) one others ∙ sym (ap (λ e. none (undeclared (binding_of c.args.scope.now) e)) (repeat_view c.args.expr.now c.in-Repeat.count c.in-Repeat.parts (sym c.deref.ensures ∙ c.in-Repeat.is)))

pub check_two-returns-clause-met : goal.check_two-returns-clause-met
check_two-returns-clause-met t c = met_then c.args.tally.now c.check_declared.new.tally c.check_declared-2.new.tally (undeclared (binding_of c.args.scope.now) (expr_view c.args.a.now)) (undeclared (binding_of c.args.scope.now) (expr_view c.args.b.now)) c.check_declared.ensures.met c.check_declared-2.ensures.met

pub check_two-returns-clause-sound : goal.check_two-returns-clause-sound
check_two-returns-clause-sound t c = none_then_both c.check_declared.result c.check_declared-2.result (undeclared (binding_of c.args.scope.now) (expr_view c.args.a.now)) (undeclared (binding_of c.args.scope.now) (expr_view c.args.b.now)) c.check_declared.ensures.sound c.check_declared-2.ensures.sound

pub check_each-loop-expr-preserved : goal.check_each-loop-expr-preserved
check_each-loop-expr-preserved t c =
    let g = binding_of c.args.scope.now in
    let e = expr_view c.expr-item.result in
    let others = exprs_of (exprs_view (drop (c.loop-expr.expr-index + 1) c.args.exprs.now)) in
    let next = ap (λ es. missing g (all_identifiers es)) (next_is c.args.exprs.now c.loop-expr.expr-index c.expr-item.result c.loop-expr-test.true c.expr-item.is) ∙ missing_append g (identifiers e) (all_identifiers others) in
    record {
      met = met_next c.loop-expr.tally c.check_declared-declared.new.tally _ (undeclared g e) (missing g (all_identifiers others)) _ next c.loop-expr.invariant.met c.check_declared-declared.ensures.met;
      sound = none_next c.loop-expr.declared c.check_declared-declared.result _ (undeclared g e) (missing g (all_identifiers others)) _ next c.loop-expr.invariant.sound c.check_declared-declared.ensures.sound;
    }
