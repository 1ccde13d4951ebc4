use Rattle.std.proofs.Common.{◌+◌, ◌++◌, ◌∙◌, append_assoc, sym, ap, drop}
use Rattle.verilog_tree.proofs.ExprViews.{bit_view, part_view, slide_view}
use Rattle.verilog_tree.specs.Tree.{exprs_of}
use Rattle.verilog_tree.specs.View.{expr_view, exprs_view}
use Rattle.flat_design.specs.Identifiers.{identifiers}
use Rattle.flat_design.specs.Scope.{binding_of}
use Rattle.flat_design.specs.Targets.{all_target_reads, target_reads}
use Rattle.elab_checks.proofs.ExpressionLemmas.{next_is}
use Rattle.elab_bodies.proofs.ReadLists.{signals_next, signals_then}
use Rattle.elab_bodies.proofs.reads.+add_target.Goals as goal

pub add_target-returns-in_ok-add_target-in-Bit : goal.add_target-returns-in_ok-add_target-in-Bit
add_target-returns-in_ok-add_target-in-Bit t c =
    let of = target_reads (expr_view c.in-Bit.of) in
    let index = identifiers (expr_view c.in-Bit.index) in
    signals_then c.add_expr.result (binding_of c.args.scope.now) c.args.signals.now c.add_target.new.signals c.add_expr.new.signals of index _ (ap target_reads (bit_view c.args.target.now c.in-Bit.of c.in-Bit.index (sym c.deref.ensures ∙ c.in-Bit.is))) c.in_ok-add_target-in-Bit.ensures c.add_expr.ensures

pub add_target-returns-in_ok-add_target-in-Part : goal.add_target-returns-in_ok-add_target-in-Part
add_target-returns-in_ok-add_target-in-Part t c =
    let of = target_reads (expr_view c.in-Part.of) in
    let high = identifiers (expr_view c.in-Part.high) in
    let low = identifiers (expr_view c.in-Part.low) in
    let is = ap target_reads (part_view c.args.target.now c.in-Part.of c.in-Part.high c.in-Part.low c.in-Part.bracket (sym c.deref.ensures ∙ c.in-Part.is)) ∙ append_assoc of high low in
    signals_then c.add_two.result (binding_of c.args.scope.now) c.args.signals.now c.add_target-in-Part.new.signals c.add_two.new.signals of (high ++ low) _ is c.in_ok-add_target-in-Part.ensures c.add_two.ensures

pub add_target-returns-in_ok-add_target-in-Slide : goal.add_target-returns-in_ok-add_target-in-Slide
add_target-returns-in_ok-add_target-in-Slide t c =
    let of = target_reads (expr_view c.in-Slide.of) in
    let base = identifiers (expr_view c.in-Slide.base) in
    let width = identifiers (expr_view c.in-Slide.width) in
    let is = ap target_reads (slide_view c.args.target.now c.in-Slide.of c.in-Slide.base c.in-Slide.width c.in-Slide.up c.in-Slide.bracket (sym c.deref.ensures ∙ c.in-Slide.is)) ∙ append_assoc of base width in
    signals_then c.add_two-in-Slide.result (binding_of c.args.scope.now) c.args.signals.now c.add_target-in-Slide.new.signals c.add_two-in-Slide.new.signals of (base ++ width) _ is c.in_ok-add_target-in-Slide.ensures c.add_two-in-Slide.ensures

pub add_targets-loop-target-preserved : goal.add_targets-loop-target-preserved
add_targets-loop-target-preserved t c =
    let i = c.loop-target.target-index in
    let e = c.target-item.result in
    let others = all_target_reads (exprs_of (exprs_view (drop (i + 1) c.args.targets.now))) in
    signals_next (binding_of c.args.scope.now) c.loop-target.signals c.add_target.new.signals _ _ (target_reads (expr_view e)) others (ap all_target_reads (next_is c.args.targets.now i e c.loop-target-test.true c.target-item.is)) c.loop-target.invariant c.in_ok-add_target.ensures
