use Rattle.std.proofs.Common.{◌≡◌, true, ◌++◌, ◌+◌, drop, sym, ap, ◌∙◌}
use Rattle.std.specs.Prelude.{◌&&◌}
use Rattle.verilog_tree.specs.Tree.{exprs_of}
use Rattle.verilog_tree.specs.View.{expr_view, exprs_view}
use Rattle.flat_design.specs.Fault.{none}
use Rattle.flat_design.specs.Scope.{Scope, binding_of}
use Rattle.flat_design.specs.declared.entry.Mode.{Mode}
use Rattle.verilog_tree.specs.declared.expr.Expr.{Expr}
use Rattle.verilog_tree.specs.declared.expr.ExprForm as form
use Rattle.std.specs.Global.{Vec}
use Rattle.elab_checks.specs.Widths.{known_width, joined_size_faults}
use Rattle.elab_checks.proofs.TargetLemmas.{joined_target_faults}
use Rattle.flat_design.specs.Targets.{target_faults, all_target_faults}
use Rattle.elab_scope.specs.Tally.{after_faults}
use Rattle.elab_checks.proofs.MetLemmas.{both_sound}
use Rattle.elab_scope.proofs.TallyLemmas.{after_faults-append}
use Rattle.elab_checks.proofs.ExpressionLemmas.{none_append}
use Rattle.verilog_tree.proofs.ExprViews.{concatenation_view}
use Rattle.elab_checks.proofs.ExpressionLemmas.{next_is}
use Rattle.elab_checks.proofs.targets.+targets.Goals as goal
use Rattle.elab_checks.proofs.targets.+targets.Goals.{check_all_targets-then-check_target, check_all_targets-else-check_target}

-- the faults of a concatenation whose parts have none
joined : (g : Scope) (mode : Mode) (e : Expr) (v : Vec Expr) → e.form.value ≡ form.Concat v → none (all_target_faults g mode (exprs_of (exprs_view v.items))) ≡ true → target_faults g mode (expr_view e) ≡ all_target_faults g mode (exprs_of (exprs_view v.items)) ++ joined_size_faults (known_width g (exprs_of (exprs_view v.items))) e.place
joined g mode e v is sound =
    ap (target_faults g mode) (concatenation_view e v is) ∙ joined_target_faults g mode e.place (exprs_of (exprs_view v.items)) sound

pub check_target-returns-else-not-check_all_targets-clause-met : goal.check_target-returns-else-not-check_all_targets-clause-met
check_target-returns-else-not-check_all_targets-clause-met t c =
    let g = binding_of c.args.scope.now in
    let es = exprs_of (exprs_view c.in-Concat.parts.items) in
    let all = all_target_faults g c.args.mode es in
    let size = joined_size_faults (known_width g es) c.args.expr.now.place in
    let met = rw c.deref-in-Concat.ensures.value at c.check_all_targets.ensures.met in
    let sound : none all ≡ true = sym (rw c.deref-in-Concat.ensures.value at c.check_all_targets.ensures.sound) ∙ c.if-not-check_all_targets.false in
    let width = rw c.deref-in-Concat-2.ensures.value at c.widths.ensures in
    let whole = joined g c.args.mode c.args.expr.now c.in-Concat.parts (sym c.deref.ensures ∙ c.in-Concat.is) sound in
    c.check_joined.ensures.met ∙ ap (λ w. after_faults c.check_all_targets.new.tally (joined_size_faults w c.args.expr.now.place)) width ∙ ap (λ s. after_faults s size) met ∙ sym (after_faults-append c.args.tally.now all size) ∙ ap (after_faults c.args.tally.now) (sym whole)

pub check_target-returns-else-not-check_all_targets-clause-sound : goal.check_target-returns-else-not-check_all_targets-clause-sound
check_target-returns-else-not-check_all_targets-clause-sound t c =
    let g = binding_of c.args.scope.now in
    let es = exprs_of (exprs_view c.in-Concat.parts.items) in
    let all = all_target_faults g c.args.mode es in
    let size = joined_size_faults (known_width g es) c.args.expr.now.place in
    let sound : none all ≡ true = sym (rw c.deref-in-Concat.ensures.value at c.check_all_targets.ensures.sound) ∙ c.if-not-check_all_targets.false in
    let width = rw c.deref-in-Concat-2.ensures.value at c.widths.ensures in
    let whole = joined g c.args.mode c.args.expr.now c.in-Concat.parts (sym c.deref.ensures ∙ c.in-Concat.is) sound in
    c.check_joined.ensures.sound ∙ ap (λ w. none (joined_size_faults w c.args.expr.now.place)) width ∙ sym (ap none whole ∙ none_append all size ∙ ap (λ b. b && none size) sound)

pub check_all_targets-loop-expr-preserved : goal.check_all_targets-loop-expr-preserved
check_all_targets-loop-expr-preserved t c =
    let g = binding_of c.args.scope.now in
    let one = target_faults g c.args.mode (expr_view c.expr-item.result) in
    let rest = all_target_faults g c.args.mode (exprs_of (exprs_view (drop (c.loop-expr.expr-index + 1) c.args.exprs.now))) in
    let step = ap (all_target_faults g c.args.mode) (next_is c.args.exprs.now c.loop-expr.expr-index c.expr-item.result c.loop-expr-test.true c.expr-item.is) in
    let sound : c.if-check_target.sound ≡ (c.check_target.result && c.loop-expr.sound) =
    elim c.if-check_target.branch [
      | check_all_targets-then-check_target w ↦ w.sound-is ∙ ap (λ b. b && c.loop-expr.sound) (sym w.if-check_target.true)
      | check_all_targets-else-check_target w ↦ w.sound-is ∙ w.if-check_target.false ∙ ap (λ b. b && c.loop-expr.sound) (sym w.if-check_target.false)
    ]
    in
    record {
      met = ap (λ s. after_faults s rest) c.check_target.ensures.met ∙ sym (after_faults-append c.loop-expr.tally one rest) ∙ ap (after_faults c.loop-expr.tally) (sym step) ∙ c.loop-expr.invariant.met;
      sound =
          ap (λ b. b && none rest) (sound ∙ ap (λ b. b && c.loop-expr.sound) c.check_target.ensures.sound) ∙ both_sound c.loop-expr.sound (none one) (none rest) _ (ap (λ b. c.loop-expr.sound && b) (sym (none_append one rest) ∙ ap none (sym step)) ∙ c.loop-expr.invariant.sound);
    }
