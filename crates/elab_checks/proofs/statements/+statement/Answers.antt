use Rattle.std.proofs.Common.{◌≡◌, ◌+◌, [], ◌∷◌, ◌++◌, append-nil, append_assoc, sym, ap, ◌∙◌, arith, drop}
use Rattle.std.specs.Prelude.{List}
use Rattle.std.proofs.lemmas.List.{at_drop_all}
use Rattle.four_state.specs.Vector.{Vector}
use Rattle.tree_sizes.specs.Sizes.{labels_size, size}
use Rattle.verilog_tree.specs.Tree.{arms_of, exprs_of, statements_of}
use Rattle.verilog_tree.specs.View.{arms_view, expr_view, exprs_view, loop_view, statement_view, statements_view}
use Rattle.verilog_tree.specs.declared.statement.Arm.{out-Arm}
use Rattle.verilog_tree.specs.declared.statement.For.{out-For}
use Rattle.verilog_tree.specs.declared.statement.StatementForm as form
use Rattle.flat_design.specs.Bodies.{Met, all_met, in_turn, items_met, met, met_faults, met_statement, met_text, met_turns}
use Rattle.flat_design.specs.Expressions.{all_faults, faults}
use Rattle.flat_design.specs.Identifiers.{base_name}
use Rattle.flat_design.specs.Loops as loops
use Rattle.flat_design.specs.Scope.{binding_of, with_entry}
use Rattle.flat_design.specs.declared.entry.Entry.TheVariants.{Turn}
use Rattle.elab_scope.specs.Tally.{after_all, after_faults}
use Rattle.elab_scope.proofs.TallyLemmas.{after_all-append, after_all_ended}
use Rattle.elab_checks.specs.Turns.{restored}
use Rattle.elab_checks.proofs.RestoredLemmas.{restored_same, same_itself, same_with, with_same}
use Rattle.elab_checks.proofs.StatementLemmas.{all_next, all_then, flat_map_next, front_met, ok_along, on_ok}
use Rattle.verilog_tree.proofs.StatementViews.{arms_from, body_view, case_view, if_else_view, if_view, statements_from}
use Rattle.elab_checks.proofs.statements.+statement.Goals as goal
use Rattle.elab_checks.proofs.statements.+statement.Goals.{check_turns-else-loop-value-test, check_turns-then-loop-value-test+then-is_ended}

pub check_statement-returns-then-is_ended-clause-met : goal.check_statement-returns-then-is_ended-clause-met
check_statement-returns-then-is_ended-clause-met t c =
    sym (after_all_ended c.args.tally.now (met (binding_of c.args.scope.now) c.args.mode c.args.process (statement_view c.args.statement.now)) (sym c.is_ended.ensures ∙ c.if-is_ended.true))

pub check_statement-returns-in-Some-clause-met : goal.check_statement-returns-in-Some-clause-met
check_statement-returns-in-Some-clause-met t c =
    let g = binding_of c.args.scope.now in
    let s = c.args.statement.now in
    let fs = faults g (expr_view c.in-If.test) in
    let yes = met g c.args.mode c.args.process (statement_view c.in-If.yes) in
    let other = met g c.args.mode c.args.process (statement_view c.in-Some.no) in
    let text = met_text s.place (size (expr_view c.in-If.test)) in
    let front = met_statement s.place ∷ text ∷ met_faults fs in
    let tested : c.check.new.tally ≡ after_all c.args.tally.now front = front_met c.args.tally.now c.statement.new.self c.expression.new.self c.check.new.tally (met_statement s.place) text fs c.statement.ensures c.expression.ensures c.check.ensures.met in
    let first : c.check_statement.new.tally ≡ after_all c.args.tally.now (front ++ yes) = all_then c.args.tally.now c.check.new.tally c.check_statement.new.tally front yes tested c.in_ok-check_statement-in-If.ensures.met in
    let view = if_else_view s c.in-If.test c.in-If.yes c.in-Some.no ((sym c.deref.ensures ∙ c.in-If.is) ∙ ap (form.If c.in-If.test c.in-If.yes) c.in-Some.is) in
    let last = rw c.in_ok-check_statement-in-If.ensures.kept at c.check_statement-in-Some.ensures.met in
    let whole : after_all c.check_statement.new.tally other ≡ after_all c.args.tally.now (met g c.args.mode c.args.process (statement_view s)) =
    ap (λ u. after_all u other) first ∙ sym (after_all-append c.args.tally.now (front ++ yes) other) ∙ ap (λ ms. after_all c.args.tally.now ((front ++ yes) ++ ms)) (sym (append-nil other)) ∙ ap (λ x. after_all c.args.tally.now (met g c.args.mode c.args.process x)) (sym view) in
    ok_along c.check_statement-in-Some.result c.check_statement-in-Some.new.tally (after_all c.check_statement.new.tally other) _ whole last

pub check_statement-returns-in-None-clause-met : goal.check_statement-returns-in-None-clause-met
check_statement-returns-in-None-clause-met t c =
    let g = binding_of c.args.scope.now in
    let s = c.args.statement.now in
    let fs = faults g (expr_view c.in-If.test) in
    let yes = met g c.args.mode c.args.process (statement_view c.in-If.yes) in
    let text = met_text s.place (size (expr_view c.in-If.test)) in
    let front = met_statement s.place ∷ text ∷ met_faults fs in
    let tested : c.check.new.tally ≡ after_all c.args.tally.now front = front_met c.args.tally.now c.statement.new.self c.expression.new.self c.check.new.tally (met_statement s.place) text fs c.statement.ensures c.expression.ensures c.check.ensures.met in
    let first : c.check_statement.new.tally ≡ after_all c.args.tally.now (front ++ yes) = all_then c.args.tally.now c.check.new.tally c.check_statement.new.tally front yes tested c.in_ok-check_statement-in-If.ensures.met in
    let view = if_view s c.in-If.test c.in-If.yes ((sym c.deref.ensures ∙ c.in-If.is) ∙ ap (form.If c.in-If.test c.in-If.yes) c.in-None.is) in
    first ∙ ap (after_all c.args.tally.now) (sym (append-nil (front ++ yes))) ∙ ap (λ x. after_all c.args.tally.now (met g c.args.mode c.args.process x)) (sym view)

pub check_statement-returns-in-Case-clause-met : goal.check_statement-returns-in-Case-clause-met
check_statement-returns-in-Case-clause-met t c =
    let g = binding_of c.args.scope.now in
    let s = c.args.statement.now in
    let fs = faults g (expr_view c.in-Case.on) in
    let arms = items_met g c.args.mode c.args.process (arms_of (arms_view c.in-Case.arms.items)) in
    let text = met_text s.place (size (expr_view c.in-Case.on) + labels_size (arms_of (arms_view c.in-Case.arms.items))) in
    let front = met_statement s.place ∷ text ∷ met_faults fs in
    let counted = rw c.deref-in-Case.ensures.value at c.case.ensures in
    let tested : c.check-in-Case.new.tally ≡ after_all c.args.tally.now front = front_met c.args.tally.now c.statement.new.self c.case.new.self c.check-in-Case.new.tally (met_statement s.place) text fs c.statement.ensures counted c.check-in-Case.ensures.met in
    let view = case_view s c.in-Case.kind c.in-Case.on c.in-Case.arms (sym c.deref.ensures ∙ c.in-Case.is) in
    let last = rw c.deref-in-Case-2.ensures.value at c.check_arms.ensures.met in
    let whole : after_all c.check-in-Case.new.tally arms ≡ after_all c.args.tally.now (met g c.args.mode c.args.process (statement_view s)) =
    ap (λ u. after_all u arms) tested ∙ sym (after_all-append c.args.tally.now front arms) ∙ ap (λ x. after_all c.args.tally.now (met g c.args.mode c.args.process x)) (sym view) in
    ok_along c.check_arms.result c.check_arms.new.tally (after_all c.check-in-Case.new.tally arms) _ whole last

pub check_statements-loop-statement-preserved : goal.check_statements-loop-statement-preserved
check_statements-loop-statement-preserved t c =
    let g = binding_of c.args.scope.now in
    let h = c.loop-statement.invariant in
    let x = c.statement-item.result in
    let one = met g c.args.mode c.args.process (statement_view x) in
    let rest = all_met g c.args.mode c.args.process (statements_of (statements_view (drop (c.loop-statement.statement-index + 1) c.args.statements.now))) in
    let next = ap (all_met g c.args.mode c.args.process) (statements_from c.args.statements.now c.loop-statement.statement-index x c.loop-statement-test.true c.statement-item.is) in
    let told = c.in_ok-check_statement.ensures.met ∙ ap (λ f. after_all c.loop-statement.tally (met f c.args.mode c.args.process (statement_view x))) h.kept in
    record { met = all_next c.loop-statement.tally c.check_statement.new.tally _ one rest _ next h.met told; kept = c.in_ok-check_statement.ensures.kept ∙ h.kept }

pub check_arms-loop-arm-preserved : goal.check_arms-loop-arm-preserved
check_arms-loop-arm-preserved t c =
    let g = binding_of c.args.scope.now in
    let h = c.loop-arm.invariant in
    let a = out-Arm c.arm-item.result in
    let fs = all_faults g (exprs_of (exprs_view a.labels.items)) in
    let body = met g c.args.mode c.args.process (statement_view a.body) in
    let rest = items_met g c.args.mode c.args.process (arms_of (arms_view (drop (c.loop-arm.arm-index + 1) c.args.arms.now))) in
    let next = ap (items_met g c.args.mode c.args.process) (arms_from c.args.arms.now c.loop-arm.arm-index c.arm-item.result c.loop-arm-test.true c.arm-item.is) in
    let labels = c.check_all.ensures.met ∙ ap (λ f. after_faults c.loop-arm.tally (all_faults f (exprs_of (exprs_view c.deref.result.now)))) h.kept ∙ ap (λ es. after_faults c.loop-arm.tally (all_faults g (exprs_of (exprs_view es)))) c.deref.ensures.value in
    let told = c.in_ok-check_statement.ensures.met ∙ ap (λ f. after_all c.check_all.new.tally (met f c.args.mode c.args.process (statement_view a.body))) h.kept in
    record {
      met = all_next c.loop-arm.tally c.check_statement.new.tally _ (met_faults fs ++ body) rest _ next h.met (all_then c.loop-arm.tally c.check_all.new.tally c.check_statement.new.tally (met_faults fs) body labels told);
      kept = c.in_ok-check_statement.ensures.kept ∙ h.kept;
    }

pub check_turns-loop-value-init : goal.check_turns-loop-value-init
check_turns-loop-value-init t c =
    let g = binding_of c.args.scope.now in
    let h = (loop_view c.args.header.now).0 in
    let each : Vector → List Met = λ v. met (in_turn h v g) c.args.mode c.args.process (loop_view c.args.header.now).1 in
    let values : c.as_slice-value-items.result.now ≡ loops.turns g h = c.as_slice-value-items.ensures ∙ c.in_ok-values.ensures.values in
    record { met = ap (λ vs. after_all c.turns.new.tally (met_turns vs each)) values; kept = λ y other. ap (λ f. f y) c.in_ok-values.ensures.kept }

pub check_turns-loop-value-preserved : goal.check_turns-loop-value-preserved
check_turns-loop-value-preserved t c =
    let g = binding_of c.args.scope.now in
    let h = (loop_view c.args.header.now).0 in
    let x = (base_name h.name).name in
    let v = c.value-item.result in
    let i = c.loop-value.value-index in
    let vs = c.as_slice-value-items.result.now in
    let body = statement_view (out-For c.args.header.now).body in
    let each : Vector → List Met = λ v. met (in_turn h v g) c.args.mode c.args.process (loop_view c.args.header.now).1 in
    let before = binding_of c.loop-value.scope in
    let now : binding_of c.insert.new.self ≡ with_entry x (Turn v) g = c.in_ok-insert.ensures ∙ ap (λ y. with_entry y (Turn v) before) c.in_ok-variable.ensures ∙ with_same x (Turn v) before g c.loop-value.invariant.kept in
    let told : c.check_statement.new.tally ≡ after_all c.loop-value.tally (each v) =
    c.in_ok-check_statement.ensures.met ∙ ap (λ f. after_all c.loop-value.tally (met f c.args.mode c.args.process body)) now ∙ ap (λ b. after_all c.loop-value.tally (met (in_turn h v g) c.args.mode c.args.process b)) (sym (body_view c.args.header.now)) in
    let kept = c.in_ok-check_statement.ensures.kept ∙ now in
    record {
      met = all_next c.loop-value.tally c.check_statement.new.tally _ (each v) (met_turns (drop (i + 1) vs) each) _ (flat_map_next each vs i v c.loop-value-test.true c.value-item.is) c.loop-value.invariant.met told;
      kept = λ y other. ap (λ f. f y) kept ∙ same_with x (Turn v) g g (same_itself x g) y other;
    }

pub check_turns-returns-clause-met : goal.check_turns-returns-clause-met
check_turns-returns-clause-met t c =
    let g = binding_of c.args.scope.now in
    let h = (loop_view c.args.header.now).0 in
    let each : Vector → List Met = λ v. met (in_turn h v g) c.args.mode c.args.process (loop_view c.args.header.now).1 in
    let vs = c.as_slice-value-items.result.now in
    let i = c.loop-value.value-index in
    let turns = met_turns (loops.turns g h) each in
    let done : c.loop-value.tally ≡ after_all c.turns.new.tally turns =
    elim c.loop-value-test.branch [
      | check_turns-else-loop-value-test w ↦ sym (at_drop_all (λ vs. after_all c.loop-value.tally (met_turns vs each)) vs i (omega arith)) ∙ c.loop-value.invariant.met
      | check_turns-then-loop-value-test+then-is_ended w ↦ sym (after_all_ended c.loop-value.tally (met_turns (drop i vs) each) (sym w.is_ended.ensures ∙ w.if-is_ended.true)) ∙ c.loop-value.invariant.met
    ] in
    let told = met_faults (loops.turn_faults g h) in
    let text = met_text h.place (loops.turns_size g h) in
    on_ok c.put_back.result (all_then c.args.tally.now c.turns.new.tally c.loop-value.tally (told ++ text ∷ []) turns c.in_ok-values.ensures.met done ∙ ap (after_all c.args.tally.now) (append_assoc told (text ∷ []) turns))

pub check_turns-returns-clause-kept : goal.check_turns-returns-clause-kept
check_turns-returns-clause-kept t c =
    let g = binding_of c.args.scope.now in
    let x = (base_name (loop_view c.args.header.now).0.name).name in
    let named = c.in_ok-variable.ensures in
    let before : c.copied-before.result ≡ g x =
    c.copied-before.ensures ∙ c.get.ensures.value ∙ ap (binding_of c.turns.new.scope) c.as_slice.ensures ∙ ap (λ f. f c.in_ok-variable.variable) c.in_ok-values.ensures.kept ∙ ap g named in
    let same = restored_same x c.copied-before.result (binding_of c.loop-value.scope) g c.loop-value.invariant.kept (sym before) in
    ok_along c.put_back.result (binding_of c.put_back.new.scope) _ g (ap (λ y. restored y c.copied-before.result (binding_of c.loop-value.scope)) named ∙ same) c.put_back.ensures
