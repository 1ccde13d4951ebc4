use Rattle.std.proofs.Common.{◌≡◌, ◌+◌, ◌++◌, append-nil, refl, sym, ap, subst, ◌<◌, ◌∙◌, arith, drop, length}
use Rattle.std.specs.Prelude.{List}
use Rattle.std.proofs.lemmas.List.{at_drop_all}
use Rattle.four_state.specs.Vector.{Vector}
use Rattle.verilog_tree.specs.Tree.{arms_of, exprs_of, statements_of}
use Rattle.verilog_tree.specs.View.{arms_view, expr_view, exprs_view, loop_view, statement_view, statements_view}
use Rattle.verilog_tree.specs.declared.item.Named.{Named}
use Rattle.verilog_tree.specs.declared.statement.Arm.{out-Arm}
use Rattle.verilog_tree.specs.declared.statement.For.{out-For}
use Rattle.verilog_tree.specs.declared.statement.StatementForm as form
use Rattle.flat_design.specs.Bodies.{all_reads, in_turn, items_reads, names_in_turns, reads}
use Rattle.flat_design.specs.Identifiers.{all_identifiers, base_name, identifiers}
use Rattle.flat_design.specs.Loops as loops
use Rattle.flat_design.specs.Scope.{binding_of, with_entry}
use Rattle.flat_design.specs.Targets.{target_reads}
use Rattle.flat_design.specs.declared.entry.Entry.TheVariants.{Turn}
use Rattle.elab_scope.specs.Tally.{after_faults}
use Rattle.elab_checks.specs.Turns.{restored}
use Rattle.elab_checks.proofs.RestoredLemmas.{restored_same, same_itself, same_with, with_same}
use Rattle.elab_checks.proofs.StatementLemmas.{flat_map_next, ok_along, on_ok}
use Rattle.verilog_tree.proofs.StatementViews.{arms_from, body_view, case_view, if_else_view, if_view, set_view, statements_from}
use Rattle.elab_processes.specs.Listed.{lacking}
use Rattle.elab_processes.proofs.LoopVariables.{turn_variable}
use Rattle.elab_processes.proofs.SignalLemmas.{lacking_in_turn, lacking_next, lacking_then}
use Rattle.elab_processes.proofs.incomplete.+check_reads.Goals as goal

pub check_reads-returns-in-Some-clause-met : goal.check_reads-returns-in-Some-clause-met
check_reads-returns-in-Some-clause-met t c =
    let g = binding_of c.args.scope.now in
    let k = c.args.known.now in
    let u = c.args.tally.now in
    let s = c.args.statement.now in
    let test = identifiers (expr_view c.in-If.test) in
    let yes = reads g (statement_view c.in-If.yes) in
    let other = reads g (statement_view c.in-Some.no) in
    let first = lacking_then g k u c.check_names.new.tally c.check_reads.new.tally test yes c.check_names.ensures c.in_ok-check_reads-in-If.ensures.met in
    let view = if_else_view s c.in-If.test c.in-If.yes c.in-Some.no ((sym c.deref.ensures ∙ c.in-If.is) ∙ ap (form.If c.in-If.test c.in-If.yes) c.in-Some.is) in
    let told = after_faults c.check_reads.new.tally (lacking g k other) in
    let last = ap (λ f. after_faults c.check_reads.new.tally (lacking f k (reads f (statement_view c.in-Some.no)))) c.in_ok-check_reads-in-If.ensures.kept in
    let whole : told ≡ after_faults u (lacking g k (reads g (statement_view s))) =
    lacking_then g k u c.check_reads.new.tally told (test ++ yes) other first refl ∙ ap (λ xs. after_faults u (lacking g k ((test ++ yes) ++ xs))) (sym (append-nil other)) ∙ ap (λ x. after_faults u (lacking g k (reads g x))) (sym view) in
    ok_along c.check_reads-in-Some.result c.check_reads-in-Some.new.tally _ _ (last ∙ whole) c.check_reads-in-Some.ensures.met

pub check_reads-returns-in-None-clause-met : goal.check_reads-returns-in-None-clause-met
check_reads-returns-in-None-clause-met t c =
    let g = binding_of c.args.scope.now in
    let k = c.args.known.now in
    let u = c.args.tally.now in
    let s = c.args.statement.now in
    let test = identifiers (expr_view c.in-If.test) in
    let yes = reads g (statement_view c.in-If.yes) in
    let first = lacking_then g k u c.check_names.new.tally c.check_reads.new.tally test yes c.check_names.ensures c.in_ok-check_reads-in-If.ensures.met in
    let view = if_view s c.in-If.test c.in-If.yes ((sym c.deref.ensures ∙ c.in-If.is) ∙ ap (form.If c.in-If.test c.in-If.yes) c.in-None.is) in
    first ∙ ap (λ xs. after_faults u (lacking g k xs)) (sym (append-nil (test ++ yes))) ∙ ap (λ x. after_faults u (lacking g k (reads g x))) (sym view)

pub check_reads-returns-in-Case-clause-met : goal.check_reads-returns-in-Case-clause-met
check_reads-returns-in-Case-clause-met t c =
    let g = binding_of c.args.scope.now in
    let k = c.args.known.now in
    let u = c.args.tally.now in
    let s = c.args.statement.now in
    let on = identifiers (expr_view c.in-Case.on) in
    let arms = items_reads g (arms_of (arms_view c.in-Case.arms.items)) in
    let view = case_view s c.in-Case.kind c.in-Case.on c.in-Case.arms (sym c.deref.ensures ∙ c.in-Case.is) in
    let last = rw c.deref-in-Case.ensures.value at c.check_arms.ensures.met in
    let told = after_faults c.check_names-in-Case.new.tally (lacking g k arms) in
    let whole : told ≡ after_faults u (lacking g k (reads g (statement_view s))) = lacking_then g k u c.check_names-in-Case.new.tally told on arms c.check_names-in-Case.ensures refl ∙ ap (λ x. after_faults u (lacking g k (reads g x))) (sym view) in
    ok_along c.check_arms.result c.check_arms.new.tally told _ whole last

pub check_reads-returns-in-Set-clause-met : goal.check_reads-returns-in-Set-clause-met
check_reads-returns-in-Set-clause-met t c =
    let g = binding_of c.args.scope.now in
    let k = c.args.known.now in
    let u = c.args.tally.now in
    let s = c.args.statement.now in
    let view = set_view s c.in-Set.target c.in-Set.blocking c.in-Set.value (sym c.deref.ensures ∙ c.in-Set.is) in
    lacking_then g k u c.check_target_names.new.tally c.check_names-in-Set.new.tally (target_reads (expr_view c.in-Set.target)) (identifiers (expr_view c.in-Set.value)) c.check_target_names.ensures c.check_names-in-Set.ensures ∙ ap (λ x. after_faults u (lacking g k (reads g x))) (sym view)

pub check_all_reads-loop-statement-preserved : goal.check_all_reads-loop-statement-preserved
check_all_reads-loop-statement-preserved t c =
    let g = binding_of c.args.scope.now in
    let k = c.args.known.now in
    let h = c.loop-statement.invariant in
    let x = c.statement-item.result in
    let rest = all_reads g (statements_of (statements_view (drop (c.loop-statement.statement-index + 1) c.args.statements.now))) in
    let next = ap (all_reads g) (statements_from c.args.statements.now c.loop-statement.statement-index x c.loop-statement-test.true c.statement-item.is) in
    let told = c.in_ok-check_reads.ensures.met ∙ ap (λ f. after_faults c.loop-statement.tally (lacking f k (reads f (statement_view x)))) h.kept in
    record { met = lacking_next g k c.loop-statement.tally c.check_reads.new.tally _ (reads g (statement_view x)) rest _ next h.met told; kept = c.in_ok-check_reads.ensures.kept ∙ h.kept }

pub check_arms-loop-arm-preserved : goal.check_arms-loop-arm-preserved
check_arms-loop-arm-preserved t c =
    let g = binding_of c.args.scope.now in
    let k = c.args.known.now in
    let h = c.loop-arm.invariant in
    let a = out-Arm c.arm-item.result in
    let u = c.loop-arm.tally in
    let labels = all_identifiers (exprs_of (exprs_view a.labels.items)) in
    let body = reads g (statement_view a.body) in
    let rest = items_reads g (arms_of (arms_view (drop (c.loop-arm.arm-index + 1) c.args.arms.now))) in
    let next = ap (items_reads g) (arms_from c.args.arms.now c.loop-arm.arm-index c.arm-item.result c.loop-arm-test.true c.arm-item.is) in
    let first = c.check_all_names.ensures ∙ ap (λ f. after_faults u (lacking f k (all_identifiers (exprs_of (exprs_view c.deref.result.now))))) h.kept ∙ ap (λ es. after_faults u (lacking g k (all_identifiers (exprs_of (exprs_view es))))) c.deref.ensures.value in
    let told = c.in_ok-check_reads.ensures.met ∙ ap (λ f. after_faults c.check_all_names.new.tally (lacking f k (reads f (statement_view a.body)))) h.kept in
    record {
      met = lacking_next g k u c.check_reads.new.tally _ (labels ++ body) rest _ next h.met (lacking_then g k u c.check_all_names.new.tally c.check_reads.new.tally labels body first told);
      kept = c.in_ok-check_reads.ensures.kept ∙ h.kept;
    }

pub check_turns-loop-value-init : goal.check_turns-loop-value-init
check_turns-loop-value-init t c =
    let g = binding_of c.args.scope.now in
    let h = (loop_view c.args.header.now).0 in
    let each : Vector → List Named = λ v. reads (in_turn h v g) (loop_view c.args.header.now).1 in
    let values : c.as_slice-value-items.result.now ≡ loops.turns g h = c.as_slice-value-items.ensures ∙ c.in_ok-values.ensures.values in
    record { met = ap (λ vs. after_faults c.args.tally.now (lacking g c.args.known.now (names_in_turns vs each))) values; kept = λ y other. ap (λ f. f y) c.in_ok-values.ensures.kept }

pub check_turns-loop-value-preserved : goal.check_turns-loop-value-preserved
check_turns-loop-value-preserved t c =
    let g = binding_of c.args.scope.now in
    let k = c.args.known.now in
    let h = (loop_view c.args.header.now).0 in
    let x = (base_name h.name).name in
    let v = c.value-item.result in
    let i = c.loop-value.value-index in
    let u = c.loop-value.tally in
    let vs = c.as_slice-value-items.result.now in
    let body = statement_view (out-For c.args.header.now).body in
    let each : Vector → List Named = λ v. reads (in_turn h v g) (loop_view c.args.header.now).1 in
    let before = binding_of c.loop-value.scope in
    let values : vs ≡ loops.turns g h = c.as_slice-value-items.ensures ∙ c.in_ok-values.ensures.values in
    let variable = turn_variable g h i (subst (λ xs. i < length xs) values c.loop-value-test.true) in
    let now : binding_of c.insert.new.self ≡ with_entry x (Turn v) g = c.in_ok-insert.ensures ∙ ap (λ y. with_entry y (Turn v) before) c.in_ok-variable.ensures ∙ with_same x (Turn v) before g c.loop-value.invariant.kept in
    let told : c.check_reads.new.tally ≡ after_faults u (lacking g k (each v)) =
    c.in_ok-check_reads.ensures.met ∙ ap (λ f. after_faults u (lacking f k (reads f body))) now ∙ ap (after_faults u) (lacking_in_turn g h v k (reads (in_turn h v g) body) variable) ∙ ap (λ b. after_faults u (lacking g k (reads (in_turn h v g) b))) (sym (body_view c.args.header.now)) in
    let kept = c.in_ok-check_reads.ensures.kept ∙ now in
    record {
      met = lacking_next g k u c.check_reads.new.tally _ (each v) (names_in_turns (drop (i + 1) vs) each) _ (flat_map_next each vs i v c.loop-value-test.true c.value-item.is) c.loop-value.invariant.met told;
      kept = λ y other. ap (λ f. f y) kept ∙ same_with x (Turn v) g g (same_itself x g) y other;
    }

pub check_turns-returns-clause-met : goal.check_turns-returns-clause-met
check_turns-returns-clause-met t c =
    let g = binding_of c.args.scope.now in
    let each : Vector → List Named = λ v. reads (in_turn (loop_view c.args.header.now).0 v g) (loop_view c.args.header.now).1 in
    let done = sym (at_drop_all (λ vs. after_faults c.loop-value.tally (lacking g c.args.known.now (names_in_turns vs each))) c.as_slice-value-items.result.now c.loop-value.value-index (omega arith)) in
    on_ok c.put_back.result (done ∙ c.loop-value.invariant.met)

pub check_turns-returns-clause-kept : goal.check_turns-returns-clause-kept
check_turns-returns-clause-kept t c =
    let g = binding_of c.args.scope.now in
    let x = (base_name (loop_view c.args.header.now).0.name).name in
    let named = c.in_ok-variable.ensures in
    let before : c.copied-before.result ≡ g x =
    c.copied-before.ensures ∙ c.get.ensures.value ∙ ap (binding_of c.turn_values.new.scope) c.as_slice.ensures ∙ ap (λ f. f c.in_ok-variable.variable) c.in_ok-values.ensures.kept ∙ ap g named in
    let same = restored_same x c.copied-before.result (binding_of c.loop-value.scope) g c.loop-value.invariant.kept (sym before) in
    ok_along c.put_back.result (binding_of c.put_back.new.scope) _ g (ap (λ y. restored y c.copied-before.result (binding_of c.loop-value.scope)) named ∙ same) c.put_back.ensures
