use Rattle.std.proofs.Common.{◌≡◌, ◌+◌, ◌++◌, append-nil, refl, sym, ap, subst, ◌<◌, ◌∙◌, arith, drop, length}
use Rattle.std.specs.Prelude.{List}
use Rattle.std.proofs.lemmas.List.{at_drop_all}
use Rattle.four_state.specs.Vector.{Vector}
use Rattle.verilog_tree.specs.Tree.{arms_of, statements_of}
use Rattle.verilog_tree.specs.View.{arms_view, loop_view, statement_view, statements_view}
use Rattle.verilog_tree.specs.declared.item.Named.{Named}
use Rattle.verilog_tree.specs.declared.statement.Arm.{out-Arm}
use Rattle.verilog_tree.specs.declared.statement.For.{out-For}
use Rattle.verilog_tree.specs.declared.statement.StatementForm as form
use Rattle.flat_design.specs.Bodies.{all_assigned, assigned, in_turn, items_assigned, names_in_turns}
use Rattle.flat_design.specs.Identifiers.{base_name}
use Rattle.flat_design.specs.Loops as loops
use Rattle.flat_design.specs.Processes.{listed_signals}
use Rattle.flat_design.specs.Scope.{binding_of, with_entry}
use Rattle.flat_design.specs.declared.entry.Entry.TheVariants.{Turn}
use Rattle.elab_checks.specs.Turns.{restored}
use Rattle.elab_checks.proofs.RestoredLemmas.{restored_same, same_itself, same_with, with_same}
use Rattle.elab_checks.proofs.StatementLemmas.{flat_map_next, ok_along, on_ok}
use Rattle.verilog_tree.proofs.StatementViews.{arms_from, body_view, for_view, if_else_view, if_view, statements_from}
use Rattle.elab_processes.specs.Listed.{has}
use Rattle.elab_processes.proofs.LoopVariables.{turn_variable}
use Rattle.elab_processes.proofs.SignalLemmas.{listed_in_turn, listed_next, listed_then}
use Rattle.elab_processes.proofs.assigned.+add_assigned.Goals as goal

pub add_assigned-returns-in-Some-clause-assigned : goal.add_assigned-returns-in-Some-clause-assigned
add_assigned-returns-in-Some-clause-assigned t c =
    let g = binding_of c.args.scope.now in
    let k = c.args.known.now in
    let s = c.args.statement.now in
    let yes = assigned g (statement_view c.in-If.yes) in
    let other = assigned g (statement_view c.in-Some.no) in
    let first = c.in_ok-add_assigned-in-If.ensures.assigned in
    let view = if_else_view s c.in-If.test c.in-If.yes c.in-Some.no ((sym c.deref.ensures ∙ c.in-If.is) ∙ ap (form.If c.in-If.test c.in-If.yes) c.in-Some.is) in
    let one = c.add_assigned.new.known in
    let f = binding_of c.add_assigned.new.scope in
    let last = ap (λ f. has (listed_signals f (assigned f (statement_view c.in-Some.no)) ++ one)) c.in_ok-add_assigned-in-If.ensures.kept in
    let whole : has (listed_signals g other ++ one) ≡ has (listed_signals g (assigned g (statement_view s)) ++ k) =
    listed_then g k one (listed_signals g other ++ one) yes other first refl ∙ ap (λ xs. has (listed_signals g (yes ++ xs) ++ k)) (sym (append-nil other)) ∙ ap (λ x. has (listed_signals g (assigned g x) ++ k)) (sym view) in
    ok_along c.add_assigned-in-Some.result (has c.add_assigned-in-Some.new.known) _ _ (last ∙ whole) c.add_assigned-in-Some.ensures.assigned

pub add_assigned-returns-in-None-clause-assigned : goal.add_assigned-returns-in-None-clause-assigned
add_assigned-returns-in-None-clause-assigned t c =
    let g = binding_of c.args.scope.now in
    let k = c.args.known.now in
    let s = c.args.statement.now in
    let yes = assigned g (statement_view c.in-If.yes) in
    let first = c.in_ok-add_assigned-in-If.ensures.assigned in
    let view = if_view s c.in-If.test c.in-If.yes ((sym c.deref.ensures ∙ c.in-If.is) ∙ ap (form.If c.in-If.test c.in-If.yes) c.in-None.is) in
    first ∙ ap (λ xs. has (listed_signals g xs ++ k)) (sym (append-nil yes)) ∙ ap (λ x. has (listed_signals g (assigned g x) ++ k)) (sym view)

pub add_assigned-returns-in-For-clause-assigned : goal.add_assigned-returns-in-For-clause-assigned
add_assigned-returns-in-For-clause-assigned t c =
    let g = binding_of c.args.scope.now in
    let view = for_view c.args.statement.now c.in-For.header (sym c.deref.ensures ∙ c.in-For.is) in
    ok_along c.add_turns.result (has c.add_turns.new.known) _ _ (ap (λ x. has (listed_signals g (assigned g x) ++ c.args.known.now)) (sym view)) c.add_turns.ensures.assigned

pub add_all_assigned-loop-statement-preserved : goal.add_all_assigned-loop-statement-preserved
add_all_assigned-loop-statement-preserved t c =
    let g = binding_of c.args.scope.now in
    let h = c.loop-statement.invariant in
    let k = c.loop-statement.known in
    let x = c.statement-item.result in
    let rest = all_assigned g (statements_of (statements_view (drop (c.loop-statement.statement-index + 1) c.args.statements.now))) in
    let next = ap (all_assigned g) (statements_from c.args.statements.now c.loop-statement.statement-index x c.loop-statement-test.true c.statement-item.is) in
    let here = c.in_ok-add_assigned.ensures.assigned ∙ ap (λ f. has (listed_signals f (assigned f (statement_view x)) ++ k)) h.kept in
    record { assigned = listed_next g k c.add_assigned.new.known _ (assigned g (statement_view x)) rest _ next h.assigned here; kept = c.in_ok-add_assigned.ensures.kept ∙ h.kept }

pub add_arms-loop-arm-preserved : goal.add_arms-loop-arm-preserved
add_arms-loop-arm-preserved t c =
    let g = binding_of c.args.scope.now in
    let h = c.loop-arm.invariant in
    let k = c.loop-arm.known in
    let a = out-Arm c.arm-item.result in
    let rest = items_assigned g (arms_of (arms_view (drop (c.loop-arm.arm-index + 1) c.args.arms.now))) in
    let next = ap (items_assigned g) (arms_from c.args.arms.now c.loop-arm.arm-index c.arm-item.result c.loop-arm-test.true c.arm-item.is) in
    let here = c.in_ok-add_assigned.ensures.assigned ∙ ap (λ f. has (listed_signals f (assigned f (statement_view a.body)) ++ k)) h.kept in
    record { assigned = listed_next g k c.add_assigned.new.known _ (assigned g (statement_view a.body)) rest _ next h.assigned here; kept = c.in_ok-add_assigned.ensures.kept ∙ h.kept }

pub add_turns-loop-value-init : goal.add_turns-loop-value-init
add_turns-loop-value-init t c =
    let g = binding_of c.args.scope.now in
    let h = (loop_view c.args.header.now).0 in
    let each : Vector → List Named = λ v. assigned (in_turn h v g) (loop_view c.args.header.now).1 in
    let values : c.as_slice-value-items.result.now ≡ loops.turns g h = c.as_slice-value-items.ensures ∙ c.in_ok-values.ensures.values in
    record { assigned = ap (λ vs. has (listed_signals g (names_in_turns vs each) ++ c.args.known.now)) values; kept = λ y other. ap (λ f. f y) c.in_ok-values.ensures.kept }

pub add_turns-loop-value-preserved : goal.add_turns-loop-value-preserved
add_turns-loop-value-preserved t c =
    let g = binding_of c.args.scope.now in
    let h = (loop_view c.args.header.now).0 in
    let x = (base_name h.name).name in
    let v = c.value-item.result in
    let i = c.loop-value.value-index in
    let k = c.loop-value.known in
    let vs = c.as_slice-value-items.result.now in
    let body = statement_view (out-For c.args.header.now).body in
    let each : Vector → List Named = λ v. assigned (in_turn h v g) (loop_view c.args.header.now).1 in
    let before = binding_of c.loop-value.scope in
    let values : vs ≡ loops.turns g h = c.as_slice-value-items.ensures ∙ c.in_ok-values.ensures.values in
    let variable = turn_variable g h i (subst (λ xs. i < length xs) values c.loop-value-test.true) in
    let now : binding_of c.insert.new.self ≡ with_entry x (Turn v) g = c.in_ok-insert.ensures ∙ ap (λ y. with_entry y (Turn v) before) c.in_ok-variable.ensures ∙ with_same x (Turn v) before g c.loop-value.invariant.kept in
    let here : has c.add_assigned.new.known ≡ has (listed_signals g (each v) ++ k) =
    c.in_ok-add_assigned.ensures.assigned ∙ ap (λ f. has (listed_signals f (assigned f body) ++ k)) now ∙ ap (λ l. has (l ++ k)) (listed_in_turn g h v (assigned (in_turn h v g) body) variable) ∙ ap (λ b. has (listed_signals g (assigned (in_turn h v g) b) ++ k)) (sym (body_view c.args.header.now)) in
    let kept = c.in_ok-add_assigned.ensures.kept ∙ now in
    record {
      assigned = listed_next g k c.add_assigned.new.known _ (each v) (names_in_turns (drop (i + 1) vs) each) _ (flat_map_next each vs i v c.loop-value-test.true c.value-item.is) c.loop-value.invariant.assigned here;
      kept = λ y other. ap (λ f. f y) kept ∙ same_with x (Turn v) g g (same_itself x g) y other;
    }

pub add_turns-returns-clause-assigned : goal.add_turns-returns-clause-assigned
add_turns-returns-clause-assigned t c =
    let g = binding_of c.args.scope.now in
    let each : Vector → List Named = λ v. assigned (in_turn (loop_view c.args.header.now).0 v g) (loop_view c.args.header.now).1 in
    let done : has c.loop-value.known ≡ has (listed_signals g (names_in_turns (loops.turns g (loop_view c.args.header.now).0) each) ++ c.args.known.now) =
    sym (at_drop_all (λ vs. has (listed_signals g (names_in_turns vs each) ++ c.loop-value.known)) c.as_slice-value-items.result.now c.loop-value.value-index (omega arith)) ∙ c.loop-value.invariant.assigned in
    on_ok c.put_back.result done

pub add_turns-returns-clause-kept : goal.add_turns-returns-clause-kept
add_turns-returns-clause-kept t c =
    let g = binding_of c.args.scope.now in
    let x = (base_name (loop_view c.args.header.now).0.name).name in
    let named = c.in_ok-variable.ensures in
    let before : c.copied-before.result ≡ g x =
    c.copied-before.ensures ∙ c.get.ensures.value ∙ ap (binding_of c.turn_values.new.scope) c.as_slice.ensures ∙ ap (λ f. f c.in_ok-variable.variable) c.in_ok-values.ensures.kept ∙ ap g named in
    let same = restored_same x c.copied-before.result (binding_of c.loop-value.scope) g c.loop-value.invariant.kept (sym before) in
    ok_along c.put_back.result (binding_of c.put_back.new.scope) _ g (ap (λ y. restored y c.copied-before.result (binding_of c.loop-value.scope)) named ∙ same) c.put_back.ensures
