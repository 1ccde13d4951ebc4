use Rattle.std.proofs.Common.{[], ap, ap₂, arith, drop, false, length, map, refl, rules, subst, sym, true, ◌&&◌, ◌+◌, ◌∙◌, ◌≡◌, ◌≤◌}
use Rattle.std.proofs.lemmas.Bool.{and_parts}
use Rattle.std.proofs.lemmas.List.{at_drop_all}
use Rattle.known_state.specs.Maybe.{Holds}
use Rattle.known_state.specs.declared.maybe.Maybe.TheVariants.{No, Yes}
use Rattle.design_model.specs.Execution.{is_default}
use Rattle.design_model.specs.Shape.{all_signed_of, are_bodies, is_alone, is_arms, is_body, is_shaped, own_sign, own_width, widest_of}
use Rattle.design_model.specs.Tree as tree
use Rattle.design_model.specs.View.{arms_of, stmt_view, stmts_of, term_view, terms_of}
use Rattle.design_model.specs.declared.tree.Stmt.{the_lemmas}
use Rattle.value_store.specs.body_replay.Replay.{reach, run, run_all, run_default}
use Rattle.open_tests.specs.term_replay.Questions.{answer_of}
use Rattle.open_tests.specs.term_replay.Stands.{IsInContext}
use Rattle.open_tests.proofs.term_replay.Contexts.{context_head, length-stands}
use Rattle.value_store.specs.Queue.{Queue}
use Rattle.value_store.specs.Rooms.{arm_view}
use Rattle.open_tests.specs.body_calls.Rooms.{Leaves, takes_in}
use Rattle.case_labels.specs.scene_laws.At.{IsState}
use Rattle.case_labels.specs.scene_laws.Contexts.{AreArms, AreLabels}
use Rattle.case_labels.proofs.scene_laws.BodyContexts.{first_body, first_labels, in_arms, in_select, later_arms, widest_of_least}
use Rattle.open_tests.specs.assignments.Widths.{HasWidths}
use Rattle.open_tests.specs.assignments.declared.piece.Piece.{Piece}
use Rattle.open_tests.specs.Arms.{opened_by}
use Rattle.open_tests.specs.Open.{AreSecond}
use Rattle.open_tests.specs.Views.{else_view}
use Rattle.open_tests.specs.Weights.{HasRoomFor, HasRoomForAll, LeavesBy, default_logs, default_queues}
use Rattle.open_tests.proofs.Branches.{arm_no, arm_unsure, arm_yes, both_ways, case_test, sure_test, unsure_test}
use Rattle.open_tests.proofs.Cases.{ArmRuns, ArmsOn, ArmsSpend, arm_end, arm_further, arm_room, arms_end, arms_from, arms_next, arms_open, arms_ran, arms_spend_start, arms_start, default_end, default_room, second_next, second_open}
use Rattle.open_tests.proofs.Defaults.{found_leaves, found_room, leaves_same, logs_here, logs_there, no_labels, queues_here, queues_there, run_here, run_there}
use Rattle.open_tests.proofs.Looping.{RunsOn, SpendsOn, runs_end, runs_further, spends_further, spends_room}
use Rattle.open_tests.proofs.Sharing.{first_room, labelled_none, labelled_yes, no_leaves, no_room, only_room, open_room, second_room, sure_leaves, sure_room, test_rooms, yes_leaves, yes_room}
use Rattle.open_tests.proofs.States.{reach_state}
use Rattle.open_tests.proofs.Views.{block_view, case_view, if_view, set_view, stmts_from, turns_view}
use Rattle.statement_replay.proofs.statement.+statements.Goals.{run_arms-in-Next, run_arms-in-Open}
use Rattle.statement_replay.proofs.statement.+statements.Goals as goal

pub run_statement-run_if-requires : goal.run_statement-run_if-requires
run_statement-run_if-requires g t c =
    let is = if_view c.args.stmt.now c.in-If.line c.in-If.test c.in-If.yes c.in-If.no (sym c.deref.ensures ∙ c.in-If.is) in
    λ κs k. (search (rules, the_lemmas), (k.0, (k.1, (subst (λ s. is_body (g.B.Reads.scene c.args.store.now).design s ≡ true) is c.requires.lawful, (c.requires.widths, (subst (λ s. HasRoomFor s (g.B.Bodies.around c.args.store.now) (g.B.Bodies.rooms c.args.store.now)) is c.requires.room, (c.requires.none, c.requires.scratch)))))))

pub run_statement-run_case-requires : goal.run_statement-run_case-requires
run_statement-run_case-requires g t c =
    let is = case_view c.args.stmt.now c.in-Case.line c.in-Case.kind c.in-Case.on c.in-Case.arms (sym c.deref.ensures ∙ c.in-Case.is) ∙ ap (λ xs. tree.select c.args.stmt.now.place c.in-Case.line c.in-Case.kind (term_view c.in-Case.on) (arms_of (map arm_view xs))) (sym c.deref-in-Case.ensures.value) in
    λ κs k. (search (rules, the_lemmas), (k.0, (k.1, (subst (λ s. is_body (g.B.Reads.scene c.args.store.now).design s ≡ true) is c.requires.lawful, (c.requires.widths, (subst (λ s. HasRoomFor s (g.B.Bodies.around c.args.store.now) (g.B.Bodies.rooms c.args.store.now)) is c.requires.room, (c.requires.none, c.requires.scratch)))))))

pub run_statement-returns-in-Block-clause-state : goal.run_statement-returns-in-Block-clause-state
run_statement-returns-in-Block-clause-state g t c = λ start d a h.
    let is = block_view c.args.stmt.now c.in-Block.parts (sym c.deref.ensures ∙ c.in-Block.is) ∙ ap (λ xs. tree.block c.args.stmt.now.place (stmts_of (map stmt_view xs))) (sym c.deref-in-Block.ensures.value) in
    let P : tree.Stmt → Type 0 = λ s. IsState d (run d s c.args.run.mode a) c.run_all.result (g.B.Reads.scene c.run_all.new.store) (g.B.Bodies.queued c.run_all.new.store) (λ ms. g.N.Notes.noted start ms c.run_all.new.notes) in
    subst P (sym is) (c.run_all.ensures.state start d a h)

pub run_statement-returns-in-If-clause-state : goal.run_statement-returns-in-If-clause-state
run_statement-returns-in-If-clause-state g t c = λ start d a h.
    let is = if_view c.args.stmt.now c.in-If.line c.in-If.test c.in-If.yes c.in-If.no (sym c.deref.ensures ∙ c.in-If.is) in
    let P : tree.Stmt → Type 0 = λ s. IsState d (run d s c.args.run.mode a) c.run_if.result (g.B.Reads.scene c.run_if.new.store) (g.B.Bodies.queued c.run_if.new.store) (λ ms. g.N.Notes.noted start ms c.run_if.new.notes) in
    subst P (sym is) (c.run_if.ensures.state start d a h)

pub run_statement-returns-in-Case-clause-state : goal.run_statement-returns-in-Case-clause-state
run_statement-returns-in-Case-clause-state g t c = λ start d a h.
    let is = case_view c.args.stmt.now c.in-Case.line c.in-Case.kind c.in-Case.on c.in-Case.arms (sym c.deref.ensures ∙ c.in-Case.is) ∙ ap (λ xs. tree.select c.args.stmt.now.place c.in-Case.line c.in-Case.kind (term_view c.in-Case.on) (arms_of (map arm_view xs))) (sym c.deref-in-Case.ensures.value) in
    let P : tree.Stmt → Type 0 = λ s. IsState d (run d s c.args.run.mode a) c.run_case.result (g.B.Reads.scene c.run_case.new.store) (g.B.Bodies.queued c.run_case.new.store) (λ ms. g.N.Notes.noted start ms c.run_case.new.notes) in
    subst P (sym is) (c.run_case.ensures.state start d a h)

pub run_statement-returns-in-Turns-clause-state : goal.run_statement-returns-in-Turns-clause-state
run_statement-returns-in-Turns-clause-state g t c = λ start d a h.
    let is = turns_view c.args.stmt.now c.in-Turns.line c.in-Turns.turns (sym c.deref.ensures ∙ c.in-Turns.is) ∙ ap (λ xs. tree.turns c.args.stmt.now.place c.in-Turns.line (stmts_of (map stmt_view xs))) (sym c.deref-in-Turns.ensures.value) in
    let P : tree.Stmt → Type 0 = λ s. IsState d (run d s c.args.run.mode a) c.run_all-in-Turns.result (g.B.Reads.scene c.run_all-in-Turns.new.store) (g.B.Bodies.queued c.run_all-in-Turns.new.store) (λ ms. g.N.Notes.noted start ms c.run_all-in-Turns.new.notes) in
    let reached = reach_state g.N.Notes.noted start d a c.args.run.mode (g.B.Reads.scene c.args.store.now) (g.B.Bodies.queued c.args.store.now) c.in-Turns.line c.args.run.first c.args.notes.now c.note.new.self c.note.ensures h in
    subst P (sym is) (c.run_all-in-Turns.ensures.state start d (reach c.args.run.mode c.in-Turns.line a) reached)

pub run_statement-returns-in-Set-clause-state : goal.run_statement-returns-in-Set-clause-state
run_statement-returns-in-Set-clause-state g t c = λ start d a h.
    let is = set_view c.args.stmt.now c.in-Set.line c.in-Set.blocking c.in-Set.target c.in-Set.value (sym c.deref.ensures ∙ c.in-Set.is) in
    let P : tree.Stmt → Type 0 = λ s. IsState d (run d s c.args.run.mode a) c.assign.result (g.B.Reads.scene c.assign.new.store) (g.B.Bodies.queued c.assign.new.store) (λ ms. g.N.Notes.noted start ms c.assign.new.notes) in
    subst P (sym is) (c.assign.ensures.state start d a h)

pub run_else-returns-in-Some-clause-state : goal.run_else-returns-in-Some-clause-state
run_else-returns-in-Some-clause-state g t c = λ start d a h.
    let P : tree.Stmts → Type 0 = λ ss. IsState d (run_all d ss c.args.run.mode a) c.run_statement.result (g.B.Reads.scene c.run_statement.new.store) (g.B.Bodies.queued c.run_statement.new.store) (λ ms. g.N.Notes.noted start ms c.run_statement.new.notes) in
    subst P (sym (ap else_view c.in-Some.is)) (c.run_statement.ensures.state start d a h)

pub run_all-run_statement-first-requires : goal.run_all-run_statement-first-requires
run_all-run_statement-first-requires g t c =
    let v = g.B.Reads.scene c.args.store.now in
    let h = c.loop-stmt.invariant in
    let x = c.stmt-item.result in
    let all = stmts_of (map stmt_view c.args.stmts.now) in
    let later = stmts_of (map stmt_view (drop (c.loop-stmt.stmt-index + 1) c.args.stmts.now)) in
    let next = stmts_from c.args.stmts.now c.loop-stmt.stmt-index x c.loop-stmt-test.true c.stmt-item.is in
    let both = and_parts (is_body v.design (stmt_view x)) (are_bodies v.design later) (ap (are_bodies v.design) (sym next) ∙ h.lawful) in
    let rooms = subst (SpendsOn (takes_in (g.B.Bodies.around c.args.store.now) (g.B.Bodies.rooms c.args.store.now)) (g.B.Bodies.rooms c.args.store.now).takes (g.B.Bodies.rooms c.args.store.now) all (g.B.Bodies.rooms c.loop-stmt.store)) next h.rooms in
    λ κs k. (search (rules, the_lemmas), (k.0, (k.1, (subst (λ d. is_body d (stmt_view x) ≡ true) (sym h.design) both.0, (subst HasWidths (sym h.design) c.requires.widths, (subst (λ r. HasRoomFor (stmt_view x) r (g.B.Bodies.rooms c.loop-stmt.store)) (sym h.around) (spends_room (g.B.Bodies.around c.args.store.now) (g.B.Bodies.rooms c.args.store.now) all (g.B.Bodies.rooms c.loop-stmt.store) (stmt_view x) later c.requires.room rooms), (subst (λ (z : Queue Piece). z.items ≡ []) (sym h.pieces) c.requires.none, subst (λ (z : Queue Piece). 128 ≤ z.room) (sym h.pieces) c.requires.scratch)))))))

pub run_all-loop-stmt-preserved : goal.run_all-loop-stmt-preserved
run_all-loop-stmt-preserved g t c =
    let v = g.B.Reads.scene c.args.store.now in
    let h = c.loop-stmt.invariant in
    let x = c.stmt-item.result in
    let all = stmts_of (map stmt_view c.args.stmts.now) in
    let later = stmts_of (map stmt_view (drop (c.loop-stmt.stmt-index + 1) c.args.stmts.now)) in
    let next = stmts_from c.args.stmts.now c.loop-stmt.stmt-index x c.loop-stmt-test.true c.stmt-item.is in
    let both = and_parts (is_body v.design (stmt_view x)) (are_bodies v.design later) (ap (are_bodies v.design) (sym next) ∙ h.lawful) in
    let rooms = subst (SpendsOn (takes_in (g.B.Bodies.around c.args.store.now) (g.B.Bodies.rooms c.args.store.now)) (g.B.Bodies.rooms c.args.store.now).takes (g.B.Bodies.rooms c.args.store.now) all (g.B.Bodies.rooms c.loop-stmt.store)) next h.rooms in
    record {
      lawful = both.1;
      design = c.run_statement-first.ensures.design ∙ h.design;
      around = c.run_statement-first.ensures.around ∙ h.around;
      under = c.run_statement-first.ensures.under ∙ h.under;
      pieces = c.run_statement-first.ensures.pieces ∙ h.pieces;
      rooms = spends_further (g.B.Bodies.around c.args.store.now) (g.B.Bodies.rooms c.args.store.now) all (g.B.Bodies.rooms c.loop-stmt.store) (g.B.Bodies.rooms c.run_statement-first.new.store) (stmt_view x) later rooms (subst (λ r. LeavesBy (stmt_view x) r (g.B.Bodies.rooms c.loop-stmt.store) (g.B.Bodies.rooms c.run_statement-first.new.store)) h.around c.run_statement-first.ensures.rooms);
      state = λ start.
          runs_further c.args.run.mode c.args.run.first v (g.B.Bodies.queued c.args.store.now) (λ ms. g.N.Notes.noted start ms c.args.notes.now) all c.loop-stmt.first c.run_statement-first.result (g.B.Reads.scene c.loop-stmt.store) (g.B.Reads.scene c.run_statement-first.new.store) (g.B.Bodies.queued c.loop-stmt.store) (g.B.Bodies.queued c.run_statement-first.new.store) (λ ms. g.N.Notes.noted start ms c.loop-stmt.notes) (λ ms. g.N.Notes.noted start ms c.run_statement-first.new.notes) (stmt_view x) later
          (subst (RunsOn c.args.run.mode c.args.run.first v (g.B.Bodies.queued c.args.store.now) (λ ms. g.N.Notes.noted start ms c.args.notes.now) all c.loop-stmt.first (g.B.Reads.scene c.loop-stmt.store) (g.B.Bodies.queued c.loop-stmt.store) (λ ms. g.N.Notes.noted start ms c.loop-stmt.notes)) next (h.state start))
          (rw c.after.ensures at c.run_statement-first.ensures.state start);
    }

pub run_all-returns-clause-state : goal.run_all-returns-clause-state
run_all-returns-clause-state g t c = λ start.
    let all = stmts_of (map stmt_view c.args.stmts.now) in
    let end : stmts_of (map stmt_view (drop c.loop-stmt.stmt-index c.args.stmts.now)) ≡ tree.no_stmts = at_drop_all (λ ys. stmts_of (map stmt_view ys)) c.args.stmts.now c.loop-stmt.stmt-index (omega arith) in
    runs_end c.args.run.mode c.args.run.first (g.B.Reads.scene c.args.store.now) (g.B.Bodies.queued c.args.store.now) (λ ms. g.N.Notes.noted start ms c.args.notes.now) all c.loop-stmt.first (g.B.Reads.scene c.loop-stmt.store) (g.B.Bodies.queued c.loop-stmt.store) (λ ms. g.N.Notes.noted start ms c.loop-stmt.notes)
    (subst (RunsOn c.args.run.mode c.args.run.first (g.B.Reads.scene c.args.store.now) (g.B.Bodies.queued c.args.store.now) (λ ms. g.N.Notes.noted start ms c.args.notes.now) all c.loop-stmt.first (g.B.Reads.scene c.loop-stmt.store) (g.B.Bodies.queued c.loop-stmt.store) (λ ms. g.N.Notes.noted start ms c.loop-stmt.notes)) end (c.loop-stmt.invariant.state start))

pub run_else-run_statement-requires : goal.run_else-run_statement-requires
run_else-run_statement-requires g t c =
    let is = ap else_view c.in-Some.is in
    let both = and_parts (is_body (g.B.Reads.scene c.args.store.now).design (stmt_view c.in-Some.stmt)) true (subst (λ ss. are_bodies (g.B.Reads.scene c.args.store.now).design ss ≡ true) is c.requires.lawful) in
    let room = subst (λ ss. HasRoomForAll ss (g.B.Bodies.around c.args.store.now) (g.B.Bodies.rooms c.args.store.now)) is c.requires.room in
    λ κs k. (search (rules, the_lemmas), (k.0, (k.1, (both.0, (c.requires.widths, (only_room (stmt_view c.in-Some.stmt) (g.B.Bodies.around c.args.store.now) (g.B.Bodies.rooms c.args.store.now) room, (c.requires.none, c.requires.scratch)))))))

pub run_if-run_statement-requires : goal.run_if-run_statement-requires
run_if-run_statement-requires g t c =
    let outer = and_parts (is_alone (g.B.Reads.scene c.args.store.now).design (term_view c.args.test.now) && is_body (g.B.Reads.scene c.args.store.now).design (stmt_view c.args.yes.now)) (are_bodies (g.B.Reads.scene c.args.store.now).design (else_view c.args.no.now)) c.requires.lawful in
    let inner = and_parts (is_alone (g.B.Reads.scene c.args.store.now).design (term_view c.args.test.now)) (is_body (g.B.Reads.scene c.args.store.now).design (stmt_view c.args.yes.now)) outer.0 in
    let room = test_rooms (stmt_view c.args.yes.now) (else_view c.args.no.now) (g.B.Bodies.rooms c.args.store.now) c.requires.room in
    λ κs k. (search (rules, the_lemmas), (k.0, (k.1, (inner.1, (c.requires.widths, (yes_room (stmt_view c.args.yes.now) (else_view c.args.no.now) (g.B.Bodies.rooms c.args.store.now) room (g.B.Bodies.around c.args.store.now), (c.requires.none, c.requires.scratch)))))))

pub run_if-run_else-requires : goal.run_if-run_else-requires
run_if-run_else-requires g t c =
    let outer = and_parts (is_alone (g.B.Reads.scene c.args.store.now).design (term_view c.args.test.now) && is_body (g.B.Reads.scene c.args.store.now).design (stmt_view c.args.yes.now)) (are_bodies (g.B.Reads.scene c.args.store.now).design (else_view c.args.no.now)) c.requires.lawful in
    let inner = and_parts (is_alone (g.B.Reads.scene c.args.store.now).design (term_view c.args.test.now)) (is_body (g.B.Reads.scene c.args.store.now).design (stmt_view c.args.yes.now)) outer.0 in
    let room = test_rooms (stmt_view c.args.yes.now) (else_view c.args.no.now) (g.B.Bodies.rooms c.args.store.now) c.requires.room in
    λ κs k. (search (rules, the_lemmas), (k.0, (k.1, (outer.1, (c.requires.widths, (no_room (stmt_view c.args.yes.now) (else_view c.args.no.now) (g.B.Bodies.rooms c.args.store.now) room (g.B.Bodies.around c.args.store.now), (c.requires.none, c.requires.scratch)))))))

pub run_if-run_both-requires : goal.run_if-run_both-requires
run_if-run_both-requires g t c =
    let outer = and_parts (is_alone (g.B.Reads.scene c.args.store.now).design (term_view c.args.test.now) && is_body (g.B.Reads.scene c.args.store.now).design (stmt_view c.args.yes.now)) (are_bodies (g.B.Reads.scene c.args.store.now).design (else_view c.args.no.now)) c.requires.lawful in
    let inner = and_parts (is_alone (g.B.Reads.scene c.args.store.now).design (term_view c.args.test.now)) (is_body (g.B.Reads.scene c.args.store.now).design (stmt_view c.args.yes.now)) outer.0 in
    let room = test_rooms (stmt_view c.args.yes.now) (else_view c.args.no.now) (g.B.Bodies.rooms c.args.store.now) c.requires.room in
    λ κs k. (search (rules, the_lemmas), (k.0, (k.1, (ap₂ (λ a b. a && b) inner.1 outer.1, (c.requires.widths, (room, (c.requires.none, c.requires.scratch)))))))

pub run_if-returns-in-Yes-clause-state : goal.run_if-returns-in-Yes-clause-state
run_if-returns-in-Yes-clause-state g t c = λ start.
    sure_test g.N.Notes.noted start c.args.notes.now c.note.new.self c.evaluate-test.new.notes c.args.run c.after-run.result (g.B.Reads.scene c.args.store.now) (g.B.Bodies.queued c.args.store.now) c.args.line (term_view c.args.test.now) c.evaluate-test.result.value c.evaluate-test.result.first c.note.ensures c.evaluate-test.ensures.value c.evaluate-test.ensures.first c.evaluate-test.ensures.notes c.after-run.ensures
    Yes true (stmt_view c.args.yes.now) (else_view c.args.no.now) (λ m d. run d (stmt_view c.args.yes.now) m) c.run_statement.result (g.B.Reads.scene c.run_statement.new.store) (g.B.Bodies.queued c.run_statement.new.store) (λ ms. g.N.Notes.noted start ms c.run_statement.new.notes)
    (subst (Holds c.evaluate-test.result.value) c.in-Yes.is c.holds.ensures) refl (λ d x a. refl) (c.run_statement.ensures.state start)

pub run_if-returns-in-Yes-clause-rooms : goal.run_if-returns-in-Yes-clause-rooms
run_if-returns-in-Yes-clause-rooms g t c =
    yes_leaves (stmt_view c.args.yes.now) (else_view c.args.no.now) (g.B.Bodies.rooms c.args.store.now) (g.B.Bodies.around c.args.store.now) (g.B.Bodies.rooms c.run_statement.new.store) c.run_statement.ensures.rooms

pub run_if-returns-in-No-clause-state : goal.run_if-returns-in-No-clause-state
run_if-returns-in-No-clause-state g t c = λ start.
    sure_test g.N.Notes.noted start c.args.notes.now c.note.new.self c.evaluate-test.new.notes c.args.run c.after-run.result (g.B.Reads.scene c.args.store.now) (g.B.Bodies.queued c.args.store.now) c.args.line (term_view c.args.test.now) c.evaluate-test.result.value c.evaluate-test.result.first c.note.ensures c.evaluate-test.ensures.value c.evaluate-test.ensures.first c.evaluate-test.ensures.notes c.after-run.ensures
    No false (stmt_view c.args.yes.now) (else_view c.args.no.now) (λ m d. run_all d (else_view c.args.no.now) m) c.run_else.result (g.B.Reads.scene c.run_else.new.store) (g.B.Bodies.queued c.run_else.new.store) (λ ms. g.N.Notes.noted start ms c.run_else.new.notes)
    (subst (Holds c.evaluate-test.result.value) c.in-No.is c.holds.ensures) refl (λ d x a. refl) (c.run_else.ensures.state start)

pub run_if-returns-in-No-clause-rooms : goal.run_if-returns-in-No-clause-rooms
run_if-returns-in-No-clause-rooms g t c =
    no_leaves (stmt_view c.args.yes.now) (else_view c.args.no.now) (g.B.Bodies.rooms c.args.store.now) (g.B.Bodies.around c.args.store.now) (g.B.Bodies.rooms c.run_else.new.store) c.run_else.ensures.rooms

pub run_if-returns-in-Unsure-clause-state : goal.run_if-returns-in-Unsure-clause-state
run_if-returns-in-Unsure-clause-state g t c = λ start.
    unsure_test g.N.Notes.noted start c.args.notes.now c.note.new.self c.evaluate-test.new.notes c.args.run c.after-run.result (g.B.Reads.scene c.args.store.now) (g.B.Bodies.queued c.args.store.now) c.args.line (term_view c.args.test.now) c.evaluate-test.result.value c.evaluate-test.result.first c.note.ensures c.evaluate-test.ensures.value c.evaluate-test.ensures.first c.evaluate-test.ensures.notes c.after-run.ensures
    c.in-Unsure.thing (stmt_view c.args.yes.now) (else_view c.args.no.now) c.run_both.result (g.B.Reads.scene c.run_both.new.store) (g.B.Bodies.queued c.run_both.new.store) (λ ms. g.N.Notes.noted start ms c.run_both.new.notes)
    (subst (Holds c.evaluate-test.result.value) c.in-Unsure.is c.holds.ensures) (c.run_both.ensures.state start)

pub run_both-run_statement-first-requires : goal.run_both-run_statement-first-requires
run_both-run_statement-first-requires g t c =
    let lawful = and_parts (is_body (g.B.Reads.scene c.args.store.now).design (stmt_view c.args.yes.now)) (are_bodies (g.B.Reads.scene c.args.store.now).design (else_view c.args.no.now)) c.requires.lawful in
    let begun = c.begin_test.ensures.scene in
    λ κs k. (search (rules, the_lemmas), (k.0, (k.1, (subst (λ w. is_body w.design (stmt_view c.args.yes.now) ≡ true) (sym begun) lawful.0, (subst (λ w. HasWidths w.design) (sym begun) c.requires.widths, (first_room (stmt_view c.args.yes.now) (else_view c.args.no.now) (g.B.Bodies.rooms c.args.store.now) c.requires.room (g.B.Bodies.rooms c.begin_test.new.self) c.begin_test.ensures.rooms (g.B.Bodies.around c.begin_test.new.self), (c.requires.none, c.requires.scratch)))))))

pub run_both-run_else-first-requires : goal.run_both-run_else-first-requires
run_both-run_else-first-requires g t c =
    let lawful = and_parts (is_body (g.B.Reads.scene c.args.store.now).design (stmt_view c.args.yes.now)) (are_bodies (g.B.Reads.scene c.args.store.now).design (else_view c.args.no.now)) c.requires.lawful in
    let begun = c.begin_test.ensures.scene in
    let first = c.run_statement-first.ensures.around ∙ c.begin_test.ensures.around in
    let again = c.second_branch.ensures.scene c.args.test (g.B.Reads.scene c.args.store.now) (g.B.Bodies.around c.args.store.now) first in
    λ κs k. (search (rules, the_lemmas), (k.0, (k.1, (subst (λ d. are_bodies d (else_view c.args.no.now) ≡ true) (sym again.design) lawful.1, (subst HasWidths (sym again.design) c.requires.widths, (second_room (stmt_view c.args.yes.now) (else_view c.args.no.now) (g.B.Bodies.rooms c.args.store.now) c.requires.room (g.B.Bodies.rooms c.begin_test.new.self) c.begin_test.ensures.rooms (g.B.Bodies.around c.begin_test.new.self) (g.B.Bodies.rooms c.run_statement-first.new.store) c.run_statement-first.ensures.rooms (g.B.Bodies.rooms c.second_branch.new.self) c.second_branch.ensures.rooms (g.B.Bodies.around c.second_branch.new.self), (subst (λ (z : Queue Piece). z.items ≡ []) (sym c.run_statement-first.ensures.pieces) c.requires.none, subst (λ (z : Queue Piece). 128 ≤ z.room) (sym c.run_statement-first.ensures.pieces) c.requires.scratch)))))))

pub run_both-returns-clause-state : goal.run_both-returns-clause-state
run_both-returns-clause-state g t c = λ start.
    let first = c.run_statement-first.ensures.around ∙ c.begin_test.ensures.around in
    let again = c.second_branch.ensures.scene c.args.test (g.B.Reads.scene c.args.store.now) (g.B.Bodies.around c.args.store.now) first in
    let second = c.run_else-first.ensures.around ∙ c.second_branch.ensures.around c.args.test (g.B.Reads.scene c.args.store.now) (g.B.Bodies.around c.args.store.now) first in
    both_ways (λ d. run d (stmt_view c.args.yes.now)) (λ d. run_all d (else_view c.args.no.now)) c.args.test c.args.run c.within-inside.result c.after.result (g.B.Reads.scene c.args.store.now) (g.B.Reads.scene c.begin_test.new.self) (g.B.Reads.scene c.run_statement-first.new.store) (g.B.Reads.scene c.second_branch.new.self) (g.B.Reads.scene c.run_else-first.new.store) (g.B.Reads.scene c.end_test.new.self) (g.B.Bodies.queued c.args.store.now) (g.B.Bodies.queued c.begin_test.new.self) (g.B.Bodies.queued c.run_statement-first.new.store) (g.B.Bodies.queued c.second_branch.new.self) (g.B.Bodies.queued c.run_else-first.new.store) (g.B.Bodies.queued c.end_test.new.self) (λ ms. g.N.Notes.noted start ms c.args.notes.now) (λ ms. g.N.Notes.noted start ms c.run_statement-first.new.notes) (λ ms. g.N.Notes.noted start ms c.run_else-first.new.notes) c.run_statement-first.result c.run_else-first.result
    c.within-inside.ensures c.after.ensures c.begin_test.ensures.scene c.begin_test.ensures.queued (c.run_statement-first.ensures.state start) again c.second_branch.ensures.queued (c.run_else-first.ensures.state start) (c.end_test.ensures.scene c.args.test (g.B.Reads.scene c.run_statement-first.new.store) (g.B.Bodies.around c.args.store.now) second) c.end_test.ensures.queued

pub run_case-evaluate-on-requires : goal.run_case-evaluate-on-requires
run_case-evaluate-on-requires g t c =
    in_select (g.B.Reads.scene c.args.store.now).design (term_view c.args.on.now) (arms_of (map arm_view c.args.arms.now)) c.requires.lawful

pub run_case-run_arms-requires : goal.run_case-run_arms-requires
run_case-run_arms-requires g t c =
    let d = (g.B.Reads.scene c.args.store.now).design in
    let t = term_view c.args.on.now in
    let context : IsInContext d t =
    record {
      width = widest_of d (own_width d t) (arms_of (map arm_view c.args.arms.now));
      signed = all_signed_of d (own_sign d t) (arms_of (map arm_view c.args.arms.now));
      shaped = (and_parts (is_shaped d (widest_of d (own_width d t) (arms_of (map arm_view c.args.arms.now))) (all_signed_of d (own_sign d t) (arms_of (map arm_view c.args.arms.now))) t) (is_arms d (widest_of d (own_width d t) (arms_of (map arm_view c.args.arms.now))) (all_signed_of d (own_sign d t) (arms_of (map arm_view c.args.arms.now))) (arms_of (map arm_view c.args.arms.now))) c.requires.lawful).0;
      narrow = widest_of_least d (own_width d t) (arms_of (map arm_view c.args.arms.now));
    } in
    let wide = length-stands (g.B.Reads.scene c.args.store.now) c.args.run.first t c.evaluate-on.result.value c.evaluate-on.ensures.value ∙ (context_head d t context).width in
    let arms = subst (λ w. AreArms d w (all_signed_of d (own_sign d t) (arms_of (map arm_view c.args.arms.now))) (arms_of (map arm_view c.args.arms.now))) (sym wide) (in_arms d t (arms_of (map arm_view c.args.arms.now)) c.requires.lawful) in
    λ κs k. (search (rules, the_lemmas), (k.0, (k.1, ((all_signed_of (g.B.Reads.scene c.args.store.now).design (own_sign (g.B.Reads.scene c.args.store.now).design (term_view c.args.on.now)) (arms_of (map arm_view c.args.arms.now)), arms), (c.requires.widths, (c.requires.room, (c.requires.none, c.requires.scratch)))))))

pub run_case-returns-clause-state : goal.run_case-returns-clause-state
run_case-returns-clause-state g t c = λ start.
    case_test g.N.Notes.noted start c.args.notes.now c.note.new.self c.evaluate-on.new.notes c.args.run c.after.result (g.B.Reads.scene c.args.store.now) (g.B.Bodies.queued c.args.store.now) c.args.line (term_view c.args.on.now) c.evaluate-on.result.value c.evaluate-on.result.first c.note.ensures c.evaluate-on.ensures.value c.evaluate-on.ensures.first c.evaluate-on.ensures.notes c.after.ensures
    c.args.kind (arms_of (map arm_view c.args.arms.now)) c.run_arms.result (g.B.Reads.scene c.run_arms.new.store) (g.B.Bodies.queued c.run_arms.new.store) (λ ms. g.N.Notes.noted start ms c.run_arms.new.notes) (c.run_arms.ensures.state start)

pub run_arm-run_statement-requires : goal.run_arm-run_statement-requires
run_arm-run_statement-requires g t c =
    let answer = rw c.deref.ensures.value at c.matched-labels.ensures.answer in
    let labelled = labelled_yes (g.B.Reads.scene c.args.store.now).design c.args.kind c.args.on.now.bits (g.B.Reads.scene c.args.store.now).kept (terms_of (map term_view c.args.arm.now.labels.items)) (sym answer.is ∙ ap answer_of c.in-Yes.is) in
    λ κs k. (search (rules, the_lemmas), (k.0, (k.1, (c.requires.lawful, (c.requires.widths, (sure_room (terms_of (map term_view c.args.arm.now.labels.items)) (stmt_view c.args.arm.now.body) (g.B.Bodies.rooms c.args.store.now) labelled (g.B.Bodies.around c.args.store.now) c.requires.room, (c.requires.none, c.requires.scratch)))))))

pub run_arm-run_statement-first-requires : goal.run_arm-run_statement-first-requires
run_arm-run_statement-first-requires g t c =
    let answer = rw c.deref.ensures.value at c.matched-labels.ensures.answer in
    let labelled = labelled_none (g.B.Reads.scene c.args.store.now).design c.args.kind c.args.on.now.bits (g.B.Reads.scene c.args.store.now).kept (terms_of (map term_view c.args.arm.now.labels.items)) (sym answer.is ∙ ap answer_of c.in-Unsure.is) in
    let begun = c.begin_test.ensures.scene in
    λ κs k. (search (rules, the_lemmas), (k.0, (k.1, (subst (λ w. is_body w.design (stmt_view c.args.arm.now.body) ≡ true) (sym begun) c.requires.lawful, (subst (λ w. HasWidths w.design) (sym begun) c.requires.widths, (open_room (terms_of (map term_view c.args.arm.now.labels.items)) (stmt_view c.args.arm.now.body) (g.B.Bodies.rooms c.args.store.now) labelled (g.B.Bodies.rooms c.begin_test.new.self) (g.B.Bodies.around c.begin_test.new.self) c.requires.room c.begin_test.ensures.rooms, (c.requires.none, c.requires.scratch)))))))

pub run_arm-returns-in-Yes-clause-state : goal.run_arm-returns-in-Yes-clause-state
run_arm-returns-in-Yes-clause-state g t c = λ start.
    let answer = rw c.deref.ensures.value at c.matched-labels.ensures.answer in
    let first_is = rw c.deref.ensures.value at c.matched-labels.ensures.first in
    let noting = rw c.deref.ensures.value at c.matched-labels.ensures.notes in
    arm_yes g.N.Notes.noted start c.args.kind c.args.on.now (terms_of (map term_view c.args.arm.now.labels.items)) (stmt_view c.args.arm.now.body) c.args.run c.after-run.result (g.B.Reads.scene c.args.store.now) (g.B.Bodies.queued c.args.store.now) c.args.notes.now c.matched-labels.new.notes c.matched-labels.result.answer c.matched-labels.result.first (g.B.Bodies.around c.args.store.now) c.after-run.ensures answer first_is noting c.run_statement.result (g.B.Reads.scene c.run_statement.new.store) (g.B.Bodies.queued c.run_statement.new.store) (λ ms. g.N.Notes.noted start ms c.run_statement.new.notes) (g.B.Bodies.around c.run_statement.new.store) c.in-Yes.is (c.run_statement.ensures.state start)

pub run_arm-returns-in-Yes-clause-rooms : goal.run_arm-returns-in-Yes-clause-rooms
run_arm-returns-in-Yes-clause-rooms g t c =
    let answer = rw c.deref.ensures.value at c.matched-labels.ensures.answer in
    let labelled = labelled_yes (g.B.Reads.scene c.args.store.now).design c.args.kind c.args.on.now.bits (g.B.Reads.scene c.args.store.now).kept (terms_of (map term_view c.args.arm.now.labels.items)) (sym answer.is ∙ ap answer_of c.in-Yes.is) in
    sure_leaves (terms_of (map term_view c.args.arm.now.labels.items)) (stmt_view c.args.arm.now.body) (g.B.Bodies.rooms c.args.store.now) labelled (g.B.Bodies.around c.args.store.now) (g.B.Bodies.rooms c.run_statement.new.store) c.run_statement.ensures.rooms

pub run_arm-returns-in-No-clause-state : goal.run_arm-returns-in-No-clause-state
run_arm-returns-in-No-clause-state g t c = λ start.
    let answer = rw c.deref.ensures.value at c.matched-labels.ensures.answer in
    let first_is = rw c.deref.ensures.value at c.matched-labels.ensures.first in
    let noting = rw c.deref.ensures.value at c.matched-labels.ensures.notes in
    arm_no g.N.Notes.noted start c.args.kind c.args.on.now (terms_of (map term_view c.args.arm.now.labels.items)) (stmt_view c.args.arm.now.body) c.args.run c.after-run.result (g.B.Reads.scene c.args.store.now) (g.B.Bodies.queued c.args.store.now) c.args.notes.now c.matched-labels.new.notes c.matched-labels.result.answer c.matched-labels.result.first (g.B.Bodies.around c.args.store.now) c.after-run.ensures answer first_is noting (g.B.Bodies.around c.args.store.now) c.in-No.is

pub run_arm-returns-in-Unsure-clause-state : goal.run_arm-returns-in-Unsure-clause-state
run_arm-returns-in-Unsure-clause-state g t c = λ start.
    let answer = rw c.deref.ensures.value at c.matched-labels.ensures.answer in
    let first_is = rw c.deref.ensures.value at c.matched-labels.ensures.first in
    let noting = rw c.deref.ensures.value at c.matched-labels.ensures.notes in
    let first = c.run_statement-first.ensures.around ∙ c.begin_test.ensures.around in
    arm_unsure g.N.Notes.noted start c.args.kind c.args.on.now (terms_of (map term_view c.args.arm.now.labels.items)) (stmt_view c.args.arm.now.body) c.args.run c.after-run.result (g.B.Reads.scene c.args.store.now) (g.B.Bodies.queued c.args.store.now) c.args.notes.now c.matched-labels.new.notes c.matched-labels.result.answer c.matched-labels.result.first (g.B.Bodies.around c.args.store.now) c.after-run.ensures answer first_is noting c.in-Unsure.thing c.within-inside.result c.after.result (g.B.Reads.scene c.begin_test.new.self) (g.B.Reads.scene c.run_statement-first.new.store) (g.B.Reads.scene c.second_branch.new.self) (g.B.Bodies.queued c.begin_test.new.self) (g.B.Bodies.queued c.run_statement-first.new.store) (g.B.Bodies.queued c.second_branch.new.self) (λ ms. g.N.Notes.noted start ms c.run_statement-first.new.notes) (g.B.Bodies.around c.second_branch.new.self) c.run_statement-first.result c.in-Unsure.is c.within-inside.ensures c.after.ensures c.begin_test.ensures.scene c.begin_test.ensures.queued (c.run_statement-first.ensures.state start) (c.second_branch.ensures.scene c.in-Unsure.thing (g.B.Reads.scene c.args.store.now) (g.B.Bodies.around c.args.store.now) first) c.second_branch.ensures.queued (c.second_branch.ensures.around c.in-Unsure.thing (g.B.Reads.scene c.args.store.now) (g.B.Bodies.around c.args.store.now) first)

pub run_arms-run_arm-requires : goal.run_arms-run_arm-requires
run_arms-run_arm-requires g t c =
    let d = (g.B.Reads.scene c.args.store.now).design in
    let h = c.loop-arm.invariant in
    let x = c.arm-item.result in
    let labels = terms_of (map term_view x.labels.items) in
    let body = stmt_view x.body in
    let all = arms_of (map arm_view c.args.arms.now) in
    let later = arms_of (map arm_view (drop (c.loop-arm.arm-index + 1) c.args.arms.now)) in
    let next = arms_from c.args.arms.now c.loop-arm.arm-index x c.loop-arm-test.true c.arm-item.is in
    let rooms = subst (ArmsSpend (g.B.Bodies.rooms c.args.store.now) all (g.B.Bodies.rooms c.loop-arm.store)) next h.rooms in
    let arms = subst (AreArms d (length c.args.on.now.bits) h.lawful.0) next h.lawful.1 in
    λ κs k. (search (rules, the_lemmas), (k.0, (k.1, ((h.lawful.0, subst (λ e. AreLabels e (length c.args.on.now.bits) h.lawful.0 labels) (sym h.design) (first_labels d (length c.args.on.now.bits) h.lawful.0 labels body later arms)), (subst (λ e. is_body e body ≡ true) (sym h.design) (first_body d (length c.args.on.now.bits) h.lawful.0 labels body later arms.shaped), (subst HasWidths (sym h.design) c.requires.widths, (arm_room (g.B.Bodies.rooms c.args.store.now) all (g.B.Bodies.rooms c.loop-arm.store) labels body later c.requires.room rooms, (subst (λ (z : Queue Piece). z.items ≡ []) (sym h.pieces) c.requires.none, subst (λ (z : Queue Piece). 128 ≤ z.room) (sym h.pieces) c.requires.scratch))))))))

pub run_arms-end_tests-requires : goal.run_arms-end_tests-requires
run_arms-end_tests-requires g t c =
    let h = c.loop-arm.invariant in
    let same : g.B.Bodies.around c.run_arm.new.store ≡ g.B.Bodies.around c.loop-arm.store = subst (λ r. AreSecond (g.B.Reads.scene c.loop-arm.store).design (opened_by r) (g.B.Bodies.around c.loop-arm.store) (g.B.Bodies.around c.run_arm.new.store)) c.in-Ran.is c.run_arm.ensures.around in
    ((g.B.Bodies.around c.args.store.now), subst (λ e. AreSecond e c.loop-arm.opened (g.B.Bodies.around c.args.store.now) (g.B.Bodies.around c.run_arm.new.store)) (sym (c.run_arm.ensures.design ∙ h.design)) (subst (AreSecond (g.B.Reads.scene c.args.store.now).design c.loop-arm.opened (g.B.Bodies.around c.args.store.now)) (sym same) h.open_tests))

pub run_arms-returns-in-Ran-clause-state : goal.run_arms-returns-in-Ran-clause-state
run_arms-returns-in-Ran-clause-state g t c = λ start.
    let d = (g.B.Reads.scene c.args.store.now).design in
    let h = c.loop-arm.invariant in
    let x = c.arm-item.result in
    let labels = terms_of (map term_view x.labels.items) in
    let body = stmt_view x.body in
    let all = arms_of (map arm_view c.args.arms.now) in
    let later = arms_of (map arm_view (drop (c.loop-arm.arm-index + 1) c.args.arms.now)) in
    let next = arms_from c.args.arms.now c.loop-arm.arm-index x c.loop-arm-test.true c.arm-item.is in
    let same : g.B.Bodies.around c.run_arm.new.store ≡ g.B.Bodies.around c.loop-arm.store = subst (λ r. AreSecond (g.B.Reads.scene c.loop-arm.store).design (opened_by r) (g.B.Bodies.around c.loop-arm.store) (g.B.Bodies.around c.run_arm.new.store)) c.in-Ran.is c.run_arm.ensures.around in
    arms_ran c.args.kind c.args.on.now c.args.run.mode c.args.run.first (g.B.Reads.scene c.args.store.now) (g.B.Bodies.queued c.args.store.now) (λ ms. g.N.Notes.noted start ms c.args.notes.now) (g.B.Bodies.around c.args.store.now) all c.loop-arm.now.mode c.loop-arm.now.first (g.B.Reads.scene c.loop-arm.store) (g.B.Reads.scene c.run_arm.new.store) (g.B.Bodies.queued c.loop-arm.store) (g.B.Bodies.queued c.run_arm.new.store) (λ ms. g.N.Notes.noted start ms c.loop-arm.notes) (λ ms. g.N.Notes.noted start ms c.run_arm.new.notes) (g.B.Bodies.around c.loop-arm.store) (g.B.Bodies.around c.run_arm.new.store) c.loop-arm.opened labels body later c.in-Ran.first (g.B.Reads.scene c.end_tests.new.store) (g.B.Bodies.queued c.end_tests.new.store)
    (subst (ArmsOn c.args.kind c.args.on.now c.args.run.mode c.args.run.first (g.B.Reads.scene c.args.store.now) (g.B.Bodies.queued c.args.store.now) (λ ms. g.N.Notes.noted start ms c.args.notes.now) (g.B.Bodies.around c.args.store.now) all c.loop-arm.now.mode c.loop-arm.now.first (g.B.Reads.scene c.loop-arm.store) (g.B.Bodies.queued c.loop-arm.store) (λ ms. g.N.Notes.noted start ms c.loop-arm.notes) (g.B.Bodies.around c.loop-arm.store) c.loop-arm.opened) next (h.state start))
    (subst (ArmRuns c.args.kind c.args.on.now labels body c.loop-arm.now.mode c.loop-arm.now.first (g.B.Reads.scene c.loop-arm.store) (g.B.Bodies.queued c.loop-arm.store) (λ ms. g.N.Notes.noted start ms c.loop-arm.notes) (g.B.Bodies.around c.loop-arm.store) (g.B.Reads.scene c.run_arm.new.store) (g.B.Bodies.queued c.run_arm.new.store) (λ ms. g.N.Notes.noted start ms c.run_arm.new.notes) (g.B.Bodies.around c.run_arm.new.store)) c.in-Ran.is (c.run_arm.ensures.state start))
    same c.end_tests.ensures.state

pub run_arms-returns-in-Ran-clause-design : goal.run_arms-returns-in-Ran-clause-design
run_arms-returns-in-Ran-clause-design g t c =
    c.end_tests.ensures.design ∙ c.run_arm.ensures.design ∙ c.loop-arm.invariant.design

pub run_arms-returns-in-Ran-clause-under : goal.run_arms-returns-in-Ran-clause-under
run_arms-returns-in-Ran-clause-under g t c =
    c.end_tests.ensures.under ∙ c.run_arm.ensures.under ∙ c.loop-arm.invariant.under

pub run_arms-returns-in-Ran-clause-around : goal.run_arms-returns-in-Ran-clause-around
run_arms-returns-in-Ran-clause-around g t c =
    let h = c.loop-arm.invariant in
    let same : g.B.Bodies.around c.run_arm.new.store ≡ g.B.Bodies.around c.loop-arm.store = subst (λ r. AreSecond (g.B.Reads.scene c.loop-arm.store).design (opened_by r) (g.B.Bodies.around c.loop-arm.store) (g.B.Bodies.around c.run_arm.new.store)) c.in-Ran.is c.run_arm.ensures.around in
    c.end_tests.ensures.around (g.B.Bodies.around c.args.store.now) (subst (λ e. AreSecond e c.loop-arm.opened (g.B.Bodies.around c.args.store.now) (g.B.Bodies.around c.run_arm.new.store)) (sym (c.run_arm.ensures.design ∙ h.design)) (subst (AreSecond (g.B.Reads.scene c.args.store.now).design c.loop-arm.opened (g.B.Bodies.around c.args.store.now)) (sym same) h.open_tests))

pub run_arms-returns-in-Ran-clause-rooms : goal.run_arms-returns-in-Ran-clause-rooms
run_arms-returns-in-Ran-clause-rooms g t c =
    let d = (g.B.Reads.scene c.args.store.now).design in
    let h = c.loop-arm.invariant in
    let x = c.arm-item.result in
    let labels = terms_of (map term_view x.labels.items) in
    let body = stmt_view x.body in
    let all = arms_of (map arm_view c.args.arms.now) in
    let later = arms_of (map arm_view (drop (c.loop-arm.arm-index + 1) c.args.arms.now)) in
    let next = arms_from c.args.arms.now c.loop-arm.arm-index x c.loop-arm-test.true c.arm-item.is in
    let rooms = subst (ArmsSpend (g.B.Bodies.rooms c.args.store.now) all (g.B.Bodies.rooms c.loop-arm.store)) next h.rooms in
    arm_end (g.B.Bodies.rooms c.args.store.now) all (g.B.Bodies.rooms c.loop-arm.store) (g.B.Bodies.rooms c.run_arm.new.store) (g.B.Bodies.rooms c.end_tests.new.store) labels body later rooms c.run_arm.ensures.rooms c.end_tests.ensures.rooms

pub run_arms-returns-in-Ran-clause-pieces : goal.run_arms-returns-in-Ran-clause-pieces
run_arms-returns-in-Ran-clause-pieces g t c =
    c.run_arm.ensures.pieces ∙ c.loop-arm.invariant.pieces

pub run_arms-run_default-first-requires : goal.run_arms-run_default-first-requires
run_arms-run_default-first-requires g t c =
    let d = (g.B.Reads.scene c.args.store.now).design in
    let h = c.loop-arm.invariant in
    let all = arms_of (map arm_view c.args.arms.now) in
    let end : arms_of (map arm_view (drop c.loop-arm.arm-index c.args.arms.now)) ≡ tree.no_arms = at_drop_all (λ ys. arms_of (map arm_view ys)) c.args.arms.now c.loop-arm.arm-index (omega arith) in
    let rooms = subst (ArmsSpend (g.B.Bodies.rooms c.args.store.now) all (g.B.Bodies.rooms c.loop-arm.store)) end h.rooms in
    λ κs k. (search (rules, the_lemmas), (k.0, (k.1, ((length c.args.on.now.bits, c.requires.lawful.0, subst (λ e. AreArms e (length c.args.on.now.bits) c.requires.lawful.0 all) (sym h.design) c.requires.lawful.1), (subst HasWidths (sym h.design) c.requires.widths, (default_room (g.B.Bodies.rooms c.args.store.now) all (g.B.Bodies.rooms c.loop-arm.store) c.requires.room rooms, (subst (λ (z : Queue Piece). z.items ≡ []) (sym h.pieces) c.requires.none, subst (λ (z : Queue Piece). 128 ≤ z.room) (sym h.pieces) c.requires.scratch)))))))

pub run_arms-end_tests-requires-2 : goal.run_arms-end_tests-requires-2
run_arms-end_tests-requires-2 g t c =
    let h = c.loop-arm.invariant in
    ((g.B.Bodies.around c.args.store.now), subst (λ e. AreSecond e c.loop-arm.opened (g.B.Bodies.around c.args.store.now) (g.B.Bodies.around c.run_default-first.new.store)) (sym (c.run_default-first.ensures.design ∙ h.design)) (subst (AreSecond (g.B.Reads.scene c.args.store.now).design c.loop-arm.opened (g.B.Bodies.around c.args.store.now)) (sym c.run_default-first.ensures.around) h.open_tests))

pub run_arms-returns-clause-state : goal.run_arms-returns-clause-state
run_arms-returns-clause-state g t c = λ start.
    let d = (g.B.Reads.scene c.args.store.now).design in
    let h = c.loop-arm.invariant in
    let all = arms_of (map arm_view c.args.arms.now) in
    let end : arms_of (map arm_view (drop c.loop-arm.arm-index c.args.arms.now)) ≡ tree.no_arms = at_drop_all (λ ys. arms_of (map arm_view ys)) c.args.arms.now c.loop-arm.arm-index (omega arith) in
    arms_end c.args.kind c.args.on.now c.args.run.mode c.args.run.first (g.B.Reads.scene c.args.store.now) (g.B.Bodies.queued c.args.store.now) (λ ms. g.N.Notes.noted start ms c.args.notes.now) (g.B.Bodies.around c.args.store.now) all c.loop-arm.now.mode c.loop-arm.now.first (g.B.Reads.scene c.loop-arm.store) (g.B.Reads.scene c.run_default-first.new.store) (g.B.Bodies.queued c.loop-arm.store) (g.B.Bodies.queued c.run_default-first.new.store) (λ ms. g.N.Notes.noted start ms c.loop-arm.notes) (λ ms. g.N.Notes.noted start ms c.run_default-first.new.notes) (g.B.Bodies.around c.loop-arm.store) (g.B.Bodies.around c.run_default-first.new.store) c.loop-arm.opened c.run_default-first.result (g.B.Reads.scene c.end_tests-2.new.store) (g.B.Bodies.queued c.end_tests-2.new.store)
    (subst (ArmsOn c.args.kind c.args.on.now c.args.run.mode c.args.run.first (g.B.Reads.scene c.args.store.now) (g.B.Bodies.queued c.args.store.now) (λ ms. g.N.Notes.noted start ms c.args.notes.now) (g.B.Bodies.around c.args.store.now) all c.loop-arm.now.mode c.loop-arm.now.first (g.B.Reads.scene c.loop-arm.store) (g.B.Bodies.queued c.loop-arm.store) (λ ms. g.N.Notes.noted start ms c.loop-arm.notes) (g.B.Bodies.around c.loop-arm.store) c.loop-arm.opened) end (h.state start))
    (c.run_default-first.ensures.state start) c.run_default-first.ensures.around c.end_tests-2.ensures.state

pub run_arms-returns-clause-design : goal.run_arms-returns-clause-design
run_arms-returns-clause-design g t c =
    c.end_tests-2.ensures.design ∙ c.run_default-first.ensures.design ∙ c.loop-arm.invariant.design

pub run_arms-returns-clause-under : goal.run_arms-returns-clause-under
run_arms-returns-clause-under g t c =
    c.end_tests-2.ensures.under ∙ c.run_default-first.ensures.under ∙ c.loop-arm.invariant.under

pub run_arms-returns-clause-around : goal.run_arms-returns-clause-around
run_arms-returns-clause-around g t c =
    let h = c.loop-arm.invariant in
    c.end_tests-2.ensures.around (g.B.Bodies.around c.args.store.now) (subst (λ e. AreSecond e c.loop-arm.opened (g.B.Bodies.around c.args.store.now) (g.B.Bodies.around c.run_default-first.new.store)) (sym (c.run_default-first.ensures.design ∙ h.design)) (subst (AreSecond (g.B.Reads.scene c.args.store.now).design c.loop-arm.opened (g.B.Bodies.around c.args.store.now)) (sym c.run_default-first.ensures.around) h.open_tests))

pub run_arms-returns-clause-rooms : goal.run_arms-returns-clause-rooms
run_arms-returns-clause-rooms g t c =
    let d = (g.B.Reads.scene c.args.store.now).design in
    let h = c.loop-arm.invariant in
    let all = arms_of (map arm_view c.args.arms.now) in
    let end : arms_of (map arm_view (drop c.loop-arm.arm-index c.args.arms.now)) ≡ tree.no_arms = at_drop_all (λ ys. arms_of (map arm_view ys)) c.args.arms.now c.loop-arm.arm-index (omega arith) in
    let rooms = subst (ArmsSpend (g.B.Bodies.rooms c.args.store.now) all (g.B.Bodies.rooms c.loop-arm.store)) end h.rooms in
    default_end (g.B.Bodies.rooms c.args.store.now) all (g.B.Bodies.rooms c.loop-arm.store) (g.B.Bodies.rooms c.run_default-first.new.store) (g.B.Bodies.rooms c.end_tests-2.new.store) rooms c.run_default-first.ensures.rooms c.end_tests-2.ensures.rooms

pub run_arms-returns-clause-pieces : goal.run_arms-returns-clause-pieces
run_arms-returns-clause-pieces g t c =
    c.run_default-first.ensures.pieces ∙ c.loop-arm.invariant.pieces

pub run_arms-loop-arm-init : goal.run_arms-loop-arm-init
run_arms-loop-arm-init g t c =
    let all = arms_of (map arm_view c.args.arms.now) in
    record {
      lawful = c.requires.lawful;
      design = refl;
      under = refl;
      pieces = refl;
      few = omega arith;
      open_tests = refl;
      rooms = arms_spend_start (g.B.Bodies.rooms c.args.store.now) all;
      state = λ start. arms_start c.args.kind c.args.on.now c.args.run.mode c.args.run.first (g.B.Reads.scene c.args.store.now) (g.B.Bodies.queued c.args.store.now) (λ ms. g.N.Notes.noted start ms c.args.notes.now) (g.B.Bodies.around c.args.store.now) all;
    }

pub run_default-loop-arm-init : goal.run_default-loop-arm-init
run_default-loop-arm-init g t c =
    record {
      store = refl;
      notes = refl;
      pieces = refl;
      lawful = c.requires.lawful;
      logs = λ f. refl;
      queues = refl;
      state = λ d mode a. refl;
    }

pub run_arms-loop-arm-preserved : goal.run_arms-loop-arm-preserved
run_arms-loop-arm-preserved g t c =
    let d = (g.B.Reads.scene c.args.store.now).design in
    let h = c.loop-arm.invariant in
    let x = c.arm-item.result in
    let labels = terms_of (map term_view x.labels.items) in
    let body = stmt_view x.body in
    let all = arms_of (map arm_view c.args.arms.now) in
    let later = arms_of (map arm_view (drop (c.loop-arm.arm-index + 1) c.args.arms.now)) in
    let next = arms_from c.args.arms.now c.loop-arm.arm-index x c.loop-arm-test.true c.arm-item.is in
    let rooms = subst (ArmsSpend (g.B.Bodies.rooms c.args.store.now) all (g.B.Bodies.rooms c.loop-arm.store)) next h.rooms in
    let arms = subst (AreArms d (length c.args.on.now.bits) h.lawful.0) next h.lawful.1 in
    let few = h.few in
    record {
      lawful = (h.lawful.0, later_arms d (length c.args.on.now.bits) h.lawful.0 labels body later arms);
      design = c.run_arm.ensures.design ∙ h.design;
      under = c.run_arm.ensures.under ∙ h.under;
      pieces = c.run_arm.ensures.pieces ∙ h.pieces;
      few = elim c.match-run_arm.branch [
        | run_arms-in-Next w ↦ rw w.opened-is (omega (arith, few))
        | run_arms-in-Open w ↦ rw w.opened-is (omega (arith, few))
      ];
      open_tests = elim c.match-run_arm.branch [
        | run_arms-in-Next w ↦ rw w.opened-is (second_next (g.B.Reads.scene c.args.store.now).design (g.B.Reads.scene c.loop-arm.store).design c.loop-arm.opened (g.B.Bodies.around c.args.store.now) (g.B.Bodies.around c.loop-arm.store) (g.B.Bodies.around c.run_arm.new.store) h.open_tests (subst (λ r. AreSecond (g.B.Reads.scene c.loop-arm.store).design (opened_by r) (g.B.Bodies.around c.loop-arm.store) (g.B.Bodies.around c.run_arm.new.store)) w.in-Next.is c.run_arm.ensures.around))
        | run_arms-in-Open w ↦ rw w.opened-is (second_open (g.B.Reads.scene c.args.store.now).design (g.B.Reads.scene c.loop-arm.store).design c.loop-arm.opened (g.B.Bodies.around c.args.store.now) (g.B.Bodies.around c.loop-arm.store) (g.B.Bodies.around c.run_arm.new.store) h.design h.open_tests (subst (λ r. AreSecond (g.B.Reads.scene c.loop-arm.store).design (opened_by r) (g.B.Bodies.around c.loop-arm.store) (g.B.Bodies.around c.run_arm.new.store)) w.in-Open.is c.run_arm.ensures.around))
      ];
      rooms = arm_further (g.B.Bodies.rooms c.args.store.now) all (g.B.Bodies.rooms c.loop-arm.store) (g.B.Bodies.rooms c.run_arm.new.store) labels body later rooms c.run_arm.ensures.rooms;
      state = λ start. elim c.match-run_arm.branch [
        | run_arms-in-Next w ↦ rw (w.now-is, w.opened-is) (arms_next c.args.kind c.args.on.now c.args.run.mode c.args.run.first (g.B.Reads.scene c.args.store.now) (g.B.Bodies.queued c.args.store.now) (λ ms. g.N.Notes.noted start ms c.args.notes.now) (g.B.Bodies.around c.args.store.now) all c.loop-arm.now.mode c.loop-arm.now.first (g.B.Reads.scene c.loop-arm.store) (g.B.Reads.scene c.run_arm.new.store) (g.B.Bodies.queued c.loop-arm.store) (g.B.Bodies.queued c.run_arm.new.store) (λ ms. g.N.Notes.noted start ms c.loop-arm.notes) (λ ms. g.N.Notes.noted start ms c.run_arm.new.notes) (g.B.Bodies.around c.loop-arm.store) (g.B.Bodies.around c.run_arm.new.store) c.loop-arm.opened labels body later w.in-Next.next (subst (ArmsOn c.args.kind c.args.on.now c.args.run.mode c.args.run.first (g.B.Reads.scene c.args.store.now) (g.B.Bodies.queued c.args.store.now) (λ ms. g.N.Notes.noted start ms c.args.notes.now) (g.B.Bodies.around c.args.store.now) all c.loop-arm.now.mode c.loop-arm.now.first (g.B.Reads.scene c.loop-arm.store) (g.B.Bodies.queued c.loop-arm.store) (λ ms. g.N.Notes.noted start ms c.loop-arm.notes) (g.B.Bodies.around c.loop-arm.store) c.loop-arm.opened) next (h.state start)) (subst (ArmRuns c.args.kind c.args.on.now labels body c.loop-arm.now.mode c.loop-arm.now.first (g.B.Reads.scene c.loop-arm.store) (g.B.Bodies.queued c.loop-arm.store) (λ ms. g.N.Notes.noted start ms c.loop-arm.notes) (g.B.Bodies.around c.loop-arm.store) (g.B.Reads.scene c.run_arm.new.store) (g.B.Bodies.queued c.run_arm.new.store) (λ ms. g.N.Notes.noted start ms c.run_arm.new.notes) (g.B.Bodies.around c.run_arm.new.store)) w.in-Next.is (c.run_arm.ensures.state start)) (subst (λ r. AreSecond (g.B.Reads.scene c.loop-arm.store).design (opened_by r) (g.B.Bodies.around c.loop-arm.store) (g.B.Bodies.around c.run_arm.new.store)) w.in-Next.is c.run_arm.ensures.around))
        | run_arms-in-Open w ↦ rw (w.now-is, w.opened-is) (arms_open c.args.kind c.args.on.now c.args.run.mode c.args.run.first (g.B.Reads.scene c.args.store.now) (g.B.Bodies.queued c.args.store.now) (λ ms. g.N.Notes.noted start ms c.args.notes.now) (g.B.Bodies.around c.args.store.now) all c.loop-arm.now.mode c.loop-arm.now.first (g.B.Reads.scene c.loop-arm.store) (g.B.Reads.scene c.run_arm.new.store) (g.B.Bodies.queued c.loop-arm.store) (g.B.Bodies.queued c.run_arm.new.store) (λ ms. g.N.Notes.noted start ms c.loop-arm.notes) (λ ms. g.N.Notes.noted start ms c.run_arm.new.notes) (g.B.Bodies.around c.loop-arm.store) (g.B.Bodies.around c.run_arm.new.store) c.loop-arm.opened labels body later w.in-Open.next (subst (ArmsOn c.args.kind c.args.on.now c.args.run.mode c.args.run.first (g.B.Reads.scene c.args.store.now) (g.B.Bodies.queued c.args.store.now) (λ ms. g.N.Notes.noted start ms c.args.notes.now) (g.B.Bodies.around c.args.store.now) all c.loop-arm.now.mode c.loop-arm.now.first (g.B.Reads.scene c.loop-arm.store) (g.B.Bodies.queued c.loop-arm.store) (λ ms. g.N.Notes.noted start ms c.loop-arm.notes) (g.B.Bodies.around c.loop-arm.store) c.loop-arm.opened) next (h.state start)) (subst (ArmRuns c.args.kind c.args.on.now labels body c.loop-arm.now.mode c.loop-arm.now.first (g.B.Reads.scene c.loop-arm.store) (g.B.Bodies.queued c.loop-arm.store) (λ ms. g.N.Notes.noted start ms c.loop-arm.notes) (g.B.Bodies.around c.loop-arm.store) (g.B.Reads.scene c.run_arm.new.store) (g.B.Bodies.queued c.run_arm.new.store) (λ ms. g.N.Notes.noted start ms c.run_arm.new.notes) (g.B.Bodies.around c.run_arm.new.store)) w.in-Open.is (c.run_arm.ensures.state start)))
      ];
    }

pub run_default-run_statement-requires : goal.run_default-run_statement-requires
run_default-run_statement-requires g t c =
    let d = (g.B.Reads.scene c.args.store.now).design in
    let h = c.loop-arm.invariant in
    let x = c.arm-item.result in
    let labels = terms_of (map term_view x.labels.items) in
    let body = stmt_view x.body in
    let all = arms_of (map arm_view c.args.arms.now) in
    let rest = arms_of (map arm_view (drop c.loop-arm.arm-index c.args.arms.now)) in
    let later = arms_of (map arm_view (drop (c.loop-arm.arm-index + 1) c.args.arms.now)) in
    let next = arms_from c.args.arms.now c.loop-arm.arm-index x c.loop-arm-test.true c.arm-item.is in
    let here : is_default labels ≡ true = no_labels x.labels ∙ sym c.is_empty.ensures ∙ c.if-is_empty.true in
    let log_is = h.logs (g.B.Bodies.rooms c.args.store.now).takes ∙ logs_here labels body later rest next here (g.B.Bodies.rooms c.args.store.now).takes in
    let queue_is = h.queues ∙ queues_here labels body later rest next here in
    let arms = subst (AreArms d h.lawful.0 h.lawful.1) next h.lawful.2 in
    λ κs k. (search (rules, the_lemmas), (k.0, (k.1, (subst (λ z. is_body (g.B.Reads.scene z).design body ≡ true) (sym h.store) (first_body d h.lawful.0 h.lawful.1 labels body later arms.shaped), (subst (λ z. HasWidths (g.B.Reads.scene z).design) (sym h.store) c.requires.widths, (subst (λ z. HasRoomFor body (g.B.Bodies.around z) (g.B.Bodies.rooms z)) (sym h.store) (found_room all body (g.B.Bodies.around c.args.store.now) (g.B.Bodies.rooms c.args.store.now) log_is queue_is c.requires.room), (subst (λ (z : Queue Piece). z.items ≡ []) (sym h.pieces) c.requires.none, subst (λ (z : Queue Piece). 128 ≤ z.room) (sym h.pieces) c.requires.scratch)))))))

pub run_default-returns-then-is_empty-clause-state : goal.run_default-returns-then-is_empty-clause-state
run_default-returns-then-is_empty-clause-state g t c =
    let d = (g.B.Reads.scene c.args.store.now).design in
    let h = c.loop-arm.invariant in
    let x = c.arm-item.result in
    let labels = terms_of (map term_view x.labels.items) in
    let body = stmt_view x.body in
    let all = arms_of (map arm_view c.args.arms.now) in
    let rest = arms_of (map arm_view (drop c.loop-arm.arm-index c.args.arms.now)) in
    let later = arms_of (map arm_view (drop (c.loop-arm.arm-index + 1) c.args.arms.now)) in
    let next = arms_from c.args.arms.now c.loop-arm.arm-index x c.loop-arm-test.true c.arm-item.is in
    let here : is_default labels ≡ true = no_labels x.labels ∙ sym c.is_empty.ensures ∙ c.if-is_empty.true in
    let log_is = h.logs (g.B.Bodies.rooms c.args.store.now).takes ∙ logs_here labels body later rest next here (g.B.Bodies.rooms c.args.store.now).takes in
    let queue_is = h.queues ∙ queues_here labels body later rest next here in
    λ start e a k.
    let begun = subst (λ z. IsState e a c.args.run.first (g.B.Reads.scene z) (g.B.Bodies.queued z) (λ ms. g.N.Notes.noted start ms c.loop-arm.notes)) (sym h.store) (subst (λ z. IsState e a c.args.run.first (g.B.Reads.scene c.args.store.now) (g.B.Bodies.queued c.args.store.now) (λ ms. g.N.Notes.noted start ms z)) (sym h.notes) k) in
    subst (λ z. IsState e z c.run_statement.result (g.B.Reads.scene c.run_statement.new.store) (g.B.Bodies.queued c.run_statement.new.store) (λ ms. g.N.Notes.noted start ms c.run_statement.new.notes)) (sym (h.state e c.args.run.mode a ∙ run_here labels body later rest next here e c.args.run.mode a)) ((c.run_statement.ensures.state start) e a begun)

pub run_default-returns-then-is_empty-clause-design : goal.run_default-returns-then-is_empty-clause-design
run_default-returns-then-is_empty-clause-design g t c =
    c.run_statement.ensures.design ∙ ap (λ z. (g.B.Reads.scene z).design) c.loop-arm.invariant.store

pub run_default-returns-then-is_empty-clause-under : goal.run_default-returns-then-is_empty-clause-under
run_default-returns-then-is_empty-clause-under g t c =
    c.run_statement.ensures.under ∙ ap g.B.Bodies.under c.loop-arm.invariant.store

pub run_default-returns-then-is_empty-clause-around : goal.run_default-returns-then-is_empty-clause-around
run_default-returns-then-is_empty-clause-around g t c =
    c.run_statement.ensures.around ∙ ap g.B.Bodies.around c.loop-arm.invariant.store

pub run_default-returns-then-is_empty-clause-rooms : goal.run_default-returns-then-is_empty-clause-rooms
run_default-returns-then-is_empty-clause-rooms g t c =
    let d = (g.B.Reads.scene c.args.store.now).design in
    let h = c.loop-arm.invariant in
    let x = c.arm-item.result in
    let labels = terms_of (map term_view x.labels.items) in
    let body = stmt_view x.body in
    let all = arms_of (map arm_view c.args.arms.now) in
    let rest = arms_of (map arm_view (drop c.loop-arm.arm-index c.args.arms.now)) in
    let later = arms_of (map arm_view (drop (c.loop-arm.arm-index + 1) c.args.arms.now)) in
    let next = arms_from c.args.arms.now c.loop-arm.arm-index x c.loop-arm-test.true c.arm-item.is in
    let here : is_default labels ≡ true = no_labels x.labels ∙ sym c.is_empty.ensures ∙ c.if-is_empty.true in
    let log_is = h.logs (g.B.Bodies.rooms c.args.store.now).takes ∙ logs_here labels body later rest next here (g.B.Bodies.rooms c.args.store.now).takes in
    let queue_is = h.queues ∙ queues_here labels body later rest next here in
    found_leaves all body (g.B.Bodies.around c.args.store.now) (g.B.Bodies.rooms c.args.store.now) log_is queue_is (g.B.Bodies.rooms c.run_statement.new.store) (subst (λ z. LeavesBy body (g.B.Bodies.around z) (g.B.Bodies.rooms z) (g.B.Bodies.rooms c.run_statement.new.store)) h.store c.run_statement.ensures.rooms)

pub run_default-returns-then-is_empty-clause-pieces : goal.run_default-returns-then-is_empty-clause-pieces
run_default-returns-then-is_empty-clause-pieces g t c =
    c.run_statement.ensures.pieces ∙ c.loop-arm.invariant.pieces

pub run_default-returns-clause-state : goal.run_default-returns-clause-state
run_default-returns-clause-state g t c =
    let h = c.loop-arm.invariant in
    let end : arms_of (map arm_view (drop c.loop-arm.arm-index c.args.arms.now)) ≡ tree.no_arms = at_drop_all (λ ys. arms_of (map arm_view ys)) c.args.arms.now c.loop-arm.arm-index (omega arith) in
    λ start e a k.
    let last = subst (λ z. IsState e a c.args.run.first (g.B.Reads.scene z) (g.B.Bodies.queued z) (λ ms. g.N.Notes.noted start ms c.loop-arm.notes)) (sym h.store) (subst (λ z. IsState e a c.args.run.first (g.B.Reads.scene c.args.store.now) (g.B.Bodies.queued c.args.store.now) (λ ms. g.N.Notes.noted start ms z)) (sym h.notes) k) in
    subst (λ z. IsState e z c.args.run.first (g.B.Reads.scene c.loop-arm.store) (g.B.Bodies.queued c.loop-arm.store) (λ ms. g.N.Notes.noted start ms c.loop-arm.notes)) (sym (h.state e c.args.run.mode a ∙ ap (λ x. run_default e x c.args.run.mode a) end)) last

pub run_default-returns-clause-design : goal.run_default-returns-clause-design
run_default-returns-clause-design g t c =
    ap (λ z. (g.B.Reads.scene z).design) c.loop-arm.invariant.store

pub run_default-returns-clause-under : goal.run_default-returns-clause-under
run_default-returns-clause-under g t c =
    ap g.B.Bodies.under c.loop-arm.invariant.store

pub run_default-returns-clause-around : goal.run_default-returns-clause-around
run_default-returns-clause-around g t c =
    ap g.B.Bodies.around c.loop-arm.invariant.store

pub run_default-returns-clause-rooms : goal.run_default-returns-clause-rooms
run_default-returns-clause-rooms g t c =
    subst (λ z. Leaves (default_logs (g.B.Bodies.rooms c.args.store.now).takes (arms_of (map arm_view c.args.arms.now))) (default_queues (arms_of (map arm_view c.args.arms.now))) (g.B.Bodies.rooms c.args.store.now) (g.B.Bodies.rooms z)) (sym c.loop-arm.invariant.store) (leaves_same (default_logs (g.B.Bodies.rooms c.args.store.now).takes (arms_of (map arm_view c.args.arms.now))) (default_queues (arms_of (map arm_view c.args.arms.now))) (g.B.Bodies.rooms c.args.store.now))

pub run_default-returns-clause-pieces : goal.run_default-returns-clause-pieces
run_default-returns-clause-pieces g t c =
    c.loop-arm.invariant.pieces

pub run_default-loop-arm-preserved : goal.run_default-loop-arm-preserved
run_default-loop-arm-preserved g t c =
    let d = (g.B.Reads.scene c.args.store.now).design in
    let h = c.loop-arm.invariant in
    let x = c.arm-item.result in
    let labels = terms_of (map term_view x.labels.items) in
    let body = stmt_view x.body in
    let all = arms_of (map arm_view c.args.arms.now) in
    let rest = arms_of (map arm_view (drop c.loop-arm.arm-index c.args.arms.now)) in
    let later = arms_of (map arm_view (drop (c.loop-arm.arm-index + 1) c.args.arms.now)) in
    let next = arms_from c.args.arms.now c.loop-arm.arm-index x c.loop-arm-test.true c.arm-item.is in
    let there : is_default labels ≡ false = no_labels x.labels ∙ sym c.is_empty.ensures ∙ c.if-is_empty.false in
    let arms = subst (AreArms d h.lawful.0 h.lawful.1) next h.lawful.2 in
    record {
      store = h.store;
      notes = h.notes;
      pieces = h.pieces;
      lawful = (h.lawful.0, h.lawful.1, later_arms d h.lawful.0 h.lawful.1 labels body later arms);
      logs = λ f. h.logs f ∙ logs_there labels body later rest next there f;
      queues = h.queues ∙ queues_there labels body later rest next there;
      state = λ e mode a. h.state e mode a ∙ run_there labels body later rest next there e mode a;
    }
