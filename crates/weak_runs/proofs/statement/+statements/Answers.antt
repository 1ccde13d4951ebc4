use Rattle.std.proofs.Common.{ap, arith, drop, map, refl, rules, subst, sym, true, ◌&&◌, ◌+◌, ◌∙◌, ◌≡◌, ◌≤◌}
use Rattle.std.proofs.lemmas.Bool.{and_parts}
use Rattle.std.proofs.lemmas.List.{at_drop_all}
use Rattle.design_model.specs.Shape.{all_signed_of, are_bodies, are_shaped, is_arms, is_body, own_sign, own_width, widest_of}
use Rattle.design_model.specs.Tree as tree
use Rattle.design_model.specs.View.{arms_of, stmt_view, stmts_of, term_view, terms_of}
use Rattle.design_model.specs.declared.tree.Stmt.{the_lemmas}
use Rattle.value_store.specs.body_replay.Contract.{weak_queue, weak_queue_in, weak_queue_of, weak_writes, weak_writes_in, weak_writes_of}
use Rattle.value_store.specs.Rooms.{arm_view}
use Rattle.open_tests.proofs.scene_laws.BodyContexts.{in_arms}
use Rattle.open_tests.specs.Views.{else_view}
use Rattle.open_tests.specs.Weights.{all_queues, arms_queues, queues}
use Rattle.open_tests.proofs.Cases.{arms_from}
use Rattle.open_tests.proofs.Views.{case_view, stmts_from}
use Rattle.weak_runs.specs.Makes.{Makes, at}
use Rattle.weak_runs.proofs.Making.{GoesOn, goes_end, goes_further, makes_then}
use Rattle.weak_runs.proofs.statement.+statements.Goals as goal

pub write_stmt-write_arms-requires : goal.write_stmt-write_arms-requires
write_stmt-write_arms-requires g t c =
    let d = (g.S.Reads.scene c.args.store.now).design in
    let is = case_view c.args.stmt.now c.in-Case.line c.in-Case.kind c.in-Case.on c.in-Case.arms (sym c.deref.ensures ∙ c.in-Case.is) ∙ ap (λ xs. tree.select c.args.stmt.now.place c.in-Case.line c.in-Case.kind (term_view c.in-Case.on) (arms_of (map arm_view xs))) (sym c.deref-in-Case.ensures.value) in
    let arms = arms_of (map arm_view c.deref-in-Case.result.now) in
    let on = term_view c.in-Case.on in
    let lawful = in_arms d on arms (subst (λ s. is_body d s ≡ true) is c.requires.lawful) in
    λ κs k. (search (rules, the_lemmas), (k, ((widest_of d (own_width d on) arms, all_signed_of d (own_sign d on) arms, lawful.shaped), (c.requires.widths, (c.requires.outside, (subst (λ s. queues s ≤ (g.S.Bodies.rooms c.args.store.now).queue) is c.requires.room, (c.requires.none, c.requires.scratch)))))))

pub write_all-loop-stmt-preserved : goal.write_all-loop-stmt-preserved
write_all-loop-stmt-preserved g t c =
    let d = (g.S.Reads.scene c.args.store.now).design in
    let h = c.loop-stmt.invariant in
    let x = c.stmt-item.result in
    let all = stmts_of (map stmt_view c.args.stmts.now) in
    let later = stmts_of (map stmt_view (drop (c.loop-stmt.stmt-index + 1) c.args.stmts.now)) in
    let next = stmts_from c.args.stmts.now c.loop-stmt.stmt-index x c.loop-stmt-test.true c.stmt-item.is in
    let both = and_parts (is_body d (stmt_view x)) (are_bodies d later) (ap (are_bodies d) (sym next) ∙ h.lawful) in
    let before = at (g.S.Bodies.under c.args.store.now) (g.S.Reads.scene c.args.store.now) (g.S.Bodies.queued c.args.store.now) (g.S.Bodies.around c.args.store.now) (g.S.Bodies.rooms c.args.store.now) in
    let now = at (g.S.Bodies.under c.loop-stmt.store) (g.S.Reads.scene c.loop-stmt.store) (g.S.Bodies.queued c.loop-stmt.store) (g.S.Bodies.around c.loop-stmt.store) (g.S.Bodies.rooms c.loop-stmt.store) in
    let after = at (g.S.Bodies.under c.write_stmt.new.store) (g.S.Reads.scene c.write_stmt.new.store) (g.S.Bodies.queued c.write_stmt.new.store) (g.S.Bodies.around c.write_stmt.new.store) (g.S.Bodies.rooms c.write_stmt.new.store) in
    let goes = subst (λ ss. GoesOn (weak_writes_of d all) (weak_queue_of d all) (all_queues all) before now (weak_writes_of d ss) (weak_queue_of d ss) (all_queues ss)) next h.goes in
    let made = subst (λ e. Makes (weak_writes e (stmt_view x)) (weak_queue e (stmt_view x)) (queues (stmt_view x)) now after) h.goes.design c.write_stmt.ensures.makes in
    record {
      lawful = both.1;
      pieces = c.write_stmt.ensures.pieces ∙ h.pieces;
      goes = goes_further (weak_writes_of d all) (weak_queue_of d all) (all_queues all) before now after (weak_writes d (stmt_view x)) (weak_queue d (stmt_view x)) (weak_writes_of d later) (weak_queue_of d later) (queues (stmt_view x)) (all_queues later) (queues (stmt_view x) + all_queues later) refl goes made;
    }

pub write_all-returns-clause-makes : goal.write_all-returns-clause-makes
write_all-returns-clause-makes g t c =
    let d = (g.S.Reads.scene c.args.store.now).design in
    let all = stmts_of (map stmt_view c.args.stmts.now) in
    let end : stmts_of (map stmt_view (drop c.loop-stmt.stmt-index c.args.stmts.now)) ≡ tree.no_stmts = at_drop_all (λ ys. stmts_of (map stmt_view ys)) c.args.stmts.now c.loop-stmt.stmt-index (omega arith) in
    let before = at (g.S.Bodies.under c.args.store.now) (g.S.Reads.scene c.args.store.now) (g.S.Bodies.queued c.args.store.now) (g.S.Bodies.around c.args.store.now) (g.S.Bodies.rooms c.args.store.now) in
    let now = at (g.S.Bodies.under c.loop-stmt.store) (g.S.Reads.scene c.loop-stmt.store) (g.S.Bodies.queued c.loop-stmt.store) (g.S.Bodies.around c.loop-stmt.store) (g.S.Bodies.rooms c.loop-stmt.store) in
    goes_end (weak_writes_of d all) (weak_queue_of d all) (all_queues all) before now (subst (λ ss. GoesOn (weak_writes_of d all) (weak_queue_of d all) (all_queues all) before now (weak_writes_of d ss) (weak_queue_of d ss) (all_queues ss)) end c.loop-stmt.invariant.goes)

pub write_if-returns-clause-makes : goal.write_if-returns-clause-makes
write_if-returns-clause-makes g t c =
    let d = (g.S.Reads.scene c.args.store.now).design in
    let yes = stmt_view c.args.yes.now in
    let no = else_view c.args.no.now in
    let before = at (g.S.Bodies.under c.args.store.now) (g.S.Reads.scene c.args.store.now) (g.S.Bodies.queued c.args.store.now) (g.S.Bodies.around c.args.store.now) (g.S.Bodies.rooms c.args.store.now) in
    let now = at (g.S.Bodies.under c.write_stmt.new.store) (g.S.Reads.scene c.write_stmt.new.store) (g.S.Bodies.queued c.write_stmt.new.store) (g.S.Bodies.around c.write_stmt.new.store) (g.S.Bodies.rooms c.write_stmt.new.store) in
    let after = at (g.S.Bodies.under c.write_else.new.store) (g.S.Reads.scene c.write_else.new.store) (g.S.Bodies.queued c.write_else.new.store) (g.S.Bodies.around c.write_else.new.store) (g.S.Bodies.rooms c.write_else.new.store) in
    makes_then (weak_writes d yes) (weak_queue d yes) (weak_writes_of d no) (weak_queue_of d no) (queues yes) (all_queues no) (0 + queues yes + all_queues no) before now after (omega arith) c.write_stmt.ensures.makes
    (subst (λ e. Makes (weak_writes_of e no) (weak_queue_of e no) (all_queues no) now after) c.write_stmt.ensures.makes.design c.write_else.ensures.makes)

pub write_arms-loop-arm-preserved : goal.write_arms-loop-arm-preserved
write_arms-loop-arm-preserved g t c =
    let d = (g.S.Reads.scene c.args.store.now).design in
    let h = c.loop-arm.invariant in
    let x = c.arm-item.result in
    let labels = terms_of (map term_view x.labels.items) in
    let body = stmt_view x.body in
    let all = arms_of (map arm_view c.args.arms.now) in
    let later = arms_of (map arm_view (drop (c.loop-arm.arm-index + 1) c.args.arms.now)) in
    let next = arms_from c.args.arms.now c.loop-arm.arm-index x c.loop-arm-test.true c.arm-item.is in
    let w = h.lawful.0 in
    let signed = h.lawful.1 in
    let rest = and_parts (are_shaped d w signed labels && is_body d body) (is_arms d w signed later) (ap (is_arms d w signed) (sym next) ∙ h.lawful.2) in
    let before = at (g.S.Bodies.under c.args.store.now) (g.S.Reads.scene c.args.store.now) (g.S.Bodies.queued c.args.store.now) (g.S.Bodies.around c.args.store.now) (g.S.Bodies.rooms c.args.store.now) in
    let now = at (g.S.Bodies.under c.loop-arm.store) (g.S.Reads.scene c.loop-arm.store) (g.S.Bodies.queued c.loop-arm.store) (g.S.Bodies.around c.loop-arm.store) (g.S.Bodies.rooms c.loop-arm.store) in
    let after = at (g.S.Bodies.under c.write_stmt.new.store) (g.S.Reads.scene c.write_stmt.new.store) (g.S.Bodies.queued c.write_stmt.new.store) (g.S.Bodies.around c.write_stmt.new.store) (g.S.Bodies.rooms c.write_stmt.new.store) in
    let goes = subst (λ xs. GoesOn (weak_writes_in d all) (weak_queue_in d all) (arms_queues all) before now (weak_writes_in d xs) (weak_queue_in d xs) (arms_queues xs)) next h.goes in
    let made = subst (λ e. Makes (weak_writes e body) (weak_queue e body) (queues body) now after) h.goes.design c.write_stmt.ensures.makes in
    record {
      lawful = (w, signed, rest.1);
      pieces = c.write_stmt.ensures.pieces ∙ h.pieces;
      goes = goes_further (weak_writes_in d all) (weak_queue_in d all) (arms_queues all) before now after (weak_writes d body) (weak_queue d body) (weak_writes_in d later) (weak_queue_in d later) (queues body) (arms_queues later) (0 + queues body + arms_queues later) (omega arith) goes made;
    }

pub write_arms-returns-clause-makes : goal.write_arms-returns-clause-makes
write_arms-returns-clause-makes g t c =
    let d = (g.S.Reads.scene c.args.store.now).design in
    let all = arms_of (map arm_view c.args.arms.now) in
    let end : arms_of (map arm_view (drop c.loop-arm.arm-index c.args.arms.now)) ≡ tree.no_arms = at_drop_all (λ ys. arms_of (map arm_view ys)) c.args.arms.now c.loop-arm.arm-index (omega arith) in
    let before = at (g.S.Bodies.under c.args.store.now) (g.S.Reads.scene c.args.store.now) (g.S.Bodies.queued c.args.store.now) (g.S.Bodies.around c.args.store.now) (g.S.Bodies.rooms c.args.store.now) in
    let now = at (g.S.Bodies.under c.loop-arm.store) (g.S.Reads.scene c.loop-arm.store) (g.S.Bodies.queued c.loop-arm.store) (g.S.Bodies.around c.loop-arm.store) (g.S.Bodies.rooms c.loop-arm.store) in
    goes_end (weak_writes_in d all) (weak_queue_in d all) (arms_queues all) before now (subst (λ xs. GoesOn (weak_writes_in d all) (weak_queue_in d all) (arms_queues all) before now (weak_writes_in d xs) (weak_queue_in d xs) (arms_queues xs)) end c.loop-arm.invariant.goes)
