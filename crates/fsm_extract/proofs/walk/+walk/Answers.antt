use Rattle.std.proofs.Common.{◌≡◌, ◌∙◌, ◌++◌, ◌+◌, ap, ap₂, append_assoc, drop, map, rules, subst, sym, take, true}
use Rattle.std.proofs.lemmas.Bool.{and_parts}
use Rattle.design_model.specs.Shape.{all_signed_of, are_bodies, is_body, own_sign, own_width, widest_of}
use Rattle.design_model.specs.Tree as tree
use Rattle.design_model.specs.View.{arms_of, design_view, stmt_view, stmts_of, term_view, terms_of}
use Rattle.design_model.specs.declared.tree.Stmt.{the_lemmas}
use Rattle.scene_laws.specs.Contexts.{AreArms, AreLabels}
use Rattle.scene_laws.proofs.BodyContexts.{first_body, first_labels, in_arms, later_arms}
use Rattle.fsm_extract.specs.Views.{arm_view}
use Rattle.fsm_extract.specs.Walked.{all_arcs_in, all_states_in, arcs_in, arms_arcs, arms_states, opened, states_in}
use Rattle.fsm_extract.proofs.Views.{arms_from, case_view, further, stmts_from, take_back}
use Rattle.fsm_extract.proofs.walk.+walk.Goals as goal

pub walk_stmt-walk_arms-requires : goal.walk_stmt-walk_arms-requires
walk_stmt-walk_arms-requires t c =
    let d = design_view c.args.machine.now.constants.design.now in
    let is = case_view c.args.stmt.now c.in-Case.line c.in-Case.kind c.in-Case.on c.in-Case.arms (sym c.deref.ensures ∙ c.in-Case.is) ∙ ap (λ xs. tree.select c.args.stmt.now.place c.in-Case.line c.in-Case.kind (term_view c.in-Case.on) (arms_of (map arm_view xs))) (sym c.deref-in-Case.ensures.value) in
    let arms = arms_of (map arm_view c.deref-in-Case.result.now) in
    let on = term_view c.in-Case.on in
    let placed = in_arms d on arms (subst (λ s. is_body d s ≡ true) is c.requires) in
    (search (rules, the_lemmas), (widest_of d (own_width d on) arms, all_signed_of d (own_sign d on) arms, placed))

pub walk_arms-walk_arm-requires : goal.walk_arms-walk_arm-requires
walk_arms-walk_arm-requires t c =
    let d = design_view c.args.machine.now.constants.design.now in
    let h = c.loop-arm.invariant.shaped in
    let x = c.arm-item.result in
    let labels = terms_of (map term_view x.labels.items) in
    let body = stmt_view x.body in
    let later = arms_of (map arm_view (drop (c.loop-arm.arm-index + 1) c.args.arms.now)) in
    let next = arms_from c.args.arms.now c.loop-arm.arm-index x c.loop-arm-test.true c.arm-item.is in
    let placed : AreArms d h.0 h.1 (tree.arm labels body later) = subst (AreArms d h.0 h.1) next h.2 in
    let given = subst (λ xs. AreLabels d h.0 h.1 (terms_of (map term_view xs))) (sym c.deref.ensures.value) (first_labels d h.0 h.1 labels body later placed) in
    (search (rules, the_lemmas), ((h.0, h.1, given), first_body d h.0 h.1 labels body later placed.shaped))

pub walk_stmts-loop-stmt-preserved : goal.walk_stmts-loop-stmt-preserved
walk_stmts-loop-stmt-preserved t c =
    let m = c.args.machine.now in
    let d = design_view m.constants.design.now in
    let h = c.loop-stmt.invariant in
    let x = c.stmt-item.result in
    let around = c.args.found.now.around.items in
    let rest = stmts_of (map stmt_view (drop c.loop-stmt.stmt-index c.args.stmts.now)) in
    let later = stmts_of (map stmt_view (drop (c.loop-stmt.stmt-index + 1) c.args.stmts.now)) in
    let all = stmts_of (map stmt_view c.args.stmts.now) in
    let next = stmts_from c.args.stmts.now c.loop-stmt.stmt-index x c.loop-stmt-test.true c.stmt-item.is in
    let both = and_parts (is_body d (stmt_view x)) (are_bodies d later) (ap (are_bodies d) (sym next) ∙ h.shaped) in
    let e = c.in_ok-walk_stmt.ensures in
    record {
      around = e.around ∙ h.around;
      arcs = further c.loop-stmt.found.arcs.items c.walk_stmt.new.found.arcs.items (arcs_in d m.current m.next around (stmt_view x)) (all_arcs_in d m.current m.next around later) (all_arcs_in d m.current m.next around rest) (c.args.found.now.arcs.items ++ all_arcs_in d m.current m.next around all) (e.arcs ∙ ap (λ xs. c.loop-stmt.found.arcs.items ++ arcs_in d m.current m.next xs (stmt_view x)) h.around) (ap (all_arcs_in d m.current m.next around) next) h.arcs;
      states = further c.loop-stmt.found.states.items c.walk_stmt.new.found.states.items (states_in d m.current (stmt_view x)) (all_states_in d m.current later) (all_states_in d m.current rest) (c.args.found.now.states.items ++ all_states_in d m.current all) e.states (ap (all_states_in d m.current) next) h.states;
      shaped = both.1;
    }

pub walk_arms-loop-arm-preserved : goal.walk_arms-loop-arm-preserved
walk_arms-loop-arm-preserved t c =
    let m = c.args.machine.now in
    let d = design_view m.constants.design.now in
    let over = c.args.over in
    let h = c.loop-arm.invariant in
    let w = h.shaped.0 in
    let g = h.shaped.1 in
    let x = c.arm-item.result in
    let labels = terms_of (map term_view x.labels.items) in
    let body = stmt_view x.body in
    let around = c.args.found.now.around.items in
    let rest = arms_of (map arm_view (drop c.loop-arm.arm-index c.args.arms.now)) in
    let later = arms_of (map arm_view (drop (c.loop-arm.arm-index + 1) c.args.arms.now)) in
    let all = arms_of (map arm_view c.args.arms.now) in
    let next = arms_from c.args.arms.now c.loop-arm.arm-index x c.loop-arm-test.true c.arm-item.is in
    let e = c.in_ok-walk_arm.ensures in
    let before = c.loop-arm.found in
    let now = c.walk_arm.new.found in
    let arcs = e.arcs ∙ ap₂ (λ xs ys. before.arcs.items ++ arcs_in d m.current m.next (xs ++ opened d m.current over (terms_of (map term_view ys))) body) h.around c.deref.ensures.value in
    let states = e.states ∙ append_assoc before.states.items (opened d m.current over (terms_of (map term_view c.deref.result.now))) (states_in d m.current body) ∙ ap (λ ys. before.states.items ++ (opened d m.current over (terms_of (map term_view ys)) ++ states_in d m.current body)) c.deref.ensures.value in
    record {
      around = e.around ∙ h.around;
      arcs = further before.arcs.items now.arcs.items (arcs_in d m.current m.next (around ++ opened d m.current over labels) body) (arms_arcs d m.current m.next over around later) (arms_arcs d m.current m.next over around rest) (c.args.found.now.arcs.items ++ arms_arcs d m.current m.next over around all) arcs (ap (arms_arcs d m.current m.next over around) next) h.arcs;
      states = further before.states.items now.states.items (opened d m.current over labels ++ states_in d m.current body) (arms_states d m.current over later) (arms_states d m.current over rest) (c.args.found.now.states.items ++ arms_states d m.current over all) states (ap (arms_states d m.current over) next) h.states;
      shaped = (w, g, later_arms d w g labels body later (subst (AreArms d w g) next h.shaped.2));
    }

pub walk_arm-returns-clause-around : goal.walk_arm-returns-clause-around
walk_arm-returns-clause-around t c =
    let m = c.args.machine.now in
    let d = design_view m.constants.design.now in
    let old = c.args.found.now.around.items in
    let values = opened d m.current c.args.over (terms_of (map term_view c.args.labels.now)) in
    c.truncate.ensures.items ∙ ap₂ (λ n xs. take n xs) (c.len-outside.ensures ∙ c.args.found.now.around.ok.0) (c.in_ok-walk_stmt.ensures.around ∙ c.in_ok-open_labels.ensures.around) ∙ take_back old values

pub walk_arm-returns-clause-arcs : goal.walk_arm-returns-clause-arcs
walk_arm-returns-clause-arcs t c =
    let m = c.args.machine.now in
    let d = design_view m.constants.design.now in
    c.in_ok-walk_stmt.ensures.arcs ∙ ap₂ (λ xs ys. xs ++ arcs_in d m.current m.next ys (stmt_view c.args.body.now)) c.in_ok-open_labels.ensures.arcs c.in_ok-open_labels.ensures.around
