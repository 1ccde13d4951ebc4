use Rattle.std.proofs.Common.{◌≡◌, ◌+◌, ◌*◌, ◌++◌, ℕ, Bool, true, drop, map}
use Rattle.design_model.specs.Shape.{are_bodies}
use Rattle.design_model.specs.View.{arms_of, design_view, stmt_view, stmts_of}
use Rattle.design_model.specs.declared.tree.Stmt.{size-Stmt}
use Rattle.scene_laws.specs.Contexts.{AreArms}
use Rattle.fsm_extract.specs.Views.{arm_view}
use Rattle.fsm_extract.specs.Walked.{all_arcs_in, all_states_in, arms_arcs, arms_states}
use Rattle.fsm_extract.proofs.walk.+walk.Given as goal

-- what was found so far, with what is in the rest, is what is in all statements, and the rest have their shapes
abbrev pub invariant-walk_stmts-loop-stmt : goal.invariant-walk_stmts-loop-stmt
invariant-walk_stmts-loop-stmt l =
    record {
      around : l.found.around.items ≡ l.fn.found.around.items;
      arcs : l.found.arcs.items ++ all_arcs_in (design_view l.machine.constants.design.now) l.machine.current l.machine.next l.fn.found.around.items (stmts_of (map stmt_view (drop l.stmt-index l.stmts))) ≡ l.fn.found.arcs.items ++ all_arcs_in (design_view l.machine.constants.design.now) l.machine.current l.machine.next l.fn.found.around.items (stmts_of (map stmt_view l.fn.stmts));
      states : l.found.states.items ++ all_states_in (design_view l.machine.constants.design.now) l.machine.current (stmts_of (map stmt_view (drop l.stmt-index l.stmts))) ≡ l.fn.found.states.items ++ all_states_in (design_view l.machine.constants.design.now) l.machine.current (stmts_of (map stmt_view l.fn.stmts));
      shaped : are_bodies (design_view l.machine.constants.design.now) (stmts_of (map stmt_view (drop l.stmt-index l.stmts))) ≡ true;
    }

-- what was found so far, with what is in the rest, is what is in all arms, and the rest are in their context
abbrev pub invariant-walk_arms-loop-arm : goal.invariant-walk_arms-loop-arm
invariant-walk_arms-loop-arm l =
    record {
      around : l.found.around.items ≡ l.fn.found.around.items;
      arcs : l.found.arcs.items ++ arms_arcs (design_view l.machine.constants.design.now) l.machine.current l.machine.next l.over l.fn.found.around.items (arms_of (map arm_view (drop l.arm-index l.arms))) ≡ l.fn.found.arcs.items ++ arms_arcs (design_view l.machine.constants.design.now) l.machine.current l.machine.next l.over l.fn.found.around.items (arms_of (map arm_view l.fn.arms));
      states : l.found.states.items ++ arms_states (design_view l.machine.constants.design.now) l.machine.current l.over (arms_of (map arm_view (drop l.arm-index l.arms))) ≡ l.fn.found.states.items ++ arms_states (design_view l.machine.constants.design.now) l.machine.current l.over (arms_of (map arm_view l.fn.arms));
      shaped : (width : ℕ) × (signed : Bool) × AreArms (design_view l.machine.constants.design.now) width signed (arms_of (map arm_view (drop l.arm-index l.arms)));
    }

-- each call is of a part
abbrev pub decreases-walk_stmt : goal.decreases-walk_stmt
decreases-walk_stmt l = 4 * size-Stmt l.stmt.now

abbrev pub decreases-walk_stmts : goal.decreases-walk_stmts
decreases-walk_stmts l = 4 * goal.size-walk_stmts l + 1

abbrev pub decreases-walk_arms : goal.decreases-walk_arms
decreases-walk_arms l = 4 * goal.size-walk_arms l + 2

abbrev pub decreases-walk_arm : goal.decreases-walk_arm
decreases-walk_arm l = 4 * size-Stmt l.body.now + 1
