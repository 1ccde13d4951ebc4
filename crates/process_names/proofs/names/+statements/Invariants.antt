use Rattle.std.proofs.Common.{◌≡◌, ◌+◌, ◌*◌, ◌++◌, drop, map}
use Rattle.design_model.specs.View.{arms_of, stmt_view, stmts_of}
use Rattle.design_model.specs.declared.tree.Stmt.{size-Stmt}
use Rattle.process_names.specs.Names.{all_body_names, arm_names, arm_view, default_names}
use Rattle.process_names.proofs.names.+statements.Given as goal

-- the names so far, with those of the rest, are those of all statements
abbrev pub invariant-push_stmts-loop-stmt : goal.invariant-push_stmts-loop-stmt
invariant-push_stmts-loop-stmt l =
    l.found.items ++ all_body_names (stmts_of (map stmt_view (drop l.stmt-index l.stmts))) ≡ l.fn.found.items ++ all_body_names (stmts_of (map stmt_view l.fn.stmts))

-- or of all arms
abbrev pub invariant-push_arms-loop-arm : goal.invariant-push_arms-loop-arm
invariant-push_arms-loop-arm l =
    l.found.items ++ arm_names (arms_of (map arm_view (drop l.arm-index l.arms))) ≡ l.fn.found.items ++ arm_names (arms_of (map arm_view l.fn.arms))

-- or of all arms without labels
abbrev pub invariant-push_default-loop-arm : goal.invariant-push_default-loop-arm
invariant-push_default-loop-arm l =
    l.found.items ++ default_names (arms_of (map arm_view (drop l.arm-index l.arms))) ≡ l.fn.found.items ++ default_names (arms_of (map arm_view l.fn.arms))

-- each call is of a part
abbrev pub decreases-push_stmt : goal.decreases-push_stmt
decreases-push_stmt l = 2 * size-Stmt l.stmt.now

abbrev pub decreases-push_stmts : goal.decreases-push_stmts
decreases-push_stmts l = 2 * goal.size-push_stmts l + 1

abbrev pub decreases-push_arms : goal.decreases-push_arms
decreases-push_arms l = 2 * goal.size-push_arms l + 1

abbrev pub decreases-push_default : goal.decreases-push_default
decreases-push_default l = 2 * goal.size-push_default l + 1
