use Rattle.std.proofs.Common.{◌≡◌, ◌+◌, ◌*◌, ◌++◌, drop, map}
use Rattle.design_model.specs.View.{arms_of, stmt_view, stmts_of}
use Rattle.design_model.specs.declared.tree.Stmt.{size-Stmt}
use Rattle.design_targets.specs.Leaves.{all_leaves, arms_leaves, leaf_view}
use Rattle.process_names.specs.Names.{arm_view}
use Rattle.design_targets.proofs.leaves.+statements.Given as goal

-- the parts so far, with those of the rest, are those of all statements
abbrev pub invariant-push_stmts-loop-stmt : goal.invariant-push_stmts-loop-stmt
invariant-push_stmts-loop-stmt l =
    map leaf_view l.found.items ++ all_leaves l.blocking (stmts_of (map stmt_view (drop l.stmt-index l.stmts))) ≡ map leaf_view l.fn.found.items ++ all_leaves l.fn.blocking (stmts_of (map stmt_view l.fn.stmts))

-- or of all arms
abbrev pub invariant-push_arms-loop-arm : goal.invariant-push_arms-loop-arm
invariant-push_arms-loop-arm l =
    map leaf_view l.found.items ++ arms_leaves l.blocking (arms_of (map arm_view (drop l.arm-index l.arms))) ≡ map leaf_view l.fn.found.items ++ arms_leaves l.fn.blocking (arms_of (map arm_view l.fn.arms))

-- each call is of a part
abbrev pub decreases-push_stmt : goal.decreases-push_stmt
decreases-push_stmt l = 2 * size-Stmt l.stmt.now

abbrev pub decreases-push_stmts : goal.decreases-push_stmts
decreases-push_stmts l = 2 * goal.size-push_stmts l + 1

abbrev pub decreases-push_arms : goal.decreases-push_arms
decreases-push_arms l = 2 * goal.size-push_arms l + 1
