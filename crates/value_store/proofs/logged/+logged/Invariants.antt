use Rattle.std.proofs.Common.{◌≡◌, ◌<◌, ◌^◌, ◌+◌, ◌*◌, drop, map}
use Rattle.design_model.specs.View.{arms_of, design_view, stmt_view, stmts_of}
use Rattle.design_model.specs.declared.tree.Stmt.{size-Stmt}
use Rattle.value_store.specs.Rooms.{all_logged, arm_view, arms_logged, as_usize, log_takes}
use Rattle.value_store.proofs.logged.+logged.Given as goal

-- the number so far, with those of the rest, is that of all statements
abbrev pub invariant-with_stmts-loop-stmt : goal.invariant-with_stmts-loop-stmt
invariant-with_stmts-loop-stmt l =
    record { sum : as_usize (l.total + all_logged (log_takes (design_view l.design)) l.inside (stmts_of (map stmt_view (drop l.stmt-index l.stmts)))) ≡ as_usize (l.count + all_logged (log_takes (design_view l.design)) l.inside (stmts_of (map stmt_view l.stmts))); small : l.total < 2 ^ 64 }

-- or of all arms
abbrev pub invariant-with_arms-loop-arm : goal.invariant-with_arms-loop-arm
invariant-with_arms-loop-arm l =
    record { sum : as_usize (l.total + arms_logged (log_takes (design_view l.design)) (arms_of (map arm_view (drop l.arm-index l.arms)))) ≡ as_usize (l.count + arms_logged (log_takes (design_view l.design)) (arms_of (map arm_view l.arms))); small : l.total < 2 ^ 64 }

-- each call is of a part
abbrev pub decreases-with_stmt : goal.decreases-with_stmt
decreases-with_stmt l = 2 * size-Stmt l.stmt.now

abbrev pub decreases-with_stmts : goal.decreases-with_stmts
decreases-with_stmts l = 2 * goal.size-with_stmts l + 1

abbrev pub decreases-with_arms : goal.decreases-with_arms
decreases-with_arms l = 2 * goal.size-with_arms l + 1
