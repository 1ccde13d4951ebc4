use Rattle.std.proofs.Common.{◌≡◌, ◌+◌, ◌*◌, map, max, take}
use Rattle.design_model.specs.View.{stmt_view}
use Rattle.design_model.specs.declared.tree.CaseArm.{size-CaseArm}
use Rattle.design_model.specs.declared.tree.Stmt.{size-Stmt}
use Rattle.process_copies.specs.Views.{arm_view}
use Rattle.process_copies.proofs.statements.+statements.Given as goal

-- the copies so far are those of the front
abbrev pub invariant-copy_stmts-loop-stmt : goal.invariant-copy_stmts-loop-stmt
invariant-copy_stmts-loop-stmt l = map stmt_view l.copies.items ≡ map stmt_view (take l.stmt-index l.stmts)

abbrev pub invariant-copy_arms-loop-arm : goal.invariant-copy_arms-loop-arm
invariant-copy_arms-loop-arm l = map arm_view l.copies.items ≡ map arm_view (take l.arm-index l.arms)

-- each call is of a part, or of the same parts by a function further down
abbrev pub decreases-copy_stmt : goal.decreases-copy_stmt
decreases-copy_stmt l = 4 * size-Stmt l.stmt.now

abbrev pub decreases-copy_stmts : goal.decreases-copy_stmts
decreases-copy_stmts l = 4 * goal.size-copy_stmts l + 1

abbrev pub decreases-copy_other : goal.decreases-copy_other
decreases-copy_other l = 4 * goal.size-copy_other l + 1

abbrev pub decreases-copy_branch : goal.decreases-copy_branch
decreases-copy_branch l = 4 * max (size-Stmt l.yes.now) (goal.size-copy_branch l) + 2

abbrev pub decreases-copy_arm : goal.decreases-copy_arm
decreases-copy_arm l = 4 * size-CaseArm l.arm.now + 1

abbrev pub decreases-copy_arms : goal.decreases-copy_arms
decreases-copy_arms l = 4 * goal.size-copy_arms l + 2

abbrev pub decreases-copy_select : goal.decreases-copy_select
decreases-copy_select l = 4 * goal.size-copy_select l + 3
