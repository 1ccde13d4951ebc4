use Rattle.std.proofs.Common.{◌+◌, ◌*◌, ◌≤◌, false, drop, length, map}
use Rattle.std.specs.Prelude.{max}
use Rattle.design_model.specs.View.{arms_of, stmt_view, stmts_of}
use Rattle.design_model.specs.declared.tree.CaseArm.{size-CaseArm}
use Rattle.design_model.specs.declared.tree.Stmt.{size-Stmt}
use Rattle.process_names.specs.Names.{arm_view}
use Rattle.target_counts.specs.Counts.{Counts, Tries}
use Rattle.target_counts.specs.Most.{most_all, most_of}
use Rattle.target_counts.specs.declared.counts.TargetCounts.{TargetCounts}
use Rattle.target_counts.proofs.walk.+statements.Given as goal

-- what the rest counts after the statements so far, all of them count
abbrev pub invariant-count_stmts-loop-stmt : goal.invariant-count_stmts-loop-stmt
invariant-count_stmts-loop-stmt l =
    (end : TargetCounts) → Counts (λ x. most_all x (stmts_of (map stmt_view (drop l.stmt-index l.stmts)))) l.counts end → Counts (λ x. most_all x (stmts_of (map stmt_view l.fn.stmts))) l.fn.counts end

-- what the other arms try after those so far, all of them try
abbrev pub invariant-count_arms-loop-arm : goal.invariant-count_arms-loop-arm
invariant-count_arms-loop-arm l =
    record {
      more : length l.fn.counts.order.items ≤ length l.counts.order.items;
      rest : (end : TargetCounts) → Tries (λ x. most_of x l.met (arms_of (map arm_view (drop l.arm-index l.arms)))) l.counts end → Tries (λ x. most_of x false (arms_of (map arm_view l.fn.arms))) l.fn.counts end;
    }

-- each call is of a part
abbrev pub decreases-count_stmt : goal.decreases-count_stmt
decreases-count_stmt l = 4 * size-Stmt l.stmt.now

abbrev pub decreases-try_branch : goal.decreases-try_branch
decreases-try_branch l = 4 * size-Stmt l.stmt.now + 1

abbrev pub decreases-try_arm : goal.decreases-try_arm
decreases-try_arm l = 4 * size-CaseArm l.arm.now + 2

abbrev pub decreases-count_stmts : goal.decreases-count_stmts
decreases-count_stmts l = 4 * goal.size-count_stmts l + 3

abbrev pub decreases-count_arms : goal.decreases-count_arms
decreases-count_arms l = 4 * goal.size-count_arms l + 3

abbrev pub decreases-count_either : goal.decreases-count_either
decreases-count_either l = 4 * max (size-Stmt l.yes.now) (size-Stmt l.no.now) + 2

abbrev pub decreases-count_branch : goal.decreases-count_branch
decreases-count_branch l = 4 * size-Stmt l.yes.now + 2
