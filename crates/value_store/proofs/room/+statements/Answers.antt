use Rattle.std.proofs.Common.{◌≤◌, length, map, ap, arith}
use Rattle.std.proofs.lemmas.List.{drop_all}
use Rattle.design_model.specs.View.{arms_of, stmt_view, stmts_of}
use Rattle.value_store.specs.Rooms.{all_queued, arm_view, arms_queued}
use Rattle.value_store.proofs.Counted.{ended}
use Rattle.value_store.proofs.room.+statements.Goals as goal

pub with_stmts-returns : goal.with_stmts-returns
with_stmts-returns t c =
    let l : length c.args.stmts.now ≤ c.loop-stmt.stmt-index = omega arith in
    ended c.loop-stmt.total _ _ c.loop-stmt.invariant.sum (ap (λ ss. all_queued (stmts_of (map stmt_view ss))) (drop_all c.loop-stmt.stmt-index c.args.stmts.now l)) c.loop-stmt.invariant.small

pub with_arms-returns : goal.with_arms-returns
with_arms-returns t c =
    let l : length c.args.arms.now ≤ c.loop-arm.arm-index = omega arith in
    ended c.loop-arm.total _ _ c.loop-arm.invariant.sum (ap (λ xs. arms_queued (arms_of (map arm_view xs))) (drop_all c.loop-arm.arm-index c.args.arms.now l)) c.loop-arm.invariant.small
