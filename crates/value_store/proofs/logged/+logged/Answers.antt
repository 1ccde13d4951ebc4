use Rattle.std.proofs.Common.{◌≤◌, length, map, ap, arith}
use Rattle.std.proofs.lemmas.List.{drop_all}
use Rattle.design_model.specs.View.{arms_of, design_view, stmt_view, stmts_of}
use Rattle.value_store.specs.Rooms.{all_logged, arm_view, arms_logged, log_takes}
use Rattle.value_store.proofs.Counted.{ended}
use Rattle.value_store.proofs.logged.+logged.Goals as goal

pub with_stmts-returns : goal.with_stmts-returns
with_stmts-returns t c =
    let l : length c.args.stmts.now ≤ c.loop-stmt.stmt-index = omega arith in
    ended c.loop-stmt.total _ _ c.loop-stmt.invariant.sum (ap (λ ss. all_logged (log_takes (design_view c.args.design.now)) c.args.inside (stmts_of (map stmt_view ss))) (drop_all c.loop-stmt.stmt-index c.args.stmts.now l)) c.loop-stmt.invariant.small

pub with_arms-returns : goal.with_arms-returns
with_arms-returns t c =
    let l : length c.args.arms.now ≤ c.loop-arm.arm-index = omega arith in
    ended c.loop-arm.total _ _ c.loop-arm.invariant.sum (ap (λ xs. arms_logged (log_takes (design_view c.args.design.now)) (arms_of (map arm_view xs))) (drop_all c.loop-arm.arm-index c.args.arms.now l)) c.loop-arm.invariant.small
