use Rattle.std.proofs.Common.{◌∷◌, ◌∙◌, ◌+◌, ◌&&◌, ◌||◌, Some, None, cond, false, drop, map, sym, ap, subst, arith}
use Rattle.std.specs.Prelude.{max}
use Rattle.std.proofs.lemmas.List.{drop_all, drop_more}
use Rattle.design_model.specs.Execution.{is_default}
use Rattle.design_model.specs.View.{arms_of, else_of, stmt_view, stmts_of}
use Rattle.process_names.specs.Names.{arm_view}
use Rattle.target_counts.specs.Counts.{Counts, Tries}
use Rattle.target_counts.specs.Most.{most, most_all, most_of}
use Rattle.target_counts.proofs.Counting.{counted_then, joined, left, longer, none_counted, none_tried, same_tried, tried_then}
use Rattle.target_counts.proofs.walk.+statements.Goals as goal

pub count_stmts-loop-stmt-preserved : goal.count_stmts-loop-stmt-preserved
count_stmts-loop-stmt-preserved t c = λ end h.
    let ss = c.args.stmts.now in
    let i = c.loop-stmt.stmt-index in
    let s = c.stmt-item.result in
    let next = drop_more ss i s c.loop-stmt-test.true ∙ ap (λ z. z ∷ drop (i + 1) ss) (sym c.stmt-item.is) in
    c.loop-stmt.invariant end
    (subst (λ us. Counts (λ x. most_all x (stmts_of (map stmt_view us))) c.loop-stmt.counts end) (sym next)
    (counted_then (λ x. most x (stmt_view s)) (λ x. most_all x (stmts_of (map stmt_view (drop (i + 1) ss)))) c.loop-stmt.counts c.count_stmt.new.counts end c.in_ok-count_stmt.ensures h))

pub count_stmts-returns : goal.count_stmts-returns
count_stmts-returns t c =
    let ss = c.args.stmts.now in
    c.loop-stmt.invariant c.loop-stmt.counts
    (subst (λ us. Counts (λ x. most_all x (stmts_of (map stmt_view us))) c.loop-stmt.counts c.loop-stmt.counts) (sym (drop_all c.loop-stmt.stmt-index ss c.loop-stmt-test.false)) (none_counted c.loop-stmt.counts))

pub try_branch-returns : goal.try_branch-returns
try_branch-returns t c = left (λ x. most x (stmt_view c.args.stmt.now)) c.args.counts.now c.count_stmt.new.counts c.leave.new.self c.named-from.result c.named-from.ensures c.in_ok-count_stmt.ensures c.leave.ensures.order c.leave.ensures.counts

pub count_branch-returns : goal.count_branch-returns
count_branch-returns t c =
    joined (λ x. max (most x (stmt_view c.args.yes.now)) (most_all x (else_of None))) c.args.counts.now c.try_branch.new.counts c.join.new.self c.named-from.result c.named-from.ensures
    (tried_then (λ x. most x (stmt_view c.args.yes.now)) (λ x. 0) c.args.counts.now c.try_branch.new.counts c.try_branch.new.counts c.in_ok-try_branch.ensures (none_tried c.try_branch.new.counts))
    c.join.ensures.order c.join.ensures.counts

pub count_either-returns : goal.count_either-returns
count_either-returns t c =
    joined (λ x. max (most x (stmt_view c.args.yes.now)) (most_all x (else_of (Some (stmt_view c.args.no.now))))) c.args.counts.now c.try_branch-2.new.counts c.join.new.self c.named-from.result c.named-from.ensures
    (tried_then (λ x. most x (stmt_view c.args.yes.now)) (λ x. most x (stmt_view c.args.no.now) + 0) c.args.counts.now c.try_branch.new.counts c.try_branch-2.new.counts c.in_ok-try_branch.ensures
    (same_tried (λ x. most x (stmt_view c.args.no.now)) (λ x. most x (stmt_view c.args.no.now) + 0) c.try_branch.new.counts c.try_branch-2.new.counts (λ x. omega arith) c.in_ok-try_branch-2.ensures))
    c.join.ensures.order c.join.ensures.counts

pub count_arms-join-requires : goal.count_arms-join-requires
count_arms-join-requires t c = omega (arith, c.named-from.ensures, c.loop-arm.invariant.more)

pub count_arms-loop-arm-preserved : goal.count_arms-loop-arm-preserved
count_arms-loop-arm-preserved t c =
    record {
      more = omega (arith, c.loop-arm.invariant.more, longer _ c.loop-arm.counts c.try_arm.new.counts c.in_ok-try_arm.ensures.adds);
      rest = λ end h.
          let all = c.args.arms.now in
          let i = c.loop-arm.arm-index in
          let a = c.arm-item.result in
          let met = c.loop-arm.met in
          let next = drop_more all i a c.loop-arm-test.true ∙ ap (λ z. z ∷ drop (i + 1) all) (sym c.arm-item.is) in
          c.loop-arm.invariant.rest end
          (subst (λ us. Tries (λ x. most_of x met (arms_of (map arm_view us))) c.loop-arm.counts end) (sym next)
          (tried_then (λ x. cond (met && is_default (arm_view a).0) 0 (most x (arm_view a).1)) (λ x. most_of x (met || is_default (arm_view a).0) (arms_of (map arm_view (drop (i + 1) all)))) c.loop-arm.counts c.try_arm.new.counts end (subst (λ off. Tries (λ x. cond off 0 (most x (arm_view a).1)) c.loop-arm.counts c.try_arm.new.counts) c.is_second.ensures c.in_ok-try_arm.ensures)
          (subst (λ m. Tries (λ x. most_of x m (arms_of (map arm_view (drop (i + 1) all)))) c.try_arm.new.counts end) c.is_met-met.ensures h)));
    }

pub count_arms-returns : goal.count_arms-returns
count_arms-returns t c =
    let all = c.args.arms.now in
    joined (λ x. most_of x false (arms_of (map arm_view all))) c.args.counts.now c.loop-arm.counts c.join.new.self c.named-from.result c.named-from.ensures
    (c.loop-arm.invariant.rest c.loop-arm.counts
    (subst (λ us. Tries (λ x. most_of x c.loop-arm.met (arms_of (map arm_view us))) c.loop-arm.counts c.loop-arm.counts) (sym (drop_all c.loop-arm.arm-index all c.loop-arm-test.false)) (none_tried c.loop-arm.counts)))
    c.join.ensures.order c.join.ensures.counts
