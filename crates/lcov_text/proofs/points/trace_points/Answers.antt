use Rattle.std.proofs.Common.{rules, map, sym, ap, subst, ◌∙◌}
use Rattle.std.specs.List.Sorted.{IsSorted}
use Rattle.std.specs.Ordering.{is_lt}
use Rattle.std.proofs.lemmas.List.Sorted.{answers_always, ranks_by}
use Rattle.std.proofs.lemmas.Result.{IfOk-weaker}
use Rattle.coverage_db.specs.Table.{Rises}
use Rattle.cov_report.specs.Gathered.{gathered}
use Rattle.cov_report.proofs.Gathering.{gathered_rises}
use Rattle.lcov_text.specs.declared.traced.Traced.{Traced}
use Rattle.lcov_text.specs.Views.{trace_view, traced_cmp, joined_traced}
use Rattle.lcov_text.proofs.Gathering.{sorted_view}
use Rattle.lcov_text.proofs.Orders.{traced_total, joined_stays}
use Rattle.lcov_text.proofs.points.trace_points.Goals as goal

pub join_neighbours-requires : goal.join_neighbours-requires
join_neighbours-requires c =
    let up = c.in_ok-sort_by.ensures.sorted (λ a b. is_lt (traced_cmp a b)) (ranks_by traced_total (λ (x : Traced). x)) (answers_always _ _ _ (λ f a r h k. search rules)) in
    subst (IsSorted traced_cmp) (sym c.deref.ensures.value) up

pub returns-clause-points : goal.returns-clause-points
returns-clause-points c =
    let stable = c.in_ok-sort_by.ensures.stable (λ a b. is_lt (traced_cmp a b)) (ranks_by traced_total (λ (x : Traced). x)) (answers_always _ _ _ (λ f a r h k. search rules)) in
    IfOk-weaker c.join_neighbours.result _ _ (λ v e. ap (map trace_view) (e ∙ ap (gathered traced_cmp joined_traced) c.deref.ensures.value) ∙ sorted_view c.in_ok-points.points.items c.sort_by.new.self.items _ stable c.in_ok-points.ensures) c.join_neighbours.ensures

pub returns-clause-rising : goal.returns-clause-rising
returns-clause-rising c = IfOk-weaker c.join_neighbours.result _ _ (λ v e. subst (Rises traced_cmp) (sym e) (gathered_rises traced_cmp joined_traced traced_total joined_stays c.deref.result.now)) c.join_neighbours.ensures
