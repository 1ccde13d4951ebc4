use Rattle.std.proofs.Common.{◌≡◌, ◌+◌, ◌++◌, ◌∷◌, [], length, take, sym, ap, subst, ◌∙◌, arith}
use Rattle.coverage_db.specs.Table.{Rises}
use Rattle.cov_report.specs.Gathered.{gathered}
use Rattle.cov_report.proofs.Gathering.{gathered_rises, last_is_upto, next_gathered, all_taken}
use Rattle.lcov_text.specs.Views.{traced_cmp, joined_traced}
use Rattle.lcov_text.proofs.Orders.{traced_total, joined_stays}
use Rattle.lcov_text.proofs.points.join_neighbours.Goals as goal

pub follow-requires-clause-rising : goal.follow-requires-clause-rising
follow-requires-clause-rising c =
    subst (Rises traced_cmp) (sym c.loop-point.invariant) (gathered_rises traced_cmp joined_traced traced_total joined_stays (take (c.loop-point.point-index + 1) c.args.sorted.now))

pub follow-requires-clause-upto : goal.follow-requires-clause-upto
follow-requires-clause-upto c =
    let both = rw c.in-Some.is at c.split_first.ensures.cases in
    last_is_upto traced_cmp joined_traced traced_total joined_stays c.args.sorted.now c.in-Some.first.now c.in-Some.others.now c.loop-point.point-index c.loop-point.joined.items c.loop-point.last c.point-item.result both.0 c.requires c.loop-point-test.true c.point-item.is c.loop-point.invariant

pub loop-point-init : goal.loop-point-init
loop-point-init c =
    let both = rw c.in-Some.is at c.split_first.ensures.cases in
    ap (λ t. t ++ c.in-Some.first.now ∷ []) c.in_ok-joined.ensures.items ∙ sym (ap (λ t. gathered traced_cmp joined_traced (take 1 t)) both.0)

pub loop-point-preserved : goal.loop-point-preserved
loop-point-preserved c =
    let both = rw c.in-Some.is at c.split_first.ensures.cases in
    next_gathered traced_cmp joined_traced traced_total joined_stays c.args.sorted.now c.in-Some.first.now c.in-Some.others.now c.loop-point.point-index c.loop-point.joined.items c.loop-point.last c.in_ok-last.last c.point-item.result c.follow.new.kept.items both.0 c.loop-point-test.true c.point-item.is
    c.loop-point.invariant c.in_ok-last.ensures

pub returns : goal.returns
returns c =
    let both = rw c.in-Some.is at c.split_first.ensures.cases in
    let long : length c.in-Some.others.now + 1 ≡ length c.args.sorted.now = both.1 in
    c.in_ok-push.ensures.items ∙ c.loop-point.invariant ∙ ap (gathered traced_cmp joined_traced) (all_taken traced_cmp joined_traced traced_total joined_stays c.args.sorted.now (c.loop-point.point-index + 1) (omega (arith, long, c.loop-point-test.false)))
