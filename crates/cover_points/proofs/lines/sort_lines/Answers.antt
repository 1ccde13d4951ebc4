use Rattle.std.proofs.Common.{rules}
use Rattle.std.specs.Ordering.{is_lt}
use Rattle.std.proofs.lemmas.Fn.{always_returns_same}
use Rattle.std.proofs.lemmas.List.Sorted.{ranks_by}
use Rattle.cover_points.specs.Order.{line_cmp}
use Rattle.cover_points.proofs.Orders.{line_total}
use Rattle.cover_points.proofs.lines.sort_lines.Goals as goal

pub returns-clause-sorted : goal.returns-clause-sorted
returns-clause-sorted c =
    let is = c.args.instances.now in
    c.in_ok-sort_by.ensures.sorted (λ a b. is_lt (line_cmp is a b)) (ranks_by (line_total is) (λ x. x)) (always_returns_same _ _ _ (λ a r f k. search rules))
