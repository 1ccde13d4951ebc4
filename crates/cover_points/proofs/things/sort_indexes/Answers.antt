use Rattle.std.proofs.Common.{rules}
use Rattle.std.specs.Ordering.{is_lt}
use Rattle.std.proofs.lemmas.Fn.{always_returns_same}
use Rattle.std.proofs.lemmas.List.Sorted.{ranks_by}
use Rattle.design_model.specs.View.{design_view}
use Rattle.cover_points.specs.Order.{index_cmp}
use Rattle.cover_points.proofs.Orders.{index_total}
use Rattle.cover_points.proofs.things.sort_indexes.Goals as goal

pub returns-clause-sorted : goal.returns-clause-sorted
returns-clause-sorted c =
    let d = design_view c.args.design.now in
    c.in_ok-sort_by.ensures.sorted (λ a b. is_lt (index_cmp d a b)) (ranks_by (index_total d) (λ x. x)) (always_returns_same _ _ _ (λ a r f k. search rules))
