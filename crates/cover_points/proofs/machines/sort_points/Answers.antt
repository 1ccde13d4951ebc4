use Rattle.std.proofs.Common.{rules}
use Rattle.std.specs.Ordering.{is_lt}
use Rattle.std.proofs.lemmas.Fn.{always_returns_same}
use Rattle.std.proofs.lemmas.List.Sorted.{ranks_by}
use Rattle.cover_points.specs.MachinePoints.{machine_cmp}
use Rattle.cover_points.proofs.Orders.{machine_total}
use Rattle.cover_points.proofs.machines.sort_points.Goals as goal

pub returns-clause-sorted : goal.returns-clause-sorted
returns-clause-sorted c =
    let is = c.args.instances.now in
    let xs = c.args.machines.now in
    c.in_ok-sort_by.ensures.sorted (λ a b. is_lt (machine_cmp is xs a b)) (ranks_by (machine_total is xs) (λ x. x)) (always_returns_same _ _ _ (λ a r f k. search rules))
