use Rattle.std.proofs.Common.{rules}
use Rattle.std.specs.Ordering.{is_lt}
use Rattle.std.proofs.lemmas.Cmp.{nat_list_cmp_total}
use Rattle.std.proofs.lemmas.Fn.{always_returns_same}
use Rattle.std.proofs.lemmas.List.Sorted.{ranks_by}
use Rattle.point_table.specs.Rows.{instance_at, path_cmp}
use Rattle.point_table.proofs.rows.sort_by_path.Goals as goal

pub returns-clause-sorted : goal.returns-clause-sorted
returns-clause-sorted c =
    let is = c.args.instances.now in
    c.in_ok-sort_by.ensures.sorted (λ a b. is_lt (path_cmp is a b)) (ranks_by nat_list_cmp_total (λ i. (instance_at is i).path)) (always_returns_same _ _ _ (λ a r f k. search rules))
