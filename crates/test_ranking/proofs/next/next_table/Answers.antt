use Rattle.std.proofs.Common.{◌≤◌, arith}
use Rattle.test_ranking.proofs.Better.{best_is_next, total_fits}
use Rattle.test_ranking.proofs.next.next_table.Goals as goal

pub overflow_add-result : goal.overflow_add-result
overflow_add-result c =
    let best = c.best_table-best.ensures.best in
    let fits = total_fits c.args.tables.now c.args.hit.now c.best_table-best.result.table c.requires.sets best.listed in
    omega (arith, fits, best.added, c.requires.total, c.requires.short)

pub returns-clause-next : goal.returns-clause-next
returns-clause-next c =
    let some : 1 ≤ c.best_table-best.result.added = omega arith in
    best_is_next c.args.tables.now c.args.hit.now c.best_table-best.result c.args.total c.best_table-best.ensures.best c.requires.total some
