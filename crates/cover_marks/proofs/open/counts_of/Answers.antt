use Rattle.std.proofs.Common.{get_or, arith}
use Rattle.cover_marks.proofs.Counts.{count_small}
use Rattle.cover_marks.proofs.open.counts_of.Goals as goal

pub overflow_add-index_mut : goal.overflow_add-index_mut
overflow_add-index_mut c =
    let i = c.loop-owner.owner-index in
    let os = c.args.owners.now in
    omega (arith, count_small c.loop-owner.counts.items os i (get_or os i 0) c.index_mut.result.now c.loop-owner-test.true c.requires c.loop-owner.invariant.counts (c.loop-owner.invariant.room i 0 c.loop-owner-test.true) c.index_mut.ensures.value)
