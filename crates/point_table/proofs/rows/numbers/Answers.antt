use Rattle.std.proofs.Common.{◌∙◌, ap, length, arith}
use Rattle.std.proofs.lemmas.List.FromFn.{length-range_with_len}
use Rattle.point_table.proofs.Lists.{range_more}
use Rattle.point_table.proofs.rows.numbers.Goals as goal

pub loop-number-preserved : goal.loop-number-preserved
loop-number-preserved c =
    let more = range_more c.loop-number.number in
    let added = c.in_ok-push.ensures.items in
    let before = c.loop-number.invariant in
    cc

pub returns-clause-count : goal.returns-clause-count
returns-clause-count c =
    let as_many = ap length c.loop-number.invariant ∙ length-range_with_len 0 c.loop-number.number in
    omega (arith, as_many)
