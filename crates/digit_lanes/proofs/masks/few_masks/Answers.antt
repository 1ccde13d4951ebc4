use Rattle.std.proofs.Common.{◌≤◌, arith}
use Rattle.digit_lanes.specs.Bytes.{writes_one_or_z, writes_strange}
use Rattle.digit_lanes.proofs.MaskLemmas.{at_most_one, inside}
use Rattle.digit_lanes.proofs.masks.few_masks.Goals as goal

pub overflow_mul-all_ones : goal.overflow_mul-all_ones
overflow_mul-all_ones c = let few = inside writes_one_or_z c.loop-digit.digit-index 64 c.split_at.result.0.now (omega arith) in omega (arith, few, c.loop-digit.invariant.0)

pub overflow_add-all_ones : goal.overflow_add-all_ones
overflow_add-all_ones c =
    let few = inside writes_one_or_z c.loop-digit.digit-index 64 c.split_at.result.0.now (omega arith) in
    let one : c.from.result ≤ 1 = rw c.from.ensures (at_most_one c.writes_one_or_z.result) in
    omega (arith, few, one, c.loop-digit.invariant.0)

pub overflow_mul-all_strange : goal.overflow_mul-all_strange
overflow_mul-all_strange c = let few = inside writes_strange c.loop-digit.digit-index 64 c.split_at.result.0.now (omega arith) in omega (arith, few, c.loop-digit.invariant.1)

pub overflow_add-all_strange : goal.overflow_add-all_strange
overflow_add-all_strange c =
    let few = inside writes_strange c.loop-digit.digit-index 64 c.split_at.result.0.now (omega arith) in
    let one : c.from-in-loop-digit.result ≤ 1 = rw c.from-in-loop-digit.ensures (at_most_one c.writes_strange.result) in
    omega (arith, few, one, c.loop-digit.invariant.1)
