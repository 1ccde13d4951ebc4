use Rattle.std.proofs.Common.{◌+◌, ◌^◌, ◌≤◌, arith}
use Rattle.std.proofs.Math.Nat.{pow-le-pow_right}
use Rattle.elab_conflicts.proofs.conflicts.bits_of.Goals as goal

pub overflow_sub-result : goal.overflow_sub-result
overflow_sub-result c =
    let low = c.args.written.now.low in
    let high = low + c.args.written.now.count in
    let below : 2 ^ low ≤ 2 ^ high = pow-le-pow_right (omega arith) (omega arith) in
    omega (arith, below)
