use Rattle.std.proofs.Common.{◌≡◌, [], drop, arith}
use Rattle.std.proofs.Math.ListN.{drop_of_length-le}
use Rattle.elab_const.proofs.weight.+weight.Goals as goal

pub repeats_of_all-returns : goal.repeats_of_all-returns
repeats_of_all-returns t c =
    let end : drop c.loop-part.part-index c.args.parts.now ≡ [] = drop_of_length-le c.args.parts.now c.loop-part-test.false in
    let whole = rw end at c.loop-part.invariant.whole in
    omega (arith, whole)
