use Rattle.std.proofs.Common.{◌<◌, ◌^◌, arith, get_or}
use Rattle.test_ranking.proofs.Packing.{ones_few, ones_more}
use Rattle.test_ranking.proofs.words.joined_ones.Goals as goal

pub loop-place-preserved : goal.loop-place-preserved
loop-place-preserved c =
    let left = c.args.left.now in
    let right = c.args.right.now in
    let place = c.loop-place.place in
    let first : get_or left place 0 < 2 ^ 64 = omega (arith, c.type_inv.left place) in
    let second : get_or right place 0 < 2 ^ 64 = omega (arith, c.type_inv.right place) in
    record {
      ones = ones_more left right place c.loop-place.count _ c.loop-place-test.true c.requires.same c.loop-place.invariant.ones;
      few = omega (arith, c.loop-place.invariant.few, ones_few (get_or left place 0) (get_or right place 0) first second);
    }
