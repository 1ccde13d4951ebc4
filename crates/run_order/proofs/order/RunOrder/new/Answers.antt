use Rattle.std.proofs.Common.{subst, sym, arith}
use Rattle.run_order.proofs.Choosing.{AreRanksSoFar, all_ranked, below_at, few, ranks_more, ranks_none}
use Rattle.run_order.proofs.order.RunOrder.new.Goals as goal

pub loop-place-init : goal.loop-place-init
loop-place-init c = subst (AreRanksSoFar c.args.order.now c.args.count 0) (sym c.in_ok-ranks.ensures) (ranks_none c.args.order.now c.args.count)

pub overflow_cast-place : goal.overflow_cast-place
overflow_cast-place c =
    omega (arith, c.loop-place-test.true, few c.args.order.now c.args.count c.requires.once c.requires.below, c.ranges.count.fits)

pub index_mut-requires : goal.index_mut-requires
index_mut-requires c =
    omega (arith, c.loop-place.invariant.size, c.loop-place.ranks.ok.0, below_at c.args.order.now c.args.count c.loop-place.place c.requires.below c.loop-place-test.true)

pub loop-place-preserved : goal.loop-place-preserved
loop-place-preserved c =
    ranks_more c.args.order.now c.args.count c.loop-place.place c.loop-place.ranks.items c.requires.once c.loop-place-test.true (below_at c.args.order.now c.args.count c.loop-place.place c.requires.below c.loop-place-test.true) c.loop-place.invariant

pub returns : goal.returns
returns c =
    all_ranked c.args.order.now c.args.count c.loop-place.place c.loop-place.ranks.items c.requires.once c.requires.below c.loop-place-test.false c.loop-place.invariant c.loop-place.auto.place-end
