use Rattle.std.proofs.Common.{get_or, arith}
use Rattle.std.proofs.lemmas.List.Elements.{Contains-get_or}
use Rattle.rank_order.proofs.Orders.{met_more}
use Rattle.rank_order.proofs.sorting.first_missing.Goals as goal

pub contains-requires : goal.contains-requires
contains-requires c =
    c.requires.nodes (get_or c.args.list.now c.loop-place.place 0) (Contains-get_or c.args.list.now c.loop-place.place 0 (omega (arith, c.loop-place-test.true, c.loop-place.auto.place-end)))

pub loop-place-preserved : goal.loop-place-preserved
loop-place-preserved c = met_more c.args.order.now.items c.args.list.now c.loop-place.place c.loop-place.invariant (c.contains.ensures.0 c.if-not-contains.false)
