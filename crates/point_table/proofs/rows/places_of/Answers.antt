use Rattle.std.proofs.Common.{◌≡◌, ◌<◌, ◌∙◌, get_or, length, subst, arith}
use Rattle.std.proofs.lemmas.List.{length-set}
use Rattle.point_table.proofs.Lists.{order_below, order_has, placed_more}
use Rattle.point_table.proofs.rows.places_of.Goals as goal

pub index_mut-requires : goal.index_mut-requires
index_mut-requires c =
    let below = order_below (length c.args.order.now) c.args.order.now c.requires.order c.loop-place.place (omega arith) in
    omega (arith, below, c.loop-place.invariant.count)

pub loop-place-preserved : goal.loop-place-preserved
loop-place-preserved c =
    let order = c.args.order.now in
    let places = c.loop-place.places.items in
    let k = c.loop-place.place in
    let below = order_below (length order) order c.requires.order k (omega arith) in
    record {
      count = length-set places (get_or order k 0) k ∙ c.loop-place.invariant.count;
      placed = placed_more order places k (omega arith) (omega (arith, below, c.loop-place.invariant.count)) c.loop-place.invariant.placed;
    }

pub returns : goal.returns
returns c = λ i l.
    let order = c.args.order.now in
    let places = c.loop-place.places.items in
    let at = order_has (length order) order c.requires.order i l in
    subst (λ j. (get_or places j 0 < length order) × (get_or order (get_or places j 0) 0 ≡ j)) at.2 (c.loop-place.invariant.placed at.0 (omega (arith, at.1)))
