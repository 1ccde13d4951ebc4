use Rattle.std.proofs.Common.{◌∙◌, ap, arith, length, subst, sym}
use Rattle.std.specs.List.{range_with_len}
use Rattle.std.specs.List.Sorted.{IsPermutation}
use Rattle.design_model.specs.View.{design_view}
use Rattle.point_table.specs.Addresses.{addresses_of, missed_points}
use Rattle.point_table.specs.Rows.{ArePlaces, IsPathOrder}
use Rattle.point_table.specs.Verdicts.{AreShown}
use Rattle.point_table.proofs.Lists.{order_length}
use Rattle.point_table.proofs.Members.{as_many_rows}
use Rattle.point_table.proofs.Shown.{by_markings}
use Rattle.point_table.proofs.table.collect.Goals as goal

pub places_of-requires-clause-order : goal.places_of-requires-clause-order
places_of-requires-clause-order c =
    let order = c.in_ok-order.order.items in
    let same = c.in_ok-order.ensures.order.permutation in
    let own : IsPermutation (range_with_len 0 (length order)) order = subst (λ n. IsPermutation (range_with_len 0 n) order) (sym (order_length (length c.as_slice-instances.result.now) order same)) same in
    subst (λ xs. IsPermutation (range_with_len 0 (length xs)) xs) (sym c.as_slice.ensures.value) own

pub with_verdicts-requires-clause-count : goal.with_verdicts-requires-clause-count
with_verdicts-requires-clause-count c =
    let as_many = ap length c.in_ok-missed.ensures ∙ as_many_rows (design_view c.args.design.now) c.as_slice-2.result.now c.args.points.now in
    as_many ∙ sym c.requires.marks.count

pub with_verdicts-requires-clause-few : goal.with_verdicts-requires-clause-few
with_verdicts-requires-clause-few c =
    let as_many = ap length c.in_ok-missed.ensures ∙ as_many_rows (design_view c.args.design.now) c.as_slice-2.result.now c.args.points.now in
    omega (arith, as_many, c.requires.few)

pub returns-clause-table : goal.returns-clause-table
returns-clause-table c =
    let d = design_view c.args.design.now in
    let order = c.in_ok-order.order.items in
    let places = c.in_ok-places.places.items in
    let in_order = c.as_slice-4.ensures.value in
    let of_design = c.as_slice-instances.ensures in
    let rows = c.in_ok-rows_of.ensures in
    let missed = c.in_ok-missed.ensures ∙ ap (λ ps. missed_points d ps c.args.points.now) c.as_slice-2.ensures.value in
    record {
      top = c.in_ok-name_of.ensures ∙ c.as_slice-3.ensures;
      names = cc;
      order = order;
      path_order = subst (λ is. IsPathOrder is order) of_design c.in_ok-order.ensures.order;
      instances = cc;
      places = places;
      are_places = subst (λ o. ArePlaces o places) c.as_slice.ensures.value c.in_ok-places.ensures;
      points = ap addresses_of c.from_vec.ensures ∙ c.in_ok-rows.ensures.points ∙ ap addresses_of missed;
    }

pub returns-clause-verdicts : goal.returns-clause-verdicts
returns-clause-verdicts c = subst (AreShown (design_view c.args.design.now) c.args.marks.now.verdicts) (sym c.from_vec.ensures) c.in_ok-rows.ensures.verdicts

pub returns-clause-markings : goal.returns-clause-markings
returns-clause-markings c = λ markings m. by_markings (design_view c.args.design.now) c.args.marks.now.verdicts _ markings (subst (AreShown (design_view c.args.design.now) c.args.marks.now.verdicts) (sym c.from_vec.ensures) c.in_ok-rows.ensures.verdicts) m
