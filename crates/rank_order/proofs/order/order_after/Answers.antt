use Rattle.std.proofs.Common.{◌≡◌, ◌∙◌, length, sym, subst, arith}
use Rattle.std.specs.List.{Contains, range_with_len}
use Rattle.std.proofs.lemmas.List.{length-map}
use Rattle.rank_order.specs.Order.{lists_of}
use Rattle.rank_order.proofs.Orders.{numbers_below, numbers_have}
use Rattle.rank_order.proofs.Progress.{all_placed}
use Rattle.rank_order.proofs.order.order_after.Goals as goal

pub place_all-requires-clause-below : goal.place_all-requires-clause-below
place_all-requires-clause-below c =
    let is : c.as_slice.result.now ≡ range_with_len 0 (length c.args.needs.now) = c.as_slice.ensures.value ∙ c.in_ok-nodes.ensures in
    λ v k. numbers_below (length c.args.needs.now) v (subst (λ xs. Contains xs v) is k)

pub place_waiting-requires-clause-placed : goal.place_waiting-requires-clause-placed
place_waiting-requires-clause-placed c =
    let is : c.as_slice.result.now ≡ range_with_len 0 (length c.args.needs.now) = c.as_slice.ensures.value ∙ c.in_ok-nodes.ensures in
    all_placed (lists_of c.args.needs.now) c.as_slice.result.now c.in_ok-sorting.sorting c.place_all.new.self c.in_ok-place_all.ensures.placed c.in_ok-sorting.ensures.order (λ v l. subst (λ xs. Contains xs v) (sym is) (numbers_have (length c.args.needs.now) v (omega (arith, l, length-map c.args.needs.now (λ u. u.items)))))
