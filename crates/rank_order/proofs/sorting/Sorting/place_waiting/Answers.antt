use Rattle.std.proofs.Common.{◌≡◌, ◌∙◌, ◌<◌, length, refl, subst, arith}
use Rattle.std.specs.List.{Contains}
use Rattle.std.proofs.lemmas.List.{length-map}
use Rattle.rank_order.specs.Order.{lists_of}
use Rattle.rank_order.specs.Sorting.{Places, waiting_for}
use Rattle.rank_order.specs.declared.sorting.Sorting.{Sorting}
use Rattle.rank_order.proofs.Progress.{done_within, order_is, placed_more, taken_sorting}
use Rattle.rank_order.proofs.sorting.Sorting.place_waiting.Goals as goal

pub place_all-requires-clause-below : goal.place_all-requires-clause-below
place_all-requires-clause-below c =
    let s = c.loop-done.self in
    let is : c.as_slice.result.now ≡ waiting_for s c.get-node.result = c.as_slice.ensures.value ∙ c.take_list-nodes.ensures.taken in
    λ v k. omega (arith, c.loop-done.invariant.sorting.waiting_below c.get-node.result v (subst (λ xs. Contains xs v) is k), length-map c.args.needs.now (λ u. u.items))

pub place_all-requires-clause-sorting : goal.place_all-requires-clause-sorting
place_all-requires-clause-sorting c =
    let s = c.loop-done.self in
    taken_sorting (lists_of c.args.needs.now) s (record { order = s.order; met = s.met; waiting = c.take_list-nodes.new.lists }) c.get-node.result refl refl c.take_list-nodes.ensures.lists c.loop-done.invariant.sorting

pub loop-done-preserved : goal.loop-done-preserved
loop-done-preserved c =
    let lists = lists_of c.args.needs.now in
    let s = c.loop-done.self in
    let r : Sorting = record { order = s.order; met = s.met; waiting = c.take_list-nodes.new.lists } in
    let t = c.place_all.new.self in
    let is : c.as_slice.result.now ≡ waiting_for s c.get-node.result = c.as_slice.ensures.value ∙ c.take_list-nodes.ensures.taken in
    let placed : Places lists (waiting_for s c.get-node.result) r t = subst (λ xs. Places lists xs r t) is c.in_ok-place_all.ensures.placed in
    let below : c.loop-done.done < length s.order.items = omega (arith, c.loop-done-test.true, c.len.ensures.value) in
    record {
      sorting = c.in_ok-place_all.ensures.sorting;
      within = done_within lists s r c.get-node.result refl refl c.take_list-nodes.ensures.lists c.loop-done.invariant.sorting t c.loop-done.done below c.get-node.ensures.value placed c.loop-done.invariant.placed;
      placed = placed_more lists s r c.get-node.result refl refl c.take_list-nodes.ensures.lists c.loop-done.invariant.sorting t c.loop-done.done below c.get-node.ensures.value placed c.loop-done.invariant.placed;
    }

pub returns-clause-order : goal.returns-clause-order
returns-clause-order c =
    order_is (lists_of c.args.needs.now) c.loop-done.self c.loop-done.done c.loop-done.invariant.sorting c.loop-done.invariant.placed (omega (arith, c.loop-done-test.false, c.len.ensures.value))
