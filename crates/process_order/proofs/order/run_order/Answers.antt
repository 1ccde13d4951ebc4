use Rattle.std.proofs.Common.{◌≡◌, ◌∙◌, ◌+◌, ◌≤◌, length, sym, ap, subst, arith}
use Rattle.std.specs.List.{Contains}
use Rattle.std.proofs.lemmas.List.{length-map}
use Rattle.std.proofs.lemmas.Result.{IfOk-weaker}
use Rattle.rank_order.specs.Order.{IsOrderAfter}
use Rattle.process_order.specs.Names.{lists_of}
use Rattle.process_order.specs.Needs.{AreNeeds, is_bound}
use Rattle.process_order.specs.Order.{IsRunOrder}
use Rattle.process_order.proofs.RunOrder.{needs_are_nodes, run_order_is}
use Rattle.process_order.proofs.order.run_order.Goals as goal

pub order_after-requires : goal.order_after-requires
order_after-requires c =
    let watched = lists_of c.args.watched.now in
    let driven = lists_of c.args.driven.now in
    let size : length driven ≡ length watched = length-map c.args.driven.now (λ v. v.items) ∙ c.requires.size ∙ sym (length-map c.args.watched.now (λ v. v.items)) in
    needs_are_nodes watched driven (lists_of c.as_slice.result.now) c.args.count (is_bound c.args.bound.now) c.in_ok-links.links c.in_ok-links.ensures (subst (λ ns. AreNeeds c.in_ok-links.links (is_bound c.args.bound.now) watched (lists_of ns)) (sym c.as_slice.ensures.value) c.in_ok-needs.ensures) size c.requires.watched

pub returns-clause-size : goal.returns-clause-size
returns-clause-size c =
    let needs : AreNeeds c.in_ok-links.links (is_bound c.args.bound.now) (lists_of c.args.watched.now) (lists_of c.as_slice.result.now) = subst (λ ns. AreNeeds c.in_ok-links.links (is_bound c.args.bound.now) (lists_of c.args.watched.now) (lists_of ns)) (sym c.as_slice.ensures.value) c.in_ok-needs.ensures in
    IfOk-weaker c.order_after.result (λ o. o.size ≡ length c.as_slice.result.now) (λ o. length c.args.watched.now ≤ o.size) (λ o e. omega (arith, e, needs.count, length-map c.as_slice.result.now (λ v. v.items), length-map c.args.watched.now (λ v. v.items))) c.order_after.ensures.size

pub returns-clause-order : goal.returns-clause-order
returns-clause-order c =
    let watched = lists_of c.args.watched.now in
    let driven = lists_of c.args.driven.now in
    let size : length driven ≡ length watched = length-map c.args.driven.now (λ v. v.items) ∙ c.requires.size ∙ sym (length-map c.args.watched.now (λ v. v.items)) in
    let needs : AreNeeds c.in_ok-links.links (is_bound c.args.bound.now) (lists_of c.args.watched.now) (lists_of c.as_slice.result.now) = subst (λ ns. AreNeeds c.in_ok-links.links (is_bound c.args.bound.now) (lists_of c.args.watched.now) (lists_of ns)) (sym c.as_slice.ensures.value) c.in_ok-needs.ensures in
    IfOk-weaker c.order_after.result (λ o. IsOrderAfter (lists_of c.as_slice.result.now) o.items) (λ o. IsRunOrder watched driven (is_bound c.args.bound.now) o.items) (λ o h. run_order_is watched driven (lists_of c.as_slice.result.now) c.args.count (is_bound c.args.bound.now) c.in_ok-links.links c.in_ok-links.ensures needs size c.requires.watched o.items h) c.order_after.ensures.order
