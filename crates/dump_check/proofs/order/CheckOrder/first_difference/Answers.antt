use Rattle.std.proofs.Common.{◌-◌, ◌∙◌, drop, take, get_or, reverse, sym, ap, subst, arith}
use Rattle.std.specs.List.{All}
use Rattle.dump_check.specs.Checks.{FitsAt}
use Rattle.dump_check.proofs.Lasts.{first_found, middle, parts}
use Rattle.dump_check.proofs.order.CheckOrder.first_difference.Goals as goal

pub overflow_cast-signal : goal.overflow_cast-signal
overflow_cast-signal c = omega (arith, c.get-signal.ensures.below, c.self.invariant)

pub compare-found-requires : goal.compare-found-requires
compare-found-requires c =
    let items = c.self.inside.signals.items in
    let place = c.loop-place.place in
    let order = ap (λ t. t.order) c.self.view_is in
    let is = sym order ∙ parts items place (omega (arith, c.loop-place-test.true)) (omega (arith, c.loop-place.auto.place, c.len-place.ensures.value)) in
    rw c.get-signal.ensures.value (middle (FitsAt c.args.codes.now c.args.dump.now.last c.args.made.now) (reverse (drop place items)) (get_or items (place - 1) 0) (reverse (take (place - 1) items)) (subst (All (FitsAt c.args.codes.now c.args.dump.now.last c.args.made.now)) is c.requires))

pub returns-then-is_some-clause-some : goal.returns-then-is_some-clause-some
returns-then-is_some-clause-some c =
    let items = c.self.inside.signals.items in
    let place = c.loop-place.place in
    let order = ap (λ t. t.order) c.self.view_is in
    let is = sym order ∙ parts items place (omega (arith, c.loop-place-test.true)) (omega (arith, c.loop-place.auto.place, c.len-place.ensures.value)) in
    first_found c.args.codes.now c.args.dump.now.last c.args.made.now c.args.self.now.order (reverse (drop place items)) (reverse (take (place - 1) items)) (get_or items (place - 1) 0) c.compare-found.result (rw c.get-signal.ensures.value at c.compare-found.ensures.some) is c.loop-place.invariant
