use Rattle.std.proofs.Common.{[], get_or, ◌+◌, sym, subst, arith}
use Rattle.std.proofs.lemmas.List.Elements.{Contains-get_or}
use Rattle.process_order.specs.Needs.{HasNeeds, is_bound}
use Rattle.process_order.proofs.Adding.{needs_all, needs_more, needs_none}
use Rattle.process_order.proofs.needs.Links.needs_of.Goals as goal

pub loop-thing-init : goal.loop-thing-init
loop-thing-init c =
    subst (λ xs. HasNeeds c.args.self.now (is_bound c.args.bound.now) c.args.gates c.args.process [] xs) (sym c.new-needs.ensures.items) (needs_none c.args.self.now (is_bound c.args.bound.now) c.args.gates c.args.process c.args.watched.now)

pub push_need-requires-clause-drivers : goal.push_need-requires-clause-drivers
push_need-requires-clause-drivers c =
    c.requires.drivers (get_or c.args.watched.now c.loop-thing.thing-index 0) (Contains-get_or c.args.watched.now c.loop-thing.thing-index 0 c.loop-thing-test.true)

pub push_need-requires-clause-owners : goal.push_need-requires-clause-owners
push_need-requires-clause-owners c =
    c.requires.owners (get_or c.args.watched.now c.loop-thing.thing-index 0) (Contains-get_or c.args.watched.now c.loop-thing.thing-index 0 c.loop-thing-test.true)

pub loop-thing-preserved : goal.loop-thing-preserved
loop-thing-preserved c =
    needs_more c.args.self.now (is_bound c.args.bound.now) c.args.gates c.args.process c.args.watched.now c.loop-thing.needs.items c.push_need.new.needs.items c.loop-thing.thing-index c.loop-thing-test.true c.loop-thing.invariant c.in_ok-push_need.ensures

pub returns : goal.returns
returns c =
    needs_all c.args.self.now (is_bound c.args.bound.now) c.args.gates c.args.process c.args.watched.now c.loop-thing.needs.items c.loop-thing.thing-index c.loop-thing-test.false c.loop-thing.invariant
