use Rattle.std.proofs.Common.{◌<◌, length, get_or, set, ap, arith, subst}
use Rattle.early_sets.proofs.Numbering.{numbered_all, numbered_more, numbered_none}
use Rattle.early_sets.proofs.rounds.number.Goals as goal

pub loop-place-init : goal.loop-place-init
loop-place-init g c = (numbered_none c.args.set.now.items c.args.round c.args.rounds.now.items, omega arith)

pub get-requires : goal.get-requires
get-requires g c = subst (λ n. c.loop-place.place < n) c.len-place-end.ensures.value c.loop-place-test.true

pub loop-place-preserved : goal.loop-place-preserved
loop-place-preserved g c =
    let xs = c.args.set.now.items in
    let i = c.loop-place.place in
    let now = c.loop-place.rounds.items in
    let inside : i < length xs = omega (arith, c.len-place-end.ensures.value) in
    let below : get_or xs i 0 < length now = omega (arith, c.get.ensures.value, c.get.ensures.below, c.requires, c.loop-place.invariant.0.size) in (
      numbered_more xs i c.args.round c.args.rounds.now.items now (set now c.get.result c.args.round) inside below (ap (λ k. set now k c.args.round) c.get.ensures.value) c.loop-place.invariant.0,
      omega (arith, c.count.ensures, c.loop-place.invariant.1),
    )

pub returns-clause-size : goal.returns-clause-size
returns-clause-size g c = c.loop-place.invariant.0.size

pub returns-clause-members : goal.returns-clause-members
returns-clause-members g c = (numbered_all c.args.set.now.items c.loop-place.place c.args.round c.args.rounds.now.items c.loop-place.rounds.items (omega (arith, c.len-place-end.ensures.value)) c.loop-place.invariant.0).members

pub returns-clause-others : goal.returns-clause-others
returns-clause-others g c = (numbered_all c.args.set.now.items c.loop-place.place c.args.round c.args.rounds.now.items c.loop-place.rounds.items (omega (arith, c.len-place-end.ensures.value)) c.loop-place.invariant.0).others
