use Rattle.std.proofs.Common.{◌+◌, get_or, take, refl, sym, subst}
use Rattle.std.proofs.lemmas.List.{take_all}
use Rattle.std.proofs.lemmas.List.Elements.{Contains-get_or}
use Rattle.design_model.specs.View.{design_view}
use Rattle.process_targets.specs.Targets.{row_has}
use Rattle.wake_bits.specs.Wakes.{AreWakes}
use Rattle.wake_bits.specs.declared.wakes.Wake.{Wake}
use Rattle.wake_bits.proofs.WakeRows.{iff_same, wakes_more}
use Rattle.wake_bits.proofs.wakes.wake_list.Goals as goal

pub contains-mentioned-requires : goal.contains-mentioned-requires
contains-mentioned-requires c =
    c.requires.watched (get_or c.args.watched.now c.loop-thing.thing-index 0) (Contains-get_or c.args.watched.now c.loop-thing.thing-index 0 c.loop-thing-test.true)

pub loop-thing-preserved : goal.loop-thing-preserved
loop-thing-preserved c test has =
    let d = design_view c.args.design.now in
    let x = get_or c.args.watched.now c.loop-thing.thing-index 0 in
    let w : Wake = record { thing = get_or c.args.watched.now c.loop-thing.thing-index 0; mask = c.wake_places-mask.result; mentioned = c.contains-mentioned.result } in
    subst (λ ws. AreWakes d (row_has c.args.targets.now) test (take (c.loop-thing.thing-index + 1) c.args.watched.now) ws) (sym c.in_ok-push.ensures.items)
    (wakes_more d (row_has c.args.targets.now) test c.args.watched.now c.loop-thing.thing-index c.loop-thing.list.items w c.loop-thing-test.true refl (record { places = c.wake_places-mask.ensures; mentioned = iff_same c.contains-mentioned.result (test x) c.contains-mentioned.ensures (has x) }) (c.loop-thing.invariant test has))

pub returns : goal.returns
returns c test has =
    subst (λ xs. AreWakes (design_view c.args.design.now) (row_has c.args.targets.now) test xs c.loop-thing.list.items) (take_all c.loop-thing.thing-index c.args.watched.now c.loop-thing-test.false) (c.loop-thing.invariant test has)
