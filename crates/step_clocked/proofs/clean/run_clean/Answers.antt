use Rattle.std.proofs.Common.{arith}
use Rattle.std.proofs.lemmas.List.{length-map}
use Rattle.design_model.specs.View.{design_view, process_view}
use Rattle.clocked_marks.specs.chosen_runs.chosen_early.early_sets.WakeState.{state_of}
use Rattle.step_clocked.proofs.Sets.{early_below, few_things, trigger_coded, trigger_wakes, waker_below}
use Rattle.step_clocked.proofs.clean.run_clean.Goals as goal

pub row-requires : goal.row-requires
row-requires g c = let place = c.requires.place in let rows = c.requires.written.count in let count = length-map c.args.given.now.design.now.processes process_view in omega (arith, place, rows, count)

pub mark_clean-requires-clause-process : goal.mark_clean-requires-clause-process
mark_clean-requires-clause-process g c =
    let place = c.requires.place in let all = c.requires.sets.tables.processes_are in let count = length-map c.args.given.now.design.now.processes process_view in omega (arith, place, all, count)

pub mark_clean-requires-clause-inside : goal.mark_clean-requires-clause-inside
mark_clean-requires-clause-inside g c = λ x e.
    let low = early_below (design_view c.args.given.now.design.now) c.args.given.now.codes.now (state_of c.args.sets.now) c.requires.sets c.args.given.now.habit c.args.process c.args.trigger x e in
    let all = c.requires.sets.tables.things_are in
    omega (arith, low, all)

pub mark_clean-requires-clause-few : goal.mark_clean-requires-clause-few
mark_clean-requires-clause-few g c = few_things (design_view c.args.given.now.design.now) c.requires.lawful

pub mark_clean-requires-clause-written : goal.mark_clean-requires-clause-written
mark_clean-requires-clause-written g c = λ x. rw c.row.ensures (c.requires.written.each c.args.process x)

pub mark_clean-requires-clause-signal : goal.mark_clean-requires-clause-signal
mark_clean-requires-clause-signal g c =
    let w = state_of c.args.sets.now in
    waker_below (design_view c.args.given.now.design.now) c.requires.lawful w c.requires.sets.tables c.args.process c.args.trigger (trigger_wakes w c.args.process c.args.trigger c.requires.trigger)

pub mark_clean-requires-clause-coded : goal.mark_clean-requires-clause-coded
mark_clean-requires-clause-coded g c = trigger_coded (design_view c.args.given.now.design.now) c.args.given.now.codes.now (state_of c.args.sets.now) c.requires.sets c.requires.lawful c.args.process c.args.trigger c.requires.trigger
