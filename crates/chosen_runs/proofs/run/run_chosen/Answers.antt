use Rattle.std.proofs.Common.{◌+◌, ℕ, List, length, refl, subst, sym}
use Rattle.chosen_early.specs.early_sets.WakeState.{state_of}
use Rattle.chosen_early.specs.Shared.{IsEarlyList}
use Rattle.chosen_early.proofs.Choosing.{early_same}
use Rattle.clocked_block.specs.clocked_runs.block_runs.body_calls.Own.{is_in}
use Rattle.clocked_block.specs.entry_values.replay_model.Step.{Closing}
use Rattle.chosen_runs.specs.Chosen.{IsDumpedStep}
use Rattle.chosen_runs.proofs.Listed.{all_inside, entry_by, entry_here}
use Rattle.chosen_runs.proofs.run.run_chosen.Goals as goal

pub run_clean-requires-clause-things : goal.run_clean-requires-clause-things
run_clean-requires-clause-things g c =
    let w = state_of c.args.sets.now in
    let v = state_of c.choose_early.new.sets in
    let is : IsEarlyList v c.args.habit c.args.process c.args.trigger v.early = c.choose_early.ensures.early in
    all_inside w v c.choose_early.ensures.rest c.args.habit c.args.process c.args.trigger v.early is (length c.args.design.now.signals + length c.args.design.now.memories) c.requires.inside

pub run_clean-requires-clause-entered : goal.run_clean-requires-clause-entered
run_clean-requires-clause-entered g c =
    let w = state_of c.args.sets.now in
    let v = state_of c.choose_early.new.sets in
    let early : List ℕ = v.early in
    let is : IsEarlyList v c.args.habit c.args.process c.args.trigger early = c.choose_early.ensures.early in
    let old : Closing = c.requires.ready.0 in
    let st : Closing = record old { sets = record old.sets { early = λ q. is_in early } } in
    let d = c.requires.ready.3 in
    let dumped : IsDumpedStep st c.args.codes.now c.args.values.now = record { bound = d.bound; old = d.old; before = d.before; known = d.known; after = d.after } in
    (st, c.requires.ready.1, c.requires.ready.2, entry_by w v c.choose_early.ensures.rest c.args.habit c.args.process c.args.trigger early is st c.args.codes.now c.args.values.now dumped c.requires.coded (λ x. refl), c.requires.ready.4)

pub returns-clause-early : goal.returns-clause-early
returns-clause-early g c = λ x.
    let law = early_same (state_of c.args.sets.now) (state_of c.choose_early.new.sets) c.choose_early.ensures.rest c.args.habit c.args.process c.args.trigger x in
    let is = c.choose_early.ensures.early x in
    (λ i. law.1 (is.0 i), λ b. is.1 (law.0 b))

pub returns-clause-runs : goal.returns-clause-runs
returns-clause-runs g c = λ st u ps by dumped in_step h.
    let w = state_of c.args.sets.now in
    let v = state_of c.choose_early.new.sets in
    let early : List ℕ = v.early in
    let is : IsEarlyList v c.args.habit c.args.process c.args.trigger early = c.choose_early.ensures.early in
    c.run_clean.ensures.runs st u ps by (entry_here w v c.choose_early.ensures.rest c.args.habit c.args.process c.args.trigger early is st c.args.codes.now c.args.values.now dumped c.requires.coded in_step) h

pub returns-clause-notes : goal.returns-clause-notes
returns-clause-notes g c = λ st u ps by dumped in_step h.
    let w = state_of c.args.sets.now in
    let v = state_of c.choose_early.new.sets in
    let early : List ℕ = v.early in
    let is : IsEarlyList v c.args.habit c.args.process c.args.trigger early = c.choose_early.ensures.early in
    c.run_clean.ensures.notes st u ps by (entry_here w v c.choose_early.ensures.rest c.args.habit c.args.process c.args.trigger early is st c.args.codes.now c.args.values.now dumped c.requires.coded in_step) h
