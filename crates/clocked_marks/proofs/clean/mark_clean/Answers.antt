use Rattle.std.proofs.Common.{◌≡◌, ◌∙◌, ◌∷◌, [], ℕ, Bool, Some, refl, subst, sym}
use Rattle.body_replay.specs.Contract.{clean}
use Rattle.design_model.specs.Lawful.{IsLawfulDesign}
use Rattle.design_model.specs.View.{design_view}
use Rattle.chosen_runs.proofs.Listed.{is_listed}
use Rattle.chosen_runs.specs.chosen_early.early_sets.WakeState.{state_of}
use Rattle.chosen_runs.specs.clocked_block.clocked_runs.block_runs.body_calls.Own.{is_in}
use Rattle.chosen_runs.specs.clocked_block.entry_values.replay_model.Step.{clean_store, run_clean}
use Rattle.chosen_runs.specs.clocked_block.entry_values.step_values.Dumped.{AreDumped}
use Rattle.run_marks.specs.cover_marks.Marks.{AreMarksOf}
use Rattle.clocked_marks.proofs.Marked.{clocked_after, listed, reported}
use Rattle.clocked_marks.proofs.Trial.{trial, trial_by, trial_can, trial_dumped, trial_runs, trial_state}
use Rattle.clocked_marks.proofs.clean.mark_clean.Goals as goal

pub run_chosen-requires-clause-ready : goal.run_chosen-requires-clause-ready
run_chosen-requires-clause-ready g c =
    let d = c.requires.ready.0 in
    let ps = c.requires.ready.1 in
    let k = c.requires.ready.2.kept in
    let ws = c.requires.ready.2.queue in
    let can = c.requires.ready.2.runs in
    let same : design_view c.args.design.now ≡ d = sym c.requires.same ∙ can.meets.keeps.design in
    let before = subst (λ e. AreDumped e c.args.codes.now c.args.values.now.closed c.requires.before.0) same c.requires.before.1 in
    let after = subst (λ e. AreDumped e c.args.codes.now c.args.values.now.last c.requires.after.0) same c.requires.after.1 in
    let none : ℕ → ℕ → Bool = λ q. is_in [] in (
      trial d c.args.codes.now c.args.time c.requires.before.0 c.requires.after.0 none,
      trial_state k ws,
      ps,
      trial_dumped d c.args.codes.now c.args.time c.requires.before.0 c.requires.after.0 none c.args.values.now before after,
      trial_runs d c.args.codes.now c.args.time c.requires.before.0 c.requires.after.0 none (c.args.process ∷ ps) c.args.store.now k ws can,
    )

pub returns-clause-ready : goal.returns-clause-ready
returns-clause-ready g c = λ d ps r.
    let can = r.runs in
    let same : design_view c.args.design.now ≡ d = sym c.requires.same ∙ can.meets.keeps.design in
    let old = c.requires.before.0 in
    let new = c.requires.after.0 in
    let before = subst (λ e. AreDumped e c.args.codes.now c.args.values.now.closed old) same c.requires.before.1 in
    let after = subst (λ e. AreDumped e c.args.codes.now c.args.values.now.last new) same c.requires.after.1 in
    let early = (state_of c.run_chosen.new.sets).early in
    let here : ℕ → ℕ → Bool = λ q. is_in early in
    let st = trial d c.args.codes.now c.args.time old new here in
    let w = trial_state r.kept r.queue in
    trial_can d c.args.codes.now c.args.time old new here ps c.run_chosen.new.store (run_clean st (Some c.args.trigger) c.args.process w)
    (c.run_chosen.ensures.runs st w ps (trial_by d c.args.codes.now c.args.time old new here) (trial_dumped d c.args.codes.now c.args.time old new here c.args.values.now before after)
    (is_listed (state_of c.args.sets.now) c.args.habit c.args.process c.args.trigger early c.run_chosen.ensures.early)
    (trial_runs d c.args.codes.now c.args.time old new here (c.args.process ∷ ps) c.args.store.now r.kept r.queue can))

pub returns-clause-points : goal.returns-clause-points
returns-clause-points g c =
    let m = c.args.notes.now in
    let r = c.run_chosen.new.notes in
    let took = c.run_chosen.ensures.took in
    (reported c.args.process m.points.now r.points.now r.process m.marks r.marks m.written r.written c.requires.marks (design_view c.args.design.now) [] took.0 (λ s h. took.1.added s [] h)).points

pub returns-clause-marks : goal.returns-clause-marks
returns-clause-marks g c =
    let m = c.args.notes.now in
    let r = c.run_chosen.new.notes in
    let took = c.run_chosen.ensures.took in
    let told = reported c.args.process m.points.now r.points.now r.process m.marks r.marks m.written r.written c.requires.marks (design_view c.args.design.now) [] took.0 (λ s h. took.1.added s [] h) in
    subst (λ ps. AreMarksOf ps r.marks) (sym told.points) told.marks

pub returns-clause-step : goal.returns-clause-step
returns-clause-step g c = λ st w ps apart once by dumped in_step at.
    let m = c.args.notes.now in
    let r = c.run_chosen.new.notes in
    let lawful = subst IsLawfulDesign (sym c.requires.same ∙ at.runs.meets.keeps.design) c.requires.lawful in
    let took = c.run_chosen.ensures.notes st w ps by dumped in_step at.runs in
    clocked_after c.notes_law.ensures c.unnoted_law.ensures st c.args.time c.args.process (clean_store st c.args.process c.args.trigger w) (clean st.time) tt by lawful m.points.now r.points.now w (c.args.process ∷ ps) ps c.args.store.now c.run_chosen.new.store r.process m r refl apart once at (λ s h. took.added s [] h) (c.run_chosen.ensures.runs st w ps by dumped in_step at.runs)

pub returns-clause-first : goal.returns-clause-first
returns-clause-first g c =
    let m = c.args.notes.now in
    let r = c.run_chosen.new.notes in
    let took = c.run_chosen.ensures.took in
    (listed c.args.process m.points.now r.points.now r.process m.marks r.marks m.written r.written c.requires.marks (design_view c.args.design.now) [] took.0 (λ s h. took.1.added s [] h)).first

pub returns-clause-ranges : goal.returns-clause-ranges
returns-clause-ranges g c =
    let m = c.args.notes.now in
    let r = c.run_chosen.new.notes in
    let took = c.run_chosen.ensures.took in
    (listed c.args.process m.points.now r.points.now r.process m.marks r.marks m.written r.written c.requires.marks (design_view c.args.design.now) [] took.0 (λ s h. took.1.added s [] h)).ranges
