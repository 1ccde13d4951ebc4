use Rattle.std.proofs.Common.{◌∙◌, ◌∷◌, [], ℕ, Bool, None, Some, false, refl, subst, sym}
use Rattle.event_machine.specs.Cell.{Values}
use Rattle.four_state.specs.declared.bit.Bit.{Bit}
use Rattle.four_state.specs.declared.bit.Bit.TheVariants.{X}
use Rattle.body_replay.specs.Contract.{weak}
use Rattle.design_model.specs.Lawful.{IsLawfulDesign}
use Rattle.design_model.specs.View.{design_view}
use Rattle.chosen_runs.specs.clocked_block.entry_values.replay_model.Step.{plain_store, run_weak}
use Rattle.run_marks.specs.cover_marks.Marks.{AreMarksOf}
use Rattle.clocked_marks.proofs.Marked.{clocked_after, listed, reported}
use Rattle.clocked_marks.proofs.Trial.{trial, trial_by, trial_can, trial_runs, trial_state}
use Rattle.clocked_marks.proofs.weak.mark_weak.Goals as goal

pub run_weak-requires-clause-ready : goal.run_weak-requires-clause-ready
run_weak-requires-clause-ready g c =
    let d = c.requires.ready.0 in
    let ps = c.requires.ready.1 in
    let k = c.requires.ready.2.kept in
    let ws = c.requires.ready.2.queue in
    let none : ℕ → ℕ → Bool = λ q x. false in
    let all : Values Bit = λ a. X in
    (trial d [] c.args.time all all none, trial_state k ws, ps, trial_runs d [] c.args.time all all none (c.args.process ∷ ps) c.args.store.now k ws c.requires.ready.2.runs)

pub returns-clause-ready : goal.returns-clause-ready
returns-clause-ready g c = λ d ps r.
    let none : ℕ → ℕ → Bool = λ q x. false in
    let all : Values Bit = λ a. X in
    let st = trial d [] c.args.time all all none in
    let w = trial_state r.kept r.queue in
    trial_can d [] c.args.time all all none ps c.run_weak.new.store (run_weak st None (Some c.args.waker) c.args.process w)
    (c.run_weak.ensures.runs st w ps (trial_by d [] c.args.time all all none) (trial_runs d [] c.args.time all all none (c.args.process ∷ ps) c.args.store.now r.kept r.queue r.runs))

pub returns-clause-points : goal.returns-clause-points
returns-clause-points g c =
    let m = c.args.notes.now in
    let r = c.run_weak.new.notes in
    let took = c.run_weak.ensures.took in
    (reported c.args.process m.points.now r.points.now r.process m.marks r.marks m.written r.written c.requires.marks (design_view c.args.design.now) [] took.0 (λ s h. took.1.added s [] h)).points

pub returns-clause-marks : goal.returns-clause-marks
returns-clause-marks g c =
    let m = c.args.notes.now in
    let r = c.run_weak.new.notes in
    let took = c.run_weak.ensures.took in
    let told = reported c.args.process m.points.now r.points.now r.process m.marks r.marks m.written r.written c.requires.marks (design_view c.args.design.now) [] took.0 (λ s h. took.1.added s [] h) in
    subst (λ ps. AreMarksOf ps r.marks) (sym told.points) told.marks

pub returns-clause-step : goal.returns-clause-step
returns-clause-step g c = λ st w ps apart once by at.
    let m = c.args.notes.now in
    let r = c.run_weak.new.notes in
    let lawful = subst IsLawfulDesign (sym c.requires.same ∙ at.runs.meets.keeps.design) c.requires.lawful in
    let took = c.run_weak.ensures.notes st w ps by at.runs in
    clocked_after c.notes_law.ensures c.unnoted_law.ensures st c.args.time c.args.process (plain_store w.kept) (weak st.time c.args.waker) tt by lawful m.points.now r.points.now w (c.args.process ∷ ps) ps c.args.store.now c.run_weak.new.store r.process m r refl apart once at (λ s h. took.added s [] h) (c.run_weak.ensures.runs st w ps by at.runs)

pub returns-clause-first : goal.returns-clause-first
returns-clause-first g c =
    let m = c.args.notes.now in
    let r = c.run_weak.new.notes in
    let took = c.run_weak.ensures.took in
    (listed c.args.process m.points.now r.points.now r.process m.marks r.marks m.written r.written c.requires.marks (design_view c.args.design.now) [] took.0 (λ s h. took.1.added s [] h)).first

pub returns-clause-ranges : goal.returns-clause-ranges
returns-clause-ranges g c =
    let m = c.args.notes.now in
    let r = c.run_weak.new.notes in
    let took = c.run_weak.ensures.took in
    (listed c.args.process m.points.now r.points.now r.process m.marks r.marks m.written r.written c.requires.marks (design_view c.args.design.now) [] took.0 (λ s h. took.1.added s [] h)).ranges
