use Rattle.std.proofs.Common.{subst}
use Rattle.clocked_runs.specs.block_runs.Notes.{AddsNotes}
use Rattle.clocked_runs.specs.run_views.body_replay.Contract.{Outcome, weak}
use Rattle.clocked_runs.specs.run_views.body_replay.Runs.{runs_of}
use Rattle.clocked_runs.specs.store_knowledge.scene_laws.At.{flat}
use Rattle.entry_values.specs.replay_model.Step.{plain_store}
use Rattle.clocked_block.proofs.Ran.{run_is, run_next}
use Rattle.clocked_block.proofs.weak.run_weak.Goals as goal

pub run_block-requires-clause-ready : goal.run_block-requires-clause-ready
run_block-requires-clause-ready g c =
    let st = c.requires.ready.0 in
    let w = c.requires.ready.1 in
    (st.design, plain_store w.kept, flat w.queue, c.requires.ready.2, c.requires.ready.3)

pub returns-clause-runs : goal.returns-clause-runs
returns-clause-runs g c = λ st w ps by h.
    let p = c.args.process in
    let v = plain_store w.kept in
    run_next st.design w.queue ps c.run_block.new.store (runs_of st.design p v (weak c.args.time c.args.waker)) (st.run p v (weak st.time c.args.waker)) (run_is st c.args.time p v (λ t. weak t c.args.waker) by) (c.run_block.ensures.runs st.design v (flat w.queue) ps h)

pub returns-clause-notes : goal.returns-clause-notes
returns-clause-notes g c = λ st w ps by h.
    let p = c.args.process in
    let v = plain_store w.kept in
    subst (λ (z : Outcome). AddsNotes g.N.BlockNotes.noted c.args.notes.now z.notes c.run_block.new.notes) (run_is st c.args.time p v (λ t. weak t c.args.waker) by) (c.run_block.ensures.notes st.design v (flat w.queue) ps h)

pub returns-clause-took : goal.returns-clause-took
returns-clause-took g c =
    let st = c.requires.ready.0 in
    let v = plain_store c.requires.ready.1.kept in
    ((runs_of st.design c.args.process v (weak c.args.time c.args.waker)).notes, c.run_block.ensures.notes st.design v (flat c.requires.ready.1.queue) c.requires.ready.2 c.requires.ready.3)
