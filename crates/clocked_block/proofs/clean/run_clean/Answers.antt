use Rattle.std.proofs.Common.{◌≡◌, ◌∙◌, ◌∷◌, ap, get_or, subst, sym}
use Rattle.design_model.specs.Design.{body, body_at}
use Rattle.design_model.specs.Mentions.{body_assigns}
use Rattle.design_model.specs.View.{design_view, process_view}
use Rattle.clocked_runs.specs.CanRun.{CanRun}
use Rattle.clocked_runs.specs.block_runs.Notes.{AddsNotes}
use Rattle.clocked_runs.specs.run_views.body_replay.Contract.{Outcome, clean}
use Rattle.clocked_runs.specs.run_views.body_replay.Runs.{StoreView, runs_of}
use Rattle.clocked_runs.specs.store_knowledge.scene_laws.At.{flat}
use Rattle.process_targets.proofs.Processes.{body_is}
use Rattle.entry_values.specs.replay_model.Step.{clean_store, plain_store}
use Rattle.entry_values.specs.step_values.Dumped.{AreDumped}
use Rattle.clocked_block.proofs.Entered.{runs_same, shown_view}
use Rattle.clocked_block.proofs.Ran.{met_anew, run_is, run_next}
use Rattle.clocked_block.proofs.clean.run_clean.Goals as goal

pub enter_block-requires-clause-written : goal.enter_block-requires-clause-written
enter_block-requires-clause-written g c = λ x.
    let p = c.args.process in
    let q = c.index-processes-process.result in
    let found : q ≡ get_or c.args.design.now.processes p q = c.index-processes-process.is ∙ ap (λ qs. get_or qs p q) c.as_slice-processes.ensures in
    c.requires.written x ∙ ap (body_assigns x) (body_is c.args.design.now p q c.requires.place found)

pub enter_block-requires-clause-coded : goal.enter_block-requires-clause-coded
enter_block-requires-clause-coded g c = c.requires.entered.3.coded

pub enter_block-requires-clause-before : goal.enter_block-requires-clause-before
enter_block-requires-clause-before g c =
    let is = c.requires.entered.3 in
    (is.old, subst (λ e. AreDumped e c.args.codes.now c.args.values.now.closed is.old) (sym c.requires.entered.4.meets.keeps.design ∙ c.requires.same) is.before)

pub enter_block-requires-clause-after : goal.enter_block-requires-clause-after
enter_block-requires-clause-after g c =
    let st = c.requires.entered.0 in
    let is = c.requires.entered.3 in
    (st.new, subst (λ e. AreDumped e c.args.codes.now c.args.values.now.last st.new) (sym c.requires.entered.4.meets.keeps.design ∙ c.requires.same) is.after)

pub run_block-requires-clause-same : goal.run_block-requires-clause-same
run_block-requires-clause-same g c = ap (λ e. design_view e.now) c.enter_block.ensures.design ∙ c.requires.same

pub run_block-requires-clause-ready : goal.run_block-requires-clause-ready
run_block-requires-clause-ready g c =
    let st = c.requires.entered.0 in
    let w = c.requires.entered.1 in
    let ps = c.requires.entered.2 in
    let h = c.requires.entered.4 in
    let p = c.args.process in
    let s = body (process_view c.index-processes-process.result) in
    let x = c.enter_block.new.store in
    let m = c.enter_block.ensures.meets st p w c.requires.entered.3 h.meets in
    let v : StoreView = shown_view st p c.args.trigger w s x m in
    (st.design, v, flat w.queue, ps, met_anew st.design (plain_store w.kept) v (flat w.queue) (p ∷ ps) c.args.store.now x h m.meets c.enter_block.ensures.design c.enter_block.ensures.updates c.enter_block.ensures.rooms)

pub returns-clause-runs : goal.returns-clause-runs
returns-clause-runs g c = λ st w ps by is h.
    let p = c.args.process in
    let q = c.index-processes-process.result in
    let s = body (process_view q) in
    let x = c.enter_block.new.store in
    let found : q ≡ get_or c.args.design.now.processes p q = c.index-processes-process.is ∙ ap (λ qs. get_or qs p q) c.as_slice-processes.ensures in
    let same : design_view c.args.design.now ≡ st.design = sym c.requires.same ∙ h.meets.keeps.design in
    let of : s ≡ body_at st.design p = sym (body_is c.args.design.now p q c.requires.place found) ∙ ap (λ e. body_at e p) same in
    let m = c.enter_block.ensures.meets st p w is h.meets in
    let v : StoreView = shown_view st p c.args.trigger w s x m in
    let all : StoreView = clean_store st p c.args.trigger w in
    let at : CanRun st.design v (flat w.queue) (p ∷ ps) x = met_anew st.design (plain_store w.kept) v (flat w.queue) (p ∷ ps) c.args.store.now x h m.meets c.enter_block.ensures.design c.enter_block.ensures.updates c.enter_block.ensures.rooms in
    run_next st.design w.queue ps c.run_block.new.store (runs_of st.design p v (clean c.args.time)) (st.run p all (clean st.time)) (runs_same st p c.args.trigger w s x m (clean c.args.time) of ∙ run_is st c.args.time p all clean by) (c.run_block.ensures.runs st.design v (flat w.queue) ps at)

pub returns-clause-notes : goal.returns-clause-notes
returns-clause-notes g c = λ st w ps by is h.
    let p = c.args.process in
    let q = c.index-processes-process.result in
    let s = body (process_view q) in
    let x = c.enter_block.new.store in
    let found : q ≡ get_or c.args.design.now.processes p q = c.index-processes-process.is ∙ ap (λ qs. get_or qs p q) c.as_slice-processes.ensures in
    let same : design_view c.args.design.now ≡ st.design = sym c.requires.same ∙ h.meets.keeps.design in
    let of : s ≡ body_at st.design p = sym (body_is c.args.design.now p q c.requires.place found) ∙ ap (λ e. body_at e p) same in
    let m = c.enter_block.ensures.meets st p w is h.meets in
    let v : StoreView = shown_view st p c.args.trigger w s x m in
    let all : StoreView = clean_store st p c.args.trigger w in
    let at : CanRun st.design v (flat w.queue) (p ∷ ps) x = met_anew st.design (plain_store w.kept) v (flat w.queue) (p ∷ ps) c.args.store.now x h m.meets c.enter_block.ensures.design c.enter_block.ensures.updates c.enter_block.ensures.rooms in
    subst (λ (z : Outcome). AddsNotes g.N.BlockNotes.noted c.args.notes.now z.notes c.run_block.new.notes) (runs_same st p c.args.trigger w s x m (clean c.args.time) of ∙ run_is st c.args.time p all clean by) (c.run_block.ensures.notes st.design v (flat w.queue) ps at)

pub returns-clause-took : goal.returns-clause-took
returns-clause-took g c =
    let st = c.requires.entered.0 in
    let w = c.requires.entered.1 in
    let ps = c.requires.entered.2 in
    let h = c.requires.entered.4 in
    let p = c.args.process in
    let s = body (process_view c.index-processes-process.result) in
    let x = c.enter_block.new.store in
    let m = c.enter_block.ensures.meets st p w c.requires.entered.3 h.meets in
    let v : StoreView = shown_view st p c.args.trigger w s x m in
    let at : CanRun st.design v (flat w.queue) (p ∷ ps) x = met_anew st.design (plain_store w.kept) v (flat w.queue) (p ∷ ps) c.args.store.now x h m.meets c.enter_block.ensures.design c.enter_block.ensures.updates c.enter_block.ensures.rooms in
    ((runs_of st.design p v (clean c.args.time)).notes, c.run_block.ensures.notes st.design v (flat w.queue) ps at)
