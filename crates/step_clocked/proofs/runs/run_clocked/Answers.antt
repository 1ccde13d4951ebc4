use Rattle.std.proofs.Common.{◌∙◌, [], ℕ, ap, map, refl, subst, sym}
use Rattle.design_model.specs.Design.{In}
use Rattle.design_model.specs.Lawful.{IsLawfulDesign}
use Rattle.design_model.specs.View.{design_view}
use Rattle.clocked_marks.specs.AtClocked.{AtClocked}
use Rattle.clocked_marks.specs.chosen_runs.chosen_early.early_sets.WakeState.{state_of}
use Rattle.clocked_marks.specs.chosen_runs.clocked_block.clocked_runs.store_knowledge.Knows.{Knows}
use Rattle.clocked_marks.specs.chosen_runs.clocked_block.clocked_runs.store_knowledge.scene_laws.At.{flat}
use Rattle.replay_sets.specs.replay_model.Step.{clocked_run, opened}
use Rattle.step_clocked.proofs.Members.{listed_inside, once_distinct}
use Rattle.step_clocked.proofs.Order.{ran_members, ran_once}
use Rattle.step_clocked.proofs.Sets.{trigger_wakes}
use Rattle.step_clocked.proofs.runs.run_clocked.Goals as goal

pub begin_runs-requires : goal.begin_runs-requires
begin_runs-requires g c = subst IsLawfulDesign (sym c.requires.same) c.requires.lawful

pub run_in_turn-requires-clause-same : goal.run_in_turn-requires-clause-same
run_in_turn-requires-clause-same g c = ap (λ e. design_view e.now) c.begin_runs.ensures.design ∙ c.requires.same

pub run_in_turn-requires-clause-ready : goal.run_in_turn-requires-clause-ready
run_in_turn-requires-clause-ready g c =
    let d = c.requires.known.0 in
    let k = c.requires.known.1 in
    let h = c.requires.known.2 in
    let listed = map (λ (q : ℕ × ℕ). q.0) c.args.list.now.pairs in
    let inside = listed_inside c.args.given.now.design.now d (sym c.requires.same ∙ h.design) c.args.list.now.pairs c.requires.below in
    (d, record { kept = k; queue = []; runs = c.begin_runs.ensures.ready d k listed (once_distinct listed c.fitting.ensures.once) inside h })

pub make_updates-requires : goal.make_updates-requires
make_updates-requires g c = subst IsLawfulDesign (sym c.run_in_turn.ensures.same) c.requires.lawful

pub returns-clause-members : goal.returns-clause-members
returns-clause-members g c = λ p.
    let listed = map (λ (q : ℕ × ℕ). q.0) c.args.list.now.pairs in
    let law = ran_members (state_of c.args.sets.now) listed p in
    (λ i. law.0 (subst (In p) c.run_in_turn.ensures.ran i), λ e. subst (In p) (sym c.run_in_turn.ensures.ran) (law.1 e))

pub returns-clause-once : goal.returns-clause-once
returns-clause-once g c =
    let listed = map (λ (q : ℕ × ℕ). q.0) c.args.list.now.pairs in
    rw c.run_in_turn.ensures.ran (ran_once (state_of c.args.sets.now) listed (once_distinct listed c.fitting.ensures.once))

pub returns-clause-same : goal.returns-clause-same
returns-clause-same g c = ap (λ e. design_view e.now) c.make_updates.ensures.design ∙ c.run_in_turn.ensures.same

pub returns-clause-known : goal.returns-clause-known
returns-clause-known g c =
    let r = c.run_in_turn.ensures.ready in
    (r.0, _, c.make_updates.ensures.knows r.0 r.1.kept r.1.queue [] r.1.runs)

pub returns-clause-chosen : goal.returns-clause-chosen
returns-clause-chosen g c = λ woken.
    let r = c.run_in_turn.ensures.chosen in
    (r.0, λ p s trigger. r.1 p s (woken p s (trigger_wakes (state_of c.args.sets.now) p s trigger)) trigger)

pub returns-clause-knows : goal.returns-clause-knows
returns-clause-knows g c = λ st is of h verdicts.
    let listed = map (λ (q : ℕ × ℕ). q.0) c.args.list.now.pairs in
    let inside = listed_inside c.args.given.now.design.now st.design (sym c.requires.same ∙ h.design) c.args.list.now.pairs c.requires.below in
    let at : AtClocked st c.args.notes.now.points.now (opened st) listed c.begin_runs.new.store c.args.notes.now = record {
      runs = c.begin_runs.ensures.ready st.design st.start.kept listed (once_distinct listed c.fitting.ensures.once) inside h;
      points = c.requires.marks;
      marks = verdicts;
      unwritten = λ m i cell mem among follows none here. (refl, λ k. refl);
    } in
    let end = c.run_in_turn.ensures.step st is of at in
    subst (λ k. Knows st.design k c.make_updates.new.store) (sym (c.queue_law.ensures (clocked_run st).kept (clocked_run st).queue))
    (c.make_updates.ensures.knows st.design (clocked_run st).kept (flat (clocked_run st).queue) [] end.runs)

pub returns-clause-verdicts : goal.returns-clause-verdicts
returns-clause-verdicts g c = λ st is of h verdicts.
    let listed = map (λ (q : ℕ × ℕ). q.0) c.args.list.now.pairs in
    let inside = listed_inside c.args.given.now.design.now st.design (sym c.requires.same ∙ h.design) c.args.list.now.pairs c.requires.below in
    let at : AtClocked st c.args.notes.now.points.now (opened st) listed c.begin_runs.new.store c.args.notes.now = record {
      runs = c.begin_runs.ensures.ready st.design st.start.kept listed (once_distinct listed c.fitting.ensures.once) inside h;
      points = c.requires.marks;
      marks = verdicts;
      unwritten = λ m i cell mem among follows none here. (refl, λ k. refl);
    } in
    (c.run_in_turn.ensures.step st is of at).marks

pub returns-clause-unwritten : goal.returns-clause-unwritten
returns-clause-unwritten g c = λ st is of h verdicts m i cell mem among follows none here.
    let listed = map (λ (q : ℕ × ℕ). q.0) c.args.list.now.pairs in
    let inside = listed_inside c.args.given.now.design.now st.design (sym c.requires.same ∙ h.design) c.args.list.now.pairs c.requires.below in
    let at : AtClocked st c.args.notes.now.points.now (opened st) listed c.begin_runs.new.store c.args.notes.now = record {
      runs = c.begin_runs.ensures.ready st.design st.start.kept listed (once_distinct listed c.fitting.ensures.once) inside h;
      points = c.requires.marks;
      marks = verdicts;
      unwritten = λ m i cell mem among follows none here. (refl, λ k. refl);
    } in
    let left = (c.run_in_turn.ensures.step st is of at).unwritten m i cell mem among follows none here in
    left.1 (clocked_run st).kept ∙ left.0
