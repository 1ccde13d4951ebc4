use Rattle.std.proofs.Common.{◌≡◌, false, length, ap, refl, subst, sym, ◌∙◌}
use Rattle.code_values.specs.Values.{no_values}
use Rattle.design_model.specs.View.{design_view}
use Rattle.replay_follows.specs.Follows.{Pauses}
use Rattle.replay_model.specs.Step as model
use Rattle.replay_core.specs.Fits.{FitsParts, FitsReplay}
use Rattle.replay_core.specs.Made.{IsDumpFor, made_with, parts_with, subject_of}
use Rattle.replay_core.specs.Parts.{parts_of}
use Rattle.replay_core.specs.declared.fault.Phase.TheVariants.{Paused}
use Rattle.replay_core.specs.declared.room.ReplayRoom.{ReplayRoom}
use Rattle.replay_core.specs.declared.state.ReplayState.{ReplayState}
use Rattle.replay_core.proofs.Parts.{count_is, no_value}
use Rattle.replay_core.proofs.Paused.{paused_ready, pauses_after, pauses_still}
use Rattle.replay_core.proofs.replay.Replay.pause.Goals as goal

pub forget_values-requires-clause-fits : goal.forget_values-requires-clause-fits
forget_values-requires-clause-fits c =
    let x = c.args.self.now in
    let points = x.state.notes.points.now in (
      points,
      x.tables.value,
      subst (λ r. FitsParts (design_view x.design.now) points x.tables.value r x.state) (sym c.deref_mut.ensures.value) c.requires.ready.parts,
    )

pub forget_values-requires-clause-lawful : goal.forget_values-requires-clause-lawful
forget_values-requires-clause-lawful c = c.requires.ready.replayable.lawful

pub returns : goal.returns
returns c =
    let x = c.args.self.now in
    let d = design_view x.design.now in
    let points = x.state.notes.points.now in
    let tables = x.tables.value in
    let s = x.state in
    let run = c.forget_values in
    let e = run.ensures in
    let r = x.room.value in
    let n = length s.values.last in
    let room : ReplayRoom = record r { words = run.new.room.words } in
    let state : ReplayState = record s { values = no_values n; store = run.new.state.store; machines = run.new.state.machines } in
    let room_is : run.new.room ≡ room = e.room ∙ ap (λ (q : ReplayRoom). record q { words = run.new.room.words }) c.deref_mut.ensures.value in
    let state_is : run.new.state ≡ state = e.state in
    let m = made_with d x.habit points tables in
    let ready = paused_ready d points tables r s x.phase run.new.room.words run.new.state.store run.new.state.machines c.requires.ready e.knows e.ranges e.words e.index e.told in
    let after : made_with d x.habit run.new.state.notes.points.now tables ≡ m = ap (λ (q : ReplayState). made_with d x.habit q.notes.points.now tables) state_is in
    let same : ((parts_with run.new.room run.new.state).parts) ≡ record (parts_of x).parts { values = no_values n; store = run.new.state.store; told = false } =
    ap (λ (q : ReplayRoom). (parts_with q run.new.state).parts) room_is ∙ ap (λ (q : ReplayState). (parts_with room q).parts) state_is
    ∙ ap (λ b. record (parts_of x).parts { values = no_values n; store = run.new.state.store; told = b }) e.told in
    record {
      ready = subst (λ (q : ReplayState). FitsReplay d q.notes.points.now tables run.new.room q Paused) (sym state_is) (subst (λ (q : ReplayRoom). FitsReplay d points tables q state Paused) (sym room_is) ready);
      made = after;
      off = λ on. refl;
      values = λ on code. no_value run.new.state.values n code (ap (λ (q : ReplayState). q.values) state_is);
      count = ap (λ (q : ReplayState). length q.values.last) state_is ∙ count_is (no_values n) n refl;
      followed = λ dump t u followed later none. record {
        dumped = subst (λ k. IsDumpFor k dump) (sym after) followed.dumped;
        off = refl;
        replay = model.forgotten followed.replay;
        pauses = subst (λ k. Pauses (subject_of k dump) u (model.forgotten followed.replay) (parts_with run.new.room run.new.state).parts) (sym after)
            (subst (Pauses (subject_of m dump) u (model.forgotten followed.replay)) (sym same) (pauses_after (subject_of m dump) followed.replay (parts_of x).parts (no_values n) run.new.state.store e.knows t u followed.follows.parts later none));
      };
      stays = λ dump u v paused le none. record {
        dumped = subst (λ k. IsDumpFor k dump) (sym after) paused.dumped;
        off = refl;
        replay = model.forgotten paused.replay;
        pauses = subst (λ k. Pauses (subject_of k dump) v (model.forgotten paused.replay) (parts_with run.new.room run.new.state).parts) (sym after)
            (subst (Pauses (subject_of m dump) v (model.forgotten paused.replay)) (sym same) (pauses_still (subject_of m dump) paused.replay (parts_of x).parts (no_values n) run.new.state.store e.knows u v paused.pauses le none));
      };
      refused = λ fault refused. absurd (c.in_default.not-Refused fault refused);
    }
