use Rattle.std.proofs.Common.{◌≡◌, ◌∙◌, ◌+◌, ◌<◌, ℕ, true, [], length, map, None, Some, refl, subst, sym, arith}
use Rattle.std.specs.Prelude.{slice_index_or}
use Rattle.std.proofs.lemmas.List.{length-map}
use Rattle.std.proofs.Math.Path.{fun_ext}
use Rattle.cover_marks.specs.Marks.{AreMarksOf}
use Rattle.first_step.specs.mark_laws.Marked.{AreVerdicts}
use Rattle.early_sets.specs.WakeState.{state_of}
use Rattle.replay_follows.proofs.Steps.{new_pauses}
use Rattle.replay_model.specs.Step.{new_replay}
use Rattle.signal_marks.specs.Seen.{AreSeen}
use Rattle.wake_laws.specs.OfDesign.{AreWritersOf}
use Rattle.replay_core.specs.Made.{made_with, parts_with, subject_of}
use Rattle.replay_core.proofs.Starting.{is_subject}
use Rattle.design_model.specs.View.{design_view, process_view}
use Rattle.design_model.specs.Design.{In}
use Rattle.index_sets.specs.Rows.{row_at}
use Rattle.written_words.specs.Written.{AreRanges, flag_at}
use Rattle.replay_core.specs.Fits.{FitsRoom, IsForgotten, IsReplayable}
use Rattle.replay_core.specs.declared.tables.ReplayTables.{ReplayTables}
use Rattle.replay_core.proofs.Parts.{count_is, new_ready, no_value}
use Rattle.replay_core.proofs.Words.{new_followed}
use Rattle.replay_core.proofs.replay.Replay.new.Goals as goal

pub returns-clause-ready : goal.returns-clause-ready
returns-clause-ready c =
    let D = c.args.design.now in
    let d = design_view D in
    let tables = c.in_ok-tables in
    let room = c.in_ok-room in
    let state = c.in_ok-state in
    let size : length (map process_view D.processes) ≡ length D.processes = length-map D.processes process_view in
    let fits = subst (λ x. FitsRoom d x room.room.value) c.deref-2.ensures room.ensures.fits in
    let flags = c.in_ok-followed.followed.items in
    let ranges : AreRanges D.memories flags state.state.notes.written.ranges = subst (λ fs. AreRanges D.memories fs state.state.notes.written.ranges) c.as_slice-6.ensures.value state.ensures.ranges in
    let words = room.ensures.words state.state.notes.written.ranges (subst (λ fs. AreRanges D.memories fs state.state.notes.written.ranges) (sym c.as_slice-5.ensures.value) ranges) in
    let rows : length tables.tables.value.processes.watched ≡ length D.processes = sym tables.ensures.fits.wakes.count ∙ tables.ensures.fits.rows.wakes_count ∙ size in
    let watched = new_followed d tables.tables.value state.state.notes.written room.room.value.words flags (length D.processes) state.ensures.first ranges words.0 rows
    (subst (λ (x : ReplayTables). (p m : ℕ) → p < length D.processes → In (length D.signals + m) (row_at x.processes.watched p) → m < length D.memories → flag_at flags m ≡ true) c.deref.ensures c.in_ok-followed.ensures.each) in
    let forgotten : IsForgotten d room.room.value state.state = record { knows = state.ensures.knows; words = words.1; told = state.ensures.told } in
    new_ready d c.args.points.now tables.tables.value room.room.value state.state c.past_codes-count.result c.requires.replayable tables.ensures.fits fits room.ensures.none room.ensures.none_clocked forgotten watched state.ensures.values tables.ensures.count (state.ensures.acted ∙ sym size) state.ensures.seen state.ensures.machines state.ensures.few_machines state.ensures.points state.ensures.marks

pub returns-clause-within : goal.returns-clause-within
returns-clause-within c = λ s code coded.
    let count = count_is c.in_ok-state.state.values c.past_codes-count.result c.in_ok-state.ensures.values in
    let below = c.past_codes-count.ensures s code (subst (λ cs. slice_index_or cs s None ≡ Some code) (sym c.as_slice-2.ensures.value) coded) in
    omega (arith, below, count)

pub returns-clause-values : goal.returns-clause-values
returns-clause-values c = λ code. no_value c.in_ok-state.state.values c.past_codes-count.result code c.in_ok-state.ensures.values

pub returns-clause-paused : goal.returns-clause-paused
returns-clause-paused c = λ dump u of none.
    let d = design_view c.args.design.now in
    let x = c.in_ok-tables.tables.value in
    let r = c.in_ok-room.room.value in
    let s = c.in_ok-state.state in
    let made = c.in_ok-state.ensures in
    let points = s.notes.points.now in
    let noted = made.points in
    let replayable : IsReplayable d points = subst (IsReplayable d) (sym noted) c.requires.replayable in
    let fits : FitsRoom d x r = subst (λ t. FitsRoom d t r) c.deref-2.ensures c.in_ok-room.ensures.fits in
    let m = made_with d c.args.habit points x in
    let sets = state_of r.step.sets in
    record {
      dumped = of;
      off = refl;
      replay = new_replay;
      pauses = new_pauses (subject_of m dump) u (parts_with r s).parts
          (is_subject d c.args.habit points x replayable (c.runs_lawful.ensures d replayable.lawful) c.in_ok-tables.ensures.fits dump of)
          fits.sets
          (subst (λ b. AreWritersOf d b sets.tables.things sets.writers) (sym (fun_ext of.bound)) fits.writers)
          (record {
            knows = made.knows;
            acted = λ p comb. made.unacted p;
            points = subst (λ ps. AreMarksOf ps s.notes.marks) (sym noted) made.marks;
            marks = subst (λ ps. AreVerdicts d ps [] s.notes.marks.verdicts) (sym noted) made.verdicts;
            seen = subst (λ ps. AreSeen d ps s.seen s.notes.marks.verdicts) (sym noted) made.unseen;
          })
          made.told none;
    }
