-- A closing step of each dump that was followed up to it.
use Rattle.std.proofs.Common.{◌≡◌, ◌∙◌, ℕ, suc, ◌||◌, not, Bool, true, false, ◌++◌, List, flat_map, length, Option, Some, None, sym, ap, subst}
use Rattle.std.specs.Prelude.{slice_index_or}
use Rattle.std.proofs.lemmas.Bool.{or_left}
use Rattle.event_machine.specs.Cell.{Cell}
use Rattle.four_state.specs.Vector.{Vector}
use Rattle.body_replay.specs.Runs.{runs_of}
use Rattle.body_store.specs.declared.store.Store.{Store}
use Rattle.code_values.specs.Values.{value_of}
use Rattle.cover_marks.specs.Marks.{AreMarksOf}
use Rattle.cover_marks.specs.declared.marks.Marks.{Marks}
use Rattle.design_model.specs.Design.{AreDistinct, In, process_at, signal_bits}
use Rattle.design_model.specs.Machine.{is_level}
use Rattle.design_model.specs.Shows.{BoundDump}
use Rattle.dump_check.specs.Checks.{IsFirstDifference, last_of_each}
use Rattle.dump_check.specs.declared.order.Difference.{Difference}
use Rattle.early_sets.specs.WakeState.{WakeState}
use Rattle.hidden_times.specs.Hidden.{is_listed}
use Rattle.index_sets.specs.Rows.{row_at}
use Rattle.first_step.specs.mark_laws.Marked.{AreVerdicts}
use Rattle.process_order.proofs.Distinct.{filter_in, in_filter}
use Rattle.process_targets.specs.Rows.{AreTargetRows}
use Rattle.process_targets.specs.declared.bits.Bits.{Bits}
use Rattle.replay_follows.specs.Follows.{Subject}
use Rattle.replay_follows.specs.Laws.{due_at, next_replay}
use Rattle.replay_follows.proofs.Steps.{against, closes, due}
use Rattle.replay_model.proofs.Bits.{any_in}
use Rattle.replay_model.specs.Sets.{AreSets}
use Rattle.replay_model.specs.Step.{Closing, Replay, all_run, contradicts, is_touched}
use Rattle.first_step.specs.replay_sets.SetsOf.{sets_of}
use Rattle.step_start.proofs.step_parts.clocked_laws.Moved.{moves_are}
use Rattle.first_step.proofs.replay_steps.Settling.{targets_move}
use Rattle.first_step.specs.step_changes.Changes.{AreChangedSignals}
use Rattle.first_step.specs.step_check.Checks.{AreCheckRows}
use Rattle.first_step.specs.step_check.Laws.{HasRun}
use Rattle.first_step.proofs.step_check.Checked.{differ_law}
use Rattle.step_marks.specs.Marked.{IsOver, IsSeenAfter}
use Rattle.step_machines.specs.Marked.{IsOver as IsMachineStep}
use Rattle.step_machines.proofs.Closed as marking
use Rattle.machine_laws.specs.Followed.{MarksMachines}
use Rattle.machine_laws.specs.Told.{AreTold}
use Rattle.step_start.specs.step_parts.AtStep.{AtRest, AtStep}
use Rattle.step_start.specs.step_parts.Due.{HasBegun, IsContradicted, IsDueStep, step_of}
use Rattle.step_start.proofs.step_parts.Noted.{noted, seen_more}
use Rattle.step_runs.specs.Runs.{IsRunOf}
use Rattle.step_runs.proofs.Changed.{steps_are}
use Rattle.first_step.specs.step_values.Dumped.{AreDumped}
use Rattle.first_step.specs.step_values.Vectors.{StepVectors}
use Rattle.first_step.specs.step_wakes.Step.{IsOfDesign}
use Rattle.step_start.specs.still_check.Stays.{IsLeastMoved}
use Rattle.step_marks.specs.toggle_laws.Turns.{MarksInTurn}
use Rattle.first_step.specs.wake_bits.Wakes.{AreWakeRows}
use Rattle.first_step.specs.wake_bits.declared.wakes.Wake.{Wake}
use Rattle.step_words.specs.Words.{HasWords}
use Rattle.wake_laws.specs.Laws.{habit_of}
use Rattle.wake_laws.specs.OfDesign.{AreWritersOf}
use Rattle.std.proofs.Math.Path.{fun_ext}
use Rattle.replay_core.specs.Fits.{HasWriters}
use Rattle.body_store.specs.body_calls.Own.{is_in}
use Rattle.replay_core.specs.Closing.{IsDueAt}
use Rattle.replay_core.specs.Codes.{flags_of}
use Rattle.replay_core.specs.Faults.{IsRefuted}
use Rattle.replay_core.specs.Made.{Following, HasFollows, Made, subject_of}
use Rattle.replay_core.specs.Steps.{IsSensitive, has_event_of}
use Rattle.replay_core.proofs.Orders.{distinct_filter, order_distinct, settles_in}

-- what a difference says of the dump at its time
pub dumped_is : (d : Rattle.design_model.specs.Design.Design) (codes : List (Option ℕ)) (last : List (Option Vector)) (new : Cell → Rattle.four_state.specs.declared.bit.Bit.Bit) (s code : ℕ) (v : Vector)
    → AreDumped d codes last new → slice_index_or codes s None ≡ Some code → value_of last code ≡ Some v → v.bits ≡ signal_bits d new s
dumped_is d codes last new s code v dumped coded is =
    let w = dumped s code coded in
    let same : v ≡ w.0 = (let e = sym is ∙ w.1 in cc) in
    ap (λ (u : Vector). u.bits) same ∙ w.2

module _ (m : Made) (dump : BoundDump) (t : ℕ) (kind : Bool) (a : Replay) (x : Following) (at : IsDueAt (subject_of m dump) t kind a x) where
  abbrev f : Subject
  f = subject_of m dump

  abbrev step : WakeState → (ℕ → List ℕ) → Closing
  step wakes early = step_of (due_at f t a x.parts) wakes early

  pub due_step : IsDueStep (due_at f t a x.parts) m.codes m.ranks m.clocked_ranks x.parts.sets x.parts.values x.parts.store
  due_step = due f t a x.parts at.follows.parts at.given

  -- a step that something contradicts refutes the dump
  refuted : (wakes : WakeState) (early : ℕ → List ℕ) (c : Cell) (found : Difference) → AreSets m.design (habit_of m.habit) dump (suc t) (sets_of wakes early) → contradicts (step wakes early) c ≡ true
      → found.dumped.bits ≡ signal_bits m.design (dump.values (suc t)) found.signal → Rattle.known_state.specs.Partly.allows_bits found.computed.bits found.dumped.bits ≡ false
      → IsRefuted m.design (habit_of m.habit) dump (suc t) found.signal found.dumped found.computed.bits
  refuted wakes early c found sets differs dumped differ = record {
    contradicted = against f t a x.parts wakes early c at.follows.parts at.window sets differs;
    says = dumped;
    differ = differ;
  }

  pub begun_refuted : (wakes : WakeState) (early : ℕ → List ℕ) (changed overwritten : List ℕ) (found : Difference) → IsContradicted (due_at f t a x.parts) wakes early found
      → IsLeastMoved (step wakes early) changed overwritten (Some found) → IsRefuted m.design (habit_of m.habit) dump (suc t) found.signal found.dumped found.computed.bits
  begun_refuted wakes early changed overwritten found is least = refuted wakes early is.cell found is.sets is.differs least.0.different.dumped least.0.different.differ

  module _ (wakes : WakeState) (early : ℕ → List ℕ) (listed : List ℕ) (v : StepVectors) (store : Store) (begin : Marks) (begun : HasBegun (due_at f t a x.parts) wakes early listed v store begin) where
    -- what is listed is an Assign or Comb that is touched
    touched_in : (p : ℕ) → In p listed → In p (m.tables.order ++ m.tables.last) × (is_touched (step wakes early) p ≡ true)
    touched_in p i = in_filter (is_touched (step wakes early)) p (m.tables.order ++ m.tables.last) (subst (In p) begun.list i)

    -- the runs of the list are those of the step
    pub run_is : (n : ℕ) (watched : List (List ℕ)) (rows : List (List Wake)) (changed : List ℕ) → n ≡ length m.tables.order → ((p : ℕ) → m.tables.watched p ≡ row_at watched p)
        → AreWakeRows m.design watched rows → AreChangedSignals m.codes x.parts.values changed → IsRunOf (step wakes early) m.points m.ranks n listed rows m.codes changed (suc t)
    run_is n watched rows changed many same are found = record {
      apart = at.follows.parts.subject.apart;
      once = at.follows.parts.subject.once;
      ranked = at.follows.parts.subject.ranked;
      ordered = many;
      listed = begun.list;
      step = λ p i.
          steps_are m.design (habit_of m.habit) dump m.tables (sets_of wakes early) t a (flags_of m.codes) m.codes x.parts.values x.parts.sets watched rows changed due_step.changes due_step.tabled begun.sets same are
          due_step.known found p (settles_in m.design dump.bound m.tables due_step.tabled p (touched_in p i).0);
    }

    pub listed_distinct : AreDistinct listed
    listed_distinct = subst AreDistinct (sym begun.list) (distinct_filter (is_touched (step wakes early)) (m.tables.order ++ m.tables.last) (order_distinct m.design dump.bound m.tables due_step.tabled))

    -- each of them mentions or lists something that may move
    pub listed_sensitive : (p : ℕ) → In p listed → In p (m.tables.order ++ m.tables.last) × IsSensitive m.design dump (suc t) p
    listed_sensitive p i =
        let r = touched_in p i in
        let y = any_in (sets_of wakes early).moves (m.tables.watched p) r.1 in (
          r.0,
          record {
            thing = y.0;
            watched = or_left (is_level (process_at m.design p) y.0) (has_event_of (process_at m.design p) y.0) ((due_step.tabled.watched p y.0).0 y.1);
            moves = (begun.sets.moves y.0).0 y.2;
          },
        )

    module _ (last : Store) (w : StepVectors) (flags : List Bool) (marks : Marks) (over : AtStep (step wakes early) m.points (all_run (step wakes early)) last w wakes flags marks) where
      pub has_run : (ran : List ℕ) (targets : List (List Bits)) (checks : List (List ℕ)) → ran ≡ listed → AreTargetRows m.design targets → AreCheckRows m.codes targets checks
          → HasRun (step wakes early) ran targets checks m.codes x.parts.values.last last w
      has_run ran targets checks is rows are = record {
        values = over.values;
        still = over.still;
        dump = begun.still;
        moved = moves_are m.design (habit_of m.habit) dump (runs_of m.design) m.tables (sets_of wakes early) t a due_step.changes.lawful due_step.tabled begun.sets;
        agree = begun.agree;
        drives = targets_move m.design (habit_of m.habit) dump (runs_of m.design) m.tables (sets_of wakes early) t a due_step.tabled begun.sets;
        lawful = due_step.changes.lawful;
        tabled = due_step.tabled;
        running = λ p. (
          λ i. touched_in p (subst (In p) is i),
          λ i. subst (In p) (sym (is ∙ begun.list)) (filter_in (is_touched (step wakes early)) p (m.tables.order ++ m.tables.last) i.0 i.1),
        );
        rows = rows;
        checked = are;
        bound = due_step.changes.bound;
        signals = due_step.changes.signals;
        dumped = at.given.last;
      }

      -- a difference that was found after the runs refutes the dump
      pub run_refuted : (ran : List ℕ) (targets : List (List Bits)) (checks : List (List ℕ)) (found : Difference) → HasRun (step wakes early) ran targets checks m.codes x.parts.values.last last w
          → IsFirstDifference m.codes x.parts.values.last w.made (last_of_each (flat_map (row_at checks) ran)) found
          → IsRefuted m.design (habit_of m.habit) dump (suc t) found.signal found.dumped found.computed.bits
      run_refuted ran targets checks found run first =
          let c = differ_law (step wakes early) ran targets checks m.codes x.parts.values.last last w found run first in
          let is = first.differs in
          refuted wakes early c.0 found begun.sets c.2 (dumped_is m.design m.codes x.parts.values.last (dump.values (suc t)) found.signal is.code found.dumped at.given.last is.coded is.dumped) is.differ

      -- the marks after the runs, and the masks before, are those with which the toggles are marked
      pub is_over : (moving : List ℕ) (end : ℕ) → end ≡ suc t → moving ≡ wakes.moves → AreMarksOf m.points marks → IsOver (step wakes early) m.points moving end kind last w x.parts.seen marks
      is_over moving end time same of = record {
        values = over.values;
        moves = λ s i. over.moves s ∙ subst (λ ys. is_in ys s ≡ true) same i;
        time = sym time;
        kind = at.kind;
        machines = at.follows.parts.subject.machines;
        listed = at.follows.parts.subject.listed;
        marks = of;
        seen =
            let more = noted (step wakes early) in
            seen_more m.design m.points x.parts.seen a.notes more.0 x.parts.marks.verdicts marks.verdicts at.follows.parts.rest.marks (subst (λ ns. AreVerdicts m.design m.points ns marks.verdicts) more.1 over.marks) at.follows.parts.rest.seen;
      }

      -- those after the runs are those with which the machines are marked
      pub machines_over : (moving : List ℕ) (end : ℕ) → end ≡ suc t → moving ≡ wakes.moves → IsMachineStep (step wakes early) moving end kind last w
      machines_over moving end time same = record {
        values = over.values;
        moves = λ s. over.moves s ∙ ap (λ ys. is_in ys s) (sym same);
        time = sym time;
        kind = at.kind;
      }

      -- where nothing was found, and the toggles and the machines are marked, the dump is followed up to the end of the step
      pub followed : (y : Following) (middle : Marks) → y.parts.sets ≡ wakes → y.parts.store ≡ last → y.parts.acted ≡ flags → y.parts.values.closed ≡ x.parts.values.last → IsOfDesign m.design (flags_of m.codes) y.parts.sets → HasWriters m.design m.codes y.parts.sets
          → ((c : Cell) → contradicts (step wakes early) c ≡ false) → MarksInTurn (step wakes early) m.points wakes.moves marks.verdicts middle.verdicts → IsSeenAfter (step wakes early) m.points y.parts.seen middle
          → AreMarksOf m.points y.parts.marks → MarksMachines (step wakes early) m.points (not kind || x.parts.told) middle.verdicts y.parts.marks.verdicts → y.parts.told ≡ kind
          → HasWords m.design (all_run (step wakes early)).kept y.ranges y.words → (b : Replay) × HasFollows f (suc t) b y
      followed y middle sets store acted values of writers none turns seen marked machines told_is words = (
        next_replay f t a x.parts y.parts.sets early,
        record {
          parts = closes f t a x.parts y.parts early at.follows.parts at.given at.window first of (subst (λ b. AreWritersOf m.design b y.parts.sets.tables.things y.parts.sets.writers) (sym (fun_ext at.follows.parts.subject.bound)) writers) nothing values rest told;
          words = subst (λ ws. HasWords m.design (all_run (step ws early)).kept y.ranges y.words) (sym sets) words;
        },
      )
        where
          first : AreSets m.design (habit_of m.habit) dump (suc t) (sets_of y.parts.sets early)
          first = subst (λ ws. AreSets m.design (habit_of m.habit) dump (suc t) (sets_of ws early)) (sym sets) begun.sets

          nothing : (c : Cell) → contradicts (step y.parts.sets early) c ≡ false
          nothing = subst (λ ws. (c : Cell) → contradicts (step ws early) c ≡ false) (sym sets) none

          by_kind : MarksMachines (step wakes early) m.points (not (is_listed dump (suc t)) || x.parts.told) middle.verdicts y.parts.marks.verdicts
          by_kind = subst (λ b. MarksMachines (step wakes early) m.points (not b || x.parts.told) middle.verdicts y.parts.marks.verdicts) (sym at.kind) machines

          both : AtRest m.design m.points (next_replay f t a x.parts wakes early) last flags y.parts.marks y.parts.seen × (is_listed dump (suc t) ≡ true → AreTold m.design m.points (next_replay f t a x.parts wakes early))
          both =
              marking.closes (step wakes early) at.follows.parts.subject.machines m.points x.parts.told last w wakes flags marks middle y.parts.marks y.parts.seen due_step.changes.lawful at.follows.parts.subject.listed at.follows.parts.subject.once over at.follows.parts.told turns seen marked by_kind

          told : y.parts.told ≡ true → AreTold m.design m.points (next_replay f t a x.parts y.parts.sets early)
          told e = subst (λ ws. AreTold m.design m.points (next_replay f t a x.parts ws early)) (sym sets) (both.1 (at.kind ∙ sym told_is ∙ e))

          rest : AtRest m.design m.points (next_replay f t a x.parts y.parts.sets early) y.parts.store y.parts.acted y.parts.marks y.parts.seen
          rest =
              subst (λ ws. AtRest m.design m.points (next_replay f t a x.parts ws early) y.parts.store y.parts.acted y.parts.marks y.parts.seen) (sym sets)
              (subst (λ st. AtRest m.design m.points (next_replay f t a x.parts wakes early) st y.parts.acted y.parts.marks y.parts.seen) (sym store)
              (subst (λ fs. AtRest m.design m.points (next_replay f t a x.parts wakes early) last fs y.parts.marks y.parts.seen) (sym acted)
              both.0))
