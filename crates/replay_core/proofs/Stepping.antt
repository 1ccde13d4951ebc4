-- A closing step of each dump that was followed up to it, from the parts before it to those after it.
use Rattle.std.proofs.Common.{◌≡◌, ◌↔◌, ◌∙◌, ◌+◌, ◌<◌, ◌||◌, not, ℕ, suc, Bool, true, ◌++◌, List, flat_map, length, map, Option, Some, inl, inr, refl, sym, ap, subst, arith}
use Rattle.std.specs.Prelude.{filter}
use Rattle.std.specs.List.{All}
use Rattle.std.proofs.lemmas.List.{length-append, length-map}
use Rattle.body_replay.specs.Replay.{flush}
use Rattle.body_replay.specs.Store.{Kept}
use Rattle.body_store.specs.declared.store.Store.{Store}
use Rattle.chosen_early.specs.Shared.{IsSameButEarly}
use Rattle.code_values.specs.Values.{Values}
use Rattle.cover_marks.specs.Marks.{AreMarksOf}
use Rattle.cover_marks.specs.declared.marks.Marks.{Marks}
use Rattle.cover_points.specs.declared.listing.Points.{Points}
use Rattle.design_model.specs.Design.{AreDistinct, Design, In, IsClocked, is_memory, process_at}
use Rattle.design_model.specs.Lawful.{IsLawfulDesign}
use Rattle.design_model.specs.Shows.{BoundDump}
use Rattle.design_model.specs.View.{design_view}
use Rattle.dump_check.specs.Checks.{AgreesAt, IsFirstDifference, last_of_each}
use Rattle.dump_check.specs.declared.order.Difference.{Difference}
use Rattle.early_sets.specs.Rounds.{HasMoves}
use Rattle.early_sets.specs.WakeState.{state_of}
use Rattle.early_sets.specs.declared.habit.Habit.{Habit}
use Rattle.first_step.specs.mark_laws.Marked.{AreVerdicts}
use Rattle.first_step.specs.replay_sets.SetsOf.{AreChosen}
use Rattle.first_step.specs.store_knowledge.Knows.{Knows}
use Rattle.index_sets.specs.Rows.{row_at}
use Rattle.process_order.proofs.Distinct.{contains_in, distinct_both, in_either, in_filter}
use Rattle.process_order.specs.Tables.{tables_of}
use Rattle.replay_follows.specs.Laws.{due_at}
use Rattle.replay_model.proofs.Order.{distinct_apart}
use Rattle.replay_model.specs.Step.{Closing, Replay, all_run, clocked_run, settle_start}
use Rattle.first_step.specs.step_changes.Changes.{AreChangedSignals}
use Rattle.first_step.specs.step_check.Laws.{HasRun}
use Rattle.first_step.proofs.step_check.Checked.{agree_law}
use Rattle.run_order.specs.Ranked.{AreRanksOf}
use Rattle.step_clocked.proofs.Listed.{all_listed}
use Rattle.step_clocked.specs.Runs.{AreClockedOf, HasWoken, IsClockedStep, is_woken}
use Rattle.step_marks.specs.Marked.{IsOver, IsSeenAfter}
use Rattle.step_machines.specs.Marked.{IsOver as IsMachineStep}
use Rattle.machine_laws.specs.Followed.{MarksMachines}
use Rattle.cover_marks.specs.declared.marks.Marks.{Marks}
use Rattle.step_start.specs.Fits.{FitsStep}
use Rattle.step_start.specs.Settles.{ForRun}
use Rattle.step_start.specs.step_parts.AtStep.{AtStep}
use Rattle.step_start.specs.step_parts.Due.{Due, HasBegun, HasFound, HaveClockedRun, IsContradicted, IsDueStep, step_of}
use Rattle.step_start.proofs.Members.{all_of}
use Rattle.step_runs.specs.Runs.{IsRunOf}
use Rattle.step_start.specs.declared.room.StepRoom.{StepRoom}
use Rattle.first_step.specs.step_values.Loose.{has_code}
use Rattle.first_step.specs.step_wakes.Step.{IsOfDesign}
use Rattle.step_start.specs.still_check.Stays.{IsLeastMoved}
use Rattle.step_marks.specs.toggle_laws.Turns.{MarksInTurn}
use Rattle.wake_list.specs.Members.{has}
use Rattle.replay_core.specs.Closing.{Closes, Counts, IsDueAt, Refutes}
use Rattle.replay_core.specs.Codes.{flags_of}
use Rattle.replay_core.specs.Fits.{FitsParts, FitsRoom, FitsTables, FitsWords, HasWriters}
use Rattle.replay_core.specs.Made.{Following, Made, made_with, parts_with, subject_of}
use Rattle.replay_core.specs.Steps.{IsSensitive}
use Rattle.replay_core.specs.declared.room.ReplayRoom.{ReplayRoom}
use Rattle.replay_core.specs.declared.state.ReplayState.{ReplayState}
use Rattle.replay_core.specs.declared.tables.ReplayTables.{ReplayTables}
use Rattle.replay_core.proofs.Closing.{begun_refuted, due_step, followed, has_run, is_over, listed_distinct, listed_sensitive, machines_over, run_is, run_refuted}
use Rattle.replay_core.proofs.Orders.{all_named, settles_in}
use Rattle.replay_core.proofs.Parts.{begin_fits, begun_fits}
use Rattle.replay_core.proofs.Sets.{found_early, run_early}
use Rattle.replay_core.proofs.Woken.{clocked_of, clocked_step, have_run, woken_sensitive}
use Rattle.replay_core.proofs.Words.{watched_changes, words_stay}
use Rattle.first_step.specs.settling.Wakes.{HasWordChanges}
use Rattle.step_runs.specs.Laws.{KeptWordsLaw, WordsLaw}
use Rattle.first_step.specs.step_values.Starts.{left_by_clocked}
use Rattle.step_words.specs.Words.{AreWordChanges, HasWords}
use Rattle.written_words.specs.Same.{FollowsAll, SameUnwritten}
use Rattle.written_words.specs.Written.{WrittenState}

-- the processes that a list has to run
abbrev pub listed_of : StepRoom → List ℕ
listed_of n = map (λ (q : ℕ × ℕ). q.0) n.list.pairs

-- the Clocked that are listed
abbrev pub clocked_in : StepRoom → List ℕ
clocked_in n = map (λ (q : ℕ × ℕ). q.0) n.clocked.pairs

module _ (d : Design) (habit : Habit) (points : Points) (x : ReplayTables) (r : ReplayRoom) (s : ReplayState) where
  abbrev m : Made
  m = made_with d habit points x

  abbrev before : Following
  before = parts_with r s

  abbrev due : BoundDump → ℕ → Replay → Due
  due dump t a = due_at (subject_of m dump) t a before.parts

  -- the sets of each step that is due are found: these, with what is early
  abbrev ForFound : StepRoom → Type 0
  ForFound n =
      (o : Due) (early : ℕ → List ℕ) → IsDueStep o x.step.codes.items x.step.order x.step.clocked (state_of r.step.sets) s.values s.store → AreChosen (state_of n.sets) o.habit early
      → HasFound o (state_of n.sets) early (clocked_in n) n.values

  -- something holds once the Clocked of such a step have run, of which these are listed
  abbrev ForClocked : StepRoom → ℕ → (Closing → Type 0) → Type 0
  ForClocked n time holds =
      (st : Closing) → IsClockedStep st points (state_of n.sets) habit x.step.codes.items s.values time → AreClockedOf st (clocked_in n) → Knows st.design st.start.kept s.store
      → AreVerdicts st.design points st.start.notes s.notes.marks.verdicts → holds st

  -- what was known of the words is known as such a step starts
  abbrev KnowsWords : Closing → Type 0
  KnowsWords st = HasWords st.design st.start.kept s.notes.written.ranges r.words

  -- the sets of each such step are found, its Clocked have run, and the words that they have written are compared
  pub record HasRunClocked (n : StepRoom) (time : ℕ) (q : ReplayRoom) (u : ReplayState) (v : WrittenState) : Type 0 where
    pub found : ForFound n
    pub early : ℕ → List ℕ
    pub chosen : AreChosen (state_of n.sets) habit early
    pub step : q.step ≡ record n { clocked = q.step.clocked; sets = q.step.sets }
    pub rest : IsSameButEarly (state_of n.sets) (state_of q.step.sets)
    pub members : (p : ℕ) → In p q.ran.items ↔ (In p (clocked_in n) × (is_woken (state_of n.sets) p ≡ true))
    pub once : AreDistinct q.ran.items
    pub marked : AreMarksOf points u.notes.marks
    pub knows : ForClocked n time (λ st. Knows st.design (flush (clocked_run st).kept (clocked_run st).queue) u.store)
    pub marks : ForClocked n time (λ st. AreVerdicts st.design points (clocked_run st).notes u.notes.marks.verdicts)
    pub words : ForClocked n time (λ st. KnowsWords st → HasWords st.design (left_by_clocked st) s.notes.written.ranges q.words)
    pub changes : ForClocked n time (λ st. KnowsWords st → AreWordChanges st.design (FollowsAll st.design v) st.start.kept (left_by_clocked st) q.words)
    pub followed : (p y : ℕ) → In y (row_at x.processes.watched p) → is_memory d y ≡ true → FollowsAll d v y
    pub ranges : u.notes.written.ranges ≡ s.notes.written.ranges

  module _ (n : StepRoom) (time : ℕ) (kind : Bool) (q : ReplayRoom) (u : ReplayState) (v : WrittenState) (has : HasRunClocked n time q u v) where
    abbrev early : ℕ → List ℕ
    early = has.early

    module _ (dump : BoundDump) (t : ℕ) (a : Replay) (e : time ≡ suc t) (at : IsDueAt (subject_of m dump) t kind a before) where
      first : HasFound (due dump t a) (state_of n.sets) early (clocked_in n) n.values
      first = has.found (due dump t a) early (due_step m dump t kind a before at) has.chosen

      has_found : HasFound (due dump t a) (state_of q.step.sets) early (clocked_in n) q.step.values
      has_found =
          subst (HasFound (due dump t a) (state_of q.step.sets) early (clocked_in n)) (sym (ap (λ (k : StepRoom). k.values) has.step))
          (found_early (due dump t a) early (clocked_in n) n.values (state_of n.sets) (state_of q.step.sets) has.rest first)

      clocked_run_is : HaveClockedRun (due dump t a) (state_of q.step.sets) early q.ran.items u.store u.notes.marks
      clocked_run_is =
          let st = step_of (due dump t a) (state_of n.sets) early in
          let is = clocked_step m dump t kind a before at (state_of n.sets) early (clocked_in n) n.values first time e in
          let are = clocked_of m dump t kind a before at (state_of n.sets) early (clocked_in n) n.values first in
          let start = at.follows.parts.rest in
          run_early (due dump t a) early q.ran.items u.store u.notes.marks (state_of n.sets) (state_of q.step.sets) has.rest
          (have_run m dump t kind a before at (state_of n.sets) early (clocked_in n) n.values first q.ran.items u.store u.notes.marks has.members has.marked
          (has.knows st is are start.knows start.marks) (has.marks st is are start.knows start.marks))

      -- the words once the Clocked have run
      words_left : HasWords m.design (left_by_clocked (step_of (due dump t a) (state_of q.step.sets) early)) s.notes.written.ranges q.words
      words_left =
          let st = step_of (due dump t a) (state_of n.sets) early in
          let is = clocked_step m dump t kind a before at (state_of n.sets) early (clocked_in n) n.values first time e in
          let are = clocked_of m dump t kind a before at (state_of n.sets) early (clocked_in n) n.values first in
          let start = at.follows.parts.rest in
          subst (λ ws. HasWords m.design (left_by_clocked (step_of (due dump t a) ws early)) s.notes.written.ranges q.words) (sym has.rest) (has.words st is are start.knows start.marks at.follows.words)

      words_changed : HasWordChanges (step_of (due dump t a) (state_of q.step.sets) early) (left_by_clocked (step_of (due dump t a) (state_of q.step.sets) early)) q.words
      words_changed =
          let st = step_of (due dump t a) (state_of n.sets) early in
          let is = clocked_step m dump t kind a before at (state_of n.sets) early (clocked_in n) n.values first time e in
          let are = clocked_of m dump t kind a before at (state_of n.sets) early (clocked_in n) n.values first in
          let start = at.follows.parts.rest in
          subst (λ ws. HasWordChanges (step_of (due dump t a) ws early) (left_by_clocked (step_of (due dump t a) ws early)) q.words) (sym has.rest)
          (watched_changes st (left_by_clocked st) v q.words has.followed (has.changes st is are start.knows start.marks at.follows.words))

      ran_sensitive : (p : ℕ) → In p q.ran.items → In p m.tables.clocked × IsSensitive m.design dump (suc t) p
      ran_sensitive p i =
          let both = (has.members p).0 i in
          woken_sensitive m dump t kind a before at (state_of n.sets) early (clocked_in n) n.values first p both.0 both.1

    -- something holds of each step that is due, of what is early and of the marks
    abbrev ForStep : (Due → (ℕ → List ℕ) → Marks → Type 0) → Type 0
    ForStep holds = (dump : BoundDump) (t : ℕ) (a : Replay) → time ≡ suc t → IsDueAt (subject_of m dump) t kind a before → holds (due dump t a) early u.notes.marks

    -- what holds of each step whose Clocked have run holds of each that is due
    pub for_step : (P : Due → (ℕ → List ℕ) → Marks → Type 0) (given : Values) (ran : List ℕ) → given ≡ s.values → ran ≡ q.ran.items → ForRun x.step given q.step ran u.store P → ForStep P
    for_step P given ran same are each = λ dump t a e at.
        let one = subst (λ ps. ForRun x.step given q.step ps u.store P) are each in
        let two = subst (λ vs. ForRun x.step vs q.step q.ran.items u.store P) same one in
        two (due dump t a) early (state_of r.step.sets) (clocked_in n) s.store u.notes.marks (due_step m dump t kind a before at) (has_found dump t a e at) (clocked_run_is dump t a e at)

    -- a signal that contradicts the step before the Assigns and Combs run refutes each dump
    pub refutes_begun : (k : StepRoom) (one : Difference) → ForStep (λ o early marks. IsContradicted o (state_of k.sets) early one)
        → ForStep (λ o early marks. IsLeastMoved (step_of o (state_of k.sets) early) k.changed.items k.overwritten.items (Some one)) → Refutes m time kind before one
    refutes_begun k one differs least = λ dump t a e at. begun_refuted m dump t kind a before at (state_of k.sets) early k.changed.items k.overwritten.items one (differs dump t a e at) (least dump t a e at)

    -- each Clocked that ran runs once
    pub counts_clocked : (from to : ℕ) → to ≡ from + length q.ran.items → Counts m time kind before from to
    counts_clocked from to is = λ dump t a e at. record {
      processes = q.ran.items;
      once = has.once;
      sensitive = all_of (IsSensitive d dump (suc t)) q.ran.items (λ p i. (ran_sensitive dump t a e at p (contains_in p q.ran.items i)).1);
      counted = is;
    }

    module _ (k : StepRoom) (store : Store) (tables : FitsTables d x) (changed : AreChangedSignals x.step.codes.items s.values k.changed.items) (begun : ForStep (λ o early marks. HasBegun o (state_of k.sets) early (listed_of k) k.values store marks)) where
      -- and so does each process of the list
      pub counts_run : (from to : ℕ) → to ≡ from + (length q.ran.items + length (listed_of k)) → Counts m time kind before from to
      counts_run from to is = λ dump t a e at.
          let start = begun dump t a e at in
          let clocked : (p : ℕ) → In p q.ran.items → In p m.tables.clocked × IsSensitive m.design dump (suc t) p = ran_sensitive dump t a e at in
          let others : (p : ℕ) → In p (listed_of k) → In p (m.tables.order ++ m.tables.last) × IsSensitive m.design dump (suc t) p = listed_sensitive m dump t kind a before at (state_of k.sets) early (listed_of k) k.values store u.notes.marks start in
          let apart = distinct_apart m.tables.clocked (m.tables.order ++ m.tables.last) tables.tabled.once in
          let all = q.ran.items ++ listed_of k in
          record {
            processes = all;
            once =
                distinct_both q.ran.items (listed_of k) has.once (listed_distinct m dump t kind a before at (state_of k.sets) early (listed_of k) k.values store u.notes.marks start)
                (λ p i j. apart p (clocked p i).0 (others p j).0);
            sensitive = all_of (IsSensitive d dump (suc t)) all (λ p i. elim (in_either p q.ran.items (listed_of k) (contains_in p all i)) [
              | inl one ↦ (clocked p one).1
              | inr other ↦ (others p other).1
            ]);
            counted = is ∙ ap (λ c. from + c) (sym (length-append q.ran.items (listed_of k)));
          }

      module _ (w : ReplayRoom) (z : ReplayState) where
        -- the runs of the list lead from the start to the end of each step, with these points
        abbrev RunsFor : Points → Type 0
        RunsFor ps =
            (st : Closing) → IsRunOf st ps x.step.order (length x.processes.order.items) (listed_of k) x.wakes x.step.codes.items k.changed.items time
            → HasWordChanges st (settle_start st (clocked_run st)).kept q.words
            → AtStep st ps (settle_start st (clocked_run st)) store k.values (state_of k.sets) u.acted.items u.notes.marks
            → AtStep st ps (all_run st) z.store w.step.values (state_of w.step.sets) z.acted.items z.notes.marks

        module _ (laws : WordsLaw) (settled : k.sets ≡ q.step.sets) (acted : u.acted.items ≡ s.acted.items) (same : w.step.sets ≡ k.sets) (noted : u.notes.points.now ≡ points) (run : RunsFor u.notes.points.now) (ran : w.ran.items ≡ listed_of k) where
          module _ (dump : BoundDump) (t : ℕ) (a : Replay) (e : time ≡ suc t) (at : IsDueAt (subject_of m dump) t kind a before) where
            abbrev st : Closing
            st = step_of (due dump t a) (state_of k.sets) early

            start : HasBegun (due dump t a) (state_of k.sets) early (listed_of k) k.values store u.notes.marks
            start = begun dump t a e at

            lawful : IsLawfulDesign d
            lawful = (due_step m dump t kind a before at).changes.lawful

            words_now : HasWordChanges st (settle_start st (clocked_run st)).kept q.words
            words_now =
                laws st q.words lawful (due_step m dump t kind a before at).tabled
                (subst (λ ws. HasWordChanges (step_of (due dump t a) (state_of ws) early) (left_by_clocked (step_of (due dump t a) (state_of ws) early)) q.words) (sym settled) (words_changed dump t a e at))

            over : AtStep st points (all_run st) z.store w.step.values (state_of k.sets) z.acted.items z.notes.marks
            over = subst (λ ws. AtStep st points (all_run st) z.store w.step.values (state_of ws) z.acted.items z.notes.marks) same (subst RunsFor noted run st
                (subst (IsRunOf st points x.step.order (length x.processes.order.items) (listed_of k) x.wakes x.step.codes.items k.changed.items) (sym e)
                (run_is m dump t kind a before at (state_of k.sets) early (listed_of k) k.values store u.notes.marks start (length x.processes.order.items) x.processes.watched x.wakes k.changed.items refl (λ p. refl) tables.wakes changed))
                words_now
                (subst (λ fs. AtStep st points (settle_start st (clocked_run st)) store k.values (state_of k.sets) fs u.notes.marks) (sym acted) start.parts))

            runs_over : HasRun st w.ran.items x.step.targets x.checks x.step.codes.items s.values.last z.store w.step.values
            runs_over =
                has_run m dump t kind a before at (state_of k.sets) early (listed_of k) k.values store u.notes.marks start z.store w.step.values z.acted.items z.notes.marks over w.ran.items x.step.targets x.checks ran tables.rows.targets tables.checks

          -- a signal of which something else was made than what the dump says refutes each dump
          pub refutes_run : (one : Difference) → IsFirstDifference x.step.codes.items s.values.last w.step.values.made (last_of_each (flat_map (row_at x.checks) w.ran.items)) one → Refutes m time kind before one
          refutes_run one differs = λ dump t a e at.
              run_refuted m dump t kind a before at (state_of k.sets) early (listed_of k) k.values store u.notes.marks (start dump t a e at) z.store w.step.values z.acted.items z.notes.marks (over dump t a e at)
              w.ran.items x.step.targets x.checks one (runs_over dump t a e at) differs

          -- where there is no such signal, and the toggles and the machines are marked, each dump is followed up to the end of the step
          pub closes_run : (y : ReplayState) (middle : Marks) (moves : List ℕ) → All (AgreesAt x.step.codes.items s.values.last w.step.values.made) (last_of_each (flat_map (row_at x.checks) w.ran.items))
              → moves ≡ (state_of k.sets).moves → IsOfDesign d (flags_of x.step.codes.items) (state_of w.step.sets) → HasWriters d x.step.codes.items (state_of w.step.sets) → AreMarksOf points z.notes.marks
              → y.store ≡ z.store → y.acted.items ≡ z.acted.items → y.values.closed ≡ s.values.last → KeptWordsLaw → w.words ≡ q.words → y.notes.written.ranges ≡ s.notes.written.ranges
              → ((st : Closing) → IsOver st points moves time kind z.store w.step.values s.seen z.notes.marks → MarksInTurn st points moves z.notes.marks.verdicts middle.verdicts)
              → ((st : Closing) → IsOver st points moves time kind z.store w.step.values s.seen z.notes.marks → IsSeenAfter st points y.seen middle)
              → AreMarksOf points y.notes.marks → ((st : Closing) → IsMachineStep st moves time kind z.store w.step.values → MarksMachines st points (not kind || s.machines.told) middle.verdicts y.notes.marks.verdicts)
              → y.machines.told ≡ kind
              → Closes m time kind before (parts_with w y)
          closes_run y middle moves agree moving of writers marks stored flags closed stay words ranges turns seen marked machines told = λ dump t a e at.
              let now = state_of k.sets in
              let one = step_of (due dump t a) now early in
              let begins = start dump t a e at in
              let ends = over dump t a e at in
              let last = is_over m dump t kind a before at now early (listed_of k) k.values store u.notes.marks begins z.store w.step.values z.acted.items z.notes.marks ends moves time e moving marks in
              followed m dump t kind a before at now early (listed_of k) k.values store u.notes.marks begins z.store w.step.values z.acted.items z.notes.marks ends (parts_with w y) middle (ap state_of same) stored flags closed of writers
              (agree_law one w.ran.items x.step.targets x.checks x.step.codes.items s.values.last z.store w.step.values (runs_over dump t a e at) agree)
              (subst (λ ms. MarksInTurn one points ms z.notes.marks.verdicts middle.verdicts) moving (turns one last))
              (seen one last)
              marked
              (machines one (machines_over m dump t kind a before at now early (listed_of k) k.values store u.notes.marks begins z.store w.step.values z.acted.items z.notes.marks ends moves time e moving))
              told
              (subst (λ rs. HasWords d (all_run one).kept rs w.words) (sym ranges) (subst (HasWords d (all_run one).kept s.notes.written.ranges) (sym words)
              (words_stay d (left_by_clocked one) (all_run one).kept s.notes.written.ranges q.words (λ c is. stay one c (lawful dump t a e at) (due_step m dump t kind a before at).tabled is)
              (subst (λ ws. HasWords d (left_by_clocked (step_of (due dump t a) (state_of ws) early)) s.notes.written.ranges q.words) (sym settled) (words_left dump t a e at)))))

-- ---- the parts fit

-- once the sets of the step are found
pub found_parts : (d : Design) (points : Points) (x : ReplayTables) (r : ReplayRoom) (s : ReplayState) (n : StepRoom) → FitsParts d points x r s → FitsStep (design_view s.store.design.now) x.step n s.values → (state_of n.sets).writers ≡ (state_of r.step.sets).writers
    → ((e : Design) (flags : List Bool) → IsOfDesign e flags (state_of r.step.sets) → IsOfDesign e flags (state_of n.sets)) → FitsParts d points x (record r { step = n }) s
found_parts d points x r s n fits step writers inputs =
    let known = fits.state.known in
    begun_fits d points x r s n s.store fits.state.kept fits (subst (λ e. FitsStep e x.step n s.values) known.design step) writers (inputs d) known

-- once the Assigns and Combs can run
pub settled_parts : (d : Design) (points : Points) (x : ReplayTables) (r : ReplayRoom) (s : ReplayState) (n : StepRoom) (store : Store) → FitsParts d points x r s → FitsStep (design_view s.store.design.now) x.step n s.values → store.design ≡ s.store.design
    → n.sets ≡ r.step.sets → (e : Design) × (k : Kept) × Knows e k store → FitsParts d points x (record r { step = n }) (record s { store = store })
settled_parts d points x r s n store fits step design sets known =
    begin_fits d points x r s n store fits step design (ap (λ w. (state_of w).writers) sets) (λ e flags of. subst (λ w. IsOfDesign e flags (state_of w)) (sym sets) of) known

-- the signals that have changed stay so
pub settled_changed : (codes : List (Option ℕ)) (values given : Values) (n : StepRoom) (q : ReplayRoom) (k : StepRoom) → given ≡ values → q.step ≡ record n { clocked = q.step.clocked; sets = q.step.sets } → k.changed ≡ q.step.changed
    → AreChangedSignals codes values n.changed.items → AreChangedSignals codes values k.changed.items
settled_changed codes values given n q k same step kept are = subst (AreChangedSignals codes values) (sym (ap (λ c. c.items) (kept ∙ ap (λ (a : StepRoom). a.changed) step))) are

-- the steps of both kinds of processes
pub steps_both : (from middle to : ℕ) (ran : List ℕ) (pairs : List (ℕ × ℕ)) → middle ≡ from + length ran → to ≡ middle + length pairs → to ≡ from + (length ran + length (map (λ (q : ℕ × ℕ). q.0) pairs))
steps_both from middle to ran pairs clocked others =
    let size : length (map (λ (q : ℕ × ℕ). q.0) pairs) ≡ length pairs = length-map pairs (λ (q : ℕ × ℕ). q.0) in
    omega (arith, clocked, others, size)

-- ---- what is so of the sets that are found, whatever the step is

module _ (d : Design) (points : Points) (x : ReplayTables) (r : ReplayRoom) (s : ReplayState) (n : StepRoom) (fits : FitsParts d points x (record r { step = n }) s)
    (listed : (order : List ℕ) → AreRanksOf order (length (design_view s.store.design.now).processes) x.step.clocked → clocked_in n ≡ filter (λ p. has p (state_of n.sets).woken) order) where
  listed_are : clocked_in n ≡ filter (λ p. has p (state_of n.sets).woken) x.processes.clocked.items
  listed_are = listed x.processes.clocked.items (subst (λ (e : Design). AreRanksOf x.processes.clocked.items (length e.processes) x.step.clocked) (sym fits.state.known.design) fits.tables.clocked)

  -- each Clocked that can wake is listed
  pub have_woken : IsLawfulDesign d → HasMoves (state_of n.sets) → HasWoken (state_of n.sets) (clocked_in n)
  have_woken lawful moves =
      subst (HasWoken (state_of n.sets)) (sym listed_are) (all_listed d (has_code x.step.codes.items) (tables_of x.processes) (state_of n.sets) lawful fits.tables.tabled fits.room.sets.tables moves)

  -- only processes of the design are
  pub clocked_inside : (count : ℕ) → length d.processes ≡ count → All (λ (q : ℕ × ℕ). q.0 < count) n.clocked.pairs
  clocked_inside count same = all_named (λ p. p < count) n.clocked.pairs (λ p i.
      let one = in_filter (λ y. has y (state_of n.sets).woken) p x.processes.clocked.items (subst (In p) listed_are i) in
      subst (λ k. p < k) same ((fits.tables.tabled.clocked p).0 one.0).0)

-- so the Clocked of each step that is due have run, where they have run by such sets, and the words are compared
pub clocked_ran : (d : Design) (habit : Habit) (points : Points) (x : ReplayTables) (r : ReplayRoom) (s : ReplayState) (n : StepRoom) (time : ℕ) (q q' : ReplayRoom) (u u' : ReplayState) → FitsParts d points x (record r { step = n }) s
    → ((order : List ℕ) → AreRanksOf order (length (design_view s.store.design.now).processes) x.step.clocked → clocked_in n ≡ filter (λ p. has p (state_of n.sets).woken) order) → IsLawfulDesign d
    → HasMoves (state_of n.sets) → ForFound d habit points x r s n → (HasWoken (state_of n.sets) (clocked_in n) → (early : ℕ → List ℕ) × AreChosen (state_of n.sets) habit early)
    → q.step ≡ record n { clocked = q.step.clocked; sets = q.step.sets } → IsSameButEarly (state_of n.sets) (state_of q.step.sets)
    → ((p : ℕ) → In p q.ran.items ↔ (In p (clocked_in n) × (is_woken (state_of n.sets) p ≡ true))) → AreDistinct q.ran.items → FitsParts d points x q u
    → ForClocked d habit points x r s n time (λ st. Knows st.design (flush (clocked_run st).kept (clocked_run st).queue) u.store)
    → ForClocked d habit points x r s n time (λ st. AreVerdicts st.design points (clocked_run st).notes u.notes.marks.verdicts)
    → ForClocked d habit points x r s n time (λ st. SameUnwritten st.design st.start.kept (flush (clocked_run st).kept (clocked_run st).queue) u.notes.written)
    → q.words ≡ r.words → u.notes.written.ranges ≡ s.notes.written.ranges
    → q' ≡ record q { words = q'.words } → u' ≡ record u { notes = u'.notes } → u'.notes.marks ≡ u.notes.marks → u'.notes.written.ranges ≡ u.notes.written.ranges
    → ((e : Design) (old new : Kept) → Knows e new u.store → SameUnwritten e old new u.notes.written → HasWords e old u.notes.written.ranges q.words → HasWords e new u.notes.written.ranges q'.words)
    → ((e : Design) (old new : Kept) → Knows e new u.store → SameUnwritten e old new u.notes.written → HasWords e old u.notes.written.ranges q.words → AreWordChanges e (FollowsAll e u.notes.written) old new q'.words)
    → HasRunClocked d habit points x r s n time q' u' u.notes.written
clocked_ran d habit points x r s n time q q' u u' fits listed lawful moves found chosen step rest members once after knows marks unwritten words ranges room state same again compared changes =
    let early = chosen (have_woken d points x r s n fits listed lawful moves) in
    let started : (st : Closing) → HasWords st.design st.start.kept s.notes.written.ranges r.words → HasWords st.design st.start.kept u.notes.written.ranges q.words = λ st has.
    subst (HasWords st.design st.start.kept u.notes.written.ranges) (sym words) (subst (λ rs. HasWords st.design st.start.kept rs r.words) (sym ranges) has) in
    record {
      found = found;
      early = early.0;
      chosen = early.1;
      step = subst (λ (y : ReplayRoom). y.step ≡ record n { clocked = y.step.clocked; sets = y.step.sets }) (sym room) step;
      rest = subst (λ (y : ReplayRoom). IsSameButEarly (state_of n.sets) (state_of y.step.sets)) (sym room) rest;
      members = subst (λ (y : ReplayRoom). (p : ℕ) → In p y.ran.items ↔ (In p (clocked_in n) × (is_woken (state_of n.sets) p ≡ true))) (sym room) members;
      once = subst (λ (y : ReplayRoom). AreDistinct y.ran.items) (sym room) once;
      marked = subst (AreMarksOf points) (sym same) after.state.marks;
      knows = λ st is are start verdicts. subst (λ (y : ReplayState). Knows st.design (flush (clocked_run st).kept (clocked_run st).queue) y.store) (sym state) (knows st is are start verdicts);
      marks = λ st is are start verdicts. subst (λ (y : Marks). AreVerdicts st.design points (clocked_run st).notes y.verdicts) (sym same) (marks st is are start verdicts);
      words = λ st is are start verdicts has.
          subst (λ rs. HasWords st.design (left_by_clocked st) rs q'.words) ranges (compared st.design st.start.kept (left_by_clocked st) (knows st is are start verdicts) (unwritten st is are start verdicts) (started st has));
      changes = λ st is are start verdicts has. changes st.design st.start.kept (left_by_clocked st) (knows st is are start verdicts) (unwritten st is are start verdicts) (started st has);
      followed = after.words.followed;
      ranges = again ∙ ranges;
    }

-- none of the processes of the list is a Clocked
pub list_settles : (d : Design) (x : ReplayTables) (n : StepRoom) (store : Store) → FitsTables d x → design_view store.design.now ≡ d
    → ((order : List ℕ) → AreRanksOf order (length (design_view store.design.now).processes) x.step.order → listed_of n ≡ filter (λ p. has p (state_of n.sets).woken) order)
    → All (λ (q : ℕ × ℕ). IsClocked (process_at d q.0) → ⊥) n.list.pairs
list_settles d x n store tables design listed =
    let order = x.processes.order.items ++ x.processes.last.items in
    let are : listed_of n ≡ filter (λ p. has p (state_of n.sets).woken) order = listed order (subst (λ (e : Design). AreRanksOf order (length e.processes) x.step.order) (sym design) tables.ranked) in
    all_named (λ p. IsClocked (process_at d p) → ⊥) n.list.pairs
    (λ p i. settles_in d (has_code x.step.codes.items) (tables_of x.processes) tables.tabled p (in_filter (λ y. has y (state_of n.sets).woken) p order (subst (In p) are i)).0)

-- ---- the check

-- the check of the step uses only its own order
pub checked_fits : (d : Design) (points : Points) (x : ReplayTables) (q r : ReplayRoom) (s : ReplayState) → r ≡ record q { checks = r.checks } → r.checks.size ≡ q.checks.size → FitsParts d points x q s → FitsParts d points x r s
checked_fits d points x q r s is size fits = record {
  tables = fits.tables;
  room = subst (FitsRoom d x) (sym is) (record {
    changed = fits.room.changed;
    changes = fits.room.changes;
    sets = fits.room.sets;
    writers = fits.room.writers;
    list = fits.room.list;
    clocked = fits.room.clocked;
    overwritten = fits.room.overwritten;
    running = fits.room.running;
    places = fits.room.places;
    ranks = fits.room.ranks;
    none_by_round = fits.room.none_by_round;
    later = fits.room.later;
    none_later = fits.room.none_later;
    values = fits.room.values;
    saved = fits.room.saved;
    empty = fits.room.empty;
    pieces = fits.room.pieces;
    ran = fits.room.ran;
    checks = size ∙ fits.room.checks;
  });
  state = fits.state;
  words = subst (λ (y : ReplayRoom). FitsWords d x s.notes.written y.words) (sym is) fits.words;
}
