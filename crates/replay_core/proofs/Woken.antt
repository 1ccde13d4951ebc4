-- The Clocked of a step that is due, once its sets are found.
use Rattle.std.proofs.Common.{◌≡◌, ◌↔◌, ◌∙◌, ℕ, suc, ◌-◌, Bool, true, List, [], ◌∷◌, Option, Some, None, inl, inr, refl, sym, ap, subst, arith}
use Rattle.std.specs.Prelude.{if◌then◌else◌, is_some, nat_eq}
use Rattle.std.specs.List.{list_any}
use Rattle.std.proofs.lemmas.Bool.{and_parts, cases_Bool, eq-eqb, or_left, or_right}
use Rattle.body_replay.specs.Replay.{flush}
use Rattle.body_replay.specs.Runs.{runs_of}
use Rattle.body_store.specs.declared.store.Store.{Store}
use Rattle.cover_marks.specs.Marks.{AreMarksOf}
use Rattle.cover_marks.specs.declared.marks.Marks.{Marks}
use Rattle.design_model.specs.Design.{In, process_at}
use Rattle.design_model.specs.Machine.{is_level}
use Rattle.design_model.specs.Shows.{BoundDump}
use Rattle.early_sets.specs.WakeState.{WakeState, can_wake_by, first_signal, waker_of}
use Rattle.early_sets.specs.Has.{is_in}
use Rattle.step_start.proofs.step_parts.clocked_laws.Order.{running}
use Rattle.first_step.specs.mark_laws.Marked.{AreVerdicts}
use Rattle.first_step.specs.replay_sets.SetsOf.{sets_of}
use Rattle.first_step.specs.step_values.Vectors.{StepVectors}
use Rattle.first_step.specs.store_knowledge.Knows.{Knows}
use Rattle.four_state.specs.declared.edge.Edge.{Edge}
use Rattle.index_sets.specs.Rows.{row_at}
use Rattle.process_order.proofs.Distinct.{in_filter}
use Rattle.replay_follows.specs.Laws.{due_at}
use Rattle.replay_model.specs.Step.{Closing, Replay, clocked_run}
use Rattle.step_clocked.specs.Runs.{AreClockedOf, IsClockedStep, is_woken}
use Rattle.step_start.specs.step_parts.Due.{Due, HasFound, HaveClockedRun, step_of}
use Rattle.step_start.proofs.step_parts.Begun.{listed_are}
use Rattle.wake_laws.specs.Laws.{habit_of}
use Rattle.replay_core.specs.Closing.{IsDueAt}
use Rattle.replay_core.specs.Made.{Following, Made, subject_of}
use Rattle.replay_core.specs.Steps.{IsSensitive, has_event_of}
use Rattle.replay_core.proofs.Closing.{due_step}

-- the first signal of an edge that passes a test is that of some such edge
first_is : (test : (Edge × ℕ) → Bool) (es : List (Edge × ℕ)) (s : ℕ) → first_signal test es ≡ Some s → (e : Edge × ℕ) × (test e ≡ true) × (list_any (λ (q : Edge × ℕ). nat_eq q.1 e.1) es ≡ true)
first_is test [] s is = absurd cc
first_is test (e ∷ es) s is = elim (cases_Bool (test e)) [
  | inl passes ↦ (e, passes, or_left (nat_eq e.1 e.1) _ (eq-eqb e.1 e.1 refl))
  | inr other ↦
      let rest = first_is test es s (sym (ap (λ b. if b then Some e.1 else first_signal test es) other) ∙ is) in
      (rest.0, rest.1, or_right (nat_eq e.1 rest.0.1) _ rest.2)
]

there_is : (o : Option ℕ) → is_some o ≡ true → (s : ℕ) × (o ≡ Some s)
there_is None e = absurd cc
there_is (Some s) e = (s, refl)

-- ---- a step that is due

module _ (m : Made) (dump : BoundDump) (t : ℕ) (kind : Bool) (a : Replay) (x : Following) (at : IsDueAt (subject_of m dump) t kind a x) (wakes : WakeState) (early : ℕ → List ℕ) (listed : List ℕ) (v : StepVectors)
    (found : HasFound (due_at (subject_of m dump) t a x.parts) wakes early listed v) where
  abbrev due : Due
  due = due_at (subject_of m dump) t a x.parts

  abbrev st : Closing
  st = step_of due wakes early

  -- what is listed is a Clocked that runs
  listed_run : (p : ℕ) → In p listed ↔ (In p m.tables.clocked × (Rattle.step_start.specs.step_parts.clocked_laws.Clocked.is_running st p ≡ true))
  listed_run = listed_are due m.codes m.ranks m.clocked_ranks x.parts.sets wakes x.parts.values x.parts.store early listed v (due_step m dump t kind a x at) found

  -- it is the step that its Clocked run in
  pub clocked_step : (time : ℕ) → time ≡ suc t → IsClockedStep st m.points wakes m.habit m.codes x.parts.values time
  clocked_step time same =
      let is = due_step m dump t kind a x at in
      let before : suc t - 1 ≡ t = omega arith in
      record {
        apart = at.follows.parts.subject.apart;
        once = at.follows.parts.subject.once;
        by = record { runs = refl; time_is = sym same };
        dumped = record {
          bound = is.changes.bound;
          old = dump.values t;
          before = subst (λ n. Rattle.first_step.specs.step_values.Dumped.AreDumped m.design m.codes x.parts.values.closed (dump.values n)) before is.changes.old;
          known = is.known;
          after = is.changes.new;
        };
        early = early;
        chosen = found.chosen;
        sets = refl;
      }

  pub clocked_of : AreClockedOf st listed
  clocked_of = record {
    test = is_in wakes.woken;
    filtered = found.listed;
    running = λ p i r. (in_filter (is_in wakes.woken) p m.tables.clocked (subst (In p) found.listed ((listed_run p).1 (i, r)))).1;
  }

  -- they have run, where those that can wake are among those that ran, and the store and the marks are those that they leave
  pub have_run : (ran : List ℕ) (store : Store) (marks : Marks) → ((p : ℕ) → In p ran ↔ (In p listed × (is_woken wakes p ≡ true))) → AreMarksOf m.points marks
      → Knows m.design (flush (clocked_run st).kept (clocked_run st).queue) store → AreVerdicts m.design m.points (clocked_run st).notes marks.verdicts
      → HaveClockedRun due wakes early ran store marks
  have_run ran store marks members points knows verdicts = record {
    running = λ p i r. (members p).1 ((listed_run p).1 (i, r), sym (running m.design (habit_of m.habit) dump (runs_of m.design) m.tables (sets_of wakes early) t a found.sets p) ∙ r);
    clocked = λ p i. ((listed_run p).0 ((members p).0 i).0).0;
    knows = knows;
    points = points;
    marks = verdicts;
  }

  -- each that can wake has an event signal that may move
  pub woken_sensitive : (p : ℕ) → In p listed → is_woken wakes p ≡ true → In p m.tables.clocked × IsSensitive m.design dump (suc t) p
  woken_sensitive p i can =
      let waker = there_is (waker_of wakes p) can in
      let first = first_is (can_wake_by wakes) (row_at wakes.tables.events p) waker.0 waker.1 in
      let events = found.tables.tables.events_are p in
      let e = first.0 in (
        ((listed_run p).0 i).0,
        record {
          thing = e.1;
          watched = or_right (is_level (process_at m.design p) e.1) (has_event_of (process_at m.design p) e.1) (subst (λ es. list_any (λ (q : Edge × ℕ). nat_eq q.1 e.1) es ≡ true) events first.2);
          moves = (found.sets.moves e.1).0 (and_parts _ _ first.1).0;
        },
      )
