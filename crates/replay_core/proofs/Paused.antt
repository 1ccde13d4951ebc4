-- A replay where its dump is off.
use Rattle.std.proofs.Common.{◌≡◌, ◌∙◌, ℕ, ◌<◌, ◌≤◌, false, List, length, Some, None, refl, sym, subst}
use Rattle.body_store.specs.Made.{nothing}
use Rattle.body_store.specs.declared.store.Store.{Store}
use Rattle.code_values.specs.Values.{Values, no_values}
use Rattle.cover_points.specs.Listed.{points_of}
use Rattle.cover_points.specs.declared.listing.Points.{Points}
use Rattle.design_model.specs.Design.{Design}
use Rattle.design_model.specs.Shows.{BoundDump, IsShown, NoneShown}
use Rattle.design_model.specs.declared.point.Point.{Point}
use Rattle.event_machine.specs.Habit.{Habit}
use Rattle.first_step.specs.store_knowledge.Knows.{Knows}
use Rattle.four_state.specs.Vector.{Vector}
use Rattle.machine_index.specs.Index.{IsIndexOf}
use Rattle.replay_follows.specs.Follows.{Follows, Parts, Pauses, Subject}
use Rattle.replay_follows.proofs.Steps.{pauses_later, pauses_now}
use Rattle.replay_model.specs.Paused.{IsPaused}
use Rattle.replay_model.specs.Step.{Replay, forgotten}
use Rattle.step_machines.specs.declared.machines.MachineMarks.{MachineMarks}
use Rattle.wake_laws.specs.Laws.{habit_of}
use Rattle.step_words.specs.Words.{FitsRanges, HasWords, StepState}
use Rattle.replay_core.specs.Fits.{FitsReplay}
use Rattle.replay_core.specs.declared.fault.Phase.{Phase}
use Rattle.replay_core.specs.declared.fault.Phase.TheVariants.{Paused, Refused, Started}
use Rattle.replay_core.specs.declared.fault.ReplayFault.{ReplayFault}
use Rattle.replay_core.specs.declared.room.ReplayRoom.{ReplayRoom}
use Rattle.replay_core.specs.declared.state.ReplayState.{ReplayState}
use Rattle.replay_core.specs.declared.tables.ReplayTables.{ReplayTables}
use Rattle.replay_core.proofs.Parts.{count_is, no_value, none_closed}

-- ---- its parts

no_some : {v : Vector} → None ≡ Some v → ⊥
no_some e = cc

not_started : Paused ≡ Started → ⊥
not_started e = cc

not_refused : (fault : ReplayFault) → Paused ≡ Refused fault → ⊥
not_refused fault e = cc

module _ (d : Design) (points : Points) (x : ReplayTables) (r : ReplayRoom) (s : ReplayState) (phase : Phase) (w : StepState) (store : Store) (machines : MachineMarks) where
  abbrev values : Values
  values = no_values (length s.values.last)

  pub paused_ready : FitsReplay d points x r s phase → Knows d nothing store → FitsRanges d s.notes.written.ranges w → HasWords d nothing s.notes.written.ranges w → machines.index ≡ s.machines.index → machines.told ≡ false
      → FitsReplay d points x (record r { words = w }) (record s { values = values; store = store; machines = machines }) Paused
  paused_ready ready knows ranges words index told =
      let room = ready.parts.room in
      let state = ready.parts.state in
      let n = length s.values.last in
      record {
        replayable = ready.replayable;
        parts = record {
          tables = ready.parts.tables;
          room = record {
            changed = room.changed;
            changes = room.changes;
            sets = room.sets;
            writers = room.writers;
            list = room.list;
            clocked = room.clocked;
            overwritten = room.overwritten;
            running = room.running;
            places = room.places;
            ranks = room.ranks;
            none_by_round = room.none_by_round;
            later = room.later;
            none_later = room.none_later;
            values = room.values;
            saved = room.saved;
            empty = room.empty;
            pieces = room.pieces;
            ran = room.ran;
            checks = room.checks;
          };
          state = record {
            kept = nothing;
            known = knows;
            acted = state.acted;
            seen = state.seen;
            machines = subst (IsIndexOf points.machines.items (length d.signals)) (sym index) state.machines;
            few_machines = state.few_machines;
            noted = state.noted;
            marks = state.marks;
            rows = state.rows ∙ sym (count_is values n refl);
            wide = λ y code v coded is. absurd (no_some (sym (no_value values n code refl) ∙ is));
            wide_closed = λ y code v coded is. absurd (no_some (sym (none_closed values n code refl) ∙ is));
            unsigned = λ code v is. absurd (no_some (sym (no_value values n code refl) ∙ is));
          };
          words = record { first = ready.parts.words.first; ranges = ranges; followed = ready.parts.words.followed };
        };
        none = ready.none;
        none_clocked = ready.none_clocked;
        forgotten = λ off. record { knows = knows; words = words; told = told };
        begun = λ started. absurd (not_started started);
        closed = λ started. absurd (not_started started);
        refused = λ fault refused. absurd (not_refused fault refused);
      }

-- ---- the relation to its dump

paused_forgets : (d : Design) (h : Habit) (dump : BoundDump) (points : List Point) (u : ℕ) (a : Replay) → IsPaused d h dump points u a → IsPaused d h dump points u (forgotten a)
paused_forgets d h dump points u a is = record { acted = is.acted; hits = is.hits; marked = is.marked; has_acted = is.has_acted; doubts = is.doubts; reached = is.reached; forced = is.forced }

module _ (f : Subject) (a : Replay) (x : Parts) (values : Values) (store : Store) (knows : Knows f.design nothing store) where
  abbrev y : Parts
  y = record x { values = values; store = store; told = false }

  -- it is paused from the step that was closed last
  pub pauses_after : (t u : ℕ) → Follows f t a x → t < u → NoneShown f.dump t u → Pauses f u (forgotten a) y
  pauses_after t u follows later none =
      let rest = follows.rest in
      pauses_now f t u a x y follows later none follows.sets follows.writers (record { knows = knows; acted = rest.acted; points = rest.points; marks = rest.marks; seen = rest.seen }) refl

  -- and is so still where it was paused
  pub pauses_still : (u v : ℕ) → Pauses f u a x → u ≤ v → ((w : ℕ) → u ≤ w → w < v → IsShown f.dump w → ⊥) → Pauses f v (forgotten a) y
  pauses_still u v pauses le none =
      let later = pauses_later f u v a x le none pauses in
      let rest = later.rest in
      record {
        subject = later.subject;
        sets = later.sets;
        writers = later.writers;
        rest = record { knows = knows; acted = rest.acted; points = rest.points; marks = rest.marks; seen = rest.seen };
        untold = refl;
        paused = paused_forgets f.design (habit_of f.habit) f.dump (points_of f.points) v a later.paused;
      }
