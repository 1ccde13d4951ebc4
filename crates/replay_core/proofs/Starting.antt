-- The first step of a stretch of each dump that a replay can be of.
use Rattle.std.proofs.Common.{◌≡◌, ◌∙◌, ℕ, ◌<◌, true, false, List, length, IfNone, IfSome, Option, Some, None, sym, ap, subst}
use Rattle.std.specs.Prelude.{is_some}
use Rattle.std.proofs.Math.Path.{fun_ext}
use Rattle.event_machine.specs.Cell.{Cell}
use Rattle.four_state.specs.Vector.{Vector}
use Rattle.body_replay.specs.Runs.{AreRuns, runs_of}
use Rattle.cover_points.specs.declared.listing.Points.{Points}
use Rattle.design_model.specs.Design.{Design}
use Rattle.design_model.specs.Shows.{BoundDump, IsFirst, IsShown}
use Rattle.design_model.specs.declared.point.Point.TheVariants.{Toggle as toggle_point}
use Rattle.early_sets.specs.declared.habit.Habit.{Habit}
use Rattle.machine_laws.proofs.Arcs.{arcs_apart}
use Rattle.replay_follows.specs.Follows.{Follows, IsSubject, Parts, Pauses}
use Rattle.replay_follows.specs.Laws.{first_replay}
use Rattle.replay_follows.proofs.Steps.{against_first, starts}
use Rattle.replay_model.specs.Start.{contradicts_first}
use Rattle.replay_model.specs.Step.{Replay}
use Rattle.replay_model.specs.Tables.{AreTables}
use Rattle.first_step.specs.step_changes.Changes.{AreUnsigned}
use Rattle.step_start.specs.step_parts.AtStep.{AtRest}
use Rattle.first_step.specs.step_values.Dumped.{AreDumped}
use Rattle.first_step.specs.step_wakes.Step.{IsOfDesign}
use Rattle.first_step.specs.store_knowledge.Knows.{Knows}
use Rattle.wake_laws.specs.Laws.{habit_of}
use Rattle.wake_laws.specs.OfDesign.{AreWritersOf}
use Rattle.first_step.specs.Begun.{IsFirstOf}
use Rattle.replay_core.specs.Codes.{flags_of}
use Rattle.replay_core.specs.Fits.{FitsTables, HasWriters, IsForgotten, IsReplayable}
use Rattle.replay_core.specs.Made.{IsDumpFor, Made, made_with, parts_with, subject_of}
use Rattle.replay_core.specs.declared.room.ReplayRoom.{ReplayRoom}
use Rattle.replay_core.specs.declared.state.ReplayState.{ReplayState}
use Rattle.replay_core.specs.declared.tables.ReplayTables.{ReplayTables}
use Rattle.replay_core.specs.Faults.{IsRefuted}
use Rattle.replay_core.proofs.Closing.{dumped_is}
use Rattle.replay_core.proofs.Codes.{flags_are}
use Rattle.replay_core.proofs.Parts.{coded}
use Rattle.replay_core.proofs.Words.{words_stay}
use Rattle.body_store.specs.Made.{nothing}
use Rattle.step_runs.specs.Laws.{FirstWordsLaw}
use Rattle.step_words.specs.Words.{HasWords}
use Rattle.dump_check.specs.Checks.{IsDifference}
use Rattle.dump_check.specs.declared.order.Difference.{Difference}
use Rattle.known_state.specs.Partly.{Partly}

module _ (d : Design) (h : Habit) (points : Points) (x : ReplayTables) (replayable : IsReplayable d points) (runs : AreRuns d (runs_of d)) (fits : FitsTables d x) where
  abbrev m : Made
  m = made_with d h points x

  pub is_subject : (dump : BoundDump) → IsDumpFor m dump → IsSubject (subject_of m dump)
  is_subject dump of = record {
    is = record {
      lawful = replayable.lawful;
      fits = of.fits;
      rounds = of.rounds;
      runs = runs;
      tabled = subst (λ bound. AreTables d bound m.tables) (sym (fun_ext of.bound)) fits.tabled;
      toggles = λ s i rise at. (replayable.listed.members (toggle_point s i rise)).0 at;
      arcs = λ i name s from to y z at. arcs_apart d replayable.machines points i name s from to y z replayable.listed at;
    };
    wakes = replayable.own_wakes;
    machines = replayable.machines;
    listed = replayable.listed;
    apart = replayable.apart;
    once = replayable.once;
    bound = of.bound;
    flagged = flags_are m.codes;
    ranked = fits.ranked;
    clocked = fits.clocked;
  }

  module _ (dump : BoundDump) (t : ℕ) (of : IsDumpFor m dump) (first : IsFirst dump t) (shown : IsShown dump t) where
    module _ (r : ReplayRoom) (s : ReplayState) (a : Replay) (pauses : Pauses (subject_of m dump) t a (parts_with r s).parts) (given : AreDumped d m.codes s.values.last (dump.values t)) where
      abbrev after : Replay
      after = first_replay (subject_of m dump) t a

      -- what the store knew before the step is what the definition starts from
      pub is_first : IsForgotten d r s → IsFirstOf d dump.bound (dump.values t) a m.codes s.values.last s.acted.items s.store
      is_first forgotten = record { bound = of.bound; dumped = given; acted = pauses.rest.acted; knows = forgotten.knows }

      -- where nothing contradicts the step the dump is followed up to this time
      pub starts_at : (y : Parts) → IsForgotten d r s → AreUnsigned s.values.last
          → y.values.closed ≡ s.values.last → y.acted ≡ s.acted.items → y.marks ≡ s.notes.marks → y.seen ≡ s.seen → y.told ≡ s.machines.told → IsOfDesign d (flags_of m.codes) y.sets → HasWriters d m.codes y.sets
          → Knows d after.kept y.store → ((c : Cell) → contradicts_first d dump.bound (runs_of d) m.tables (dump.values t) a c ≡ false) → Follows (subject_of m dump) t after y
      starts_at y forgotten unsigned values acted same seen told sets writers knows none =
          starts (subject_of m dump) t a (parts_with r s).parts y pauses first shown sets (subst (λ b. AreWritersOf d b y.sets.tables.things y.sets.writers) (sym (fun_ext of.bound)) writers)
          (subst (λ vs. AreDumped d m.codes vs (dump.values t)) (sym values) given)
          (subst AreUnsigned (sym values) unsigned)
          none
          (subst (λ fs. AtRest d points after y.store fs y.marks y.seen) (sym acted)
          (subst (λ ms. AtRest d points after y.store s.acted.items ms y.seen) (sym same)
          (subst (λ ts. AtRest d points after y.store s.acted.items s.notes.marks ts) (sym seen)
          (record {
            knows = knows;
            acted = pauses.rest.acted;
            points = pauses.rest.points;
            marks = pauses.rest.marks;
            seen = pauses.rest.seen;
          })))) (told ∙ forgotten.told)

      -- and nothing is known of a word
      pub starts_words : IsForgotten d r s → FirstWordsLaw → HasWords d after.kept s.notes.written.ranges r.words
      starts_words forgotten law =
          words_stay d nothing after.kept s.notes.written.ranges r.words (λ c is. law d dump.bound (runs_of d) m.tables (dump.values t) a c replayable.lawful pauses.subject.is.tabled is) forgotten.words

      -- where some bit contradicts it no run shows the dump
      pub refuted_at : (c : Cell) (found : Difference) (made : List Partly) → contradicts_first d dump.bound (runs_of d) m.tables (dump.values t) a c ≡ true
          → IsDifference m.codes s.values.last made found → IsRefuted d (habit_of h) dump t found.signal found.dumped found.computed.bits
      refuted_at c found made differs is = record {
        contradicted = against_first (subject_of m dump) t a (parts_with r s).parts c pauses first shown differs;
        says = dumped_is d m.codes s.values.last (dump.values t) found.signal is.code found.dumped given is.coded is.dumped;
        differ = is.differ;
      }

-- ---- what was found

-- a signal that was compared with the dump is one of the design
pub compared_below : (d : Design) (x : ReplayTables) (last : List (Option Vector)) (found : Difference) (made : List Partly) → FitsTables d x → IsDifference x.step.codes.items last made found → found.signal < length d.signals
compared_below d x last found made fits is = coded d x fits found.signal (ap is_some is.coded)

-- what follows from two facts of what was found
pub if_found : {A : Type 0} {P Q R : A → Type 0} (o : Option A) → IfSome o P → IfSome o Q → ((y : A) → P y → Q y → R y) → IfSome o R
if_found None p q to = tt
if_found (Some y) p q to = to y p q

pub if_none : {A : Type 0} {P Q : Type 0} (o : Option A) → IfNone o P → (P → Q) → IfNone o Q
if_none None p to = to p
if_none (Some y) p to = tt
