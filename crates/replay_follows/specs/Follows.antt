-- A replay has followed a dump up to a time.
use Rattle.std.specs.Prelude.{◌≡◌, ◌++◌, ℕ, Bool, true, false, List, length, Option}
use Rattle.bit_changes.specs.declared.toggles.Toggles.{Toggles}
use Rattle.step_parts.specs.body_replay.Runs.{Runs}
use Rattle.step_parts.specs.body_store.declared.store.Store.{Store}
use Rattle.code_values.specs.Values.{Values}
use Rattle.step_parts.specs.cover_marks.declared.marks.Marks.{Marks}
use Rattle.step_parts.specs.cover_points.Listed.{IsPointList, points_of}
use Rattle.step_parts.specs.cover_points.Visits.{AreApart, AreOnce}
use Rattle.step_parts.specs.cover_points.declared.listing.Points.{Points}
use Rattle.design_model.specs.Design.{Design}
use Rattle.step_parts.specs.cover_points.design_machines.state_machines.Machines.{StateMachines}
use Rattle.design_model.specs.Shows.{BoundDump, IsShown}
use Rattle.early_sets.specs.WakeState.{WakeState}
use Rattle.early_sets.specs.declared.habit.Habit.{Habit}
use Rattle.machine_laws.specs.Told.{AreTold}
use Rattle.model_laws.specs.Own.{HasOwnWakes}
use Rattle.step_parts.specs.replay_model.Laws.{IsReplayOf}
use Rattle.step_parts.specs.replay_model.Paused.{IsPaused}
use Rattle.step_parts.specs.replay_model.Stands.{Stands}
use Rattle.step_parts.specs.replay_model.Step.{Replay}
use Rattle.step_parts.specs.replay_model.Tables.{Tables}
use Rattle.run_order.specs.Ranked.{AreRanksOf}
use Rattle.step_parts.specs.step_changes.Changes.{AreUnsigned}
use Rattle.step_parts.specs.AtStep.{AtRest}
use Rattle.step_parts.specs.step_values.Dumped.{AreDumped}
use Rattle.step_parts.specs.step_values.Loose.{has_code}
use Rattle.step_parts.specs.step_wakes.Step.{IsOfDesign, flag_at}
use Rattle.step_parts.specs.wake_laws.Laws.{habit_of}
use Rattle.step_parts.specs.wake_laws.OfDesign.{AreWritersOf}

-- what stays of a replay from its first step to its last
pub record Subject : Type 0 where
  pub design : Design
  pub habit : Habit
  pub dump : BoundDump
  pub run : Runs
  pub tables : Tables
  pub points : Points
  pub flags : List Bool  -- for each signal whether the dump has it
  pub codes : List (Option ℕ)  -- the code of each signal
  pub ranks : List (Option ℕ)  -- the place of each Assign and Comb in the order
  pub clocked_ranks : List (Option ℕ)  -- the place of each Clocked among them

-- it is of a lawful design and its points, with some state machines, and the codes and the places are those of its dump and tables
pub record IsSubject (f : Subject) : Type 0 where
  pub is : IsReplayOf f.design (habit_of f.habit) f.dump f.run f.tables (points_of f.points)
  pub wakes : HasOwnWakes f.design
  pub machines : StateMachines
  pub listed : IsPointList f.design machines f.points
  pub apart : AreApart f.points
  pub once : AreOnce f.points
  pub bound : (s : ℕ) → f.dump.bound s ≡ has_code f.codes s
  pub flagged : (s : ℕ) → flag_at f.flags s ≡ has_code f.codes s
  pub ranked : AreRanksOf (f.tables.order ++ f.tables.last) (length f.design.processes) f.ranks
  pub clocked : AreRanksOf f.tables.clocked (length f.design.processes) f.clocked_ranks

-- the parts of the code after the step that was closed last
pub record Parts : Type 0 where
  pub sets : WakeState
  pub values : Values
  pub store : Store
  pub acted : List Bool  -- which Combs have surely acted
  pub marks : Marks
  pub seen : List Toggles  -- what is marked already
  pub told : Bool  -- whether the states of machines were marked at a time of the window

-- each event signal of the dump that one block writes at most once may become single
abbrev pub HasWriters : Subject → Parts → Type 0
HasWriters f x = AreWritersOf f.design f.dump.bound x.sets.tables.things x.sets.writers

-- these have followed the dump up to this time, at which the replay is this
pub record Follows (f : Subject) (t : ℕ) (a : Replay) (x : Parts) : Type 0 where
  pub subject : IsSubject f
  pub sets : IsOfDesign f.design f.flags x.sets
  pub writers : HasWriters f x
  pub closed : AreDumped f.design f.codes x.values.closed (f.dump.values t)
  pub unsigned : AreUnsigned x.values.closed
  pub rest : AtRest f.design f.points a x.store x.acted x.marks x.seen
  pub told : x.told ≡ true → AreTold f.design f.points a
  pub shown : IsShown f.dump t
  pub stands : Stands f.design (habit_of f.habit) f.dump f.tables (points_of f.points) t a

-- these have followed all that the dump shows before a time, at which the replay is this and no step of a stretch is closed
pub record Pauses (f : Subject) (u : ℕ) (a : Replay) (x : Parts) : Type 0 where
  pub subject : IsSubject f
  pub sets : IsOfDesign f.design f.flags x.sets
  pub writers : HasWriters f x
  pub rest : AtRest f.design f.points a x.store x.acted x.marks x.seen
  pub untold : x.told ≡ false
  pub paused : IsPaused f.design (habit_of f.habit) f.dump (points_of f.points) u a
