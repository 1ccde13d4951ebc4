-- What a replay is made of, and what it keeps, without the replay itself.
use Rattle.std.specs.Prelude.{◌≡◌, ℕ, List, Option}
use Rattle.body_replay.specs.Runs.{runs_of}
use Rattle.cover_points.specs.declared.listing.Points.{Points}
use Rattle.design_model.specs.Design.{Design}
use Rattle.design_model.specs.MayMove.{AreLastRounds}
use Rattle.design_model.specs.Shows.{BoundDump}
use Rattle.early_sets.specs.WakeState.{state_of}
use Rattle.early_sets.specs.declared.habit.Habit.{Habit}
use Rattle.process_order.specs.Tables.{tables_of}
use Rattle.replay_follows.specs.Follows.{Follows, Parts, Subject}
use Rattle.replay_model.specs.Step.{Replay}
use Rattle.replay_model.specs.Tables.{Tables}
use Rattle.hidden_times.specs.Hidden.{IsAnyDumpOf}
use Rattle.first_step.specs.step_values.Loose.{has_code}
use Rattle.step_words.specs.Words.{HasWords, StepState}
use Rattle.written_words.specs.declared.range.WordRange.{WordRange}
use Rattle.replay_core.specs.Codes.{flags_of}
use Rattle.replay_core.specs.declared.room.ReplayRoom.{ReplayRoom}
use Rattle.replay_core.specs.declared.state.ReplayState.{ReplayState}
use Rattle.replay_core.specs.declared.tables.ReplayTables.{ReplayTables}

-- what a replay is made of
pub record Made : Type 0 where
  pub design : Design
  pub habit : Habit  -- by which the inputs move
  pub points : Points
  pub codes : List (Option ℕ)  -- the code of each signal that the dump has
  pub tables : Tables
  pub ranks : List (Option ℕ)  -- the place of each Assign and Comb in the order
  pub clocked_ranks : List (Option ℕ)  -- the place of each Clocked among them

-- of a design, a habit, its points and these tables
abbrev pub made_with : Design → Habit → Points → ReplayTables → Made
made_with d h points x =
    record {
      design = d;
      habit = h;
      points = points;
      codes = x.step.codes.items;
      tables = tables_of x.processes;
      ranks = x.step.order;
      clocked_ranks = x.step.clocked;
    }

-- what stays of a replay under a dump
abbrev pub subject_of : Made → BoundDump → Subject
subject_of m dump =
    record {
      design = m.design;
      habit = m.habit;
      dump = dump;
      run = runs_of m.design;
      tables = m.tables;
      points = m.points;
      flags = flags_of m.codes;
      codes = m.codes;
      ranks = m.ranks;
      clocked_ranks = m.clocked_ranks;
    }

-- what follows a dump: the parts, and what was known of the words that are followed when the last step ended
pub record Following : Type 0 where
  pub parts : Parts
  pub ranges : List WordRange
  pub words : StepState

-- what is kept in the room and the state
abbrev pub parts_with : ReplayRoom → ReplayState → Following
parts_with r s =
    record {
      parts = record {
        sets = state_of r.step.sets;
        values = s.values;
        store = s.store;
        acted = s.acted.items;
        marks = s.notes.marks;
        seen = s.seen;
        told = s.machines.told;
      };
      ranges = s.notes.written.ranges;
      words = r.words;
    }

-- these have followed the dump up to a time, at which the replay is this, with its words
pub record HasFollows (f : Subject) (t : ℕ) (a : Replay) (x : Following) : Type 0 where
  pub parts : Follows f t a x.parts
  pub words : HasWords f.design a.kept x.ranges x.words

-- a dump of the design, which may lack inputs, that has the signals with a code, of which each step is judged by its last round
pub record IsDumpFor (m : Made) (dump : BoundDump) : Type 0 where
  pub fits : IsAnyDumpOf m.design dump
  pub bound : (s : ℕ) → dump.bound s ≡ has_code m.codes s
  pub rounds : AreLastRounds m.design dump
