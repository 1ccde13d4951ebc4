-- A replay has followed each dump that goes on from what was read.
use Rattle.std.specs.Prelude.{◌≡◌, ◌<◌, ℕ, List, length, map, None}
use Rattle.cover_marks.specs.Marks.{AreMarksOf}
use Rattle.cover_marks.specs.declared.marks.Marks.{Marks}
use Rattle.cover_points.specs.declared.listing.Points.{Points}
use Rattle.design_model.specs.Clear.{IsForced}
use Rattle.design_model.specs.Design.{Design as Tree, signal_bits}
use Rattle.design_model.specs.Shows.{BoundDump}
use Rattle.design_model.specs.View.{design_view}
use Rattle.design_model.specs.declared.design.Design.{Design}
use Rattle.event_machine.specs.Habit.{Habit}
use Rattle.four_state.specs.declared.bit.Bit.{Bit}
use Rattle.vcd_reader.specs.Times.{last_time}
use Rattle.vcd_reader.specs.declared.entry.Entry.{Entry}
use Rattle.vcd_reader.specs.declared.vars.Var.{Var}
use Rattle.replay_core.specs.Followed.{HasFollowed as HasFollowedDump, HasPaused as HasPausedDump}
use Rattle.replay_core.specs.Parts.{IsPausedPhase, IsReady, given_of, made_of}
use Rattle.replay_core.specs.declared.replay.Replay.{Replay}
use Rattle.replay_core.specs.wake_laws.Laws.{habit_of}
use Rattle.signal_binding.specs.Binding.{HasInstance, codes_of}
use Rattle.code_values.specs.Values.{value_of}
use Rattle.score_tables.specs.Scored.{AreScored}
use Rattle.dump_replay.specs.Taken.{HasTaken}
use Rattle.dump_replay.specs.Windows.{first_of}
use Rattle.score_tables.specs.Windows.{windows_of}
use Rattle.shown_dumps.specs.Rounds.{ByLastRounds}
use Rattle.bound_codes.specs.Codes.{AreWanted, IsCoded}
use Rattle.shown_dumps.specs.Said.{ended_stretches, open_stretch, times_in}
use Rattle.dump_replay.specs.declared.replay.DumpReplay.{DumpReplay}

-- the replay is one of this design, whose inputs move by this habit, and of its points, of which the instance is the top in a dump with these variables
pub record IsReplayOf (x : DumpReplay) (habit : Habit) (design : Design) (points : Points) (vars : List Var) (instance : List ℕ) : Type 0 where
  pub ready : IsReady x.replay
  pub there : HasInstance vars instance
  pub design_is : (made_of x.replay).design ≡ design_view design
  pub habit_is : habit_of (made_of x.replay).habit ≡ habit
  pub points_are : (made_of x.replay).points ≡ points
  pub codes : (made_of x.replay).codes ≡ codes_of design vars instance
  pub within : (code : ℕ) → IsCoded (codes_of design vars instance) code → code < length (given_of x.replay)
  pub wanted : AreWanted (codes_of design vars instance) x.wanted.items

-- the replay has closed the steps of a dump up to a time, each by its last round
abbrev pub Follows : Replay → BoundDump → ℕ → Type 0
Follows x dump t = ByLastRounds (made_of x).design dump (λ b. HasFollowedDump x b t)

-- it has followed all that a dump shows before a time, and closed no step of what comes then
abbrev pub Pauses : Replay → BoundDump → ℕ → Type 0
Pauses x dump t = ByLastRounds (made_of x).design dump (λ b. HasPausedDump x b t)

-- it was given these entries, and has followed each dump that begins with them up to the last time but one of the stretch that is on
pub record HasFollowed (x : DumpReplay) (habit : Habit) (design : Design) (points : Points) (vars : List Var) (instance : List ℕ) (entries : List Entry) : Type 0 where
  pub of : IsReplayOf x habit design points vars instance
  pub first : x.first ≡ first_of (times_in (open_stretch entries))
  pub last : x.last ≡ last_time None (open_stretch entries)
  pub windows : x.windows ≡ record { items = windows_of (map times_in (ended_stretches entries)); room = 1024 }
  pub taken : HasTaken (Follows x.replay) (Pauses x.replay) (IsPausedPhase x.replay) (codes_of design vars instance) (value_of (given_of x.replay)) entries

-- the marks are verdicts of the points that hold under the dump, and no value that is forced differs from the dump's
pub record AreFinalMarks (d : Tree) (h : Habit) (dump : BoundDump) (points : Points) (marks : Marks) : Type 0 where
  pub of : AreMarksOf points marks
  pub scored : AreScored d h dump points marks.verdicts
  pub forced : (t s : ℕ) (bits : List Bit) → IsForced d h dump t s bits → signal_bits d (dump.values t) s ≡ bits
