-- A replay has followed a dump up to a time, and what its marks then say.
use Rattle.std.specs.Prelude.{◌≡◌, ◌<◌, ℕ, suc, Bool, true, List}
use Rattle.cover_marks.specs.Marks.{AreMarksOf}
use Rattle.cover_marks.specs.declared.marks.Marks.{Marks}
use Rattle.cover_points.specs.Listed.{points_of}
use Rattle.design_model.specs.Clear.{IsForced}
use Rattle.design_model.specs.Design.{signal_bits}
use Rattle.design_model.specs.Shows.{BoundDump, IsListed, IsWindow}
use Rattle.four_state.specs.declared.bit.Bit.{Bit}
use Rattle.hidden_times.specs.Hidden.{is_listed}
use Rattle.first_step.specs.mark_laws.Marked.{AreVerdicts}
use Rattle.replay_follows.specs.Follows.{Pauses}
use Rattle.replay_model.specs.Laws.{AreReasonedVerdicts, AreSoundVerdicts}
use Rattle.replay_model.specs.Step as model
use Rattle.first_step.specs.step_values.Dumped.{AreDumped}
use Rattle.wake_laws.specs.Laws.{habit_of}
use Rattle.replay_core.specs.Made.{HasFollows, IsDumpFor, Made, subject_of}
use Rattle.replay_core.specs.Parts.{IsPausedPhase, IsStarted, given_of, made_of, parts_of}
use Rattle.replay_core.specs.declared.replay.Replay.{Replay}

-- the values that the dump gave last are those at this time
abbrev pub AreGivenAt : Replay → BoundDump → ℕ → Type 0
AreGivenAt x dump t = AreDumped (made_of x).design (made_of x).codes (given_of x) (dump.values t)

-- the replay has closed the steps of the dump up to this time
pub record HasFollowed (x : Replay) (dump : BoundDump) (t : ℕ) : Type 0 where
  pub dumped : IsDumpFor (made_of x) dump
  pub started : IsStarted x
  pub replay : model.Replay
  pub follows : HasFollows (subject_of (made_of x) dump) t replay (parts_of x)

-- the replay has followed all that the dump shows before a time, and has closed no step of what comes then
pub record HasPaused (x : Replay) (dump : BoundDump) (u : ℕ) : Type 0 where
  pub dumped : IsDumpFor (made_of x) dump
  pub off : IsPausedPhase x
  pub replay : model.Replay
  pub pauses : Pauses (subject_of (made_of x) dump) u replay (parts_of x).parts

-- after this time the next one of the dump's window is this, which the dump lists or not
pub record IsStepAt (dump : BoundDump) (t end : ℕ) (listed : Bool) : Type 0 where
  pub next : end ≡ suc t
  pub kind : is_listed dump end ≡ listed
  pub window : IsWindow dump end

-- it lists it
abbrev pub IsNextStep : BoundDump → ℕ → ℕ → Type 0
IsNextStep dump t end = IsStepAt dump t end true

-- one time is later than another, and those between are of the window, and the dump lists none of them
pub record AreHidden (dump : BoundDump) (from time : ℕ) : Type 0 where
  pub later : from < time
  pub window : (u : ℕ) → from < u → u < time → IsWindow dump u
  pub unlisted : (u : ℕ) → from < u → u < time → IsListed dump u → ⊥

-- the marks of the points are verdicts that are sound and reasoned, and no value that is forced differs from the dump's
pub record AreFinal (m : Made) (dump : BoundDump) (marks : Marks) : Type 0 where
  pub points : AreMarksOf m.points marks
  pub replay : model.Replay
  pub verdicts : AreVerdicts m.design m.points replay.notes marks.verdicts
  pub sound : AreSoundVerdicts m.design (habit_of m.habit) dump (points_of m.points) replay
  pub reasoned : AreReasonedVerdicts m.design (habit_of m.habit) dump (points_of m.points) replay
  pub forced : (t s : ℕ) (bits : List Bit) → IsForced m.design (habit_of m.habit) dump t s bits → signal_bits m.design (dump.values t) s ≡ bits
