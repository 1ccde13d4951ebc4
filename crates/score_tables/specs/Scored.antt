-- What the table of a score says of a design under a dump.
use Rattle.std.specs.Prelude.{◌≡◌, ◌<◌, ◌^◌, ℕ, List}
use Rattle.coverage_db.specs.Table.{IsTable}
use Rattle.coverage_db.specs.declared.db.Db.{Db}
use Rattle.cover_points.specs.Listed.{points_of}
use Rattle.cover_points.specs.declared.listing.Points.{Points}
use Rattle.design_model.specs.Design.{Design}
use Rattle.cover_points.specs.design_machines.state_machines.Machines.{StateMachines}
use Rattle.design_model.specs.Shows.{BoundDump, IsListed}
use Rattle.event_machine.specs.Habit.{Habit}
use Rattle.verdict_laws.specs.mark_laws.Marked.{AreVerdicts}
use Rattle.point_marks.specs.declared.verdict.Verdict.{Verdict}
use Rattle.verdict_laws.specs.replay_model.Laws.{AreReasonedVerdicts, AreSoundVerdicts}
use Rattle.verdict_laws.specs.replay_model.Step.{Replay}
use Rattle.verdict_laws.specs.table_laws.Rows.{ListsPoints}
use Rattle.verdict_laws.specs.Reasoned.{IsReasoned}
use Rattle.verdict_laws.specs.Sound.{IsSound}
use Rattle.score_tables.specs.Head.{HasHead}
use Rattle.score_tables.specs.Windows.{windows_of}

-- the verdicts are those of a replay, and hold under the dump
pub record AreScored (d : Design) (h : Habit) (dump : BoundDump) (ps : Points) (vs : List Verdict) : Type 0 where
  pub replay : Replay
  pub verdicts : AreVerdicts d ps replay.notes vs
  pub sound : AreSoundVerdicts d h dump (points_of ps) replay
  pub reasoned : AreReasonedVerdicts d h dump (points_of ps) replay

-- a database can have each time that the dump lists
abbrev pub HasSmallTimes : BoundDump → Type 0
HasSmallTimes dump = (t : ℕ) → IsListed dump t → t < 2 ^ 63

-- the table lists each point of the design with these state machines once, and what it says of them holds in every run that shows the dump
pub record IsScoreTable (d : Design) (h : Habit) (dump : BoundDump) (ms : StateMachines) (names : List (List ℕ)) (db : Db) : Type 0 where
  pub table : IsTable db
  pub head : HasHead d names db
  pub listed : ListsPoints d ms db
  pub sound : IsSound d h dump ms db
  pub reasoned : IsReasoned d h dump ms db
  pub windows : db.windows ≡ windows_of dump.stretches
