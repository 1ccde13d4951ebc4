-- The headline. When a score ends with status 0, the database that it wrote lists each coverage point of the design once; in every run of the design that shows the dump, each point marked hit is hit
-- and each point marked missed is never hit; each undetermined point names a signal and a time at which that signal is in doubt for its block.
-- The clauses of `covered` have the names of its parts: accepted, listed, sound, reasoned, untouched.
use Rattle.std.specs.Prelude.{◌≡◌, ◌≢◌, ℕ, List}
use Rattle.cov_host.specs.Outside.{Files, Outside, Told}
use Rattle.coverage_db.specs.Table.{IsTable}
use Rattle.coverage_db.specs.declared.db.Db.{Db}
use Rattle.design_model.specs.Shows.{BoundDump}
use Rattle.design_model.specs.View.{design_view}
use Rattle.design_model.specs.declared.design.Design.{Design}
use Rattle.dump_score.specs.Scoring.{AreForced}
use Rattle.dump_score.specs.verdict_laws.Reasoned.{IsReasoned}
use Rattle.dump_score.specs.verdict_laws.Sound.{IsSound}
use Rattle.event_machine.specs.Habit.{Habit}
use Rattle.shown_dumps.specs.Bound.{IsBound}
use Rattle.shown_dumps.specs.Rounds.{ByLastRounds}
use Rattle.shown_dumps.specs.Shown.{bound_dump}
use Rattle.state_machines.specs.Machines.{StateMachines}
use Rattle.vcd_reader.specs.Dump.{Dump}
use Rattle.written_designs.specs.table_laws.Rows.{ListsPoints}

-- what a score is about: the design of the sources with its state machines, the habit of the inputs, what the dump says, the instance in it that is the top, and the table that was written
pub record Scored : Type 0 where
  pub design : Design
  pub machines : StateMachines
  pub habit : Habit
  pub dump : Dump
  pub instance : List ℕ
  pub table : Db

-- the same, made of its parts
abbrev pub scored_of : Habit → Design → StateMachines → Dump → List ℕ → Db → Scored
scored_of habit design machines dump instance table = record { design = design; machines = machines; habit = habit; dump = dump; instance = instance; table = table }

-- the claim holds of what the dump says of the design, with each step read by the last round of its single signals
abbrev pub HoldsByDump : Scored → (BoundDump → Type 0) → Type 0
HoldsByDump x claim = ByLastRounds (design_view x.design) (bound_dump x.design x.dump x.instance) claim

-- accepted: the dump has the instance and in each stretch a first value of each signal that has a variable, and no forced value differs from its own
pub record IsAccepted (x : Scored) : Type 0 where
  pub bound : IsBound x.design x.dump x.instance
  pub forced : HoldsByDump x (AreForced x.habit (design_view x.design))

-- listed: the table lists each coverage point of the design, with these state machines, once and in order, and nothing else
pub record IsListed (x : Scored) : Type 0 where
  pub table : IsTable x.table
  pub points : ListsPoints (design_view x.design) x.machines x.table

-- sound: in every run of the design, by this habit, that shows the dump, each point marked hit is hit and each point marked missed is never hit
abbrev pub IsSoundScore : Scored → Type 0
IsSoundScore x = HoldsByDump x (λ dump. IsSound (design_view x.design) x.habit dump x.machines x.table)

-- reasoned: each undetermined point names a signal and a time at which that signal is in doubt for its block, and is hit only where something is; what a block surely reaches is hit
abbrev pub IsReasonedScore : Scored → Type 0
IsReasonedScore x = HoldsByDump x (λ dump. IsReasoned (design_view x.design) x.habit dump x.machines x.table)

-- every file but this one is as before
abbrev pub KeepsOthers : List ℕ → Files → Files → Type 0
KeepsOthers name old new = (other : List ℕ) → other ≢ name → new other ≡ old other

-- untouched: every file but the output is as before, and nothing was printed or warned
pub record IsUntouched (output : List ℕ) (before after : Outside) : Type 0 where
  pub files : Told (KeepsOthers output) before.files after.files
  pub printed : after.printed ≡ before.printed
  pub warned : after.warned ≡ before.warned
