-- Which inputs are good, which are refused, and with what status each ends.
use Rattle.std.specs.Prelude.{◌≡◌, ◌⊎◌, ℕ, List, Some, IsSome, IsSomeAnd}
use Rattle.command_line.specs.CommandWords.{IsScore, ScoreValues}
use Rattle.cov_host.specs.Outside.{Outside, IsCounted}
use Rattle.design_model.specs.declared.design.Design.{Design}
use Rattle.design_model.specs.Run.{Run}
use Rattle.design_model.specs.View.{design_view}
use Rattle.design_points.specs.Counted.{HasFewPoints}
use Rattle.design_points.specs.cover_points.declared.fault.PointFault.{PointFault}
use Rattle.shown_dumps.specs.Bound.{IsBound}
use Rattle.shown_dumps.specs.Shown.{bound_dump}
use Rattle.signal_binding.specs.Binding.{HasInstance}
use Rattle.vcd_reader.specs.Dump.{Dump as SpecDump, IsDump, SaysBody}
use Rattle.vcd_reader.specs.Reading.{Body}
use Rattle.covered_cli.specs.DumpRefusal.{refusal_line}
use Rattle.whole_files.specs.Effects.{WarnsLine}
use Rattle.covered_cli.specs.PointsMessage.{machine_line, points_line}
use Rattle.source_design.specs.Accepted.{StandFor}
use Rattle.source_design.specs.Reading.{HasSources}
use Rattle.dump_score.specs.verdict_laws.Sound.{IsShownBy}
use Rattle.verilog_lexer.specs.Sources.{SourceText}
use Rattle.state_machines.specs.Machines.{StateMachines}
use Rattle.covered_cli.specs.ScoreMachines.{AreMachinesOf, habit_in}
use Rattle.covered_cli.specs.ScoreSources.{sources_in}
use Rattle.covered_cli.specs.Scoring.{HasDesign, HasNoMachine, HasNoScore, HasPointsFault, IsRefusedDump}
use Rattle.covered_cli.specs.declared.dump_refusal.DumpRefusal.{DumpRefusal}
use Rattle.covered_cli.specs.declared.dump_refusal.DumpRefusal.TheVariants as refusal
use Rattle.covered_cli.specs.declared.status.Status.{Status}
use Rattle.covered_cli.specs.declared.status.Status.TheVariants.{Contradiction, Dump, Memory, Source}

-- the files of the host are known, and this one has this text
abbrev pub HasText : Outside → List ℕ → List ℕ → Type 0
HasText outside name text = IsSomeAnd outside.files (λ files. files name ≡ Some text)

-- the sources of the command are known and have the design, and its dump has the text
pub record HaveTexts (score : ScoreValues) (before : Outside) (design : Design) (text : List ℕ) : Type 0 where
  pub sources : List SourceText
  pub has_design : HasDesign score before sources design
  pub dump_is : HasText before score.dump text

-- the sources have a design, the dump has the instance and in each stretch a first value of each signal that it has, and some run of the design shows it
pub record IsGoodScore (score : ScoreValues) (before : Outside) : Type 0 where
  pub text : List ℕ
  pub design : Design
  pub dump : SpecDump
  pub texts : HaveTexts score before design text
  pub is_dump : IsDump text dump
  pub bound : IsBound design dump score.instance
  pub run : Run
  pub shown : IsShownBy (design_view design) (habit_in score) (bound_dump design dump score.instance) run

-- the sources are known, with all that they include, and have no design, whatever the dump is
pub record HasBadSource (score : ScoreValues) (before : Outside) : Type 0 where
  pub sources : List SourceText
  pub told : IsSome before.files
  pub gathered : HasSources (sources_in score) before sources
  pub refused : (design : Design) → StandFor sources (sources_in score).defines score.top design → ⊥

-- the files are known, and the sources have a design whose points with the machines of the command are not listed or too many, whatever the dump is
pub record LacksPoints (score : ScoreValues) (before : Outside) : Type 0 where
  pub sources : List SourceText
  pub design : Design
  pub told : IsSome before.files
  pub gathered : HasSources (sources_in score) before sources
  pub stands : StandFor sources (sources_in score).defines score.top design
  pub refused : (ms : StateMachines) → AreMachinesOf score (design_view design) ms → HasFewPoints (design_view design) ms → ⊥

-- the sources have a design, and the text of the dump is not one that has the instance, and in each stretch a first value of each signal that it has
pub record HasBadDump (score : ScoreValues) (before : Outside) : Type 0 where
  pub text : List ℕ
  pub design : Design
  pub texts : HaveTexts score before design text
  pub refused : HasNoScore design score.instance text

-- the sources have a design, and the header of the dump is read, but the instance is not there
pub record HasUnboundDump (score : ScoreValues) (before : Outside) : Type 0 where
  pub text : List ℕ
  pub design : Design
  pub b : Body
  pub texts : HaveTexts score before design text
  pub says : SaysBody text b
  pub refused : HasInstance b.vars score.instance → ⊥

-- the refusal is one of the binding
abbrev pub IsOfBinding : DumpRefusal → Type 0
IsOfBinding (refusal.NoInstance path) = Unit {0}
IsOfBinding other = ⊥

-- the words are a command whose dump is refused for its binding, and the line of that was warned
pub record WarnsBinding (words : List (List ℕ)) (before after : Outside) : Type 0 where
  pub score : ScoreValues
  pub refusal : DumpRefusal
  pub is_score : IsScore words score
  pub refused : IsRefusedDump score before refusal
  pub of_binding : IsOfBinding refusal
  pub warned : WarnsLine (refusal_line refusal) before after

-- the words are a command of whose machines one has this name at fault, and the line of that was warned
pub record WarnsMachine (words : List (List ℕ)) (before after : Outside) : Type 0 where
  pub score : ScoreValues
  pub name : List ℕ
  pub is_score : IsScore words score
  pub stands : HasNoMachine score before name
  pub warned : WarnsLine (machine_line name) before after

-- the words are a command whose design has the fault of points, and the line of that was warned
pub record WarnsPoints (words : List (List ℕ)) (before after : Outside) : Type 0 where
  pub score : ScoreValues
  pub fault : PointFault
  pub is_score : IsScore words score
  pub stands : HasPointsFault score before fault
  pub warned : WarnsLine (points_line fault) before after

-- the words are a command, of which this holds
abbrev pub IsCommandWith : (ScoreValues → Outside → Type 0) → List (List ℕ) → Outside → Type 0
IsCommandWith P words before = (score : ScoreValues) × IsScore words score × P score before

-- no fault of the host was counted
abbrev pub NoFaults : Outside → Outside → Type 0
NoFaults before after = IsCounted before.faults after.faults → ⊥

-- the status is this one, or memory ran out
abbrev pub EndsWith : Status → Status → Type 0
EndsWith expected status = (status ≡ expected) ⊎ (status ≡ Memory)

-- a dump is refused, or no run shows what was read of it, or memory ran out
abbrev pub RefusesDump : Status → Type 0
RefusesDump status = (status ≡ Dump) ⊎ ((status ≡ Contradiction) ⊎ (status ≡ Memory))

-- a machine or the points were refused, with the line of that, or memory ran out
abbrev pub RefusesPoints : List (List ℕ) → Status → Outside → Outside → Type 0
RefusesPoints words status before after = ((status ≡ Source) × (WarnsMachine words before after ⊎ WarnsPoints words before after)) ⊎ (status ≡ Memory)

-- a binding was refused, or memory ran out
abbrev pub RefusesBinding : List (List ℕ) → Status → Outside → Outside → Type 0
RefusesBinding words status before after = ((status ≡ Dump) × WarnsBinding words before after) ⊎ (status ≡ Memory)
