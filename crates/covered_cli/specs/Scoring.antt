-- What a `score` command reads and writes, and why it cannot.
use Rattle.std.specs.Prelude.{◌≡◌, ℕ, false, List, map}
use Rattle.std.specs.List.{list_any}
use Rattle.command_line.specs.CommandWords.{IsScore, ScoreValues}
use Rattle.command_line.specs.Command.{AreWordsOf, CommandValues, score as of_score, merge as of_merge, report as of_report, lcov as of_lcov, rank as of_rank, exclude as of_exclude, restore as of_restore, selfrun as of_selfrun, command_values}
use Rattle.command_line.specs.declared.command.Command.{Command}
use Rattle.cov_host.specs.Outside.{Outside, HasFile, Told}
use Rattle.coverage_db.specs.Text.{text_of}
use Rattle.coverage_db.specs.declared.db.Db.{Db}
use Rattle.database_commands.specs.Excluding.{IsChangedIn, IsChangedText}
use Rattle.database_commands.specs.Merging.{IsMergedIn, IsMergedText}
use Rattle.database_commands.specs.Ranking.{IsRankedIn, IsRankedText}
use Rattle.database_commands.specs.Reporting.{IsReportedIn, IsReportedText}
use Rattle.database_commands.specs.declared.change.Change.TheVariants as change
use Rattle.database_commands.specs.Tracing.{IsTracedIn, IsTracedText}
use Rattle.design_model.specs.Design.{path_of}
use Rattle.design_model.specs.View.{design_view}
use Rattle.design_model.specs.declared.design.Design.{Design}
use Rattle.design_points.specs.Counted.{HasFewPoints}
use Rattle.design_points.specs.cover_points.Faults.{IsPointFault}
use Rattle.design_points.specs.cover_points.declared.fault.PointFault.{PointFault}
use Rattle.dump_score.specs.dump_replay.Faults.{IsContradicted}
use Rattle.dump_score.specs.Faults.{IsDumpFault, SaysSome}
use Rattle.dump_score.specs.Reading.{IsFile}
use Rattle.event_machine.specs.Habit.{Habit}
use Rattle.dump_score.specs.score_tables.Head.{HasHead}
use Rattle.dump_score.specs.score_tables.Windows.{windows_of}
use Rattle.shown_dumps.specs.Bound.{HasNoBaseline, IsBound}
use Rattle.signal_binding.specs.Names.{stands_in}
use Rattle.source_design.specs.Accepted.{StandFor}
use Rattle.source_design.specs.Reading.{HasSources}
use Rattle.vcd_reader.specs.Dump.{Dump, IsDump, times_of}
use Rattle.vcd_reader.specs.declared.fault.DumpFault.TheVariants.{At}
use Rattle.verilog_lexer.specs.Sources.{SourceText}
use Rattle.state_machines.specs.Machines.{StateMachines}
use Rattle.covered_cli.specs.Drawing.{IsNoMachineOf}
use Rattle.covered_cli.specs.Headline.{IsAccepted, IsListed, IsReasonedScore, IsSoundScore, IsUntouched, Scored, scored_of}
use Rattle.covered_cli.specs.ScoreMachines.{AreMachinesOf, habit_in}
use Rattle.covered_cli.specs.ScoreSources.{sources_in}
use Rattle.covered_cli.specs.Selfrun.{IsSelfrunIn, IsSelfrunText}
use Rattle.covered_cli.specs.declared.contradiction.Contradiction.{Contradiction}
use Rattle.covered_cli.specs.declared.dump_refusal.DumpRefusal.{DumpRefusal}
use Rattle.covered_cli.specs.declared.dump_refusal.DumpRefusal.TheVariants as refusal

-- the sources of the command have the design, and its points with the machines of the command are no more than are scored
pub record HasDesign (score : ScoreValues) (before : Outside) (sources : List SourceText) (design : Design) : Type 0 where
  pub gathered : HasSources (sources_in score) before sources
  pub stands : StandFor sources (sources_in score).defines score.top design
  pub machines : StateMachines
  pub are_machines : AreMachinesOf score (design_view design) machines
  pub few : HasFewPoints (design_view design) machines

-- the sources of the command have a design, and this is the fault of its points with the machines of the command
pub record HasPointsFault (score : ScoreValues) (before : Outside) (fault : PointFault) : Type 0 where
  pub sources : List SourceText
  pub design : Design
  pub gathered : HasSources (sources_in score) before sources
  pub stands : StandFor sources (sources_in score).defines score.top design
  pub machines : StateMachines
  pub are_machines : AreMachinesOf score (design_view design) machines
  pub is : IsPointFault (design_view design) machines fault

-- the sources of the command have a design, in which the first machine that cannot be drawn has this name at fault
pub record HasNoMachine (score : ScoreValues) (before : Outside) (name : List ℕ) : Type 0 where
  pub sources : List SourceText
  pub design : Design
  pub gathered : HasSources (sources_in score) before sources
  pub stands : StandFor sources (sources_in score).defines score.top design
  pub is : IsNoMachineOf (design_view design) score.drawings name

-- the sources of the command have some design, with no more points than are scored
abbrev pub HasSomeDesign : ScoreValues → Outside → Type 0
HasSomeDesign score before = (sources : List SourceText) × (design : Design) × HasDesign score before sources design

-- the names of sources, in order
abbrev pub names_of : List SourceText → List (List ℕ)
names_of sources = map (λ source. source.name) sources

-- the text is no dump that has the instance, and in each stretch a first value of each signal that has a variable
abbrev pub HasNoScore : Design → List ℕ → List ℕ → Type 0
HasNoScore design instance text = (dump : Dump) → IsDump text dump → IsBound design dump instance → ⊥

-- the headline of the table, whose head names the design and these sources, and whose windows are those of the dump
pub record IsScoreOf (x : Scored) (names : List (List ℕ)) : Type 0 where
  pub accepted : IsAccepted x
  pub listed : IsListed x
  pub sound : IsSoundScore x
  pub reasoned : IsReasonedScore x
  pub head : HasHead (design_view x.design) names x.table
  pub windows : x.table.windows ≡ windows_of (map times_of x.dump.stretches)

-- the text is that of a table of the design under the dump of this text
pub record IsScoreText (habit : Habit) (design : Design) (machines : StateMachines) (names : List (List ℕ)) (dump_text instance text : List ℕ) : Type 0 where
  pub dump : Dump
  pub db : Db
  pub is_dump : IsDump dump_text dump
  pub scores : IsScoreOf (scored_of habit design machines dump instance db) names
  pub is_text : text ≡ text_of db

-- why the text is refused as the dump of a design: its first fault, which is one of its header or is where the design is
-- bound, an instance that is not there, or a signal of this path
abbrev pub IsDumpRefusal : Design → List ℕ → List ℕ → DumpRefusal → Type 0
IsDumpRefusal design instance text (refusal.At kind byte) = IsDumpFault design instance text (At kind byte)
IsDumpRefusal design instance text (refusal.NoInstance path) = (path.now ≡ instance) × SaysSome text (λ b. list_any (stands_in instance) b.vars ≡ false)
IsDumpRefusal design instance text (refusal.NoBaseline path) =
    (s : ℕ) × (path ≡ path_of (design_view design) s) × SaysSome text (λ b. HasNoBaseline design b.vars instance b.items s)

-- the text says something, without a fault before it, of which no run of the design by this habit shows what it says up to the time; of the signal of this path the
-- dump then says something else in a sure bit than what the design makes of it
abbrev pub IsContradictedText : Habit → Design → List ℕ → List ℕ → Contradiction → Type 0
IsContradictedText habit design instance text x =
    (s : ℕ) × (x.path ≡ path_of (design_view design) s) × SaysSome text (λ b. IsContradicted habit design b.vars instance b.items s x.time x.dumped x.computed.bits)

-- the sources have a design, and this holds of it and of the text of the dump
pub record HasDump (score : ScoreValues) (before : Outside) (P : Design → List ℕ → Type 0) : Type 0 where
  pub sources : List SourceText
  pub text : List ℕ
  pub design : Design
  pub has_design : HasDesign score before sources design
  pub is : IsFile before score.dump text
  pub holds : P design text

-- the sources have a design, and the dump is refused for it
abbrev pub IsRefusedDump : ScoreValues → Outside → DumpRefusal → Type 0
IsRefusedDump score before refusal = HasDump score before (λ design text. IsDumpRefusal design score.instance text refusal)

-- the sources have a design, and no run of it shows the dump
abbrev pub IsContradictedDump : ScoreValues → Outside → Contradiction → Type 0
IsContradictedDump score before x = HasDump score before (λ design text. IsContradictedText (habit_in score) design score.instance text x)

-- the table is a score of the design of the sources under the dump
pub record IsTableIn (score : ScoreValues) (before : Outside) (table : Db) : Type 0 where
  pub sources : List SourceText
  pub text : List ℕ
  pub design : Design
  pub dump : Dump
  pub has_design : HasDesign score before sources design
  pub dump_is : IsFile before score.dump text
  pub is_dump : IsDump text dump
  pub scores : IsScoreOf (scored_of (habit_in score) design has_design.machines dump score.instance table) (names_of sources)

-- the text is that of the table of the design of the sources under the dump
pub record IsScoredText (score : ScoreValues) (before : Outside) (text : List ℕ) : Type 0 where
  pub sources : List SourceText
  pub dump : List ℕ
  pub design : Design
  pub has_design : HasDesign score before sources design
  pub dump_is : IsFile before score.dump dump
  pub scores : IsScoreText (habit_in score) design has_design.machines (names_of sources) dump score.instance text

-- the sources have a design, and the dump a score of it
abbrev pub HasSomeScore : ScoreValues → Outside → Type 0
HasSomeScore score before = (text : List ℕ) × IsScoredText score before text

-- the output holds the table of the design of the sources under the dump, and every other file is as before
pub record IsDoneIn (score : ScoreValues) (before after : Outside) : Type 0 where
  pub text : List ℕ
  pub scored : IsScoredText score before text
  pub written : Told (HasFile score.output text) before.files after.files

-- what a command with these values asks for was done
abbrev pub IsDoneBy : CommandValues → Outside → Outside → Type 0
IsDoneBy (of_score values) before after = IsDoneIn values before after
IsDoneBy (of_merge values) before after = IsMergedIn values before after
IsDoneBy (of_report values) before after = IsReportedIn values before after
IsDoneBy (of_lcov values) before after = IsTracedIn values before after
IsDoneBy (of_rank values) before after = IsRankedIn values before after
IsDoneBy (of_exclude values) before after = IsChangedIn change.Exclude values before after
IsDoneBy (of_restore values) before after = IsChangedIn change.Restore values before after
IsDoneBy (of_selfrun values) before after = IsSelfrunIn values before after

-- the text is the one that a command with these values asks for
abbrev pub IsTextOf : CommandValues → Outside → List ℕ → Type 0
IsTextOf (of_score values) before text = IsScoredText values before text
IsTextOf (of_merge values) before text = IsMergedText values before text
IsTextOf (of_report values) before text = IsReportedText values before text
IsTextOf (of_lcov values) before text = IsTracedText values before text
IsTextOf (of_rank values) before text = IsRankedText values before text
IsTextOf (of_exclude values) before text = IsChangedText change.Exclude values before text
IsTextOf (of_restore values) before text = IsChangedText change.Restore values before text
IsTextOf (of_selfrun values) before text = IsSelfrunText values text

-- what the command asks for was done
abbrev pub IsDoneWork : Command → Outside → Outside → Type 0
IsDoneWork command before after = IsDoneBy (command_values command) before after

-- what the words ask for was done
abbrev pub IsDone : List (List ℕ) → Outside → Outside → Type 0
IsDone words before after = (values : CommandValues) × AreWordsOf values words × IsDoneBy values before after

-- what a score that was done is about
abbrev pub scored_in : (score : ScoreValues) (before after : Outside) → IsDoneIn score before after → Scored
scored_in score before after done =
    scored_of (habit_in score) done.scored.design done.scored.has_design.machines done.scored.scores.dump score.instance done.scored.scores.db

-- where the words are a score, it was done, and the claim holds of what it is about
abbrev pub OfScore : (Scored → Type 0) → List (List ℕ) → Outside → Outside → Type 0
OfScore claim words before after = (score : ScoreValues) → IsScore words score → (done : IsDoneIn score before after) × claim (scored_in score before after done)

-- where the words are a score, it left all else as it was
abbrev pub LeavesElse : List (List ℕ) → Outside → Outside → Type 0
LeavesElse words before after = (score : ScoreValues) → IsScore words score → IsUntouched score.output before after
