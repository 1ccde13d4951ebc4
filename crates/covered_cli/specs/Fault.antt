-- Why a command ends with a status above 0, and the line that says so.
use Rattle.std.specs.Prelude.{◌≡◌, ◌⊎◌, ℕ, List, ◌++◌, codes, Option, Some, None}
use Rattle.std.specs.Option.{option_copied}
use Rattle.command_line.specs.Command.{AreWordsOf}
use Rattle.command_line.specs.CommandWords.{HaveForms, IsScore, ScoreValues, score_values}
use Rattle.command_line.specs.DatabaseWords.{IsMerge, IsReport, MergeValues, ReportValues, merge_values, report_values}
use Rattle.command_line.specs.LcovWords.{IsLcov, LcovValues, lcov_values}
use Rattle.command_line.specs.PointWords.{PointValues, point_values}
use Rattle.command_line.specs.RankWords.{IsRank, RankValues, rank_values}
use Rattle.command_line.specs.SelfrunWords.{IsSelfrun}
use Rattle.command_line.specs.UsageFault.{HasUsageFault, usage_text}
use Rattle.command_line.specs.declared.command.Command.{Command}
use Rattle.command_line.specs.declared.command.Command.TheVariants.{Score, Merge, Report, Lcov, Rank, Exclude, Restore, Selfrun}
use Rattle.command_line.specs.declared.selfrun_words.SelfrunWords.{SelfrunWords}
use Rattle.cov_host.specs.Outside.{Outside}
use Rattle.database_commands.specs.Faults.{IsEarly as IsEarlyDatabase, IsMergeFault}
use Rattle.database_commands.specs.Excluding.{IsPointsFault as IsChangeFault}
use Rattle.database_commands.specs.Ranking.{IsRankFault}
use Rattle.database_commands.specs.Reporting.{IsReportFault}
use Rattle.database_commands.specs.Tracing.{IsLcovFault}
use Rattle.database_commands.specs.declared.change.Change.{Change}
use Rattle.database_commands.specs.declared.change.Change.TheVariants as change
use Rattle.database_commands.specs.declared.fault.CommandFault.{CommandFault}
use Rattle.design_model.specs.View.{design_view}
use Rattle.design_model.specs.declared.design.Design.{Design}
use Rattle.dump_score.specs.Reading.{IsFile}
use Rattle.state_machines.specs.Machines.{StateMachines}
use Rattle.command_line.specs.DrawingWords.{DrawingNames}
use Rattle.design_model.specs.Design.{Design as Tree}
use Rattle.covered_cli.specs.PointCommands.{points_command}
use Rattle.covered_cli.specs.Drawing.{IsNoMachineFor, IsNoMachineOf}
use Rattle.design_points.specs.cover_points.Faults.{IsPointFault}
use Rattle.database_commands.specs.FaultLine.{database_line}
use Rattle.source_design.specs.FaultLine.{source_line}
use Rattle.whole_files.specs.Call.{call_name, file_line}
use Rattle.whole_files.specs.Refusals.{IsRefused}
use Rattle.whole_files.specs.declared.call.Call.{Call}
use Rattle.whole_files.specs.declared.call.Call.TheVariants.{OpenRead, Read, OpenWrite, Write, CloseWrite}
use Rattle.covered_cli.specs.Contradiction.{contradiction_line}
use Rattle.covered_cli.specs.FaultStatus.{database_status, points_status, source_status}
use Rattle.covered_cli.specs.PointsMessage.{machine_line, points_line}
use Rattle.covered_cli.specs.ScoreMachines.{habit_in}
use Rattle.covered_cli.specs.ScoreSources.{sources_in}
use Rattle.covered_cli.specs.Scoring.{HasNoMachine, HasPointsFault, HasSomeDesign, HasSomeScore, IsContradictedDump, IsContradictedText, IsDumpRefusal, IsRefusedDump}
use Rattle.covered_cli.specs.Selfrun.{AreSteps, IsSelfrunFault}
use Rattle.covered_cli.specs.DumpRefusal.{refusal_line}
use Rattle.source_design.specs.Reading.{IsSourceFault}
use Rattle.covered_cli.specs.declared.fault.Fault.{Fault}
use Rattle.covered_cli.specs.declared.fault.Fault.TheVariants as fault
use Rattle.covered_cli.specs.declared.selfrun_fault.SelfrunFault.{SelfrunFault}
use Rattle.covered_cli.specs.declared.selfrun_fault.SelfrunFault.TheVariants as selfrun_fault
use Rattle.covered_cli.specs.declared.status.Status.{Status}
use Rattle.covered_cli.specs.declared.status.Status.TheVariants as status

-- the status with which a fault ends
abbrev pub status_of : Fault → Status
status_of (fault.Usage usage) = status.Usage
status_of (fault.Source f) = source_status f
status_of (fault.NoMachine name) = status.Source
status_of (fault.Points f) = points_status f
status_of (fault.Dump refusal) = status.Dump
status_of (fault.Contradiction x) = status.Contradiction
status_of (fault.Files call file) = status.Files
status_of fault.Memory = status.Memory
status_of (fault.Databases f) = database_status f
status_of (fault.Selfrun selfrun_fault.Print) = status.Files
status_of (fault.Selfrun selfrun_fault.NoMemory) = status.Memory

-- the line that is warned where the counts of a selfrun were not printed
abbrev pub selfrun_line : SelfrunFault → List ℕ
selfrun_line selfrun_fault.Print = file_line (codes "print") (codes "-")
selfrun_line selfrun_fault.NoMemory = codes "covered: memory\n"

-- the line that is warned
abbrev pub line_of : Fault → List ℕ
line_of (fault.Usage usage) = codes "covered: usage: " ++ usage_text usage ++ codes "\n"
line_of (fault.Source f) = source_line f
line_of (fault.NoMachine name) = machine_line name.now
line_of (fault.Points f) = points_line f
line_of (fault.Dump refusal) = refusal_line refusal
line_of (fault.Contradiction x) = contradiction_line x
line_of (fault.Files call file) = file_line (call_name call) file.now
line_of fault.Memory = codes "covered: memory\n"
line_of (fault.Databases f) = database_line f
line_of (fault.Selfrun f) = selfrun_line f

-- the command names the file for this call: the dump for reading, and the output for writing
abbrev pub NamesFile : ScoreValues → Call → List ℕ → Type 0
NamesFile score OpenRead file = file ≡ score.dump
NamesFile score Read file = file ≡ score.dump
NamesFile score call file = file ≡ score.output

-- before a call on the output the dump has a score
abbrev pub IsScoredBefore : Call → ScoreValues → Outside → Type 0
IsScoredBefore OpenRead score before = Unit {0}
IsScoredBefore Read score before = Unit {0}
IsScoredBefore call score before = HasSomeScore score before

-- this command has the fault between two outsides; one of the dump or of the output only where the sources
-- have a design, whose points are listed, and one of the output only where the dump has a score
abbrev pub StandsIn : ScoreValues → Outside → Outside → Fault → Type 0
StandsIn score before after (fault.Usage usage) = ⊥
StandsIn score before after (fault.Source f) = IsSourceFault (sources_in score) before after f
StandsIn score before after (fault.NoMachine name) = HasNoMachine score before name.now
StandsIn score before after (fault.Points f) = HasPointsFault score before f
StandsIn score before after (fault.Dump refusal) = IsRefusedDump score before refusal
StandsIn score before after (fault.Contradiction x) = IsContradictedDump score before x
StandsIn score before after (fault.Files call file) = NamesFile score call file.now × IsRefused call file.now before after × HasSomeDesign score before × IsScoredBefore call score before
StandsIn score before after fault.Memory = Unit {0}
StandsIn score before after (fault.Databases f) = ⊥
StandsIn score before after (fault.Selfrun f) = ⊥

-- the file that the command writes, if it writes one
abbrev pub output_of : Command → Option (List ℕ)
output_of (Score score) = Some score.output.now
output_of (Merge merge) = Some merge.output.now
output_of (Report report) = option_copied report.output
output_of (Lcov lcov) = Some lcov.output.now
output_of (Rank rank) = None
output_of (Exclude points) = Some points.output.now
output_of (Restore points) = Some points.output.now
output_of (Selfrun values) = None

-- the values of a score have their forms, and the steps of a selfrun are some
abbrev pub HasForms : Command → Type 0
HasForms (Score score) = HaveForms (score_values score)
HasForms (Merge merge) = Unit {0}
HasForms (Report report) = Unit {0}
HasForms (Lcov lcov) = Unit {0}
HasForms (Rank rank) = Unit {0}
HasForms (Exclude points) = Unit {0}
HasForms (Restore points) = Unit {0}
HasForms (Selfrun values) = AreSteps values

-- the fault is one of a command over databases, of which this holds
abbrev pub IsDatabaseFault : (CommandFault → Type 0) → Fault → Type 0
IsDatabaseFault P (fault.Databases f) = P f
IsDatabaseFault P other = ⊥

-- the counts of a selfrun were not printed
abbrev pub IsPrintingFault : Outside → Outside → Fault → Type 0
IsPrintingFault before after (fault.Selfrun f) = IsSelfrunFault before after f
IsPrintingFault before after other = ⊥

-- this command has the fault
abbrev pub StandsInWork : Command → Outside → Outside → Fault → Type 0
StandsInWork (Score score) before after fault = StandsIn (score_values score) before after fault
StandsInWork (Merge merge) before after fault = IsDatabaseFault (IsMergeFault (merge_values merge) before after) fault
StandsInWork (Report report) before after fault = IsDatabaseFault (IsReportFault (report_values report) before after) fault
StandsInWork (Lcov lcov) before after fault = IsDatabaseFault (IsLcovFault (lcov_values lcov) before after) fault
StandsInWork (Rank rank) before after fault = IsDatabaseFault (IsRankFault (rank_values rank) before after) fault
StandsInWork (Exclude points) before after fault = IsDatabaseFault (IsChangeFault change.Exclude (point_values points) before after) fault
StandsInWork (Restore points) before after fault = IsDatabaseFault (IsChangeFault change.Restore (point_values points) before after) fault
StandsInWork (Selfrun values) before after fault = IsPrintingFault before after fault

-- the words are a command over databases that has the fault
abbrev pub StandsInDatabases : List (List ℕ) → Outside → Outside → CommandFault → Type 0
StandsInDatabases words before after f =
    ((merge : MergeValues) × IsMerge words merge × IsMergeFault merge before after f)
    ⊎ ((report : ReportValues) × IsReport words report × IsReportFault report before after f)
    ⊎ ((lcov : LcovValues) × IsLcov words lcov × IsLcovFault lcov before after f)
    ⊎ ((rank : RankValues) × IsRank words rank × IsRankFault rank before after f)
    ⊎ ((kind : Change) × (points : PointValues) × AreWordsOf (points_command kind points) words × IsChangeFault kind points before after f)

-- the words are a selfrun that has the fault
abbrev pub StandsInSelfrun : List (List ℕ) → Outside → Outside → SelfrunFault → Type 0
StandsInSelfrun words before after f = (values : SelfrunWords) × IsSelfrun words values × IsSelfrunFault before after f

-- a call of the program with these words has the fault between two outsides
abbrev pub Stands : List (List ℕ) → Outside → Outside → Fault → Type 0
Stands words before after (fault.Usage usage) = HasUsageFault words usage
Stands words before after (fault.Databases f) = StandsInDatabases words before after f
Stands words before after (fault.Selfrun f) = StandsInSelfrun words before after f
Stands words before after other = (score : ScoreValues) × IsScore words score × StandsIn score before after other

-- the fault comes before the output is opened
abbrev pub IsEarly : Fault → Type 0
IsEarly (fault.Files OpenWrite file) = ⊥
IsEarly (fault.Files Write file) = ⊥
IsEarly (fault.Files CloseWrite file) = ⊥
IsEarly fault.Memory = ⊥
IsEarly (fault.Databases f) = IsEarlyDatabase f
IsEarly (fault.Selfrun f) = ⊥
IsEarly other = Unit {0}

-- a file was not read
abbrev pub IsReadingFault : List ℕ → Outside → Outside → Fault → Type 0
IsReadingFault name before after (fault.Files OpenWrite file) = ⊥
IsReadingFault name before after (fault.Files Write file) = ⊥
IsReadingFault name before after (fault.Files CloseWrite file) = ⊥
IsReadingFault name before after (fault.Files call file) = (file.now ≡ name) × IsRefused call file.now before after
IsReadingFault name before after fault.Memory = Unit {0}
IsReadingFault name before after other = ⊥

-- a file was not written
abbrev pub IsWritingFault : List ℕ → Outside → Outside → Fault → Type 0
IsWritingFault name before after (fault.Files OpenRead file) = ⊥
IsWritingFault name before after (fault.Files Read file) = ⊥
IsWritingFault name before after (fault.Files call file) = (file.now ≡ name) × IsRefused call file.now before after
IsWritingFault name before after fault.Memory = Unit {0}
IsWritingFault name before after other = ⊥

-- no design was read from the command's sources
abbrev pub IsDesignFault : ScoreValues → Outside → Outside → Fault → Type 0
IsDesignFault score before after (fault.Source f) = IsSourceFault (sources_in score) before after f
IsDesignFault score before after fault.Memory = Unit {0}
IsDesignFault score before after other = ⊥

-- the points of the design with these machines were not listed
abbrev pub IsPointsFault : Design → StateMachines → Fault → Type 0
IsPointsFault design machines (fault.Points f) = IsPointFault (design_view design) machines f
IsPointsFault design machines other = ⊥

-- one machine was not drawn
abbrev pub IsDrawingFaultOf : Tree → DrawingNames → Fault → Type 0
IsDrawingFaultOf d m (fault.NoMachine name) = IsNoMachineFor d m name.now
IsDrawingFaultOf d m fault.Memory = Unit {0}
IsDrawingFaultOf d m other = ⊥

-- one of the machines was not drawn, the first that cannot be
abbrev pub IsDrawingFault : Tree → List DrawingNames → Fault → Type 0
IsDrawingFault d xs (fault.NoMachine name) = IsNoMachineOf d xs name.now
IsDrawingFault d xs fault.Memory = Unit {0}
IsDrawingFault d xs other = ⊥

-- the design was not scored by the command's dump
abbrev pub IsScoringFault : ScoreValues → Design → Outside → Outside → Fault → Type 0
IsScoringFault score design before after (fault.Dump refusal) = (text : List ℕ) × IsFile before score.dump text × IsDumpRefusal design score.instance text refusal
IsScoringFault score design before after (fault.Contradiction x) = (text : List ℕ) × IsFile before score.dump text × IsContradictedText (habit_in score) design score.instance text x
IsScoringFault score design before after other = IsReadingFault score.dump before after other

-- the fault is not of sources or points, nor of a dump or its contradiction, nor of a file, nor of a command over databases, nor of a selfrun
abbrev pub IsPlain : Fault → Type 0
IsPlain (fault.Source f) = ⊥
IsPlain (fault.Points f) = ⊥
IsPlain (fault.Dump refusal) = ⊥
IsPlain (fault.Contradiction x) = ⊥
IsPlain (fault.Files call file) = ⊥
IsPlain (fault.Databases f) = ⊥
IsPlain (fault.Selfrun f) = ⊥
IsPlain other = Unit {0}
