-- What a call of the program leaves outside, and why it ends with a status above 0.
use Rattle.std.specs.Prelude.{◌≡◌, ◌⊎◌, ℕ, List, [], ◌∷◌, Contains, Option, Some, None, MatchOption}
use Rattle.command_line.specs.Command.{AreWordsOf, CommandValues, score, merge, report, lcov, rank, exclude, restore, selfrun}
use Rattle.command_line.specs.CommandWords.{IsScore, ScoreValues}
use Rattle.command_line.specs.DatabaseWords.{IsMerge, IsReport, MergeValues, ReportValues}
use Rattle.command_line.specs.LcovWords.{IsLcov, LcovValues}
use Rattle.command_line.specs.PointWords.{PointValues}
use Rattle.command_line.specs.RankWords.{IsRank, RankValues}
use Rattle.command_line.specs.SelfrunWords.{IsSelfrun}
use Rattle.command_line.specs.UsageFault.{HasUsageFault}
use Rattle.command_line.specs.declared.selfrun_words.SelfrunWords.{SelfrunWords}
use Rattle.command_line.specs.declared.usage_fault.UsageFault.{UsageFault}
use Rattle.cov_host.specs.Outside.{Outside, Files, IsCounted}
use Rattle.coverage_db.specs.declared.fault.DbKind.{DbKind}
use Rattle.database_commands.specs.Complete.{IsGoodMerge, IsGoodReport}
use Rattle.database_commands.specs.Faults.{IsNoTable, IsOtherDesign, inputs_of}
use Rattle.database_commands.specs.Excluding.{IsGoodChange, IsNoExclusion, IsRefusedPoint}
use Rattle.database_commands.specs.Ranking.{IsGoodRank, ranked_files}
use Rattle.database_commands.specs.declared.change.Change.{Change}
use Rattle.db_tools.specs.declared.fault.ToolFault.{ToolFault}
use Rattle.database_commands.specs.Reporting.{LeavesAll, LeavesFront}
use Rattle.database_commands.specs.Tracing.{IsGoodLcov}
use Rattle.source_design.specs.Reading.{LacksAt}
use Rattle.covered_cli.specs.PointCommands.{points_command}
use Rattle.whole_files.specs.Effects.{WarnsLine}
use Rattle.covered_cli.specs.Fault.{IsEarly, Stands, line_of, status_of}
use Rattle.covered_cli.specs.ScoreSources.{sources_in}
use Rattle.covered_cli.specs.Scoring.{IsContradictedDump, IsTextOf}
use Rattle.covered_cli.specs.Selfrun.{IsSelfrunIn}
use Rattle.covered_cli.specs.declared.contradiction.Contradiction.{Contradiction}
use Rattle.covered_cli.specs.declared.fault.Fault.{Fault}
use Rattle.covered_cli.specs.declared.status.Status.{Status}
use Rattle.covered_cli.specs.declared.status.Status.TheVariants.{Usage, Source, Dump, Database}
use Rattle.covered_cli.specs.declared.status.Status.TheVariants as status

-- the words are a command
abbrev pub IsSomeCommand : List (List ℕ) → Type 0
IsSomeCommand words = (values : CommandValues) × AreWordsOf values words

-- the words are no command, and have a first fault
abbrev pub IsNoCommand : List (List ℕ) → Type 0
IsNoCommand words = (fault : UsageFault) × HasUsageFault words fault

-- the file that a command writes, if it writes one
abbrev pub output_in : CommandValues → Option (List ℕ)
output_in (score values) = Some values.output
output_in (merge values) = Some values.output
output_in (report values) = values.output
output_in (lcov values) = Some values.output
output_in (rank values) = None
output_in (exclude values) = Some values.output
output_in (restore values) = Some values.output
output_in (selfrun values) = None

-- the files that a command reads
abbrev pub inputs_in : CommandValues → List (List ℕ)
inputs_in (score values) = values.dump ∷ values.sources
inputs_in (merge values) = inputs_of values
inputs_in (report values) = values.file ∷ []
inputs_in (lcov values) = values.file ∷ []
inputs_in (rank values) = ranked_files values
inputs_in (exclude values) = values.file ∷ []
inputs_in (restore values) = values.file ∷ []
inputs_in (selfrun values) = []

-- the words name the file for the output
abbrev pub IsOutput : List (List ℕ) → List ℕ → Type 0
IsOutput words name = (values : CommandValues) × AreWordsOf values words × (output_in values ≡ Some name)

-- the words name the file for reading
abbrev pub IsInput : List (List ℕ) → List ℕ → Type 0
IsInput words name = (values : CommandValues) × AreWordsOf values words × Contains (inputs_in values) name

-- every file that is not the words' output is as before
abbrev pub KeepsUnnamed : List (List ℕ) → Files → Files → Type 0
KeepsUnnamed words old new = (name : List ℕ) → (IsOutput words name → ⊥) → new name ≡ old name

-- the words ask for a report that is printed
abbrev pub PrintsReport : List (List ℕ) → Type 0
PrintsReport words = (values : ReportValues) × IsReport words values × (values.output ≡ None)

-- the words ask for a ranking
abbrev pub PrintsRanking : List (List ℕ) → Type 0
PrintsRanking words = (values : RankValues) × IsRank words values

-- the words are a selfrun
abbrev pub IsSomeSelfrun : List (List ℕ) → Type 0
IsSomeSelfrun words = (values : SelfrunWords) × IsSelfrun words values

-- the words ask for a text that is printed
abbrev pub PrintsText : List (List ℕ) → Type 0
PrintsText words = PrintsReport words ⊎ PrintsRanking words ⊎ IsSomeSelfrun words

-- where the words are a selfrun, its counts were printed
abbrev pub PrintsCounts : List (List ℕ) → Outside → Outside → Type 0
PrintsCounts words before after = (values : SelfrunWords) → IsSelfrun words values → IsSelfrunIn values before after

-- the status is one that comes before the output is opened
abbrev pub HasEarlyStatus : Status → Type 0
HasEarlyStatus Usage = Unit {0}
HasEarlyStatus Source = Unit {0}
HasEarlyStatus Dump = Unit {0}
HasEarlyStatus status.Contradiction = Unit {0}
HasEarlyStatus Database = Unit {0}
HasEarlyStatus other = ⊥

-- the sources of the words lack a file that lies at the path
abbrev pub IsIncluded : List (List ℕ) → Outside → List ℕ → Type 0
IsIncluded words before path = (values : ScoreValues) × IsScore words values × LacksAt (sources_in values) before path

-- A file that the words name for reading, or that their sources include, is not among the known files of the host; where they are not known, an absence was counted.
abbrev pub MissesFile : List (List ℕ) → Outside → Outside → Type 0
MissesFile words before after = MatchOption before.files (IsCounted before.absences after.absences) (λ files. (name : List ℕ) × (IsInput words name ⊎ IsIncluded words before name) × (files name ≡ None))

-- a call on the host failed, or a file that is to be read is missing
abbrev pub HasFilesCause : List (List ℕ) → Outside → Outside → Type 0
HasFilesCause words before after = IsCounted before.faults after.faults ⊎ MissesFile words before after

-- the file is no table's
abbrev pub HasNoTable : Outside → List ℕ → Type 0
HasNoTable before name = (kind : DbKind) × (line : Option ℕ) × IsNoTable name before kind line

-- the tables of two files are of different designs
abbrev pub AreOfTwoDesigns : Outside → List ℕ → List ℕ → Type 0
AreOfTwoDesigns before first name = (line : ℕ) × (a : List ℕ) × (b : List ℕ) × IsOtherDesign first name before line a b

-- the file is that of no table with excluded points
abbrev pub HasNoExclusion : Outside → List ℕ → Type 0
HasNoExclusion before name = (kind : DbKind) × (line : Option ℕ) × IsNoExclusion name before kind line

-- one of the points of the words is refused
abbrev pub HasRefusedPoint : Change → PointValues → Outside → Type 0
HasRefusedPoint kind values before = (address : List ℕ) × (fault : ToolFault) × IsRefusedPoint kind values before address fault

-- the words merge or rank a file that is no table's, or one of another design than the first, or report or trace one that is no table's, or exclude or restore points of one that is no table's, or a point that is refused
abbrev pub HasDatabaseCause : List (List ℕ) → Outside → Type 0
HasDatabaseCause words before =
    ((values : MergeValues) × (name : List ℕ) × IsMerge words values × Contains (inputs_of values) name × (HasNoTable before name ⊎ AreOfTwoDesigns before values.first name))
    ⊎ ((values : ReportValues) × IsReport words values × HasNoExclusion before values.file)
    ⊎ ((values : LcovValues) × IsLcov words values × HasNoTable before values.file)
    ⊎ ((values : RankValues) × (name : List ℕ) × IsRank words values × Contains (ranked_files values) name × (HasNoTable before name ⊎ AreOfTwoDesigns before values.first name))
    ⊎ ((kind : Change) × (values : PointValues) × AreWordsOf (points_command kind values) words × (HasNoExclusion before values.file ⊎ HasRefusedPoint kind values before))

-- the words are a score, and no run of the design of its sources shows its dump
abbrev pub HasContradiction : List (List ℕ) → Outside → Type 0
HasContradiction words before = (values : ScoreValues) × IsScore words values × (found : Contradiction) × IsContradictedDump values before found

-- the words merge or rank files that have tables of one design, or report or trace a file that has a table, or exclude or restore points that can be
abbrev pub HasGoodDatabases : List (List ℕ) → Outside → Type 0
HasGoodDatabases words before =
    ((values : MergeValues) × IsMerge words values × IsGoodMerge values before)
    ⊎ ((values : ReportValues) × IsReport words values × IsGoodReport values before)
    ⊎ ((values : LcovValues) × IsLcov words values × IsGoodLcov values before)
    ⊎ ((values : RankValues) × IsRank words values × IsGoodRank values before)
    ⊎ ((kind : Change) × (values : PointValues) × AreWordsOf (points_command kind values) words × IsGoodChange kind values before)

-- all files, and what was printed, are as before; or the output, or what was printed, has a front of the text that the words ask for
abbrev pub Leaves : List (List ℕ) → Outside → Outside → Type 0
Leaves words before after = LeavesAll before after ⊎ ((values : CommandValues) × AreWordsOf values words × LeavesFront (IsTextOf values before) (output_in values) before after)

-- there is a fault of this status, which leaves all as before if it comes before the output is opened, and its line was warned
abbrev pub WarnsFault : List (List ℕ) → Status → Outside → Outside → Type 0
WarnsFault words status before after =
    (fault : Fault) × (status_of fault ≡ status) × Stands words before after fault × (IsEarly fault → LeavesAll before after) × WarnsLine (line_of fault) before after
