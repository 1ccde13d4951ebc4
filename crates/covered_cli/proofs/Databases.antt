-- Why a command ends as it does, where commands over databases are among them.
use Rattle.std.proofs.Common.{◌≡◌, ◌⊎◌, ℕ, ◌≤◌, List, [], ◌∷◌, Option, None, Some, refl, sym, ap, subst, inl, inr, arith}
use Rattle.std.proofs.lemmas.List.Elements.{Contains-append_right}
use Rattle.std.specs.Global.{Global}
use Rattle.std.specs.Prelude.{Contains, MatchOption}
use Rattle.command_line.specs.Command.{AreWordsOf, CommandValues, score as of_score, merge as of_merge, report as of_report, lcov as of_lcov, rank as of_rank, exclude as of_exclude, restore as of_restore, selfrun as of_selfrun}
use Rattle.command_line.specs.CommandWords.{IsScore, ScoreValues}
use Rattle.command_line.specs.DatabaseWords.{MergeValues, ReportValues}
use Rattle.command_line.specs.LcovWords.{LcovValues}
use Rattle.command_line.specs.PointWords.{PointValues}
use Rattle.command_line.specs.RankWords.{RankValues}
use Rattle.command_line.specs.SelfrunWords.{IsSelfrun}
use Rattle.command_line.specs.declared.selfrun_words.SelfrunWords.{SelfrunWords}
use Rattle.command_line.proofs.OneCommand.{one_of_all}
use Rattle.cov_host.specs.Outside.{Files as HostFiles, IsCounted, KeepsFiles, KeepsInput, KeepsOutput, Outside}
use Rattle.database_commands.specs.Faults.{ComesTo, IsMergeFault, IsNoTable, IsReading, inputs_of}
use Rattle.database_commands.specs.Complete.{IsGoodMerge, IsGoodReport}
use Rattle.database_commands.specs.Excluding.{IsGoodChange, IsNoExclusion, IsPointsFault}
use Rattle.database_commands.specs.Ranking.{IsGoodRank, IsRankFault, IsReached, ranked_files}
use Rattle.database_commands.specs.Reporting.{IsReportFault}
use Rattle.database_commands.specs.Tracing.{IsGoodLcov, IsLcovFault}
use Rattle.database_commands.specs.declared.change.Change.{Change}
use Rattle.database_commands.specs.declared.change.Change.TheVariants as change
use Rattle.database_commands.specs.declared.fault.CommandFault.{CommandFault}
use Rattle.database_commands.specs.declared.fault.CommandFault.TheVariants as database
use Rattle.database_commands.proofs.Complete.{good_merge, good_report, refused_write}
use Rattle.database_commands.proofs.Excluding.{good_points}
use Rattle.database_commands.proofs.Ranking.{good_rank}
use Rattle.database_commands.proofs.Tracing.{good_lcov}
use Rattle.whole_files.specs.Effects.{CountsUp, IsMissing}
use Rattle.whole_files.specs.declared.call.Call.{Call}
use Rattle.whole_files.specs.declared.call.Call.TheVariants.{OpenRead, Read, OpenWrite, Write, CloseWrite}
use Rattle.whole_files.proofs.EffectLemmas.{IsCounted-later}
use Rattle.whole_files.proofs.Refusals.{refused_later}
use Rattle.whole_files.specs.Refusals.{IsRefused}
use Rattle.covered_cli.specs.Complete.{EndsWith, NoFaults}
use Rattle.covered_cli.specs.Covered.{HasDatabaseCause, HasEarlyStatus, HasFilesCause, HasGoodDatabases, IsIncluded, IsInput}
use Rattle.covered_cli.specs.FaultStatus.{database_status, points_status, source_status}
use Rattle.covered_cli.specs.Fault.{IsEarly, NamesFile, Stands, StandsInDatabases, status_of}
use Rattle.source_files.specs.Joining.{IsRefusedCall}
use Rattle.source_design.proofs.Gathering.{root_named}
use Rattle.source_design.specs.Reading.{IsSourceFault}
use Rattle.source_design.specs.Words.{SourceValues}
use Rattle.source_design.specs.declared.fault.SourceFault.{SourceFault}
use Rattle.source_design.specs.declared.fault.SourceFault.TheVariants as source_fault
use Rattle.covered_cli.specs.ScoreSources.{sources_in}
use Rattle.design_points.specs.cover_points.declared.fault.PointFault.{PointFault}
use Rattle.design_points.specs.cover_points.declared.fault.PointFault.TheVariants as point_fault
use Rattle.covered_cli.specs.declared.fault.Fault.{Fault}
use Rattle.covered_cli.specs.declared.fault.Fault.TheVariants.{Usage, Source, NoMachine, Points as PointsFault, Dump, Contradiction, Files as FilesFault, Memory, Databases, Selfrun}
use Rattle.covered_cli.specs.declared.selfrun_fault.SelfrunFault.{SelfrunFault}
use Rattle.covered_cli.specs.declared.selfrun_fault.SelfrunFault.TheVariants as selfrun_fault
use Rattle.covered_cli.specs.declared.status.Status.TheVariants as status
use Rattle.covered_cli.proofs.Causes.{command_or_fault}

-- a status that comes before the output is opened is that of such a fault
pub early_status : (fault : Fault) → HasEarlyStatus (status_of fault) → IsEarly fault
early_status (Usage usage) early = tt
early_status (Source f) early = tt
early_status (NoMachine name) early = tt
early_status (PointsFault p) early = tt
early_status (Dump refusal) early = tt
early_status (Contradiction found) early = tt
early_status (FilesFault call file) early = absurd early
early_status Memory early = absurd early
early_status (Databases (database.Files call file)) early = absurd early
early_status (Databases database.Print) early = absurd early
early_status (Databases database.Memory) early = absurd early
early_status (Databases (database.NoDatabase file kind line)) early = tt
early_status (Databases (database.DesignsDiffer file line first other)) early = tt
early_status (Databases (database.Point file refusal address)) early = tt
early_status (Selfrun selfrun_fault.Print) early = absurd early
early_status (Selfrun selfrun_fault.NoMemory) early = absurd early

-- ---- good databases

-- the databases of a command are good
abbrev IsGoodFor : CommandValues → Outside → Type 0
IsGoodFor (of_score values) before = ⊥
IsGoodFor (of_merge values) before = IsGoodMerge values before
IsGoodFor (of_report values) before = IsGoodReport values before
IsGoodFor (of_lcov values) before = IsGoodLcov values before
IsGoodFor (of_rank values) before = IsGoodRank values before
IsGoodFor (of_exclude values) before = IsGoodChange change.Exclude values before
IsGoodFor (of_restore values) before = IsGoodChange change.Restore values before
IsGoodFor (of_selfrun values) before = ⊥

-- a command over databases has the fault
abbrev IsFaultFor : CommandValues → Outside → Outside → CommandFault → Type 0
IsFaultFor (of_score values) before after f = ⊥
IsFaultFor (of_merge values) before after f = IsMergeFault values before after f
IsFaultFor (of_report values) before after f = IsReportFault values before after f
IsFaultFor (of_lcov values) before after f = IsLcovFault values before after f
IsFaultFor (of_rank values) before after f = IsRankFault values before after f
IsFaultFor (of_exclude values) before after f = IsPointsFault change.Exclude values before after f
IsFaultFor (of_restore values) before after f = IsPointsFault change.Restore values before after f
IsFaultFor (of_selfrun values) before after f = ⊥

good_command : (words : List (List ℕ)) (before : Outside) → HasGoodDatabases words before → (values : CommandValues) × AreWordsOf values words × IsGoodFor values before
good_command words before (inl good) = (of_merge good.0, good.1, good.2)
good_command words before (inr (inl good)) = (of_report good.0, good.1, good.2)
good_command words before (inr (inr (inl good))) = (of_lcov good.0, good.1, good.2)
good_command words before (inr (inr (inr (inl good)))) = (of_rank good.0, good.1, good.2)
good_command words before (inr (inr (inr (inr (change.Exclude, points, is, good))))) = (of_exclude points, is, good)
good_command words before (inr (inr (inr (inr (change.Restore, points, is, good))))) = (of_restore points, is, good)

faulty_command : (words : List (List ℕ)) (before after : Outside) (f : CommandFault) → StandsInDatabases words before after f → (values : CommandValues) × AreWordsOf values words × IsFaultFor values before after f
faulty_command words before after f (inl stands) = (of_merge stands.0, stands.1, stands.2)
faulty_command words before after f (inr (inl stands)) = (of_report stands.0, stands.1, stands.2)
faulty_command words before after f (inr (inr (inl stands))) = (of_lcov stands.0, stands.1, stands.2)
faulty_command words before after f (inr (inr (inr (inl stands)))) = (of_rank stands.0, stands.1, stands.2)
faulty_command words before after f (inr (inr (inr (inr (change.Exclude, points, is, fault))))) = (of_exclude points, is, fault)
faulty_command words before after f (inr (inr (inr (inr (change.Restore, points, is, fault))))) = (of_restore points, is, fault)

good_are_words : (words : List (List ℕ)) (before : Outside) → HasGoodDatabases words before → (values : CommandValues) × AreWordsOf values words
good_are_words words before good = let command = good_command words before good in (command.0, command.1)

good_or_score : (words : List (List ℕ)) (before : Outside) (values : ScoreValues) → HasGoodDatabases words before → IsScore words values → ⊥
good_or_score words before values good is =
    let command = good_command words before good in
    subst (λ values. IsGoodFor values before) (one_of_all words command.0 (of_score values) command.1 is) command.2

good_or_selfrun : (words : List (List ℕ)) (before : Outside) (values : SelfrunWords) → HasGoodDatabases words before → IsSelfrun words values → ⊥
good_or_selfrun words before values good is =
    let command = good_command words before good in
    subst (λ values. IsGoodFor values before) (one_of_all words command.0 (of_selfrun values) command.1 is) command.2

good_fault_for : (alloc : Global) (values : CommandValues) (before after : Outside) → IsGoodFor values before → NoFaults before after → (f : CommandFault) → IsFaultFor values before after f → f ≡ database.Memory
good_fault_for alloc (of_score values) before after good none f fault = absurd good
good_fault_for alloc (of_merge values) before after good none f fault = good_merge alloc values before after good none f fault
good_fault_for alloc (of_report values) before after good none f fault = good_report values before after good none f fault
good_fault_for alloc (of_lcov values) before after good none f fault = good_lcov values before after good none f fault
good_fault_for alloc (of_rank values) before after good none f fault = good_rank alloc values before after good none f fault
good_fault_for alloc (of_exclude values) before after good none f fault = good_points alloc change.Exclude values before after good none f fault
good_fault_for alloc (of_restore values) before after good none f fault = good_points alloc change.Restore values before after good none f fault
good_fault_for alloc (of_selfrun values) before after good none f fault = absurd good

-- of good databases there is no fault except want of memory
good_fault : (alloc : Global) (words : List (List ℕ)) (before after : Outside) → NoFaults before after → HasGoodDatabases words before → (f : CommandFault) → StandsInDatabases words before after f → f ≡ database.Memory
good_fault alloc words before after none good f stands =
    let command = good_command words before good in
    let faulty = faulty_command words before after f stands in
    good_fault_for alloc command.0 before after command.2 none f (subst (λ values. IsFaultFor values before after f) (one_of_all words faulty.0 command.0 faulty.1 command.1) faulty.2)

pub good_databases_end : (alloc : Global) (words : List (List ℕ)) (before middle after : Outside) → CountsUp before middle → CountsUp middle after → NoFaults before after → (fault : Fault) → Stands words before middle fault → HasGoodDatabases words before → EndsWith status.Done (status_of fault)
good_databases_end alloc words before middle after first second none (Usage usage) stands good = absurd (command_or_fault words (good_are_words words before good) (usage, stands))
good_databases_end alloc words before middle after first second none (Source f) stands good = absurd (good_or_score words before stands.0 good stands.1)
good_databases_end alloc words before middle after first second none (NoMachine name) stands good = absurd (good_or_score words before stands.0 good stands.1)
good_databases_end alloc words before middle after first second none (PointsFault p) stands good = absurd (good_or_score words before stands.0 good stands.1)
good_databases_end alloc words before middle after first second none (Dump refusal) stands good = absurd (good_or_score words before stands.0 good stands.1)
good_databases_end alloc words before middle after first second none (Contradiction found) stands good = absurd (good_or_score words before stands.0 good stands.1)
good_databases_end alloc words before middle after first second none (FilesFault call file) stands good = absurd (good_or_score words before stands.0 good stands.1)
good_databases_end alloc words before middle after first second none Memory stands good = inr refl
good_databases_end alloc words before middle after first second none (Databases f) stands good =
    inr (ap database_status (good_fault alloc words before middle (λ counted. none (IsCounted-later before.faults middle.faults after.faults first.faults second.faults counted)) good f stands))
good_databases_end alloc words before middle after first second none (Selfrun f) stands good = absurd (good_or_selfrun words before stands.0 good stands.1)

-- ---- the cause of a database fault

comes_within : (files : List (List ℕ)) (before : Outside) (file : List ℕ) → ComesTo files before file → Contains files file
comes_within files before file comes =
    subst (λ files. Contains files file) (sym comes.files_are) (Contains-append_right comes.earlier (file ∷ comes.later) file (0, omega arith, refl))

reached_within : (files : List (List ℕ)) (before : Outside) (file : List ℕ) → IsReached files before file → Contains files file
reached_within files before file reached =
    subst (λ files. Contains files file) (sym reached.files_are) (Contains-append_right reached.earlier (file ∷ reached.later) file (0, omega arith, refl))

database_fault_cause : (words : List (List ℕ)) (before after : Outside) (f : CommandFault) → StandsInDatabases words before after f → database_status f ≡ status.Database → HasDatabaseCause words before
database_fault_cause words before after (database.Files call file) stands is = absurd (cc)
database_fault_cause words before after database.Print stands is = absurd (cc)
database_fault_cause words before after database.Memory stands is = absurd (cc)
database_fault_cause words before after (database.NoDatabase file kind line) (inl (merge, is_merge, fault)) is =
    inl (merge, file.now, is_merge, comes_within (inputs_of merge) before file.now fault.0, inl (kind, line, fault.1))
database_fault_cause words before after (database.NoDatabase file kind line) (inr (inl (report, is_report, fault))) is =
    inr (inl (report, is_report, (kind, line, subst (λ name. IsNoExclusion name before kind line) fault.0 fault.1)))
database_fault_cause words before after (database.NoDatabase file kind line) (inr (inr (inl (lcov, is_lcov, fault)))) is =
    inr (inr (inl (lcov, is_lcov, (kind, line, subst (λ name. IsNoTable name before kind line) fault.0 fault.1))))
database_fault_cause words before after (database.NoDatabase file kind line) (inr (inr (inr (inl (rank, is_rank, fault))))) is =
    inr (inr (inr (inl (rank, file.now, is_rank, reached_within (ranked_files rank) before file.now fault.0, inl (kind, line, fault.1)))))
database_fault_cause words before after (database.NoDatabase file kind line) (inr (inr (inr (inr (change_is, points, is_points, fault))))) is =
    inr (inr (inr (inr (change_is, points, is_points, inl (kind, line, subst (λ name. IsNoExclusion name before kind line) fault.0 fault.1)))))
database_fault_cause words before after (database.DesignsDiffer file line first other) (inl (merge, is_merge, fault)) is =
    inl (merge, file.now, is_merge, comes_within (inputs_of merge) before file.now fault.0, inr (line, first, other, fault.1))
database_fault_cause words before after (database.DesignsDiffer file line first other) (inr (inl (report, is_report, fault))) is = absurd fault
database_fault_cause words before after (database.DesignsDiffer file line first other) (inr (inr (inl (lcov, is_lcov, fault)))) is = absurd fault
database_fault_cause words before after (database.DesignsDiffer file line first other) (inr (inr (inr (inl (rank, is_rank, fault))))) is =
    inr (inr (inr (inl (rank, file.now, is_rank, comes_within (ranked_files rank) before file.now fault.1, inr (line, first, other, fault.2)))))
database_fault_cause words before after (database.DesignsDiffer file line first other) (inr (inr (inr (inr (kind, points, is_points, fault))))) is = absurd fault
database_fault_cause words before after (database.Point file refusal address) (inl (merge, is_merge, fault)) is = absurd fault
database_fault_cause words before after (database.Point file refusal address) (inr (inl (report, is_report, fault))) is = absurd fault
database_fault_cause words before after (database.Point file refusal address) (inr (inr (inl (lcov, is_lcov, fault)))) is = absurd fault
database_fault_cause words before after (database.Point file refusal address) (inr (inr (inr (inl (rank, is_rank, fault))))) is = absurd fault
database_fault_cause words before after (database.Point file refusal address) (inr (inr (inr (inr (kind, points, is_points, fault))))) is =
    inr (inr (inr (inr (kind, points, is_points, inr (address.now, refusal, fault.1)))))

points_no_database : (p : PointFault) → points_status p ≡ status.Database → ⊥
points_no_database point_fault.NoMemory same = cc
points_no_database (point_fault.NoState name) same = cc
points_no_database (point_fault.SameState name) same = cc
points_no_database point_fault.TooManyPoints same = cc
points_no_database (point_fault.TooManyStates name) same = cc

points_no_files : (p : PointFault) → points_status p ≡ status.Files → ⊥
points_no_files point_fault.NoMemory same = cc
points_no_files (point_fault.NoState name) same = cc
points_no_files (point_fault.SameState name) same = cc
points_no_files point_fault.TooManyPoints same = cc
points_no_files (point_fault.TooManyStates name) same = cc

source_no_database : (f : SourceFault) → source_status f ≡ status.Database → ⊥
source_no_database source_fault.NoMemory same = cc
source_no_database (source_fault.File call file) same = cc
source_no_database (source_fault.Included call path) same = cc
source_no_database (source_fault.Refused refusal) same = cc

pub database_cause : (words : List (List ℕ)) (before after : Outside) (fault : Fault) → Stands words before after fault → status_of fault ≡ status.Database → HasDatabaseCause words before
database_cause words before after (Usage usage) stands is = absurd (cc)
database_cause words before after (Source f) stands is = absurd (source_no_database f is)
database_cause words before after (NoMachine name) stands is = absurd (cc)
database_cause words before after (PointsFault p) stands is = absurd (points_no_database p is)
database_cause words before after (Dump refusal) stands is = absurd (cc)
database_cause words before after (Contradiction found) stands is = absurd (cc)
database_cause words before after (FilesFault call file) stands is = absurd (cc)
database_cause words before after Memory stands is = absurd (cc)
database_cause words before after (Databases f) stands is = database_fault_cause words before after f stands is
database_cause words before after (Selfrun selfrun_fault.Print) stands is = absurd (cc)
database_cause words before after (Selfrun selfrun_fault.NoMemory) stands is = absurd (cc)

-- ---- the cause of a fault of files

misses_at : (words : List (List ℕ)) (before : Outside) (name : List ℕ) (files : Option HostFiles) (P : Type 0) → IsInput words name ⊎ IsIncluded words before name → MatchOption files P (λ files. files name ≡ None) → MatchOption files P (λ files. (name : List ℕ) × (IsInput words name ⊎ IsIncluded words before name) × (files name ≡ None))
misses_at words before name None P input missing = missing
misses_at words before name (Some files) P input missing = (name, input, missing)

missing_read : (words : List (List ℕ)) (before after : Outside) (name : List ℕ) → IsInput words name ⊎ IsIncluded words before name → IsCounted before.faults after.faults ⊎ IsMissing name before after → HasFilesCause words before after
missing_read words before after name input (inl counted) = inl counted
missing_read words before after name input (inr missing) = inr (misses_at words before name before.files (IsCounted before.absences after.absences) input missing)

missing_cause : (words : List (List ℕ)) (before after : Outside) (name : List ℕ) → IsInput words name → IsCounted before.faults after.faults ⊎ IsMissing name before after → HasFilesCause words before after
missing_cause words before after name input refused = missing_read words before after name (inl input) refused

score_call : (words : List (List ℕ)) (before after : Outside) (score : ScoreValues) (call : Call) (file : List ℕ) → IsScore words score → NamesFile score call file → IsRefused call file before after → HasFilesCause words before after
score_call words before after score OpenRead file is names refused = missing_cause words before after file (of_score score, is, (0, omega arith, sym names)) refused.cause
score_call words before after score Read file is names refused = inl refused.cause
score_call words before after score OpenWrite file is names refused = inl refused.cause
score_call words before after score Write file is names refused = inl refused.cause
score_call words before after score CloseWrite file is names refused = inl refused.cause

-- a file of the words or of their sources was not read
source_call : (words : List (List ℕ)) (before after : Outside) (call : Call) (path : List ℕ) → IsInput words path ⊎ IsIncluded words before path → IsRefusedCall before after path call → HasFilesCause words before after
source_call words before after OpenRead path input refused = missing_read words before after path input refused.cause
source_call words before after Read path input refused = inl refused.cause
source_call words before after OpenWrite path input counted = absurd counted
source_call words before after Write path input counted = absurd counted
source_call words before after CloseWrite path input counted = absurd counted

source_files_cause : (words : List (List ℕ)) (before after : Outside) (score : ScoreValues) → IsScore words score → (f : SourceFault) → IsSourceFault (sources_in score) before after f → source_status f ≡ status.Files → HasFilesCause words before after
source_files_cause words before after score is source_fault.NoMemory stands same = absurd cc
source_files_cause words before after score is (source_fault.File call file) stands same =
    source_call words before after call file.now (inl (of_score score, is, Contains-append_right (score.dump ∷ []) score.sources file.now (root_named (sources_in score) before after call file.now stands))) stands.refused
source_files_cause words before after score is (source_fault.Included call path) stands same = source_call words before after call path (inr (score, is, stands.0)) stands.1
source_files_cause words before after score is (source_fault.Refused refusal) stands same = absurd cc

reading_call : (words : List (List ℕ)) (before after : Outside) (call : Call) (file : List ℕ) → IsReading call → IsInput words file → IsRefused call file before after → HasFilesCause words before after
reading_call words before after OpenRead file reading input refused = missing_cause words before after file input refused.cause
reading_call words before after Read file reading input refused = inl refused.cause
reading_call words before after OpenWrite file reading input counted = absurd reading
reading_call words before after Write file reading input counted = absurd reading
reading_call words before after CloseWrite file reading input counted = absurd reading

databases_files_cause : (words : List (List ℕ)) (before after : Outside) (f : CommandFault) → StandsInDatabases words before after f → database_status f ≡ status.Files → HasFilesCause words before after
databases_files_cause words before after (database.Files call file) (inl (merge, is_merge, inl fault)) is =
    reading_call words before after call file.now fault.0 (of_merge merge, is_merge, comes_within (inputs_of merge) before file.now fault.1) fault.2
databases_files_cause words before after (database.Files call file) (inl (merge, is_merge, inr fault)) is = inl (refused_write before after call file.now fault.0 fault.2)
databases_files_cause words before after (database.Files call file) (inr (inl (report, is_report, inl fault))) is =
    reading_call words before after call file.now fault.0 (of_report report, is_report, (0, omega arith, sym fault.1)) fault.2
databases_files_cause words before after (database.Files call file) (inr (inl (report, is_report, inr fault))) is = inl (refused_write before after call file.now fault.0 fault.2)
databases_files_cause words before after (database.Files call file) (inr (inr (inl (lcov, is_lcov, inl fault)))) is =
    reading_call words before after call file.now fault.0 (of_lcov lcov, is_lcov, (0, omega arith, sym fault.1)) fault.2
databases_files_cause words before after (database.Files call file) (inr (inr (inl (lcov, is_lcov, inr fault)))) is = inl (refused_write before after call file.now fault.0 fault.2)
databases_files_cause words before after (database.Files call file) (inr (inr (inr (inr (change.Exclude, points, is_points, inl fault))))) is =
    reading_call words before after call file.now fault.0 (of_exclude points, is_points, (0, omega arith, sym fault.1)) fault.2
databases_files_cause words before after (database.Files call file) (inr (inr (inr (inr (change.Restore, points, is_points, inl fault))))) is =
    reading_call words before after call file.now fault.0 (of_restore points, is_points, (0, omega arith, sym fault.1)) fault.2
databases_files_cause words before after (database.Files call file) (inr (inr (inr (inr (kind, points, is_points, inr fault))))) is = inl (refused_write before after call file.now fault.0 fault.2)
databases_files_cause words before after (database.Files call file) (inr (inr (inr (inl (rank, is_rank, fault))))) is =
    reading_call words before after call file.now fault.0 (of_rank rank, is_rank, reached_within (ranked_files rank) before file.now fault.1) fault.2
databases_files_cause words before after database.Print (inl (merge, is_merge, fault)) is = absurd fault
databases_files_cause words before after database.Print (inr (inl (report, is_report, fault))) is = inl fault.1
databases_files_cause words before after database.Print (inr (inr (inl (lcov, is_lcov, fault)))) is = absurd fault
databases_files_cause words before after database.Print (inr (inr (inr (inl (rank, is_rank, fault))))) is = inl fault.0
databases_files_cause words before after database.Print (inr (inr (inr (inr (kind, points, is_points, fault))))) is = absurd fault
databases_files_cause words before after database.Memory stands is = absurd (cc)
databases_files_cause words before after (database.NoDatabase file kind line) stands is = absurd (cc)
databases_files_cause words before after (database.DesignsDiffer file line first other) stands is = absurd (cc)
databases_files_cause words before after (database.Point file refusal address) stands is = absurd (cc)

files_fault_cause : (words : List (List ℕ)) (before after : Outside) (fault : Fault) → Stands words before after fault → status_of fault ≡ status.Files → HasFilesCause words before after
files_fault_cause words before after (Usage usage) stands is = absurd (cc)
files_fault_cause words before after (Source f) stands is = source_files_cause words before after stands.0 stands.1 f stands.2 is
files_fault_cause words before after (NoMachine name) stands is = absurd (cc)
files_fault_cause words before after (PointsFault p) stands is = absurd (points_no_files p is)
files_fault_cause words before after (Dump refusal) stands is = absurd (cc)
files_fault_cause words before after (Contradiction found) stands is = absurd (cc)
files_fault_cause words before after (FilesFault call file) stands is = score_call words before after stands.0 call file.now stands.1 stands.2.0 stands.2.1
files_fault_cause words before after Memory stands is = absurd (cc)
files_fault_cause words before after (Databases f) stands is = databases_files_cause words before after f stands is
files_fault_cause words before after (Selfrun selfrun_fault.Print) stands is = inl stands.2
files_fault_cause words before after (Selfrun selfrun_fault.NoMemory) stands is = absurd (cc)

misses_later : (words : List (List ℕ)) (before : Outside) (files : Option HostFiles) (a b c : ℕ) → a ≤ b → b ≤ c → MatchOption files (IsCounted a b) (λ files. (name : List ℕ) × (IsInput words name ⊎ IsIncluded words before name) × (files name ≡ None)) → MatchOption files (IsCounted a c) (λ files. (name : List ℕ) × (IsInput words name ⊎ IsIncluded words before name) × (files name ≡ None))
misses_later words before None a b c first second missing = IsCounted-later a b c first second missing
misses_later words before (Some files) a b c first second missing = missing

cause_later : (words : List (List ℕ)) (before middle after : Outside) → CountsUp before middle → CountsUp middle after → HasFilesCause words before middle → HasFilesCause words before after
cause_later words before middle after first second (inl counted) = inl (IsCounted-later before.faults middle.faults after.faults first.faults second.faults counted)
cause_later words before middle after first second (inr misses) = inr (misses_later words before before.files before.absences middle.absences after.absences first.absences second.absences misses)

pub files_cause : (words : List (List ℕ)) (before middle after : Outside) → CountsUp before middle → CountsUp middle after → (fault : Fault) → Stands words before middle fault → status_of fault ≡ status.Files → HasFilesCause words before after
files_cause words before middle after first second fault stands is = cause_later words before middle after first second (files_fault_cause words before middle fault stands is)

-- ---- a fault holds also where more was counted since

module _ (before middle after : Outside) (first : CountsUp before middle) (second : CountsUp middle after) (files : KeepsFiles middle after) (input : KeepsInput middle after) (output : KeepsOutput middle after) where
  counted_later : IsCounted before.faults middle.faults → IsCounted before.faults after.faults
  counted_later counted = IsCounted-later before.faults middle.faults after.faults first.faults second.faults counted

  call_later : (call : Call) (name : List ℕ) → IsRefused call name before middle → IsRefused call name before after
  call_later call name refused = refused_later before middle after first second files input output call name refused

  source_call_later : (call : Call) (path : List ℕ) → IsRefusedCall before middle path call → IsRefusedCall before after path call
  source_call_later OpenRead path refused = call_later OpenRead path refused
  source_call_later Read path refused = call_later Read path refused
  source_call_later OpenWrite path refused = refused
  source_call_later Write path refused = refused
  source_call_later CloseWrite path refused = refused

  source_later : (words : SourceValues) (f : SourceFault) → IsSourceFault words before middle f → IsSourceFault words before after f
  source_later words source_fault.NoMemory stands = tt
  source_later words (source_fault.File call file) stands =
      record { front = stands.front; others = stands.others; sources = stands.sources; stands = stands.stands; roots = stands.roots; within = stands.within; refused = source_call_later call file.now stands.refused }
  source_later words (source_fault.Included call path) stands = (stands.0, source_call_later call path stands.1)
  source_later words (source_fault.Refused refusal) stands = stands

  merge_fault_later : (merge : MergeValues) (f : CommandFault) → IsMergeFault merge before middle f → IsMergeFault merge before after f
  merge_fault_later merge (database.Files call file) (inl fault) = inl (fault.0, fault.1, call_later call file.now fault.2)
  merge_fault_later merge (database.Files call file) (inr fault) = inr (fault.0, fault.1, call_later call file.now fault.2, fault.3)
  merge_fault_later merge database.Print fault = absurd fault
  merge_fault_later merge database.Memory fault = tt
  merge_fault_later merge (database.NoDatabase file kind line) fault = fault
  merge_fault_later merge (database.DesignsDiffer file line one other) fault = fault
  merge_fault_later merge (database.Point file refusal address) fault = absurd fault

  report_fault_later : (report : ReportValues) (f : CommandFault) → IsReportFault report before middle f → IsReportFault report before after f
  report_fault_later report (database.Files call file) (inl fault) = inl (fault.0, fault.1, call_later call file.now fault.2)
  report_fault_later report (database.Files call file) (inr fault) = inr (fault.0, fault.1, call_later call file.now fault.2, fault.3)
  report_fault_later report database.Print fault = (fault.0, counted_later fault.1, fault.2)
  report_fault_later report database.Memory fault = tt
  report_fault_later report (database.NoDatabase file kind line) fault = fault
  report_fault_later report (database.DesignsDiffer file line one other) fault = absurd fault
  report_fault_later report (database.Point file refusal address) fault = absurd fault

  lcov_fault_later : (lcov : LcovValues) (f : CommandFault) → IsLcovFault lcov before middle f → IsLcovFault lcov before after f
  lcov_fault_later lcov (database.Files call file) (inl fault) = inl (fault.0, fault.1, call_later call file.now fault.2)
  lcov_fault_later lcov (database.Files call file) (inr fault) = inr (fault.0, fault.1, call_later call file.now fault.2, fault.3)
  lcov_fault_later lcov database.Print fault = absurd fault
  lcov_fault_later lcov database.Memory fault = tt
  lcov_fault_later lcov (database.NoDatabase file kind line) fault = fault
  lcov_fault_later lcov (database.DesignsDiffer file line one other) fault = absurd fault
  lcov_fault_later lcov (database.Point file refusal address) fault = absurd fault

  rank_fault_later : (rank : RankValues) (f : CommandFault) → IsRankFault rank before middle f → IsRankFault rank before after f
  rank_fault_later rank (database.Files call file) fault = (fault.0, fault.1, call_later call file.now fault.2)
  rank_fault_later rank database.Print fault = (counted_later fault.0, fault.1)
  rank_fault_later rank database.Memory fault = tt
  rank_fault_later rank (database.NoDatabase file kind line) fault = fault
  rank_fault_later rank (database.DesignsDiffer file line one other) fault = fault
  rank_fault_later rank (database.Point file refusal address) fault = absurd fault

  points_fault_later : (kind : Change) (points : PointValues) (f : CommandFault) → IsPointsFault kind points before middle f → IsPointsFault kind points before after f
  points_fault_later kind points (database.Files call file) (inl fault) = inl (fault.0, fault.1, call_later call file.now fault.2)
  points_fault_later kind points (database.Files call file) (inr fault) = inr (fault.0, fault.1, call_later call file.now fault.2, fault.3)
  points_fault_later kind points database.Print fault = absurd fault
  points_fault_later kind points database.Memory fault = tt
  points_fault_later kind points (database.NoDatabase file problem line) fault = fault
  points_fault_later kind points (database.DesignsDiffer file line one other) fault = absurd fault
  points_fault_later kind points (database.Point file refusal address) fault = fault

  databases_stand_later : (words : List (List ℕ)) (f : CommandFault) → StandsInDatabases words before middle f → StandsInDatabases words before after f
  databases_stand_later words f (inl (merge, is, fault)) = inl (merge, is, merge_fault_later merge f fault)
  databases_stand_later words f (inr (inl (report, is, fault))) = inr (inl (report, is, report_fault_later report f fault))
  databases_stand_later words f (inr (inr (inl (lcov, is, fault)))) = inr (inr (inl (lcov, is, lcov_fault_later lcov f fault)))
  databases_stand_later words f (inr (inr (inr (inl (rank, is, fault))))) = inr (inr (inr (inl (rank, is, rank_fault_later rank f fault))))
  databases_stand_later words f (inr (inr (inr (inr (kind, points, is, fault))))) = inr (inr (inr (inr (kind, points, is, points_fault_later kind points f fault))))

  pub stands_later : (words : List (List ℕ)) (fault : Fault) → Stands words before middle fault → Stands words before after fault
  stands_later words (Usage usage) stands = stands
  stands_later words (Source f) stands = (stands.0, stands.1, source_later (sources_in stands.0) f stands.2)
  stands_later words (NoMachine name) stands = stands
  stands_later words (PointsFault p) stands = stands
  stands_later words (Dump refusal) stands = stands
  stands_later words (Contradiction found) stands = stands
  stands_later words (FilesFault call file) stands = (stands.0, stands.1, (stands.2.0, call_later call file.now stands.2.1, stands.2.2, stands.2.3))
  stands_later words Memory stands = stands
  stands_later words (Databases f) stands = databases_stand_later words f stands
  stands_later words (Selfrun selfrun_fault.Print) stands = (stands.0, stands.1, counted_later stands.2)
  stands_later words (Selfrun selfrun_fault.NoMemory) stands = stands
