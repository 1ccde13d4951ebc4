-- Why a call of the program ends with its status.
use Rattle.std.proofs.Common.{◌≡◌, ℕ, List, Option, None, Some, Ok, Err, sym, ap, refl, ◌∙◌, inl, inr}
use Rattle.std.specs.Prelude.{Result, IfErr, OnOk, ◌↔◌}
use Rattle.command_line.specs.Command.{AreWordsOf, CommandValues, IsCommand, score, merge, report, lcov, rank, exclude, restore, selfrun, command_values}
use Rattle.command_line.specs.CommandWords.{IsScore, ScoreValues, score_values}
use Rattle.command_line.specs.DatabaseWords.{IsMerge, IsReport, MergeValues, ReportValues, merge_values, report_values}
use Rattle.command_line.specs.LcovWords.{IsLcov, LcovValues, lcov_values}
use Rattle.command_line.specs.PointWords.{PointValues, point_values}
use Rattle.command_line.specs.RankWords.{IsRank, RankValues, rank_values}
use Rattle.command_line.specs.SelfrunWords.{IsSelfrun}
use Rattle.command_line.specs.declared.command.Command.{Command}
use Rattle.command_line.specs.declared.command.Command.TheVariants.{Score, Merge, Report, Lcov, Rank, Exclude, Restore, Selfrun}
use Rattle.command_line.specs.declared.selfrun_words.SelfrunWords.{SelfrunWords}
use Rattle.command_line.proofs.OneCommand.{one_of_all}
use Rattle.command_line.proofs.Outcome.{command_without_fault}
use Rattle.cov_host.specs.Outside.{Outside, Files, Told}
use Rattle.database_commands.specs.Faults.{IsMergeFault}
use Rattle.database_commands.specs.Excluding.{IsPointsFault}
use Rattle.database_commands.specs.Ranking.{IsRankFault}
use Rattle.database_commands.specs.declared.change.Change.{Change}
use Rattle.database_commands.specs.declared.change.Change.TheVariants as change
use Rattle.database_commands.specs.Reporting.{IsReportFault, KeepsUnlessNamed, PrintsIfUnnamed}
use Rattle.database_commands.specs.Tracing.{IsLcovFault}
use Rattle.database_commands.specs.declared.fault.CommandFault.{CommandFault}
use Rattle.database_commands.specs.declared.fault.CommandFault.TheVariants as database_fault
use Rattle.covered_cli.specs.Covered.{HasContradiction, IsNoCommand, IsSomeCommand, KeepsUnnamed, PrintsText, output_in}
use Rattle.covered_cli.specs.FaultStatus.{database_status, points_status, source_status}
use Rattle.covered_cli.specs.PointCommands.{points_command}
use Rattle.covered_cli.specs.Fault.{IsDatabaseFault, IsPrintingFault, Stands, StandsIn, StandsInDatabases, StandsInWork, output_of, status_of}
use Rattle.source_design.specs.declared.fault.SourceFault.{SourceFault}
use Rattle.source_design.specs.declared.fault.SourceFault.TheVariants as source_fault
use Rattle.design_points.specs.cover_points.declared.fault.PointFault.{PointFault}
use Rattle.design_points.specs.cover_points.declared.fault.PointFault.TheVariants as point_fault
use Rattle.covered_cli.specs.declared.fault.Fault.{Fault}
use Rattle.covered_cli.specs.declared.fault.Fault.TheVariants.{Usage, Source, NoMachine, Points as PointsFault, Dump, Contradiction, Files as FilesFault, Memory, Databases, Selfrun as PrintingFault}
use Rattle.covered_cli.specs.declared.selfrun_fault.SelfrunFault.{SelfrunFault}
use Rattle.covered_cli.specs.declared.selfrun_fault.SelfrunFault.TheVariants as selfrun_fault
use Rattle.covered_cli.specs.declared.status.Status.TheVariants as status
use Rattle.whole_files.proofs.EffectLemmas.{Told-map}

-- what holds anyway holds where there is a value
pub OnOk-intro : {T E P : Type 0} (result : Result T E) → P → OnOk result P
OnOk-intro (Ok value) holds = holds
OnOk-intro (Err fault) holds = tt

pub IfErr-map : {T E : Type 0} {P Q : E → Type 0} (result : Result T E) → ((fault : E) → P fault → Q fault) → IfErr result P → IfErr result Q
IfErr-map (Ok value) step holds = tt
IfErr-map (Err fault) step holds = step fault holds

pub stands_as_score : (words : List (List ℕ)) (values : ScoreValues) (before after : Outside) → IsScore words values → (fault : Fault) → StandsIn values before after fault → Stands words before after fault
stands_as_score words values before after is (Usage usage) stands = absurd stands
stands_as_score words values before after is (Source f) stands = (values, is, stands)
stands_as_score words values before after is (NoMachine name) stands = (values, is, stands)
stands_as_score words values before after is (PointsFault p) stands = (values, is, stands)
stands_as_score words values before after is (Dump refusal) stands = (values, is, stands)
stands_as_score words values before after is (Contradiction found) stands = (values, is, stands)
stands_as_score words values before after is (FilesFault call file) stands = (values, is, stands)
stands_as_score words values before after is Memory stands = (values, is, stands)
stands_as_score words values before after is (Databases f) stands = absurd stands
stands_as_score words values before after is (PrintingFault f) stands = absurd stands

stands_as_merge : (words : List (List ℕ)) (values : MergeValues) (before after : Outside) → IsMerge words values → (fault : Fault) → IsDatabaseFault (IsMergeFault values before after) fault → Stands words before after fault
stands_as_merge words values before after is (Usage usage) stands = absurd stands
stands_as_merge words values before after is (Source f) stands = absurd stands
stands_as_merge words values before after is (NoMachine name) stands = absurd stands
stands_as_merge words values before after is (PointsFault p) stands = absurd stands
stands_as_merge words values before after is (Dump refusal) stands = absurd stands
stands_as_merge words values before after is (Contradiction found) stands = absurd stands
stands_as_merge words values before after is (FilesFault call file) stands = absurd stands
stands_as_merge words values before after is Memory stands = absurd stands
stands_as_merge words values before after is (Databases f) stands = inl (values, is, stands)
stands_as_merge words values before after is (PrintingFault f) stands = absurd stands

stands_as_report : (words : List (List ℕ)) (values : ReportValues) (before after : Outside) → IsReport words values → (fault : Fault) → IsDatabaseFault (IsReportFault values before after) fault → Stands words before after fault
stands_as_report words values before after is (Usage usage) stands = absurd stands
stands_as_report words values before after is (Source f) stands = absurd stands
stands_as_report words values before after is (NoMachine name) stands = absurd stands
stands_as_report words values before after is (PointsFault p) stands = absurd stands
stands_as_report words values before after is (Dump refusal) stands = absurd stands
stands_as_report words values before after is (Contradiction found) stands = absurd stands
stands_as_report words values before after is (FilesFault call file) stands = absurd stands
stands_as_report words values before after is Memory stands = absurd stands
stands_as_report words values before after is (Databases f) stands = inr (inl (values, is, stands))
stands_as_report words values before after is (PrintingFault f) stands = absurd stands

stands_as_lcov : (words : List (List ℕ)) (values : LcovValues) (before after : Outside) → IsLcov words values → (fault : Fault) → IsDatabaseFault (IsLcovFault values before after) fault → Stands words before after fault
stands_as_lcov words values before after is (Usage usage) stands = absurd stands
stands_as_lcov words values before after is (Source f) stands = absurd stands
stands_as_lcov words values before after is (NoMachine name) stands = absurd stands
stands_as_lcov words values before after is (PointsFault p) stands = absurd stands
stands_as_lcov words values before after is (Dump refusal) stands = absurd stands
stands_as_lcov words values before after is (Contradiction found) stands = absurd stands
stands_as_lcov words values before after is (FilesFault call file) stands = absurd stands
stands_as_lcov words values before after is Memory stands = absurd stands
stands_as_lcov words values before after is (Databases f) stands = inr (inr (inl (values, is, stands)))
stands_as_lcov words values before after is (PrintingFault f) stands = absurd stands

stands_as_rank : (words : List (List ℕ)) (values : RankValues) (before after : Outside) → IsRank words values → (fault : Fault) → IsDatabaseFault (IsRankFault values before after) fault → Stands words before after fault
stands_as_rank words values before after is (Usage usage) stands = absurd stands
stands_as_rank words values before after is (Source f) stands = absurd stands
stands_as_rank words values before after is (NoMachine name) stands = absurd stands
stands_as_rank words values before after is (PointsFault p) stands = absurd stands
stands_as_rank words values before after is (Dump refusal) stands = absurd stands
stands_as_rank words values before after is (Contradiction found) stands = absurd stands
stands_as_rank words values before after is (FilesFault call file) stands = absurd stands
stands_as_rank words values before after is Memory stands = absurd stands
stands_as_rank words values before after is (Databases f) stands = inr (inr (inr (inl (values, is, stands))))
stands_as_rank words values before after is (PrintingFault f) stands = absurd stands

stands_as_points : (kind : Change) (words : List (List ℕ)) (values : PointValues) (before after : Outside) → AreWordsOf (points_command kind values) words → (fault : Fault) → IsDatabaseFault (IsPointsFault kind values before after) fault → Stands words before after fault
stands_as_points kind words values before after is (Usage usage) stands = absurd stands
stands_as_points kind words values before after is (Source f) stands = absurd stands
stands_as_points kind words values before after is (NoMachine name) stands = absurd stands
stands_as_points kind words values before after is (PointsFault p) stands = absurd stands
stands_as_points kind words values before after is (Dump refusal) stands = absurd stands
stands_as_points kind words values before after is (Contradiction found) stands = absurd stands
stands_as_points kind words values before after is (FilesFault call file) stands = absurd stands
stands_as_points kind words values before after is Memory stands = absurd stands
stands_as_points kind words values before after is (Databases f) stands = inr (inr (inr (inr (kind, values, is, stands))))
stands_as_points kind words values before after is (PrintingFault f) stands = absurd stands

stands_as_selfrun : (words : List (List ℕ)) (values : SelfrunWords) (before after : Outside) → IsSelfrun words values → (fault : Fault) → IsPrintingFault before after fault → Stands words before after fault
stands_as_selfrun words values before after is (Usage usage) stands = absurd stands
stands_as_selfrun words values before after is (Source f) stands = absurd stands
stands_as_selfrun words values before after is (NoMachine name) stands = absurd stands
stands_as_selfrun words values before after is (PointsFault p) stands = absurd stands
stands_as_selfrun words values before after is (Dump refusal) stands = absurd stands
stands_as_selfrun words values before after is (Contradiction found) stands = absurd stands
stands_as_selfrun words values before after is (FilesFault call file) stands = absurd stands
stands_as_selfrun words values before after is Memory stands = absurd stands
stands_as_selfrun words values before after is (Databases f) stands = absurd stands
stands_as_selfrun words values before after is (PrintingFault f) stands = (values, is, stands)

-- a fault of the work of a command is a fault of the call of the program
pub stands_in_call : (words : List (List ℕ)) (command : Command) (before after : Outside) → IsCommand words command → (fault : Fault) → StandsInWork command before after fault → Stands words before after fault
stands_in_call words (Score values) before after is fault stands = stands_as_score words (score_values values) before after is fault stands
stands_in_call words (Merge values) before after is fault stands = stands_as_merge words (merge_values values) before after is fault stands
stands_in_call words (Report values) before after is fault stands = stands_as_report words (report_values values) before after is fault stands
stands_in_call words (Lcov values) before after is fault stands = stands_as_lcov words (lcov_values values) before after is fault stands
stands_in_call words (Rank values) before after is fault stands = stands_as_rank words (rank_values values) before after is fault stands
stands_in_call words (Exclude values) before after is fault stands = stands_as_points change.Exclude words (point_values values) before after is fault stands
stands_in_call words (Restore values) before after is fault stands = stands_as_points change.Restore words (point_values values) before after is fault stands
stands_in_call words (Selfrun values) before after is fault stands = stands_as_selfrun words values before after is fault stands

-- the words of a command are one
pub is_some_command : (words : List (List ℕ)) (command : Command) → IsCommand words command → IsSomeCommand words
is_some_command words command is = (command_values command, is)

-- a command writes the file that its values name
pub same_output : (command : Command) → output_in (command_values command) ≡ output_of command
same_output (Score values) = refl
same_output (Merge values) = refl
same_output (Report values) = refl
same_output (Lcov values) = refl
same_output (Rank values) = refl
same_output (Exclude values) = refl
same_output (Restore values) = refl
same_output (Selfrun values) = refl

keeps_by : (words : List (List ℕ)) (values : CommandValues) (output : Option (List ℕ)) → AreWordsOf values words → output_in values ≡ output → (old new : Files) → KeepsUnlessNamed output old new → KeepsUnnamed words old new
keeps_by words values None is names old new kept name unnamed = kept name
keeps_by words values (Some output) is names old new kept name unnamed = kept name (λ same. unnamed (values, is, names ∙ ap Some (sym same)))

-- a file that the words do not name is not the command's output
pub keeps_unnamed : (words : List (List ℕ)) (command : Command) (old new : Option Files) → IsCommand words command → Told (KeepsUnlessNamed (output_of command)) old new → Told (KeepsUnnamed words) old new
keeps_unnamed words command old new is kept =
    Told-map {R = KeepsUnlessNamed (output_of command)} {S = KeepsUnnamed words} old new (λ x y. keeps_by words (command_values command) (output_of command) is (same_output command) x y) kept

-- words that ask for no printed text print nothing
pub prints_nothing : (words : List (List ℕ)) (command : Command) (before after : Outside) → IsCommand words command → PrintsIfUnnamed (output_of command) before after → (PrintsText words → ⊥) → after.printed ≡ before.printed
prints_nothing words (Score values) before after is prints none = prints
prints_nothing words (Merge values) before after is prints none = prints
prints_nothing words (Report values) before after is prints none = go (report_values values).output refl prints
  where
    go : (output : Option (List ℕ)) → (report_values values).output ≡ output → PrintsIfUnnamed output before after → after.printed ≡ before.printed
    go None same prints = absurd (none (inl (report_values values, is, same)))
    go (Some name) same prints = prints
prints_nothing words (Lcov values) before after is prints none = prints
prints_nothing words (Rank values) before after is prints none = absurd (none (inr (inl (rank_values values, is))))
prints_nothing words (Exclude values) before after is prints none = prints
prints_nothing words (Restore values) before after is prints none = prints
prints_nothing words (Selfrun values) before after is prints none = absurd (none (inr (inr (values, is))))

-- the words of a command have no fault
pub command_or_fault : (words : List (List ℕ)) → IsSomeCommand words → IsNoCommand words → ⊥
command_or_fault words command fault = command_without_fault words command.0 fault.0 command.1 fault.1

-- the words of a score are no other command's
pub score_or_databases : (words : List (List ℕ)) (values : ScoreValues) (before after : Outside) (f : CommandFault) → IsScore words values → StandsInDatabases words before after f → ⊥
score_or_databases words values before after f is (inl stands) = let e = one_of_all words (score values) (merge stands.0) is stands.1 in cc
score_or_databases words values before after f is (inr (inl stands)) = let e = one_of_all words (score values) (report stands.0) is stands.1 in cc
score_or_databases words values before after f is (inr (inr (inl stands))) = let e = one_of_all words (score values) (lcov stands.0) is stands.1 in cc
score_or_databases words values before after f is (inr (inr (inr (inl stands)))) = let e = one_of_all words (score values) (rank stands.0) is stands.1 in cc
score_or_databases words values before after f is (inr (inr (inr (inr (change.Exclude, points, is_points, fault))))) = let e = one_of_all words (score values) (exclude points) is is_points in cc
score_or_databases words values before after f is (inr (inr (inr (inr (change.Restore, points, is_points, fault))))) = let e = one_of_all words (score values) (restore points) is is_points in cc

pub score_or_selfrun : (words : List (List ℕ)) (values : ScoreValues) (other : SelfrunWords) → IsScore words values → IsSelfrun words other → ⊥
score_or_selfrun words values other is is_other = let e = one_of_all words (score values) (selfrun other) is is_other in cc

databases_are_command : (words : List (List ℕ)) (before after : Outside) (f : CommandFault) → StandsInDatabases words before after f → IsSomeCommand words
databases_are_command words before after f (inl stands) = (merge stands.0, stands.1)
databases_are_command words before after f (inr (inl stands)) = (report stands.0, stands.1)
databases_are_command words before after f (inr (inr (inl stands))) = (lcov stands.0, stands.1)
databases_are_command words before after f (inr (inr (inr (inl stands)))) = (rank stands.0, stands.1)
databases_are_command words before after f (inr (inr (inr (inr stands)))) = (points_command stands.0 stands.1, stands.2)

-- no fault of a command over databases is one of usage
no_usage : (f : CommandFault) → database_status f ≡ status.Usage → ⊥
no_usage (database_fault.Files call file) same = cc
no_usage database_fault.Print same = cc
no_usage database_fault.Memory same = cc
no_usage (database_fault.NoDatabase file kind line) same = cc
no_usage (database_fault.DesignsDiffer file line first other) same = cc
no_usage (database_fault.Point file refusal address) same = cc

source_no_usage : (f : SourceFault) → source_status f ≡ status.Usage → ⊥
source_no_usage source_fault.NoMemory same = cc
source_no_usage (source_fault.File call file) same = cc
source_no_usage (source_fault.Included call path) same = cc
source_no_usage (source_fault.Refused refusal) same = cc

points_no_usage : (p : PointFault) → points_status p ≡ status.Usage → ⊥
points_no_usage point_fault.NoMemory same = cc
points_no_usage (point_fault.NoState name) same = cc
points_no_usage (point_fault.SameState name) same = cc
points_no_usage point_fault.TooManyPoints same = cc
points_no_usage (point_fault.TooManyStates name) same = cc

selfrun_no_usage : (f : SelfrunFault) → status_of (PrintingFault f) ≡ status.Usage → ⊥
selfrun_no_usage selfrun_fault.Print same = cc
selfrun_no_usage selfrun_fault.NoMemory same = cc

-- a fault ends with the status of usage exactly where the words are no command
pub usage_exactly : (words : List (List ℕ)) (before after : Outside) → (fault : Fault) → Stands words before after fault → (status_of fault ≡ status.Usage) ↔ IsNoCommand words
usage_exactly words before after (Usage usage) stands = (λ same. (usage, stands), λ none. refl)
usage_exactly words before after (Source f) stands = (λ same. absurd (source_no_usage f same), λ none. absurd (command_or_fault words (score stands.0, stands.1) none))
usage_exactly words before after (NoMachine name) stands = (λ same. cc, λ none. absurd (command_or_fault words (score stands.0, stands.1) none))
usage_exactly words before after (PointsFault p) stands = (λ same. absurd (points_no_usage p same), λ none. absurd (command_or_fault words (score stands.0, stands.1) none))
usage_exactly words before after (Dump refusal) stands = (λ same. cc, λ none. absurd (command_or_fault words (score stands.0, stands.1) none))
usage_exactly words before after (Contradiction found) stands = (λ same. cc, λ none. absurd (command_or_fault words (score stands.0, stands.1) none))
usage_exactly words before after (FilesFault call file) stands = (λ same. cc, λ none. absurd (command_or_fault words (score stands.0, stands.1) none))
usage_exactly words before after Memory stands = (λ same. cc, λ none. absurd (command_or_fault words (score stands.0, stands.1) none))
usage_exactly words before after (Databases f) stands = (λ same. absurd (no_usage f same), λ none. absurd (command_or_fault words (databases_are_command words before after f stands) none))
usage_exactly words before after (PrintingFault f) stands = (λ same. absurd (selfrun_no_usage f same), λ none. absurd (command_or_fault words (selfrun stands.0, stands.1) none))

points_no_contradiction : (p : PointFault) → points_status p ≡ status.Contradiction → ⊥
points_no_contradiction point_fault.NoMemory same = cc
points_no_contradiction (point_fault.NoState name) same = cc
points_no_contradiction (point_fault.SameState name) same = cc
points_no_contradiction point_fault.TooManyPoints same = cc
points_no_contradiction (point_fault.TooManyStates name) same = cc

source_no_contradiction : (f : SourceFault) → source_status f ≡ status.Contradiction → ⊥
source_no_contradiction source_fault.NoMemory same = cc
source_no_contradiction (source_fault.File call file) same = cc
source_no_contradiction (source_fault.Included call path) same = cc
source_no_contradiction (source_fault.Refused refusal) same = cc

no_contradiction : (f : CommandFault) → database_status f ≡ status.Contradiction → ⊥
no_contradiction (database_fault.Files call file) same = cc
no_contradiction database_fault.Print same = cc
no_contradiction database_fault.Memory same = cc
no_contradiction (database_fault.NoDatabase file kind line) same = cc
no_contradiction (database_fault.DesignsDiffer file line first other) same = cc
no_contradiction (database_fault.Point file refusal address) same = cc

selfrun_no_contradiction : (f : SelfrunFault) → status_of (PrintingFault f) ≡ status.Contradiction → ⊥
selfrun_no_contradiction selfrun_fault.Print same = cc
selfrun_no_contradiction selfrun_fault.NoMemory same = cc

-- a fault ends with the status of a contradiction only where no run of the design shows the dump
pub contradiction_cause : (words : List (List ℕ)) (before after : Outside) (fault : Fault) → Stands words before after fault → status_of fault ≡ status.Contradiction → HasContradiction words before
contradiction_cause words before after (Usage usage) stands same = absurd (cc)
contradiction_cause words before after (Source f) stands same = absurd (source_no_contradiction f same)
contradiction_cause words before after (NoMachine name) stands same = absurd (cc)
contradiction_cause words before after (PointsFault p) stands same = absurd (points_no_contradiction p same)
contradiction_cause words before after (Dump refusal) stands same = absurd (cc)
contradiction_cause words before after (Contradiction found) stands same = (stands.0, stands.1, found, stands.2)
contradiction_cause words before after (FilesFault call file) stands same = absurd (cc)
contradiction_cause words before after Memory stands same = absurd (cc)
contradiction_cause words before after (Databases f) stands same = absurd (no_contradiction f same)
contradiction_cause words before after (PrintingFault f) stands same = absurd (selfrun_no_contradiction f same)
