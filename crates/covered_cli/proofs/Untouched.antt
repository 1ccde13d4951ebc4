-- What a score that was done leaves as it was, and that no fault has status 0.
use Rattle.std.proofs.Common.{◌≡◌, ℕ, List, inl, inr}
use Rattle.command_line.proofs.OneCommand.{one_of_all}
use Rattle.command_line.specs.Command.{score as of_score, report as of_report, rank as of_rank, selfrun as of_selfrun}
use Rattle.command_line.specs.CommandWords.{IsScore, ScoreValues}
use Rattle.cov_host.specs.Outside.{HasFile, Outside, Told}
use Rattle.whole_files.proofs.EffectLemmas.{Told-map}
use Rattle.covered_cli.specs.Covered.{PrintsText}
use Rattle.covered_cli.specs.FaultStatus.{database_status, points_status, source_status}
use Rattle.covered_cli.specs.Fault.{status_of}
use Rattle.covered_cli.specs.Headline.{IsUntouched}
use Rattle.covered_cli.specs.declared.fault.Fault.{Fault}
use Rattle.covered_cli.specs.declared.fault.Fault.TheVariants.{Usage, Source, NoMachine, Points as PointsFault, Dump, Contradiction, Files as FilesFault, Memory, Databases, Selfrun}
use Rattle.covered_cli.specs.declared.selfrun_fault.SelfrunFault.TheVariants as selfrun_fault
use Rattle.covered_cli.specs.declared.status.Status.TheVariants as status
use Rattle.database_commands.specs.declared.fault.CommandFault.{CommandFault}
use Rattle.database_commands.specs.declared.fault.CommandFault.TheVariants as database
use Rattle.design_points.specs.cover_points.declared.fault.PointFault.{PointFault}
use Rattle.design_points.specs.cover_points.declared.fault.PointFault.TheVariants as point_fault
use Rattle.source_design.specs.declared.fault.SourceFault.{SourceFault}
use Rattle.source_design.specs.declared.fault.SourceFault.TheVariants as source_fault

-- words of a score ask for no text that is printed
pub no_text : (words : List (List ℕ)) (score : ScoreValues) → IsScore words score → PrintsText words → ⊥
no_text words score is (inl report) = let e = one_of_all words (of_score score) (of_report report.0) is report.1 in cc
no_text words score is (inr (inl ranking)) = let e = one_of_all words (of_score score) (of_rank ranking.0) is ranking.1 in cc
no_text words score is (inr (inr selfrun)) = let e = one_of_all words (of_score score) (of_selfrun selfrun.0) is selfrun.1 in cc

-- where its output alone was written, all else is as it was
pub all_else : (output text : List ℕ) (before after : Outside) → Told (HasFile output text) before.files after.files → after.printed ≡ before.printed → after.warned ≡ before.warned → IsUntouched output before after
all_else output text before after written printed warned = record { files = Told-map before.files after.files (λ old new has. has.others) written; printed = printed; warned = warned }

source_not_done : (f : SourceFault) → source_status f ≡ status.Done → ⊥
source_not_done source_fault.NoMemory same = cc
source_not_done (source_fault.File call file) same = cc
source_not_done (source_fault.Included call path) same = cc
source_not_done (source_fault.Refused refusal) same = cc

points_not_done : (f : PointFault) → points_status f ≡ status.Done → ⊥
points_not_done point_fault.NoMemory same = cc
points_not_done (point_fault.NoState name) same = cc
points_not_done (point_fault.SameState name) same = cc
points_not_done point_fault.TooManyPoints same = cc
points_not_done (point_fault.TooManyStates name) same = cc

databases_not_done : (f : CommandFault) → database_status f ≡ status.Done → ⊥
databases_not_done (database.Files call file) same = cc
databases_not_done database.Print same = cc
databases_not_done database.Memory same = cc
databases_not_done (database.NoDatabase file kind line) same = cc
databases_not_done (database.DesignsDiffer file line first other) same = cc
databases_not_done (database.Point file refusal address) same = cc

-- no fault has status 0
pub fault_not_done : (fault : Fault) → status_of fault ≡ status.Done → ⊥
fault_not_done (Usage usage) same = cc
fault_not_done (Source f) same = source_not_done f same
fault_not_done (NoMachine name) same = cc
fault_not_done (PointsFault p) same = points_not_done p same
fault_not_done (Dump refusal) same = cc
fault_not_done (Contradiction found) same = cc
fault_not_done (FilesFault call file) same = cc
fault_not_done Memory same = cc
fault_not_done (Databases f) same = databases_not_done f same
fault_not_done (Selfrun selfrun_fault.Print) same = cc
fault_not_done (Selfrun selfrun_fault.NoMemory) same = cc
