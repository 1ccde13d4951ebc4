-- What a `report` command writes or prints.
use Rattle.std.specs.Prelude.{◌≡◌, ◌⊎◌, ℕ, List, Option, Some, None}
use Rattle.cov_host.specs.Outside.{Appends, AppendsPrefix, Files as HostFiles, HasFile, IsCounted, KeepsFiles, Outside, SameFiles, Told}
use Rattle.cov_report.specs.Report.{report_text}
use Rattle.cov_report.specs.declared.options.Letters.{Letters}
use Rattle.cov_report.specs.declared.options.Level.{Level}
use Rattle.cov_report.specs.declared.options.Level.TheVariants as level
use Rattle.cov_report.specs.declared.options.Options.{Options}
use Rattle.command_line.specs.DatabaseWords.{ReportValues}
use Rattle.command_line.specs.declared.report_level.ReportLevel.{ReportLevel}
use Rattle.command_line.specs.declared.report_level.ReportLevel.TheVariants.{Summary, Detailed, Verbose}
use Rattle.command_line.specs.declared.report_metrics.ReportMetrics.{ReportMetrics}
use Rattle.whole_files.specs.Effects.{HoldsFront}
use Rattle.whole_files.specs.Refusals.{IsRefused}
use Rattle.whole_files.specs.declared.call.Call.{Call}
use Rattle.db_tools.specs.Excluded.{Exclusion, visible}
use Rattle.database_commands.specs.Excluding.{HoldsExclusion, HoldsSomeExclusion, IsNoExclusion}
use Rattle.database_commands.specs.Faults.{IsReading, IsWriting}
use Rattle.database_commands.specs.Files.{KeepsOthers}
use Rattle.database_commands.specs.declared.fault.CommandFault.{CommandFault}
use Rattle.database_commands.specs.declared.fault.CommandFault.TheVariants.{Files, Print, Memory, NoDatabase, DesignsDiffer, Point}

abbrev pub level_of : ReportLevel → Level
level_of Summary = level.Summary
level_of Detailed = level.Detailed
level_of Verbose = level.Verbose

abbrev pub letters_of : ReportMetrics → Letters
letters_of metrics = record { line = metrics.line; logic = metrics.logic; toggle = metrics.toggle; fsm = metrics.fsm; memory = metrics.memory }

-- what the words ask for
abbrev pub options_of : ReportValues → Options
options_of report = record { level = level_of report.level; letters = letters_of report.metrics; by_instance = report.by_instance; covered = report.covered }

-- the file has the text and nothing was printed; or the text was printed, where no file is named
abbrev pub GivesText : Option (List ℕ) → List ℕ → Outside → Outside → Type 0
GivesText None text before after = Told (Appends text) before.printed after.printed
GivesText (Some name) text before after = Told (HasFile name text) before.files after.files

-- the file has a front of the text, and every other file is as before; or a front of it was printed, where no file is named
abbrev pub GivesFront : Option (List ℕ) → List ℕ → Outside → Outside → Type 0
GivesFront None text before after = Told (AppendsPrefix text) before.printed after.printed
GivesFront (Some name) text before after = Told (HoldsFront name text) before.files after.files

-- every file is as before, and nothing was printed
abbrev pub LeavesAll : Outside → Outside → Type 0
LeavesAll before after = KeepsFiles before after × (after.printed ≡ before.printed)

-- what a command leaves that did not give its text: all as before; or a front of its text, which is made before the output is opened
abbrev pub LeavesFront : (List ℕ → Type 0) → Option (List ℕ) → Outside → Outside → Type 0
LeavesFront IsText output before after = LeavesAll before after ⊎ ((text : List ℕ) × IsText text × GivesFront output text before after)

-- every file but the one that is named is as before
abbrev pub KeepsUnlessNamed : Option (List ℕ) → HostFiles → HostFiles → Type 0
KeepsUnlessNamed None old new = SameFiles old new
KeepsUnlessNamed (Some name) old new = KeepsOthers name old new

-- nothing was printed, where a file is named
abbrev pub PrintsIfUnnamed : Option (List ℕ) → Outside → Outside → Type 0
PrintsIfUnnamed None before after = Unit {0}
PrintsIfUnnamed (Some name) before after = after.printed ≡ before.printed

-- the text is the report of the table that the file holds, without its excluded points
abbrev pub IsReportedText : ReportValues → Outside → List ℕ → Type 0
IsReportedText report before text = (e : Exclusion) × HoldsExclusion before report.file e × (text ≡ report_text (visible e) (options_of report))

-- the file holds a table, and the report of its points that are not excluded was written or printed
pub record IsReportedIn (report : ReportValues) (before after : Outside) : Type 0 where
  pub e : Exclusion
  pub holds : HoldsExclusion before report.file e
  pub gives : GivesText report.output (report_text (visible e) (options_of report)) before after

-- a call on the file of a report, or on its output where the file holds a table, gave nothing
abbrev pub IsReportCall : ReportValues → Outside → Outside → Call → List ℕ → Type 0
IsReportCall report before after call file =
    (IsReading call × (file ≡ report.file) × IsRefused call file before after)
    ⊎ (IsWriting call × (report.output ≡ Some file) × IsRefused call file before after × HoldsSomeExclusion before report.file)

-- why a report was not given
abbrev pub IsReportFault : ReportValues → Outside → Outside → CommandFault → Type 0
IsReportFault report before after (Files call file) = IsReportCall report before after call file.now
IsReportFault report before after Print = (report.output ≡ None) × IsCounted before.faults after.faults × HoldsSomeExclusion before report.file
IsReportFault report before after Memory = Unit {0}
IsReportFault report before after (NoDatabase file kind line) = (file.now ≡ report.file) × IsNoExclusion file.now before kind line
IsReportFault report before after (DesignsDiffer file line first other) = ⊥
IsReportFault report before after (Point file fault address) = ⊥

-- the text of a report was neither written nor printed
abbrev pub IsGiveFault : Option (List ℕ) → Outside → Outside → CommandFault → Type 0
IsGiveFault output before after (Files call file) = IsWriting call × (output ≡ Some file.now) × IsRefused call file.now before after
IsGiveFault output before after Print = (output ≡ None) × IsCounted before.faults after.faults
IsGiveFault output before after Memory = Unit {0}
IsGiveFault output before after other = ⊥
