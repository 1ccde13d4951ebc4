-- A report that was given, and why one was not.
use Rattle.std.proofs.Common.{◌∙◌, ℕ, List, Option, None, Some, Result, Ok, Err, sym, subst, inl, inr}
use Rattle.std.specs.Prelude.{OnErr}
use Rattle.command_line.specs.DatabaseWords.{ReportValues}
use Rattle.cov_host.specs.Outside.{Appends, AppendsPrefix, Files as HostFiles, HasFile, Outside, SameFiles, Told}
use Rattle.whole_files.specs.Effects.{CountsUp, HoldsFront, OnlyReads}
use Rattle.whole_files.proofs.EffectLemmas.{IsCounted-earlier, Told-trans}
use Rattle.database_commands.specs.Excluding.{HoldsSomeExclusion, IsExclusionFault, IsNoExclusion}
use Rattle.database_commands.specs.Reporting.{GivesFront, GivesText, IsGiveFault, IsReportFault, LeavesFront}
use Rattle.whole_files.specs.Refusals.{IsRefused}
use Rattle.database_commands.specs.declared.fault.CommandFault.{CommandFault}
use Rattle.database_commands.specs.declared.fault.CommandFault.TheVariants.{Files, Print, Memory, NoDatabase, DesignsDiffer, Point}
use Rattle.database_commands.proofs.Reading.{refused_before}

-- a report was not given of a file that holds a table
pub report_give_fault : (report : ReportValues) (before now after : Outside) → HoldsSomeExclusion before report.file → OnlyReads before now → CountsUp now after → (fault : CommandFault) → IsGiveFault report.output now after fault → IsReportFault report before after fault
report_give_fault report before now after holds effects later (Files call file) is = inr (is.0, is.1, refused_before before now after call file.now effects later is.2, holds)
report_give_fault report before now after holds effects later Print is = (is.0, IsCounted-earlier before.faults now.faults after.faults effects.counts.faults later.faults is.1, holds)
report_give_fault report before now after holds effects later Memory is = tt
report_give_fault report before now after holds effects later (NoDatabase file kind line) is = absurd is
report_give_fault report before now after holds effects later (DesignsDiffer file line first other) is = absurd is
report_give_fault report before now after holds effects later (Point file fault address) is = absurd is

-- the file of a report was not read
pub report_table_fault : (report : ReportValues) (before after : Outside) (fault : CommandFault) → IsExclusionFault report.file before after fault → IsReportFault report before after fault
report_table_fault report before after (Files call file) is = inl (is.1, is.0, subst (λ name. IsRefused call name before after) (sym is.0) is.2)
report_table_fault report before after Print is = absurd is
report_table_fault report before after Memory is = tt
report_table_fault report before after (NoDatabase file kind line) is = (is.0, subst (λ name. IsNoExclusion name before kind line) (sym is.0) is.1)
report_table_fault report before after (DesignsDiffer file line first other) is = absurd is
report_table_fault report before after (Point file fault address) is = absurd is

written_since : (name text : List ℕ) (before now after : Option HostFiles) → Told SameFiles before now → Told (HasFile name text) now after → Told (HasFile name text) before after
written_since name text before now after same written =
    Told-trans {R = SameFiles} {S = HasFile name text} {T = HasFile name text} before now after (λ x y z kept has. record { named = has.named; others = λ other apart. has.others other apart ∙ kept other }) same written

front_since : (name text : List ℕ) (before now after : Option HostFiles) → Told SameFiles before now → Told (HoldsFront name text) now after → Told (HoldsFront name text) before after
front_since name text before now after same front =
    Told-trans {R = SameFiles} {S = HoldsFront name text} {T = HoldsFront name text} before now after
    (λ x y z kept holds. elim holds [ inl as_before ↦ inl (λ other. as_before other ∙ kept other) | inr has ↦ inr (has.0, record { named = has.1.named; others = λ other apart. has.1.others other apart ∙ kept other }) ]) same front

-- what was given of a text after reading was given since before
pub gives_front_since : (output : Option (List ℕ)) (text : List ℕ) (before now after : Outside) → OnlyReads before now → GivesFront output text now after → GivesFront output text before after
gives_front_since None text before now after effects gives = subst (λ printed. Told (AppendsPrefix text) printed after.printed) effects.streams.printed gives
gives_front_since (Some name) text before now after effects gives = front_since name text before.files now.files after.files effects.files gives

-- what holds anyway holds after a refusal
pub OnErr-intro : {T E P : Type 0} (result : Result T E) → P → OnErr result P
OnErr-intro (Ok value) holds = tt
OnErr-intro (Err fault) holds = holds

-- what only reads leaves all
pub leaves_all : (before after : Outside) (IsText : List ℕ → Type 0) (output : Option (List ℕ)) → OnlyReads before after → LeavesFront IsText output before after
leaves_all before after IsText output effects = inl (effects.files, effects.streams.printed)

-- what was given after reading leaves a front
pub leaves_front : (before now after : Outside) (IsText : List ℕ → Type 0) (output : Option (List ℕ)) (text : List ℕ) → IsText text → OnlyReads before now → GivesFront output text now after → LeavesFront IsText output before after
leaves_front before now after IsText output text is effects gives = inr (text, is, gives_front_since output text before now after effects gives)

-- what was given after reading was given since before
pub gives_since : (output : Option (List ℕ)) (text : List ℕ) (before now after : Outside) → OnlyReads before now → GivesText output text now after → GivesText output text before after
gives_since None text before now after effects gives = subst (λ printed. Told (Appends text) printed after.printed) effects.streams.printed gives
gives_since (Some name) text before now after effects gives = written_since name text before.files now.files after.files effects.files gives
