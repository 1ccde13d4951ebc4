use Rattle.std.proofs.Common.{◌∙◌, ap}
use Rattle.std.proofs.lemmas.Result.{IfOk-weaker}
use Rattle.cov_report.specs.Report.{report_text}
use Rattle.coverage_db.specs.declared.db.Db.{Db}
use Rattle.database_commands.proofs.report.visible_report.Goals as goal

pub returns : goal.returns
returns c = IfOk-weaker c.report.result _ _ (λ text is. is ∙ ap (λ (db : Db). report_text db c.args.options.now) c.in_ok-table.ensures.value) c.report.ensures
