use Rattle.std.proofs.Common.{◌∙◌, ap, subst}
use Rattle.std.proofs.lemmas.Result.{IfErr-weaker, err_from_is_err_and, on_err_weaker, on_ok_weaker}
use Rattle.cov_report.specs.Report.{report_text}
use Rattle.db_tools.specs.Excluded.{visible}
use Rattle.database_commands.specs.Reporting.{GivesText, IsReportedText, options_of}
use Rattle.command_line.specs.DatabaseWords.{report_values}
use Rattle.database_commands.proofs.Complete.{good_report}
use Rattle.database_commands.proofs.Reporting.{OnErr-intro, gives_since, leaves_all, leaves_front, report_give_fault, report_table_fault}
use Rattle.database_commands.proofs.report.run_report.Goals as goal

pub returns-in_err-excluded-clause-fault : goal.returns-in_err-excluded-clause-fault
returns-in_err-excluded-clause-fault g c =
    let report = report_values c.args.words.now in
    let before = g.H.Host.outside c.args.host.now in
    let after = g.H.Host.outside c.read_exclusion.new.host in
    let fault = err_from_is_err_and c.from_residual.result c.from_residual.ensures.1 in
    rw (fault.1, fault.2) (report_table_fault report before after _ c.in_err-excluded.ensures.fault)

pub returns-in_err-excluded-clause-complete : goal.returns-in_err-excluded-clause-complete
returns-in_err-excluded-clause-complete g c =
    let report = report_values c.args.words.now in
    let before = g.H.Host.outside c.args.host.now in
    let after = g.H.Host.outside c.read_exclusion.new.host in
    let fault = err_from_is_err_and c.from_residual.result c.from_residual.ensures.1 in
    rw (fault.1, fault.2) (λ good none. good_report report before after good none _ (report_table_fault report before after _ c.in_err-excluded.ensures.fault))

pub returns-in-Ok-clause-done : goal.returns-in-Ok-clause-done
returns-in-Ok-clause-done g c =
    let report = report_values c.args.words.now in
    let before = g.H.Host.outside c.args.host.now in
    let now = g.H.Host.outside c.read_exclusion.new.host in
    let after = g.H.Host.outside c.give.new.host in
    let e = c.in_ok-excluded.excluded in
    let text_is = c.in-Ok.ensures ∙ ap (report_text (visible e)) c.options_of.ensures in
    on_ok_weaker c.give.result (λ gives. record {
      e = e;
      holds = c.in_ok-excluded.ensures.excluded;
      gives = gives_since report.output (report_text (visible e) (options_of report)) before now after c.read_exclusion.ensures.effects (subst (λ text. GivesText report.output text now after) text_is gives);
    }) c.give.ensures.gives

pub returns-in-Ok-clause-fault : goal.returns-in-Ok-clause-fault
returns-in-Ok-clause-fault g c =
    let report = report_values c.args.words.now in
    let before = g.H.Host.outside c.args.host.now in
    let now = g.H.Host.outside c.read_exclusion.new.host in
    let after = g.H.Host.outside c.give.new.host in
    IfErr-weaker c.give.result _ _ (report_give_fault report before now after (c.in_ok-excluded.excluded, c.in_ok-excluded.ensures.excluded) c.read_exclusion.ensures.effects c.give.ensures.counts) c.give.ensures.fault

pub returns-in_err-excluded-clause-left : goal.returns-in_err-excluded-clause-left
returns-in_err-excluded-clause-left g c =
    let report = report_values c.args.words.now in
    let before = g.H.Host.outside c.args.host.now in
    let after = g.H.Host.outside c.read_exclusion.new.host in
    OnErr-intro c.from_residual.result (leaves_all before after (IsReportedText report before) report.output c.read_exclusion.ensures.effects)

pub returns-in-Ok-clause-left : goal.returns-in-Ok-clause-left
returns-in-Ok-clause-left g c =
    let report = report_values c.args.words.now in
    let before = g.H.Host.outside c.args.host.now in
    let now = g.H.Host.outside c.read_exclusion.new.host in
    let after = g.H.Host.outside c.give.new.host in
    let text_is = c.in-Ok.ensures ∙ ap (report_text (visible c.in_ok-excluded.excluded)) c.options_of.ensures in
    on_err_weaker c.give.result (leaves_front before now after (IsReportedText report before) report.output c.in-Ok.text (c.in_ok-excluded.excluded, c.in_ok-excluded.ensures.excluded, text_is) c.read_exclusion.ensures.effects) c.give.ensures.front

pub returns-in-Ok-clause-complete : goal.returns-in-Ok-clause-complete
returns-in-Ok-clause-complete g c =
    let report = report_values c.args.words.now in
    let before = g.H.Host.outside c.args.host.now in
    let now = g.H.Host.outside c.read_exclusion.new.host in
    let after = g.H.Host.outside c.give.new.host in
    IfErr-weaker c.give.result _ _ (λ fault is good none. good_report report before after good none fault (report_give_fault report before now after (c.in_ok-excluded.excluded, c.in_ok-excluded.ensures.excluded) c.read_exclusion.ensures.effects c.give.ensures.counts fault is)) c.give.ensures.fault
