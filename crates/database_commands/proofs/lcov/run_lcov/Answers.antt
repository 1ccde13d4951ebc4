use Rattle.std.proofs.Common.{Some, subst}
use Rattle.std.proofs.lemmas.Result.{IfErr-weaker, err_from_is_err_and, on_err_weaker, on_ok_weaker}
use Rattle.command_line.specs.LcovWords.{lcov_values}
use Rattle.cov_host.specs.Outside.{HasFile, Told}
use Rattle.lcov_text.specs.Tracefile.{tracefile_text}
use Rattle.database_commands.proofs.Reporting.{OnErr-intro, gives_since, leaves_all, leaves_front}
use Rattle.database_commands.specs.Tracing.{IsTracedText}
use Rattle.database_commands.proofs.Tracing.{good_lcov, lcov_table_fault, lcov_write_fault}
use Rattle.database_commands.proofs.lcov.run_lcov.Goals as goal

pub returns-in_err-table-clause-fault : goal.returns-in_err-table-clause-fault
returns-in_err-table-clause-fault g c =
    let lcov = lcov_values c.args.words.now in
    let before = g.H.Host.outside c.args.host.now in
    let after = g.H.Host.outside c.read_table.new.host in
    let fault = err_from_is_err_and c.from_residual.result c.from_residual.ensures.1 in
    rw (fault.1, fault.2) (lcov_table_fault lcov before after _ c.in_err-table.ensures.fault)

pub returns-in_err-table-clause-complete : goal.returns-in_err-table-clause-complete
returns-in_err-table-clause-complete g c =
    let lcov = lcov_values c.args.words.now in
    let before = g.H.Host.outside c.args.host.now in
    let after = g.H.Host.outside c.read_table.new.host in
    let fault = err_from_is_err_and c.from_residual.result c.from_residual.ensures.1 in
    rw (fault.1, fault.2) (λ good none. good_lcov lcov before after good none _ (lcov_table_fault lcov before after _ c.in_err-table.ensures.fault))

pub returns-in-Ok-clause-done : goal.returns-in-Ok-clause-done
returns-in-Ok-clause-done g c =
    let lcov = lcov_values c.args.words.now in
    let before = g.H.Host.outside c.args.host.now in
    let now = g.H.Host.outside c.read_table.new.host in
    let after = g.H.Host.outside c.write.new.host in
    let table = c.in_ok-table.table in
    on_ok_weaker c.write.result (λ written. record {
      table = table;
      holds = c.in_ok-table.ensures.table;
      written = gives_since (Some lcov.output) (tracefile_text table) before now after c.read_table.ensures.effects (subst (λ text. Told (HasFile lcov.output text) now.files after.files) c.in-Ok.ensures written);
    }) c.write.ensures.written

pub returns-in-Ok-clause-fault : goal.returns-in-Ok-clause-fault
returns-in-Ok-clause-fault g c =
    let lcov = lcov_values c.args.words.now in
    let before = g.H.Host.outside c.args.host.now in
    let now = g.H.Host.outside c.read_table.new.host in
    let after = g.H.Host.outside c.write.new.host in
    IfErr-weaker c.write.result _ _ (lcov_write_fault lcov before now after (c.in_ok-table.table, c.in_ok-table.ensures.table) c.read_table.ensures.effects c.write.ensures.counts) c.write.ensures.fault

pub returns-in_err-table-clause-left : goal.returns-in_err-table-clause-left
returns-in_err-table-clause-left g c =
    let lcov = lcov_values c.args.words.now in
    let before = g.H.Host.outside c.args.host.now in
    let after = g.H.Host.outside c.read_table.new.host in
    OnErr-intro c.from_residual.result (leaves_all before after (IsTracedText lcov before) (Some lcov.output) c.read_table.ensures.effects)

pub returns-in-Ok-clause-left : goal.returns-in-Ok-clause-left
returns-in-Ok-clause-left g c =
    let lcov = lcov_values c.args.words.now in
    let before = g.H.Host.outside c.args.host.now in
    let now = g.H.Host.outside c.read_table.new.host in
    let after = g.H.Host.outside c.write.new.host in
    on_err_weaker c.write.result (leaves_front before now after (IsTracedText lcov before) (Some lcov.output) c.in-Ok.text (c.in_ok-table.table, c.in_ok-table.ensures.table, c.in-Ok.ensures) c.read_table.ensures.effects) c.write.ensures.front

pub returns-in-Ok-clause-complete : goal.returns-in-Ok-clause-complete
returns-in-Ok-clause-complete g c =
    let lcov = lcov_values c.args.words.now in
    let before = g.H.Host.outside c.args.host.now in
    let now = g.H.Host.outside c.read_table.new.host in
    let after = g.H.Host.outside c.write.new.host in
    IfErr-weaker c.write.result _ _ (λ fault is good none. good_lcov lcov before after good none fault (lcov_write_fault lcov before now after (c.in_ok-table.table, c.in_ok-table.ensures.table) c.read_table.ensures.effects c.write.ensures.counts fault is)) c.write.ensures.fault
