use Rattle.std.proofs.Common.{Some, subst}
use Rattle.std.proofs.lemmas.Result.{IfErr-weaker, err_from_is_err_and, on_err_weaker, on_ok_weaker}
use Rattle.command_line.specs.PointWords.{point_values}
use Rattle.cov_host.specs.Outside.{HasFile, Told}
use Rattle.db_tools.specs.Excluded.{excluded_text}
use Rattle.database_commands.proofs.Reporting.{OnErr-intro, gives_since, leaves_all, leaves_front}
use Rattle.database_commands.specs.Excluding.{IsChangedText}
use Rattle.database_commands.proofs.Excluding.{good_points, points_write_fault}
use Rattle.database_commands.proofs.points.run_points.Goals as goal

pub returns-in_err-excluded-clause-fault : goal.returns-in_err-excluded-clause-fault
returns-in_err-excluded-clause-fault g c =
    let points = point_values c.args.words.now in
    let before = g.H.Host.outside c.args.host.now in
    let after = g.H.Host.outside c.change_points.new.host in
    let fault = err_from_is_err_and c.from_residual.result c.from_residual.ensures.1 in
    rw (fault.1, fault.2) c.in_err-excluded.ensures.fault

pub returns-in_err-excluded-clause-complete : goal.returns-in_err-excluded-clause-complete
returns-in_err-excluded-clause-complete g c =
    let points = point_values c.args.words.now in
    let before = g.H.Host.outside c.args.host.now in
    let after = g.H.Host.outside c.change_points.new.host in
    let fault = err_from_is_err_and c.from_residual.result c.from_residual.ensures.1 in
    rw (fault.1, fault.2) (λ good none. good_points c.args.alloc c.args.change points before after good none _ c.in_err-excluded.ensures.fault)

pub returns-in-Ok-clause-done : goal.returns-in-Ok-clause-done
returns-in-Ok-clause-done g c =
    let points = point_values c.args.words.now in
    let before = g.H.Host.outside c.args.host.now in
    let now = g.H.Host.outside c.change_points.new.host in
    let after = g.H.Host.outside c.write.new.host in
    let e = c.in_ok-excluded.excluded in
    on_ok_weaker c.write.result (λ written. record {
      e = e;
      is = c.in_ok-excluded.ensures.changed;
      written = gives_since (Some points.output) (excluded_text e) before now after c.change_points.ensures.effects (subst (λ text. Told (HasFile points.output text) now.files after.files) c.in-Ok.ensures written);
    }) c.write.ensures.written

pub returns-in-Ok-clause-fault : goal.returns-in-Ok-clause-fault
returns-in-Ok-clause-fault g c =
    let points = point_values c.args.words.now in
    let before = g.H.Host.outside c.args.host.now in
    let now = g.H.Host.outside c.change_points.new.host in
    let after = g.H.Host.outside c.write.new.host in
    IfErr-weaker c.write.result _ _ (points_write_fault c.args.change points before now after (c.in_ok-excluded.excluded, c.in_ok-excluded.ensures.changed) c.change_points.ensures.effects c.write.ensures.counts) c.write.ensures.fault

pub returns-in_err-excluded-clause-left : goal.returns-in_err-excluded-clause-left
returns-in_err-excluded-clause-left g c =
    let points = point_values c.args.words.now in
    let before = g.H.Host.outside c.args.host.now in
    let after = g.H.Host.outside c.change_points.new.host in
    OnErr-intro c.from_residual.result (leaves_all before after (IsChangedText c.args.change points before) (Some points.output) c.change_points.ensures.effects)

pub returns-in-Ok-clause-left : goal.returns-in-Ok-clause-left
returns-in-Ok-clause-left g c =
    let points = point_values c.args.words.now in
    let before = g.H.Host.outside c.args.host.now in
    let now = g.H.Host.outside c.change_points.new.host in
    let after = g.H.Host.outside c.write.new.host in
    on_err_weaker c.write.result (leaves_front before now after (IsChangedText c.args.change points before) (Some points.output) c.in-Ok.text (c.in_ok-excluded.excluded, c.in_ok-excluded.ensures.changed, c.in-Ok.ensures) c.change_points.ensures.effects) c.write.ensures.front

pub returns-in-Ok-clause-complete : goal.returns-in-Ok-clause-complete
returns-in-Ok-clause-complete g c =
    let points = point_values c.args.words.now in
    let before = g.H.Host.outside c.args.host.now in
    let now = g.H.Host.outside c.change_points.new.host in
    let after = g.H.Host.outside c.write.new.host in
    IfErr-weaker c.write.result _ _ (λ fault is good none. good_points c.args.alloc c.args.change points before after good none fault (points_write_fault c.args.change points before now after (c.in_ok-excluded.excluded, c.in_ok-excluded.ensures.changed) c.change_points.ensures.effects c.write.ensures.counts fault is)) c.write.ensures.fault
