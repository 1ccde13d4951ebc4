use Rattle.std.proofs.lemmas.Result.{err_from_is_err_and}
use Rattle.command_line.specs.PointWords.{point_values}
use Rattle.database_commands.proofs.Excluding.{points_change_fault, points_read_fault}
use Rattle.database_commands.proofs.points.change_points.Goals as goal

pub returns-in_err-excluded-clause-fault : goal.returns-in_err-excluded-clause-fault
returns-in_err-excluded-clause-fault g c =
    let points = point_values c.args.words.now in
    let before = g.H.Host.outside c.args.host.now in
    let after = g.H.Host.outside c.read_exclusion.new.host in
    let fault = err_from_is_err_and c.from_residual.result c.from_residual.ensures.1 in
    rw (fault.1, fault.2) (points_read_fault c.args.change points before after _ c.in_err-excluded.ensures.fault)

pub returns-in_err-change_all-clause-fault : goal.returns-in_err-change_all-clause-fault
returns-in_err-change_all-clause-fault g c =
    let points = point_values c.args.words.now in
    let before = g.H.Host.outside c.args.host.now in
    let after = g.H.Host.outside c.read_exclusion.new.host in
    let fault = err_from_is_err_and c.from_residual-in_err-change_all.result c.from_residual-in_err-change_all.ensures.1 in
    rw (fault.1, fault.2) (points_change_fault c.args.change points before after c.in_ok-excluded.excluded c.in_ok-excluded.ensures.excluded _ c.in_err-change_all.ensures.fault)

pub returns-clause-changed : goal.returns-clause-changed
returns-clause-changed g c = record { first = c.in_ok-excluded.excluded; holds = c.in_ok-excluded.ensures.excluded; changed = c.in_ok-change_all.ensures.changed }
