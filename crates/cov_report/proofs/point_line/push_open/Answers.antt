use Rattle.std.proofs.Common.{refl}
use Rattle.std.proofs.lemmas.Result.{IfOk-equal}
use Rattle.cov_report.proofs.Lines.{doubt_written}
use Rattle.cov_report.proofs.point_line.push_open.Goals as goal

pub returns-in_ok-push_doubt-in-Undetermined : goal.returns-in_ok-push_doubt-in-Undetermined
returns-in_ok-push_doubt-in-Undetermined c =
    rw c.in-Undetermined.is (IfOk-equal c.push-in-Undetermined.result _ _ _ c.push-in-Undetermined.ensures.ok
    (doubt_written _ _ _ _ _ _ _ _ c.in_ok-extend_from_slice-in-Undetermined.ensures.ok c.in_ok-push_address-in-Undetermined.ensures c.in_ok-push_doubt-in-Undetermined.ensures refl))
