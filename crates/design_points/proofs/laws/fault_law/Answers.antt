use Rattle.design_points.proofs.Faults.{no_points_fault}
use Rattle.design_points.proofs.laws.fault_law.Goals as goal

pub returns : goal.returns
returns c d ms ns f lawful alike few is = no_points_fault d ms ns f lawful alike few is
