use Rattle.run_marks.proofs.Listed.{none_listed}
use Rattle.run_marks.proofs.Reports.{none_reported}
use Rattle.run_marks.proofs.laws.start_law.Goals as goal

pub returns-clause-marks : goal.returns-clause-marks
returns-clause-marks c s m marks is = none_reported s m marks is

pub returns-clause-written : goal.returns-clause-written
returns-clause-written c w = none_listed w
