use Rattle.run_marks.proofs.Example.{reports}
use Rattle.run_marks.proofs.laws.report_example.Goals as goal

pub returns : goal.returns
returns c ps m one marks = reports ps m one marks
