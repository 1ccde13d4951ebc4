use Rattle.run_marks.proofs.Found.{line_is, no_line_is}
use Rattle.run_marks.proofs.spots.is_line.Goals as goal

pub returns-in-Some : goal.returns-in-Some
returns-in-Some c =
    line_is c.args.points.now c.args.number c.args.process c.args.line c.in-Some.point.now c.as_slice.result.now c.as_slice.ensures.value c.in-Some.ensures.lookup.3.0 c.in-Some.ensures.lookup.3.1 c.is_statement.result c.is_statement.ensures

pub returns-in-None : goal.returns-in-None
returns-in-None c = no_line_is c.args.points.now c.args.number c.args.process c.args.line c.as_slice.result.now c.as_slice.ensures.value c.in-None.ensures.lookup.3
