use Rattle.run_marks.proofs.Found.{no_node_is, node_is}
use Rattle.run_marks.proofs.spots.is_node_at.Goals as goal

pub returns-in-Some : goal.returns-in-Some
returns-in-Some c k at =
    node_is c.args.points.now k c.args.process c.args.node c.args.case c.args.place at c.in-Some.point.now c.as_slice.result.now c.as_slice.ensures.value c.in-Some.ensures.lookup.3.0 c.in-Some.ensures.lookup.3.1 c.is_case.result c.is_case.ensures

pub returns-in-None : goal.returns-in-None
returns-in-None c k at = no_node_is c.args.points.now k c.args.process c.args.node c.args.case c.args.place at c.as_slice.result.now c.as_slice.ensures.value c.in-None.ensures.lookup.3
