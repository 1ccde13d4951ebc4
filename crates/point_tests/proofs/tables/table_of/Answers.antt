use Rattle.design_model.specs.View.{design_view}
use Rattle.point_tests.proofs.Marked.{none_marked}
use Rattle.point_tests.proofs.tables.table_of.Goals as goal

pub table_with-requires-clause-things : goal.table_with-requires-clause-things
table_with-requires-clause-things c = none_marked (design_view c.args.design.now) _ c.in-Ok.ensures.markings
