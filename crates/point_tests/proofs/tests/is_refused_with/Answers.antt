use Rattle.design_model.specs.View.{design_view}
use Rattle.state_machines.proofs.Drawable.{none_drawable}
use Rattle.point_tests.proofs.tests.is_refused_with.Goals as goal

pub list-requires-clause-drawable : goal.list-requires-clause-drawable
list-requires-clause-drawable c = none_drawable (design_view c.args.design.now) c.args.states.now c.requires.named
