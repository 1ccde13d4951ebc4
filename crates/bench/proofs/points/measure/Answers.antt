use Rattle.std.proofs.Common.{ap}
use Rattle.design_model.specs.View.{design_view}
use Rattle.state_machines.specs.Machines.{StateMachines}
use Rattle.state_machines.proofs.Drawable.{none_drawable}
use Rattle.bench.proofs.points.measure.Goals as goal

pub list-requires-clause-drawable : goal.list-requires-clause-drawable
list-requires-clause-drawable g c = none_drawable (design_view c.args.design.now) c.new-states.result (ap (λ (ms : StateMachines). ms.drawn) c.new-states.ensures)
