-- What is visited is open.
use Rattle.event_machine.specs.Cell.{Values}
use Rattle.four_state.specs.declared.bit.Bit.{Bit}
use Rattle.design_model.specs.Tree.{Stmt}
use Rattle.design_model.specs.Design.{Design, In}
use Rattle.design_model.specs.Execution.{Visit, execution}
use Rattle.design_model.specs.Reads.{Agrees, PartialMap}
use Rattle.design_model.specs.Points.{Point}
use Rattle.design_model.specs.Open.{IsOpen, IsVisitOf}

-- Visited law: a point that an execution visits, on a state that agrees with the map, is open from the map.
abbrev pub VisitedOpenLaw : Design → PartialMap → Type 0
VisitedOpenLaw d K = (b : Stmt) (v : Values Bit) → Agrees d K v → (x : Point) (y : Visit) → IsVisitOf x y → In y (execution d b v).visits → IsOpen d K b x
