-- The list of the points of a design.
use Rattle.std.specs.Prelude.{◌≢◌, ◌↔◌, ◌<◌, ◌++◌, List, length, map}
use Rattle.std.specs.List.Sorted.{IsStrictlySortedBy}
use Rattle.design_model.specs.Design.{Design, In}
use Rattle.design_machines.specs.Drawn.{AreAllMachines}
use Rattle.design_machines.specs.Machines.{machine_at}
use Rattle.design_machines.specs.state_machines.Drawn.{IsPointWith}
use Rattle.design_machines.specs.state_machines.Machines.{StateMachines}
use Rattle.design_machines.specs.declared.machine.Machine.{Machine}
use Rattle.design_model.specs.declared.point.Point.{Point}
use Rattle.cover_points.specs.MachinePoints.{machine_cmp, machine_view}
use Rattle.cover_points.specs.declared.machine_point.MachinePoint.{MachinePoint}
use Rattle.cover_points.specs.declared.machine_point.MachinePoint.TheVariants.{State, Arc}
use Rattle.cover_points.specs.Order.{index_cmp, line_cmp, node_cmp}
use Rattle.cover_points.specs.Texts.{IsOwner, line_view, node_view}
use Rattle.cover_points.specs.Things.{toggle_view, word_view}
use Rattle.cover_points.specs.declared.listing.Points.{Points}
use Rattle.text_points.specs.declared.points.LinePoint.{LinePoint}
use Rattle.text_points.specs.declared.points.NodePoint.{NodePoint}

-- the points in their order: by kind first
abbrev pub points_of : Points → List Point
points_of ps =
    map line_view ps.lines.items ++ map node_view ps.nodes.items ++ map toggle_view ps.toggles.items ++ map (machine_view ps.machines.items) ps.states.items ++ map word_view ps.words.items

-- the point is a state of one of the machines, or an arc between two different states of one, the first of which arcs leave
abbrev pub IsPlaced : List Machine → MachinePoint → Type 0
IsPlaced xs (State k s) = (k < length xs) × (s < length (machine_at xs k).names)
IsPlaced xs (Arc k i j) = (k < length xs) × (i < length (machine_at xs k).names) × (j < length (machine_at xs k).names) × (i ≢ j) × (i < (machine_at xs k).leaving)

-- exactly the points of the design with these machines, each under the instance of its process or by the place of its machine, and within each kind each before the next one
pub record IsPointList (d : Design) (ms : StateMachines) (ps : Points) : Type 0 where
  pub members : (x : Point) → In x (points_of ps) ↔ IsPointWith d ms x
  pub machines : AreAllMachines d ms ps.machines.items
  pub placed : (p : MachinePoint) → In p ps.states.items → IsPlaced ps.machines.items p
  pub line_owners : (x : LinePoint) → In x ps.lines.items → IsOwner d x.process x.instance
  pub node_owners : (x : NodePoint) → In x ps.nodes.items → IsOwner d x.process x.instance
  pub lines : IsStrictlySortedBy (line_cmp d.instances) ps.lines.items
  pub nodes : IsStrictlySortedBy (node_cmp d.instances) ps.nodes.items
  pub toggles : IsStrictlySortedBy (index_cmp d) ps.toggles.items
  pub states : IsStrictlySortedBy (machine_cmp d.instances ps.machines.items) ps.states.items
  pub words : IsStrictlySortedBy (index_cmp d) ps.words.items
