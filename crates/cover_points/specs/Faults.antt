-- Why the points of a design are not listed.
use Rattle.std.specs.Prelude.{◌<◌, List, length, ⊤}
use Rattle.design_machines.specs.Faults.{IsStateFault}
use Rattle.design_machines.specs.declared.fault.StateFault.{StateFault}
use Rattle.design_machines.specs.declared.fault.StateFault.TheVariants as machines
use Rattle.design_model.specs.Design.{Design}
use Rattle.design_machines.specs.state_machines.Machines.{StateMachines}
use Rattle.cover_points.specs.Listed.{IsPointList, points_of}
use Rattle.cover_points.specs.declared.fault.PointFault.{PointFault}
use Rattle.cover_points.specs.declared.fault.PointFault.TheVariants as points
use Rattle.cover_points.specs.declared.listing.Points.{Points}
use Rattle.cover_points.specs.declared.listing.TheConstants.{MOST_POINTS}

-- a fault of machines as a fault of points
abbrev pub point_fault : StateFault → PointFault
point_fault machines.NoMemory = points.NoMemory
point_fault (machines.NoState name) = points.NoState name
point_fault (machines.SameState name) = points.SameState name
point_fault (machines.TooManyStates name) = points.TooManyStates name

-- a fault in the machines that are named, or too many points
abbrev pub IsPointFault : Design → StateMachines → PointFault → Type 0
IsPointFault d ms points.NoMemory = ⊤
IsPointFault d ms (points.NoState name) = IsStateFault d ms.named (machines.NoState name)
IsPointFault d ms (points.SameState name) = IsStateFault d ms.named (machines.SameState name)
IsPointFault d ms (points.TooManyStates name) = IsStateFault d ms.named (machines.TooManyStates name)
IsPointFault d ms points.TooManyPoints = (ps : Points) × IsPointList d ms ps × (MOST_POINTS < length (points_of ps))
