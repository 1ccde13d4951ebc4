-- The points of a design with the state machines that are named, and how many they are.
use Rattle.std.specs.Prelude.{◌<◌, ◌≤◌, List, length}
use Rattle.cover_points.specs.Listed.{IsPointList, points_of}
use Rattle.cover_points.specs.Visits.{AreApart, AreOnce, ArePlaced}
use Rattle.cover_points.specs.declared.listing.Points.{Points}
use Rattle.cover_points.specs.declared.listing.TheConstants.{MOST_POINTS}
use Rattle.design_model.specs.Design.{Design}
use Rattle.cover_points.specs.design_machines.state_machines.Machines.{StateMachines}

-- the list of the design's points is not longer than the limit
abbrev pub HasFewPoints : Design → StateMachines → Type 0
HasFewPoints d ms = (ps : Points) × IsPointList d ms ps × (length (points_of ps) ≤ MOST_POINTS)

-- it is longer
abbrev pub HasManyPoints : Design → StateMachines → Type 0
HasManyPoints d ms = (ps : Points) × IsPointList d ms ps × (MOST_POINTS < length (points_of ps))

-- all points of the design, of which marks can be made
pub record AreAllPoints (d : Design) (ms : StateMachines) (ps : Points) : Type 0 where
  pub listed : IsPointList d ms ps
  pub apart : AreApart ps
  pub once : AreOnce ps
  pub placed : ArePlaced ps
  pub few : length (points_of ps) ≤ MOST_POINTS
