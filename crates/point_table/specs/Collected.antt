-- The table of a design from the points of a list.
use Rattle.std.specs.Prelude.{◌≡◌, ℕ, List, map}
use Rattle.coverage_db.specs.declared.db.Db.{Db}
use Rattle.cover_points.specs.Listed.{IsPointList}
use Rattle.cover_points.specs.declared.listing.Points.{Points}
use Rattle.design_model.specs.Design.{Design}
use Rattle.cover_points.specs.design_machines.state_machines.Machines.{StateMachines}
use Rattle.point_table.specs.Addresses.{addresses_of, missed_points}
use Rattle.point_table.specs.Rows.{ArePlaces, IsPathOrder, row_at}

-- the points are those of the design, with some machines
abbrev pub AreListed : Design → Points → Type 0
AreListed d ps = (ms : StateMachines) × IsPointList d ms ps

-- the table of the design from these sources: its instances in the order of their paths, and these points in their order
pub record IsCollected (d : Design) (sources : List (List ℕ)) (ps : Points) (db : Db) : Type 0 where
  pub top : db.top ≡ d.top
  pub names : db.sources ≡ sources
  pub order : List ℕ
  pub path_order : IsPathOrder d.instances order
  pub instances : db.instances ≡ map (row_at d.instances) order
  pub places : List ℕ
  pub are_places : ArePlaces order places
  pub points : addresses_of db.points ≡ addresses_of (missed_points d places ps)
