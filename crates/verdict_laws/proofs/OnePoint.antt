-- A row of a table names one point of the design.
use Rattle.std.proofs.Common.{◌≡◌, ◌<◌, ◌∙◌, ℕ, List, length, map, get_or, sym, ap, subst, arith}
use Rattle.std.specs.List.{All}
use Rattle.std.proofs.lemmas.List.{get_or_default}
use Rattle.coverage_db.specs.Table.{IsTable}
use Rattle.coverage_db.specs.declared.db.Db.{Db}
use Rattle.mark_laws.specs.cover_points.Listed.{IsPointList, points_of}
use Rattle.mark_laws.specs.cover_points.Visits.{no_point, point_at}
use Rattle.mark_laws.specs.cover_points.declared.listing.Points.{Points}
use Rattle.mark_laws.proofs.cover_points.Members.{in_contains}
use Rattle.design_model.specs.Design.{Design}
use Rattle.design_model.specs.Lawful.{IsLawfulDesign}
use Rattle.mark_laws.specs.cover_points.design_machines.state_machines.Drawn.{IsPointWith}
use Rattle.mark_laws.specs.cover_points.design_machines.state_machines.Machines.{StateMachines}
use Rattle.design_model.specs.declared.point.Point.{Point}
use Rattle.table_laws.specs.point_table.Collected.{IsCollected}
use Rattle.table_laws.specs.point_table.Rows.{row_at}
use Rattle.table_laws.specs.point_table.Verdicts.{no_row}
use Rattle.table_laws.proofs.EachRow.{lists_each}
use Rattle.table_laws.proofs.Listing.{one_address}
use Rattle.table_laws.specs.Rows.{IsAddressOf, ListsEach}
use Rattle.table_laws.specs.Written.{IsWritten, IsWrittenMachine}
use Rattle.verdict_laws.proofs.AddressKeys.{one_row}

module _ (d : Design) (sources : List (List ℕ)) (ms : StateMachines) (ps : Points) (db : Db) (lawful : IsLawfulDesign d) (written : IsWritten sources d) (listed : IsPointList d ms ps) (named : All IsWrittenMachine ps.machines.items) (is : IsCollected d sources ps db) (table : IsTable db) where
  pub each : ListsEach d ps db
  each = lists_each d sources ps db lawful written (ms, listed) named is

  -- the address of a point in the order of the instances
  abbrev moved : (x : Point) (k : ℕ) → IsAddressOf d db.instances x (get_or db.points k no_row).address → IsAddressOf d (map (row_at d.instances) is.order) x (get_or db.points k no_row).address
  moved x k h = subst (λ rs. IsAddressOf d rs x (get_or db.points k no_row).address) is.instances h

  pub one_point : (x : Point) (k : ℕ) → IsPointWith d ms x → k < length db.points → IsAddressOf d db.instances x (get_or db.points k no_row).address → x ≡ point_at ps k
  one_point x k is_point l h =
      let c = in_contains x (points_of ps) ((listed.members x).1 is_point) in
      let j = c.0 in
      let point_is : point_at ps j ≡ x = get_or_default (points_of ps) j no_point x c.1 ∙ c.2 in
      let less : j < length db.points = omega (arith, c.1, each.count) in
      let row = subst (λ (y : Point). IsAddressOf d db.instances y (get_or db.points j no_row).address) point_is (each.each j less) in
      let same = one_address d lawful sources ps db is x (get_or db.points j no_row).address (get_or db.points k no_row).address (moved x j row) (moved x k h) in
      let equal = one_row db.points j k table.points_rise less l same in
      sym point_is ∙ ap (point_at ps) equal
