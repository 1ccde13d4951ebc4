-- The addresses of a table that is collected are those of the points of the design.
use Rattle.std.proofs.Common.{◌≡◌, ◌≢◌, ◌<◌, ◌∙◌, ℕ, List, length, map, get_or, inl, inr, sym, ap, subst, arith}
use Rattle.std.specs.List.{All, Contains}
use Rattle.std.proofs.lemmas.Bool.{cases_order}
use Rattle.std.proofs.lemmas.Cmp.{tied_itself}
use Rattle.std.proofs.lemmas.List.{get_or-map, get_or_default, length-map}
use Rattle.std.proofs.lemmas.Map.Keys.{Less-from_sorted}
use Rattle.coverage_db.specs.Order.{bytes_cmp}
use Rattle.coverage_db.specs.declared.address.Address.{Address}
use Rattle.coverage_db.specs.declared.address.Subject.{Subject}
use Rattle.coverage_db.specs.declared.address.Subject.TheVariants as subject
use Rattle.coverage_db.specs.declared.db.Db.{Db}
use Rattle.coverage_db.specs.declared.db.DbInstance.{DbInstance}
use Rattle.coverage_db.specs.declared.db.DbPoint.{DbPoint}
use Rattle.point_table.specs.cover_points.Listed.{IsPointList, points_of}
use Rattle.point_table.specs.cover_points.Visits.{no_point, point_at}
use Rattle.point_table.specs.cover_points.declared.listing.Points.{Points}
use Rattle.point_table.proofs.cover_points.Members.{in_at, in_contains}
use Rattle.design_model.specs.Design.{Design}
use Rattle.design_model.specs.Lawful.{IsLawfulDesign}
use Rattle.point_table.specs.cover_points.design_machines.state_machines.Drawn.{IsPointWith}
use Rattle.point_table.specs.cover_points.design_machines.state_machines.Machines.{StateMachines}
use Rattle.design_model.specs.declared.point.Point.{Point}
use Rattle.design_model.specs.declared.point.Point.TheVariants.{Line as line_point, Logic as logic_point, Toggle as toggle_point, State as state_point, Arc as arc_point, Word as word_point}
use Rattle.point_table.specs.Addresses.{source_line}
use Rattle.point_table.specs.Collected.{IsCollected}
use Rattle.point_table.specs.Rows.{path_cmp, row_at}
use Rattle.point_table.specs.Verdicts.{no_row}
use Rattle.table_laws.proofs.Cases.{same_operator}
use Rattle.table_laws.proofs.EachRow.{lists_each}
use Rattle.table_laws.proofs.PlaceOrder.{path_total, strictly}
use Rattle.table_laws.specs.Rows.{IsAddressOf, IsSubjectOf, ListsEach, ListsPoints}
use Rattle.table_laws.specs.Written.{IsWritten, IsWrittenMachine}

-- a point has one subject
same_subject : (d : Design) (x : Point) (s t : Subject) → IsSubjectOf d x s → IsSubjectOf d x t → s ≡ t
same_subject d (line_point p n at w) s t h k = h ∙ sym k
same_subject d (logic_point p n at op c) s t h k =
    h.2 ∙ ap (λ o. subject.Logic n (source_line at) o c) (same_operator h.0 k.0 (h.1 ∙ sym k.1)) ∙ sym k.2
same_subject d (toggle_point x i rise) s t h k = h ∙ sym k
same_subject d (state_point i name x state v) s t h k = h ∙ sym k
same_subject d (arc_point i name x from to u v) s t h k = h ∙ sym k
same_subject d (word_point m i write) s t h k = h ∙ sym k

module _ (d : Design) (lawful : IsLawfulDesign d) (sources : List (List ℕ)) (ps : Points) (db : Db) (is : IsCollected d sources ps db) where
  abbrev rows : List DbInstance
  rows = map (row_at d.instances) is.order

  -- a later row is another one
  apart : (i j : ℕ) → i < j → j < length is.order → row_at d.instances (get_or is.order i 0) ≢ row_at d.instances (get_or is.order j 0)
  apart i j less l e =
      let p = get_or is.order i 0 in
      let q = get_or is.order j 0 in
      let sorted = Less-from_sorted (path_cmp d.instances) is.order i j 0 (strictly d.instances lawful.instance_paths is.order is.path_order) less l in
      let tied : path_cmp d.instances p q ≡ path_cmp d.instances p p = ap (λ (r : DbInstance). bytes_cmp (row_at d.instances p).path r.path) (sym e) in
      let same = tied_itself (path_total d.instances lawful.instance_paths is.order is.path_order) p in
      absurd (cc (sorted, tied, same))

  -- the same row is at one place
  one_place : (i j : ℕ) (e : DbInstance) → i < length rows → j < length rows → get_or rows i e ≡ get_or rows j e → i ≡ j
  one_place i j e l m same =
      let many = length-map is.order (row_at d.instances) in
      let li : i < length is.order = omega (arith, l, many) in
      let lj : j < length is.order = omega (arith, m, many) in
      let rows_same = sym (get_or-map (row_at d.instances) is.order i 0 e li) ∙ same ∙ get_or-map (row_at d.instances) is.order j 0 e lj in
      elim (cases_order i j) [
        | inl equal ↦ equal
        | inr (inl less) ↦ absurd (apart i j less lj rows_same)
        | inr (inr more) ↦ absurd (apart j i more li (sym rows_same))
      ]

  -- a point has one address
  pub one_address : (x : Point) (a b : Address) → IsAddressOf d rows x a → IsAddressOf d rows x b → a ≡ b
  one_address x a b h k =
      let make : ℕ → Subject → Address = λ (i : ℕ). λ (s : Subject). record { instance = i; subject = s } in
      let place = one_place a.instance b.instance (row_at d.instances 0) h.place k.place (h.instance ∙ sym k.instance) in
      ap (λ i. make i a.subject) place ∙ ap (make b.instance) (same_subject d x a.subject b.subject h.subject k.subject)

  module _ (machines : StateMachines) (listed : IsPointList d machines ps) (each : ListsEach d ps db) where
    there : (a : Address) → Contains (map (λ (p : DbPoint). p.address) db.points) a → (x : Point) × IsPointWith d machines x × IsAddressOf d db.instances x a
    there a c =
        let k = c.0 in
        let l : k < length db.points = omega (arith, c.1, length-map db.points (λ (p : DbPoint). p.address)) in
        let x = point_at ps k in
        let own : (get_or db.points k no_row).address ≡ a = sym (get_or-map (λ (p : DbPoint). p.address) db.points k no_row a l) ∙ c.2 in
        (x, (listed.members x).0 (in_at (points_of ps) k no_point (omega (arith, l, each.count))), subst (IsAddressOf d db.instances x) own (each.each k l))

    back : (a : Address) → (x : Point) × IsPointWith d machines x × IsAddressOf d db.instances x a → Contains (map (λ (p : DbPoint). p.address) db.points) a
    back a h =
        let x = h.0 in
        let c = in_contains x (points_of ps) ((listed.members x).1 h.1) in
        let k = c.0 in
        let l : k < length db.points = omega (arith, c.1, each.count) in
        let point_is : point_at ps k ≡ x = get_or_default (points_of ps) k no_point x c.1 ∙ c.2 in
        let row = subst (λ (y : Point). IsAddressOf d db.instances y (get_or db.points k no_row).address) point_is (each.each k l) in
        let own = one_address x (get_or db.points k no_row).address a (subst (λ rs. IsAddressOf d rs x (get_or db.points k no_row).address) is.instances row) (subst (λ rs. IsAddressOf d rs x a) is.instances h.2) in
        (k, omega (arith, l, length-map db.points (λ (p : DbPoint). p.address)), get_or-map (λ (p : DbPoint). p.address) db.points k no_row a l ∙ own)

pub lists_points : (d : Design) (sources : List (List ℕ)) (machines : StateMachines) (ps : Points) (db : Db) → IsLawfulDesign d → IsWritten sources d → IsPointList d machines ps → All IsWrittenMachine ps.machines.items → IsCollected d sources ps db → ListsPoints d machines db
lists_points d sources machines ps db lawful written listed named is =
    let each = lists_each d sources ps db lawful written (machines, listed) named is in
    λ a. (there d lawful sources ps db is machines listed each a, back d lawful sources ps db is machines listed each a)
