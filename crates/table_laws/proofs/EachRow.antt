-- Each row of a table that is collected names the point with its number.
use Rattle.std.proofs.Common.{◌≡◌, ◌<◌, ◌++◌, ◌∙◌, ℕ, zero, suc, List, [], ◌∷◌, length, map, get_or, inl, inr, refl, sym, ap, subst, arith}
use Rattle.std.specs.List.{All, AllZip}
use Rattle.std.proofs.lemmas.List.{get_or-map, length-map}
use Rattle.coverage_db.specs.declared.address.Address.{Address}
use Rattle.coverage_db.specs.declared.db.Db.{Db}
use Rattle.coverage_db.specs.declared.db.DbInstance.{DbInstance}
use Rattle.coverage_db.specs.declared.db.DbPoint.{DbPoint}
use Rattle.point_table.specs.cover_points.Listed.{IsPointList, points_of}
use Rattle.point_table.specs.cover_points.MachinePoints.{machine_view}
use Rattle.point_table.specs.cover_points.Texts.{line_view, node_view}
use Rattle.point_table.specs.cover_points.Things.{toggle_view, word_view}
use Rattle.point_table.specs.cover_points.Visits.{no_point}
use Rattle.point_table.specs.cover_points.declared.listing.Points.{Points}
use Rattle.point_table.specs.cover_points.declared.machine_point.MachinePoint.{MachinePoint}
use Rattle.point_table.specs.cover_points.declared.machine_point.MachinePoint.TheVariants.{Arc, State}
use Rattle.point_table.specs.cover_points.declared.points.IndexPoint.{IndexPoint}
use Rattle.point_table.specs.design_machines.Machines.{machine_at}
use Rattle.design_model.specs.Design.{Design, In, memory_at, process_at, signal_at}
use Rattle.design_model.specs.Lawful.{IsLawfulDesign, instance_of}
use Rattle.point_table.specs.cover_points.design_machines.state_machines.Machines.{StateMachines}
use Rattle.point_table.specs.Addresses.{addresses_of, line_address, machine_address, missed_points, node_address, toggle_address, word_address}
use Rattle.point_table.specs.Collected.{AreListed, IsCollected}
use Rattle.point_table.specs.Rows.{ArePlaces, IsPathOrder, place_at, row_at}
use Rattle.point_table.specs.Verdicts.{no_row}
use Rattle.point_table.proofs.Lists.{order_length}
use Rattle.table_laws.proofs.Subjects.{line_is, machine_is, node_is, toggle_is, word_is}
use Rattle.table_laws.proofs.Tables.{addresses_is, all_addresses, points_number}
use Rattle.table_laws.specs.Rows.{IsAddressOf, ListsEach}
use Rattle.table_laws.specs.Written.{IsWritten, IsWrittenMachine}
use Rattle.point_table.specs.text_points.declared.points.LinePoint.{LinePoint}
use Rattle.point_table.specs.text_points.declared.points.NodePoint.{NodePoint}

zip_map : {X A B : Type 0} (R : A → B → Type 0) (f : X → A) (g : X → B) (xs : List X) → ((x : X) → In x xs → R (f x) (g x)) → AllZip R (map f xs) (map g xs)
zip_map R f g [] h = tt
zip_map R f g (x ∷ xs) h = (h x (inl refl), zip_map R f g xs (λ y i. h y (inr i)))

zip_append : {A B : Type 0} (R : A → B → Type 0) (xs us : List A) (ys vs : List B) → AllZip R xs ys → AllZip R us vs → AllZip R (xs ++ us) (ys ++ vs)
zip_append R [] us [] vs h k = k
zip_append R [] us (y ∷ ys) vs h k = absurd h
zip_append R (x ∷ xs) us [] vs h k = absurd h
zip_append R (x ∷ xs) us (y ∷ ys) vs h k = (h.0, zip_append R xs us ys vs h.1 k)

zip_at : {A B : Type 0} (R : A → B → Type 0) (xs : List A) (ys : List B) (k : ℕ) (d : A) (e : B) → AllZip R xs ys → k < length xs → R (get_or xs k d) (get_or ys k e)
zip_at R [] ys k d e h l = absurd (omega (arith, l))
zip_at R (x ∷ xs) [] k d e h l = absurd h
zip_at R (x ∷ xs) (y ∷ ys) zero d e h l = h.0
zip_at R (x ∷ xs) (y ∷ ys) (suc k) d e h l = zip_at R xs ys k d e h.1 (omega (arith, l))

module _ (d : Design) (lawful : IsLawfulDesign d) (sources : List (List ℕ)) (written : IsWritten sources d) (order places : List ℕ) (in_order : IsPathOrder d.instances order) (are : ArePlaces order places) (machines : StateMachines) (ps : Points) (listed : IsPointList d machines ps) (named : All IsWrittenMachine ps.machines.items) where
  abbrev rows : List DbInstance
  rows = map (row_at d.instances) order

  -- the row of an instance is at its place
  stands : (i j : ℕ) (a : Address) → a.instance ≡ place_at places i → i ≡ j → i < length d.instances → (a.instance < length rows) × (get_or rows a.instance (row_at d.instances 0) ≡ row_at d.instances j)
  stands i j a e f l =
      let p = are i (omega (arith, l, order_length (length d.instances) order in_order.permutation)) in
      let there : get_or rows (place_at places i) (row_at d.instances 0) ≡ row_at d.instances i = get_or-map (row_at d.instances) order (place_at places i) 0 (row_at d.instances 0) p.0 ∙ ap (row_at d.instances) p.1 in
      (omega (arith, e, p.0, length-map order (row_at d.instances)), ap (λ k. get_or rows k (row_at d.instances 0)) e ∙ there ∙ ap (row_at d.instances) f)

  line_row : (x : LinePoint) → In x ps.lines.items → IsAddressOf d rows (line_view x) (line_address places x)
  line_row x h =
      let n = stands x.instance (instance_of (process_at d x.process)) (line_address places x) refl (listed.line_owners x h) (line_is d lawful sources written machines ps listed named places x h).0 in
      record { place = n.0; instance = n.1; subject = refl }

  node_row : (x : NodePoint) → In x ps.nodes.items → IsAddressOf d rows (node_view x) (node_address places x)
  node_row x h =
      let n = stands x.instance (instance_of (process_at d x.process)) (node_address places x) refl (listed.node_owners x h) (node_is d lawful sources written machines ps listed named places x h).0 in
      record { place = n.0; instance = n.1; subject = (x.operator, refl, refl) }

  toggle_row : (x : IndexPoint) → In x ps.toggles.items → IsAddressOf d rows (toggle_view x) (toggle_address d places x)
  toggle_row x h =
      let i = (signal_at d x.thing).instance in
      let n = stands i i (toggle_address d places x) refl refl (toggle_is d lawful sources written machines ps listed named places x h).0 in
      record { place = n.0; instance = n.1; subject = refl }

  machine_row : (x : MachinePoint) → In x ps.states.items → IsAddressOf d rows (machine_view ps.machines.items x) (machine_address ps.machines.items places x)
  machine_row (State k s) h =
      let i = (machine_at ps.machines.items k).instance in
      let n = stands i i (machine_address ps.machines.items places (State k s)) refl refl (machine_is d lawful sources written machines ps listed named places (State k s) h).0 in
      record { place = n.0; instance = n.1; subject = refl }
  machine_row (Arc k u w) h =
      let i = (machine_at ps.machines.items k).instance in
      let n = stands i i (machine_address ps.machines.items places (Arc k u w)) refl refl (machine_is d lawful sources written machines ps listed named places (Arc k u w) h).0 in
      record { place = n.0; instance = n.1; subject = refl }

  word_row : (x : IndexPoint) → In x ps.words.items → IsAddressOf d rows (word_view x) (word_address d places x)
  word_row x h =
      let i = (memory_at d x.thing).instance in
      let n = stands i i (word_address d places x) refl refl (word_is d lawful sources written machines ps listed named places x h).0 in
      record { place = n.0; instance = n.1; subject = refl }

  -- each point of the list is named by the address at its place
  zipped : AllZip (IsAddressOf d rows) (points_of ps) (all_addresses d lawful sources written order places in_order are machines ps listed named)
  zipped =
      let R = IsAddressOf d rows in
      zip_append R _ _ _ _ (zip_append R _ _ _ _ (zip_append R _ _ _ _ (zip_append R _ _ _ _ (zip_map R line_view (line_address places) ps.lines.items line_row) (zip_map R node_view (node_address places) ps.nodes.items node_row))
      (zip_map R toggle_view (toggle_address d places) ps.toggles.items toggle_row))
      (zip_map R (machine_view ps.machines.items) (machine_address ps.machines.items places) ps.states.items machine_row))
      (zip_map R word_view (word_address d places) ps.words.items word_row)

  pub each_row : (points : List DbPoint) → addresses_of points ≡ addresses_of (missed_points d places ps) → (k : ℕ) → k < length points → IsAddressOf d rows (get_or (points_of ps) k no_point) (get_or points k no_row).address
  each_row points is k l =
      let many = points_number d lawful sources written order places in_order are machines ps listed named points is in
      let own = zip_at (IsAddressOf d rows) (points_of ps) _ k no_point no_row.address zipped (omega (arith, l, many)) in
      let same = is ∙ addresses_is d lawful sources written order places in_order are machines ps listed named in
      subst (IsAddressOf d rows (get_or (points_of ps) k no_point)) (sym (ap (λ xs. get_or xs k no_row.address) same) ∙ get_or-map (λ (p : DbPoint). p.address) points k no_row no_row.address l) own

pub lists_each : (d : Design) (sources : List (List ℕ)) (ps : Points) (db : Db) → IsLawfulDesign d → IsWritten sources d → AreListed d ps → All IsWrittenMachine ps.machines.items → IsCollected d sources ps db → ListsEach d ps db
lists_each d sources ps db lawful written listed named is =
    record {
      count = points_number d lawful sources written is.order is.places is.path_order is.are_places listed.0 ps listed.1 named db.points is.points;
      each = λ k l. subst (λ rs. IsAddressOf d rs (get_or (points_of ps) k no_point) (get_or db.points k no_row).address) (sym is.instances) (each_row d lawful sources written is.order is.places is.path_order is.are_places listed.0 ps listed.1 named db.points is.points k l);
    }
