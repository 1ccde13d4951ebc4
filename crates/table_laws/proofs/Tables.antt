-- What is collected of a lawful, written design is a table.
use Rattle.std.proofs.Common.{◌≡◌, ◌<◌, ◌≤◌, ◌++◌, ◌∙◌, ℕ, suc, true, false, List, length, map, get_or, inl, inr, refl, sym, ap, subst, arith}
use Rattle.std.specs.Prelude.{IsTrue, nat_lt}
use Rattle.std.specs.declared.cmp.Ordering.TheVariants.{Less}
use Rattle.std.specs.List.{All, Contains}
use Rattle.std.specs.Ordering.{nat_cmp, ordering_then}
use Rattle.std.proofs.lemmas.Bool.{cases_lt}
use Rattle.std.proofs.lemmas.Bool.Decides.{nat_tests}
use Rattle.std.proofs.lemmas.List.{get_or-map, length-map, map-append}
use Rattle.std.proofs.lemmas.List.Elements.{All-append, All-from_get_or, All-get_or, All-map}
use Rattle.std.proofs.lemmas.Simd.{map-map}
use Rattle.coverage_db.specs.Order.{address_cmp, bytes_cmp, letter_rank, rule_cmp}
use Rattle.coverage_db.specs.Table.{AreWindows, IsIdentifier, IsInstance, IsSubject, IsTable, IsThingIn, Rises, is_file_name}
use Rattle.coverage_db.specs.Table.{IsVerdict as IsTextVerdict}
use Rattle.coverage_db.specs.declared.address.Address.{Address}
use Rattle.coverage_db.specs.declared.db.Db.{Db}
use Rattle.coverage_db.specs.declared.db.DbInstance.{DbInstance}
use Rattle.coverage_db.specs.declared.db.DbPoint.{DbPoint}
use Rattle.point_table.specs.cover_points.Listed.{IsPointList, points_of}
use Rattle.point_table.specs.cover_points.MachinePoints.{machine_cmp}
use Rattle.point_table.specs.cover_points.Order.{index_cmp, line_cmp, node_cmp}
use Rattle.point_table.specs.cover_points.declared.listing.Points.{Points}
use Rattle.point_table.specs.cover_points.declared.listing.TheConstants.{MOST_POINTS}
use Rattle.point_table.specs.cover_points.declared.machine_point.MachinePoint.{MachinePoint}
use Rattle.point_table.specs.cover_points.declared.machine_point.MachinePoint.TheVariants.{Arc, State}
use Rattle.point_table.proofs.cover_points.Members.{in_append, in_at, in_contains, in_map, in_map_back}
use Rattle.point_table.specs.design_machines.declared.machine.Machine.{Machine}
use Rattle.design_model.specs.Design.{Design, In, is_memory, is_number, memory_at, no_instance, path_in, path_of, signal_at}
use Rattle.design_model.specs.Lawful.{IsLawfulDesign}
use Rattle.point_table.specs.cover_points.design_machines.state_machines.Machines.{StateMachines}
use Rattle.point_marks.specs.declared.verdict.Verdict.{Verdict}
use Rattle.point_marks.specs.declared.verdict.Verdict.TheVariants.{Hit, Missed, Undetermined}
use Rattle.point_table.specs.Addresses.{addresses_of, line_address, machine_address, missed, missed_points, node_address, toggle_address, word_address}
use Rattle.point_table.specs.Collected.{AreListed, IsCollected}
use Rattle.point_table.specs.Rows.{ArePlaces, IsPathOrder, row_at}
use Rattle.point_table.specs.Verdicts.{AreShown, no_row, row_verdict}
use Rattle.point_table.proofs.Lists.{order_below, order_has, order_length}
use Rattle.point_table.proofs.Members.{as_many_rows}
use Rattle.table_laws.proofs.AddressOrder.{AreInOrder, by_line, by_machine, by_node, by_toggle, by_word}
use Rattle.table_laws.proofs.PlaceOrder.{by_place, place_below, rows_rise}
use Rattle.table_laws.proofs.Rising.{rises_append, rises_map, rises_unmap}
use Rattle.table_laws.proofs.Subjects.{line_is, machine_is, memory_instance, memory_name, memory_thing, node_is, signal_instance, signal_name, signal_thing, toggle_is, toggle_of, toggles_compare, word_is, word_of}
use Rattle.table_laws.specs.Written.{IsWritten, IsWrittenMachine, IsWrittenVerdict}

abbrev rank : Address → ℕ
rank a = letter_rank a.subject

before : (a b : Address) → rank a < rank b → address_cmp a b ≡ Less
before a b l =
    let e : nat_cmp (rank a) (rank b) ≡ Less = grind (arith, nat_tests, l) in
    ap (λ o. ordering_then o (ordering_then (nat_cmp a.instance b.instance) (rule_cmp a.subject b.subject))) e

-- addresses that rise, of letters below a number
record RiseBelow (k : ℕ) (xs : List Address) : Type 0 where
  pub rise : Rises address_cmp xs
  pub below : (a : Address) → In a xs → rank a < k

joined : (k : ℕ) (xs ys : List Address) → RiseBelow k xs → Rises address_cmp ys → ((b : Address) → In b ys → rank b ≡ k) → RiseBelow (suc k) (xs ++ ys)
joined k xs ys h rise is =
    record {
      rise = rises_append address_cmp xs ys h.rise rise (λ a b i j. before a b (omega (arith, h.below a i, is b j)));
      below = λ a i. elim (in_append a xs ys i) [ inl l ↦ omega (arith, h.below a l) | inr r ↦ omega (arith, is a r) ];
    }

-- the letter of each mapped item
ranked : {X : Type 0} (f : X → Address) (k : ℕ) (xs : List X) → ((x : X) → rank (f x) ≡ k) → (a : Address) → In a (map f xs) → rank a ≡ k
ranked f k xs h a i = let x = in_map f a xs i in subst (λ b. rank b ≡ k) x.2 (h x.0)

machine_rank_is : (xs : List Machine) (places : List ℕ) (x : MachinePoint) → rank (machine_address xs places x) ≡ 3
machine_rank_is xs places (State k s) = refl
machine_rank_is xs places (Arc k i j) = refl

all_in : {X : Type 0} (P : X → Type 0) (xs : List X) → ((x : X) → In x xs → P x) → All P xs
all_in P xs h = λ k d l. h (get_or xs k d) (in_at xs k d l)

all_unmap : {X Y : Type 0} (P : Y → Type 0) (f : X → Y) (xs : List X) → All P (map f xs) → All (λ x. P (f x)) xs
all_unmap P f xs h = λ k d l. subst P (get_or-map f xs k d (f d) l) (h k (f d) (rw length-map l))

-- an address of a table with these numbers of instances and sources
abbrev IsAddress : ℕ → ℕ → Address → Type 0
IsAddress instances sources a = (a.instance < instances) × IsSubject sources a.subject

module _ (d : Design) (lawful : IsLawfulDesign d) (sources : List (List ℕ)) (written : IsWritten sources d) (order places : List ℕ) (in_order : IsPathOrder d.instances order) (are : ArePlaces order places) where
  same : AreInOrder d.instances places
  same = by_place d.instances lawful.instance_paths order in_order places are

  many : length order ≡ length d.instances
  many = order_length (length d.instances) order in_order.permutation

  module _ (machines : StateMachines) (ps : Points) (listed : IsPointList d machines ps) (named : All IsWrittenMachine ps.machines.items) where
    abbrev la : List Address
    la = map (line_address places) ps.lines.items

    abbrev na : List Address
    na = map (node_address places) ps.nodes.items

    abbrev ta : List Address
    ta = map (toggle_address d places) ps.toggles.items

    abbrev sa : List Address
    sa = map (machine_address ps.machines.items places) ps.states.items

    abbrev wa : List Address
    wa = map (word_address d places) ps.words.items

    abbrev pub all_addresses : List Address
    all_addresses = la ++ na ++ ta ++ sa ++ wa

    lines_rise : Rises address_cmp la
    lines_rise =
        rises_map (line_cmp d.instances) address_cmp (line_address places) ps.lines.items listed.lines (λ x y i j l.
        by_line d places same x y (line_is d lawful sources written machines ps listed named places x i).0 (line_is d lawful sources written machines ps listed named places y j).0 ∙ l)

    nodes_rise : Rises address_cmp na
    nodes_rise =
        rises_map (node_cmp d.instances) address_cmp (node_address places) ps.nodes.items listed.nodes (λ x y i j l.
        by_node d places same x y (node_is d lawful sources written machines ps listed named places x i).0 (node_is d lawful sources written machines ps listed named places y j).0 ∙ l)

    toggles_rise : Rises address_cmp ta
    toggles_rise =
        rises_map (index_cmp d) address_cmp (toggle_address d places) ps.toggles.items listed.toggles (λ x y i j l.
        let p = (toggle_of d lawful sources written machines ps listed named places x i).0 in
        let q = (toggle_of d lawful sources written machines ps listed named places y j).0 in
        let a = signal_thing d lawful sources written x.thing p in
        let b = signal_thing d lawful sources written y.thing q in
        by_toggle d places same x y (signal_instance d lawful sources written x.thing p) (signal_instance d lawful sources written y.thing q) a.0 b.0 a.1 b.1 (toggles_compare d lawful sources written machines ps listed named places x y i j) ∙ l)

    states_rise : Rises address_cmp sa
    states_rise =
        rises_map (machine_cmp d.instances ps.machines.items) address_cmp (machine_address ps.machines.items places) ps.states.items listed.states (λ x y i j l.
        by_machine d places same ps.machines.items x y (machine_is d lawful sources written machines ps listed named places x i).0 (machine_is d lawful sources written machines ps listed named places y j).0 ∙ l)

    words_rise : Rises address_cmp wa
    words_rise =
        rises_map (index_cmp d) address_cmp (word_address d places) ps.words.items listed.words (λ x y i j l.
        let p = (word_of d lawful sources written machines ps listed named places x i).0 in
        let q = (word_of d lawful sources written machines ps listed named places y j).0 in
        let a = memory_thing d lawful sources written x.thing p in
        let b = memory_thing d lawful sources written y.thing q in
        by_word d places same x y (memory_instance d lawful sources written x.thing p) (memory_instance d lawful sources written y.thing q) a.0 b.0 a.1 b.1 ∙ l)

    addresses_rise : Rises address_cmp all_addresses
    addresses_rise =
        let one : RiseBelow 1 la = record { rise = lines_rise; below = λ a i. let e = ranked (line_address places) 0 ps.lines.items (λ x. refl) a i in omega (arith, e) } in
        let two = joined 1 la na one nodes_rise (ranked (node_address places) 1 ps.nodes.items (λ x. refl)) in
        let three = joined 2 (la ++ na) ta two toggles_rise (ranked (toggle_address d places) 2 ps.toggles.items (λ x. refl)) in
        let four = joined 3 (la ++ na ++ ta) sa three states_rise (ranked (machine_address ps.machines.items places) 3 ps.states.items (machine_rank_is ps.machines.items places)) in
        (joined 4 (la ++ na ++ ta ++ sa) wa four words_rise (ranked (word_address d places) 4 ps.words.items (λ x. refl))).rise

    abbrev Is : Address → Type 0
    Is = IsAddress (length order) (length sources)

    below : (i : ℕ) → i < length d.instances → get_or places i 0 < length order
    below i l = place_below d.instances lawful.instance_paths order in_order places are i l

    machine_address_is : (x : MachinePoint) → In x ps.states.items → Is (machine_address ps.machines.items places x)
    machine_address_is (State k s) i = let h = machine_is d lawful sources written machines ps listed named places (State k s) i in (below _ h.0, h.1)
    machine_address_is (Arc k u w) i = let h = machine_is d lawful sources written machines ps listed named places (Arc k u w) i in (below _ h.0, h.1)

    each_is : {X : Type 0} (f : X → Address) (xs : List X) → ((x : X) → In x xs → Is (f x)) → All Is (map f xs)
    each_is f xs h = All-map Is f xs (all_in (λ x. Is (f x)) xs h)

    addresses_are : All Is all_addresses
    addresses_are =
        let a = each_is (line_address places) ps.lines.items (λ x i. let h = line_is d lawful sources written machines ps listed named places x i in (below x.instance h.0, h.1)) in
        let b = each_is (node_address places) ps.nodes.items (λ x i. let h = node_is d lawful sources written machines ps listed named places x i in (below x.instance h.0, h.1)) in
        let c = each_is (toggle_address d places) ps.toggles.items (λ x i. let h = toggle_is d lawful sources written machines ps listed named places x i in (below (signal_at d x.thing).instance h.0, h.1)) in
        let e = each_is (machine_address ps.machines.items places) ps.states.items machine_address_is in
        let f = each_is (word_address d places) ps.words.items (λ x i. let h = word_is d lawful sources written machines ps listed named places x i in (below (memory_at d x.thing).instance h.0, h.1)) in
        All-append Is (la ++ na ++ ta ++ sa) wa (All-append Is (la ++ na ++ ta) sa (All-append Is (la ++ na) ta (All-append Is la na a b) c) e) f

    seen : {X : Type 0} (f : X → Address) (xs : List X) → addresses_of (map (λ x. missed (f x)) xs) ≡ map f xs
    seen f xs = map-map (λ (p : DbPoint). p.address) (λ x. missed (f x)) xs

    pair : (xs ys : List DbPoint) (us vs : List Address) → addresses_of xs ≡ us → addresses_of ys ≡ vs → addresses_of (xs ++ ys) ≡ us ++ vs
    pair xs ys us vs e f = map-append (λ (p : DbPoint). p.address) xs ys ∙ ap (λ ws. ws ++ addresses_of ys) e ∙ ap (λ ws. us ++ ws) f

    -- the points are listed by their addresses
    pub addresses_is : addresses_of (missed_points d places ps) ≡ all_addresses
    addresses_is =
        pair _ _ _ _ (pair _ _ _ _ (pair _ _ _ _ (pair _ _ _ _ (seen (line_address places) ps.lines.items) (seen (node_address places) ps.nodes.items)) (seen (toggle_address d places) ps.toggles.items)) (seen (machine_address ps.machines.items places) ps.states.items)) (seen (word_address d places) ps.words.items)

    module _ (points : List DbPoint) (is : addresses_of points ≡ addresses_of (missed_points d places ps)) where
      pub points_rise : Rises (λ (a b : DbPoint). address_cmp a.address b.address) points
      points_rise = rises_unmap address_cmp (λ (p : DbPoint). p.address) points (subst (Rises address_cmp) (sym (is ∙ addresses_is)) addresses_rise)

      pub points_are : All (λ (p : DbPoint). Is p.address) points
      points_are = all_unmap Is (λ (p : DbPoint). p.address) points (subst (All Is) (sym (is ∙ addresses_is)) addresses_are)

      pub points_number : length points ≡ length (points_of ps)
      points_number = sym (length-map points (λ (p : DbPoint). p.address)) ∙ ap length is ∙ length-map (missed_points d places ps) (λ (p : DbPoint). p.address) ∙ as_many_rows d places ps

  abbrev rows : List DbInstance
  rows = map (row_at d.instances) order

  row_in : (i : ℕ) → i < length d.instances → Contains rows (row_at d.instances i)
  row_in i l =
      let k = order_has (length d.instances) order in_order.permutation i l in
      in_contains (row_at d.instances i) rows (in_map_back (row_at d.instances) i order (subst (λ j. In j order) k.2 (in_at order k.0 0 k.1)))

  rows_are : All IsInstance rows
  rows_are =
      All-map IsInstance (row_at d.instances) order (All-from_get_or (λ i. IsInstance (row_at d.instances i)) order 0 (λ k l.
      let i = get_or order k 0 in
      let h = written.instances (get_or d.instances i no_instance) (in_at d.instances i no_instance (order_below (length d.instances) order in_order.permutation k l)) in
      record { path = h.0; module_name = h.1 }))

  thing_named : (i : ℕ) (name path : List ℕ) → i < length d.instances → IsIdentifier name → path ≡ path_in d i name → IsThingIn rows path
  thing_named i name path l h e = (row_at d.instances i, name, row_in i l, h, e)

  thing_in : (x : ℕ) → is_number d x ≡ true → IsThingIn rows (path_of d x)
  thing_in x h = elim (cases_lt x (length d.signals)) [
    | inl l ↦
        let t : nat_lt x (length d.signals) ≡ true = grind (arith, nat_tests, l) in
        thing_named (signal_at d x).instance (signal_at d x).name (path_of d x) (signal_instance d lawful sources written x l) (signal_name d lawful sources written x l) (rw t refl)
    | inr m ↦
        let t : nat_lt x (length d.signals) ≡ false = grind (arith, nat_tests, m) in
        let is : is_memory d x ≡ true = grind (arith, nat_tests, m, h) in
        thing_named (memory_at d x).instance (memory_at d x).name (path_of d x) (memory_instance d lawful sources written x is) (memory_name d lawful sources written x is) (rw t refl)
  ]

  verdict_is : (v : Verdict) → IsWrittenVerdict d v → IsTextVerdict rows (row_verdict d v)
  verdict_is Hit h = tt
  verdict_is Missed h = tt
  verdict_is (Undetermined y) h = (h.1, thing_in y.thing h.0)

  verdicts_are : (verdicts : List Verdict) → All (IsWrittenVerdict d) verdicts → (points : List DbPoint) → AreShown d verdicts points → All (λ (p : DbPoint). IsTextVerdict rows p.verdict) points
  verdicts_are verdicts all points h =
      All-from_get_or (λ (p : DbPoint). IsTextVerdict rows p.verdict) points no_row (λ k l.
      subst (IsTextVerdict rows) (sym (h.each k l)) (verdict_is (get_or verdicts k Missed) (All-get_or (IsWrittenVerdict d) verdicts k Missed (omega (arith, l, h.count)) all)))

pub collected_is : (d : Design) (sources : List (List ℕ)) (ps : Points) (verdicts : List Verdict) (db : Db) → IsLawfulDesign d → IsWritten sources d → AreListed d ps → length (points_of ps) ≤ MOST_POINTS → All IsWrittenMachine ps.machines.items → All (IsWrittenVerdict d) verdicts → IsCollected d sources ps db → AreWindows db.windows → AreShown d verdicts db.points → IsTable db
collected_is d sources ps verdicts db lawful written listed few named all is windows shown =
    let order = is.order in
    let rows = map (row_at d.instances) order in
    let number = order_length (length d.instances) order is.path_order.permutation in
    let rows_number : length rows ≡ length d.instances = length-map order (row_at d.instances) ∙ number in
    let instances : length db.instances ≡ length d.instances = ap length is.instances ∙ rows_number in
    let files : length db.sources ≡ length sources = ap length is.names in
    let addresses = points_are d lawful sources written order is.places is.path_order is.are_places listed.0 ps listed.1 named db.points is.points in
    let texts = verdicts_are d lawful sources written order is.places is.path_order is.are_places verdicts all db.points shown in
    let many = points_number d lawful sources written order is.places is.path_order is.are_places listed.0 ps listed.1 named db.points is.points in
    record {
      top = subst IsIdentifier (sym is.top) written.top;
      sources = subst (All (λ name. IsTrue (is_file_name name))) (sym is.names) written.files;
      instances = subst (All IsInstance) (sym is.instances) (rows_are d lawful sources written order is.places is.path_order is.are_places);
      points = λ k e l.
          let a = addresses k e l in
          record {
            instance = omega (arith, a.0, instances, number);
            subject = subst (λ n. IsSubject n (get_or db.points k e).address.subject) (sym files) a.1;
            verdict = subst (λ rs. IsTextVerdict rs (get_or db.points k e).verdict) (sym is.instances) (texts k e l);
          };
      some_source = λ e. omega (arith, files, ap length e, written.some_file);
      some_instance = λ e. omega (arith, instances, ap length e, written.some_instance);
      instances_rise = subst (Rises (λ (a b : DbInstance). bytes_cmp a.path b.path)) (sym is.instances) (rows_rise d.instances lawful.instance_paths order is.path_order);
      points_rise = points_rise d lawful sources written order is.places is.path_order is.are_places listed.0 ps listed.1 named db.points is.points;
      lines = omega (arith, files, instances, many, few, written.few_files, lawful.few_instances);
      windows = windows;
    }
