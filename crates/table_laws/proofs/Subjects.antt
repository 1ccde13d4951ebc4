-- What the points of each kind have of a written design: an instance of the design, and names, numbers and places that a text has.
use Rattle.std.proofs.Common.{◌≡◌, ◌≢◌, ◌<◌, ◌≤◌, ◌+◌, ◌-◌, ◌^◌, ◌++◌, ◌∙◌, ℕ, Bool, true, false, List, [], ◌∷◌, Option, Some, None, length, map, get_or, max, min, inl, inr, refl, sym, ap, subst, arith}
use Rattle.std.specs.Prelude.{IfSome, ◌==◌, ◌&&◌, ◌||◌, nat_le, nat_lt}
use Rattle.std.specs.List.{All}
use Rattle.std.specs.declared.cmp.Ordering.TheVariants.{Equal}
use Rattle.std.specs.Ordering.{nat_cmp, ordering_then}
use Rattle.std.proofs.lemmas.Bool.{and_parts, cases_lt}
use Rattle.std.proofs.lemmas.Bool.Decides.{nat_tests}
use Rattle.std.proofs.lemmas.List.{get_or_past}
use Rattle.coverage_db.specs.Order.{bytes_cmp, index_cmp as option_cmp}
use Rattle.coverage_db.specs.Table.{IsIdentifier, IsSubject}
use Rattle.point_table.specs.cover_points.Listed.{IsPointList}
use Rattle.point_table.specs.cover_points.MachinePoints.{machine_of, machine_view, state_value}
use Rattle.point_table.specs.cover_points.Order.{thing_instance, thing_name}
use Rattle.point_table.specs.cover_points.Texts.{line_view, node_view}
use Rattle.point_table.specs.cover_points.Things.{toggle_view, word_view}
use Rattle.point_table.specs.cover_points.declared.listing.Points.{Points}
use Rattle.point_table.specs.cover_points.declared.machine_point.MachinePoint.{MachinePoint}
use Rattle.point_table.specs.cover_points.declared.machine_point.MachinePoint.TheVariants.{Arc, State}
use Rattle.point_table.specs.cover_points.declared.points.IndexPoint.{IndexPoint}
use Rattle.point_table.proofs.cover_points.Members.{both_equal, in_at, in_left, in_map_back, in_right, same_bytes, same_place}
use Rattle.point_table.proofs.cover_points.NamedOnce.{one_signal}
use Rattle.point_table.proofs.cover_points.Pieces.{instance_there, test_at}
use Rattle.point_table.specs.design_machines.Machines.{machine_at, name_at, no_machine}
use Rattle.point_table.proofs.cover_points.state_machines.Digits.{digits_apart}
use Rattle.design_model.specs.declared.design.Instance.{Instance}
use Rattle.design_model.specs.declared.design.Memory.{Memory}
use Rattle.design_model.specs.Design.{Design, In, is_memory, memory_at, no_instance, no_memory, no_process, no_signal, process_at, signal_at}
use Rattle.design_model.specs.Lawful.{IsLawfulDesign, instance_of, is_memory_of, is_signal, span}
use Rattle.design_model.specs.Numbered.{NodeAt, counted_terms, line_at, lines_of, node_at, node_text, nodes_in}
use Rattle.design_model.specs.Points.{IsWithin}
use Rattle.point_table.specs.cover_points.design_machines.state_machines.Drawn.{IsPointWith}
use Rattle.point_table.specs.cover_points.design_machines.state_machines.Machines.{StateMachines}
use Rattle.design_model.specs.Tree.{Term}
use Rattle.design_model.specs.Value.{head}
use Rattle.design_model.specs.declared.point.Point.{Point}
use Rattle.point_table.specs.Addresses.{index_if, line_address, machine_address, node_address, toggle_address, word_address}
use Rattle.point_table.specs.Rows.{path_cmp}
use Rattle.point_words.specs.Words.{can_have, operator_text}
use Rattle.table_laws.proofs.Cases.{case_of, same_operator}
use Rattle.table_laws.specs.Written.{IsWritten, IsWrittenMachine}
use Rattle.point_table.proofs.text_points.OperatorTexts.{text_is}
use Rattle.point_table.specs.text_points.Operators.{operator_of}
use Rattle.point_table.specs.text_points.declared.points.LinePoint.{LinePoint}
use Rattle.point_table.specs.text_points.declared.points.NodePoint.{NodePoint}

nodes_have : (a : NodeAt) (t : Term) (ts : List Term) → In t ts → In a (node_at (head t).node t) → In a (nodes_in ts)
nodes_have a t [] h i = absurd h
nodes_have a t (u ∷ us) (inl e) i = in_left a (node_at (head u).node u) (nodes_in us) (subst (λ v. In a (node_at (head v).node v)) (sym e) i)
nodes_have a t (u ∷ us) (inr h) i = in_right a (node_at (head u).node u) (nodes_in us) (nodes_have a t us h i)

text_of : (m : Option ℕ) (t : Term) (a : NodeAt) → In a (node_at m t) → a.op ≡ node_text t
text_of None t a h = absurd h
text_of (Some n) t a (inl e) = sym (ap (λ (b : NodeAt). b.op) e)
text_of (Some n) t a (inr h) = absurd h

index_small : (b : Bool) (i : ℕ) → i < 2 ^ 32 → IfSome (index_if b i) (λ i. i < 2 ^ 32)
index_small true i l = l
index_small false i l = tt

index_same : (b : Bool) (i j : ℕ) → (b ≡ false → (i ≡ 0) × (j ≡ 0)) → option_cmp (index_if b i) (index_if b j) ≡ nat_cmp i j
index_same true i j h = refl
index_same false i j h = let z = h refl in sym (ap (λ k. nat_cmp k j) z.0 ∙ ap (nat_cmp 0) z.1)

module _ (d : Design) (lawful : IsLawfulDesign d) (sources : List (List ℕ)) (written : IsWritten sources d) where
  process_instance : (p : ℕ) → instance_of (process_at d p) < length d.instances
  process_instance p = elim (cases_lt p (length d.processes)) [
    | inl l ↦ instance_there d lawful p l
    | inr m ↦
        let e : instance_of (process_at d p) ≡ 0 = ap instance_of (get_or_past d.processes p no_process (omega (arith, m))) in
        omega (arith, e, written.some_instance)
  ]

  pub signal_name : (s : ℕ) → s < length d.signals → IsIdentifier (signal_at d s).name
  signal_name s l = (written.signals (signal_at d s) (in_at d.signals s no_signal l)).0

  pub signal_instance : (s : ℕ) → s < length d.signals → (signal_at d s).instance < length d.instances
  signal_instance s l =
      let x = signal_at d s in
      let t = test_at (is_signal d) d.signals s no_signal lawful.signals l in
      let a = nat_lt x.instance (length d.instances) in
      let b = nat_le 1 x.width in
      let c = nat_le x.width 128 in
      let e = x.width == span x.high x.low in
      let parts = and_parts a b (and_parts (a && b) c (and_parts (a && b && c) e (and_parts (a && b && c && e) (x.ranged || ((x.high == 0) && (x.low == 0))) t).0).0).0 in
      grind (arith, nat_tests, parts)

  signal_bounds : (s : ℕ) → s < length d.signals → (signal_at d s).ranged ≡ false → ((signal_at d s).high ≡ 0) × ((signal_at d s).low ≡ 0)
  signal_bounds s l unranged =
      let x = signal_at d s in
      let t = test_at (is_signal d) d.signals s no_signal lawful.signals l in
      let a = nat_lt x.instance (length d.instances) in
      let b = nat_le 1 x.width in
      let c = nat_le x.width 128 in
      let e = x.width == span x.high x.low in
      let whole = (and_parts (a && b && c && e) (x.ranged || ((x.high == 0) && (x.low == 0))) t).1 in
      let bounds : (x.high == 0) && (x.low == 0) ≡ true = rw unranged at whole in
      let parts = and_parts (x.high == 0) (x.low == 0) bounds in
      (grind (arith, nat_tests, parts), grind (arith, nat_tests, parts))

  place_of_memory : (m : ℕ) → is_memory d m ≡ true → (m - length d.signals < length d.memories) × (memory_at d m ≡ get_or d.memories (m - length d.signals) no_memory) × (nat_lt m (length d.signals) ≡ false)
  place_of_memory m h =
      let parts = and_parts (nat_le (length d.signals) m) (nat_lt m (length d.signals + length d.memories)) h in
      let l : m - length d.signals < length d.memories = grind (arith, nat_tests, parts) in
      let n : nat_lt m (length d.signals) ≡ false = grind (arith, nat_tests, parts) in
      (l, rw parts.0 refl, n)

  memory_in : (m : ℕ) → is_memory d m ≡ true → In (memory_at d m) d.memories
  memory_in m h =
      let at = place_of_memory m h in
      subst (λ x. In x d.memories) (sym at.1) (in_at d.memories (m - length d.signals) no_memory at.0)

  pub memory_name : (m : ℕ) → is_memory d m ≡ true → IsIdentifier (memory_at d m).name
  memory_name m h = (written.memories (memory_at d m) (memory_in m h)).0

  pub memory_instance : (m : ℕ) → is_memory d m ≡ true → (memory_at d m).instance < length d.instances
  memory_instance m h =
      let at = place_of_memory m h in
      let x = get_or d.memories (m - length d.signals) no_memory in
      let t = test_at (is_memory_of d) d.memories (m - length d.signals) no_memory lawful.memories at.0 in
      let a = nat_lt x.instance (length d.instances) in
      let b = nat_le 1 x.width in
      let c = nat_le x.width 128 in
      let e = nat_le (span x.first x.last) 65536 in
      let f = x.width == span x.high x.low in
      let first = and_parts a b (and_parts (a && b) c (and_parts (a && b && c) e (and_parts (a && b && c && e) f (and_parts (a && b && c && e && f) (x.ranged || ((x.high == 0) && (x.low == 0))) t).0).0).0).0 in
      let l : x.instance < length d.instances = grind (arith, nat_tests, first) in
      subst (λ (y : Memory). y.instance < length d.instances) (sym at.1) l

  -- a signal is named by its number
  pub signal_thing : (s : ℕ) → s < length d.signals → (thing_instance d s ≡ (signal_at d s).instance) × (thing_name d s ≡ (signal_at d s).name)
  signal_thing s l =
      let t : nat_lt s (length d.signals) ≡ true = grind (arith, nat_tests, l) in
      (rw t refl, rw t refl)

  pub memory_thing : (m : ℕ) → is_memory d m ≡ true → (thing_instance d m ≡ (memory_at d m).instance) × (thing_name d m ≡ (memory_at d m).name)
  memory_thing m h =
      let t = (place_of_memory m h).2 in
      (rw t refl, rw t refl)

  -- two signals of one name in one instance are one
  same_signal : (s t : ℕ) → s < length d.signals → t < length d.signals → ordering_then (path_cmp d.instances (signal_at d s).instance (signal_at d t).instance) (bytes_cmp (signal_at d s).name (signal_at d t).name) ≡ Equal → s ≡ t
  same_signal s t l m e =
      let x = signal_at d s in
      let y = signal_at d t in
      let both = both_equal (path_cmp d.instances x.instance y.instance) (bytes_cmp x.name y.name) e in
      let i : x.instance ≡ y.instance = same_place (λ (i : Instance). i.path) d.instances x.instance y.instance no_instance lawful.instance_paths (signal_instance s l) (signal_instance t m) (same_bytes _ _ both.0) in
      one_signal d lawful x.instance s t x.name (inl (l, refl, refl)) (inl (m, sym i, sym (same_bytes x.name y.name both.1)))

  module _ (machines : StateMachines) (ps : Points) (listed : IsPointList d machines ps) (named : All IsWrittenMachine ps.machines.items) (places : List ℕ) where
    abbrev kl : List Point
    kl = map line_view ps.lines.items

    abbrev kn : List Point
    kn = map node_view ps.nodes.items

    abbrev kt : List Point
    kt = map toggle_view ps.toggles.items

    abbrev ks : List Point
    ks = map (machine_view ps.machines.items) ps.states.items

    abbrev kw : List Point
    kw = map word_view ps.words.items

    -- a point that a text has: of an instance of the design, and with a subject of a table
    pub line_is : (x : LinePoint) → In x ps.lines.items → (x.instance < length d.instances) × IsSubject (length sources) (line_address places x).subject
    line_is x h =
        let v = line_view x in
        let there : In (line_at x.line x.place x.word) (lines_of (process_at d x.process)) =
        (listed.members v).0 (in_left v (kl ++ kn ++ kt ++ ks) kw (in_left v (kl ++ kn ++ kt) ks (in_left v (kl ++ kn) kt (in_left v kl kn (in_map_back line_view x ps.lines.items h))))) in
        (subst (λ i. i < length d.instances) (sym (listed.line_owners x h)) (process_instance x.process), written.lines x.process (line_at x.line x.place x.word) there)

    pub node_is : (x : NodePoint) → In x ps.nodes.items → (x.instance < length d.instances) × IsSubject (length sources) (node_address places x).subject
    node_is x h =
        let v = node_view x in
        let a : NodeAt = record { node = x.node; place = x.place; op = operator_text x.operator } in
        let p = (listed.members v).0 (in_left v (kl ++ kn ++ kt ++ ks) kw (in_left v (kl ++ kn ++ kt) ks (in_left v (kl ++ kn) kt (in_right v kl kn (in_map_back node_view x ps.nodes.items h))))) in
        let number = written.nodes x.process a (nodes_have a p.0 (counted_terms (process_at d x.process)) p.1 p.2) in
        let same : x.operator ≡ operator_of p.0 = same_operator x.operator (operator_of p.0) (text_of (head p.0).node p.0 a p.2 ∙ sym (text_is p.0)) in
        (subst (λ i. i < length d.instances) (sym (listed.node_owners x h)) (process_instance x.process), (number.0, number.1, subst (λ o. can_have o x.case ≡ true) (sym same) (case_of p.0 x.case p.3)))

    pub toggle_of : (x : IndexPoint) → In x ps.toggles.items → (x.thing < length d.signals) × IsWithin (signal_at d x.thing).high (signal_at d x.thing).low x.index
    toggle_of x h =
        let v = toggle_view x in
        (listed.members v).0 (in_left v (kl ++ kn ++ kt ++ ks) kw (in_left v (kl ++ kn ++ kt) ks (in_right v (kl ++ kn) kt (in_map_back toggle_view x ps.toggles.items h))))

    pub toggle_is : (x : IndexPoint) → In x ps.toggles.items → ((signal_at d x.thing).instance < length d.instances) × IsSubject (length sources) (toggle_address d places x).subject
    toggle_is x h =
        let p = toggle_of x h in
        let s = signal_at d x.thing in
        let own = written.signals s (in_at d.signals x.thing no_signal p.0) in
        let small : x.index < 2 ^ 32 = omega (arith, p.1.1, own.1, own.2) in
        (signal_instance x.thing p.0, (signal_name x.thing p.0, index_small s.ranged x.index small))

    -- without a range the index is 0
    no_index : (x : IndexPoint) → In x ps.toggles.items → (signal_at d x.thing).ranged ≡ false → x.index ≡ 0
    no_index x h unranged =
        let p = toggle_of x h in
        let bounds = signal_bounds x.thing p.0 unranged in
        omega (arith, p.1.1, bounds)

    pub toggles_compare : (x y : IndexPoint) → In x ps.toggles.items → In y ps.toggles.items → ordering_then (path_cmp d.instances (signal_at d x.thing).instance (signal_at d y.thing).instance) (bytes_cmp (signal_at d x.thing).name (signal_at d y.thing).name) ≡ Equal
        → option_cmp (index_if (signal_at d x.thing).ranged x.index) (index_if (signal_at d y.thing).ranged y.index) ≡ nat_cmp x.index y.index
    toggles_compare x y h k e =
        let one = same_signal x.thing y.thing (toggle_of x h).0 (toggle_of y k).0 e in
        let ranged : (signal_at d y.thing).ranged ≡ (signal_at d x.thing).ranged = ap (λ s. (signal_at d s).ranged) (sym one) in
        ap (λ r. option_cmp (index_if (signal_at d x.thing).ranged x.index) (index_if r y.index)) ranged ∙ index_same (signal_at d x.thing).ranged x.index y.index (λ unranged. (no_index x h unranged, no_index y k (ranged ∙ unranged)))

    machine_in : (x : MachinePoint) → In x ps.states.items → IsPointWith d machines (machine_view ps.machines.items x)
    machine_in x h =
        let v = machine_view ps.machines.items x in
        (listed.members v).0 (in_left v (kl ++ kn ++ kt ++ ks) kw (in_right v (kl ++ kn ++ kt) ks (in_map_back (machine_view ps.machines.items) x ps.states.items h)))

    own_instance : (k : ℕ) → k < length ps.machines.items → (machine_at ps.machines.items k).instance < length d.instances
    own_instance k l = (listed.machines.whole (machine_at ps.machines.items k) (in_at ps.machines.items k no_machine l)).instance

    -- the two states of an arc have different names
    names_differ : (k i j : ℕ) → IsPointWith d machines (machine_view ps.machines.items (Arc k i j)) → name_at (machine_at ps.machines.items k).names i ≢ name_at (machine_at ps.machines.items k).names j
    names_differ k i j (inl p) = p.5
    names_differ k i j (inr p) = λ same. p.8 (digits_apart (state_value ps.machines.items k i) (state_value ps.machines.items k j) (sym p.4 ∙ same ∙ p.5))

    pub machine_is : (x : MachinePoint) → In x ps.states.items → ((machine_at ps.machines.items (machine_of x)).instance < length d.instances) × IsSubject (length sources) (machine_address ps.machines.items places x).subject
    machine_is (State k s) h =
        let placed = listed.placed (State k s) h in
        let m = named k no_machine placed.0 in
        (own_instance k placed.0, (m.0, m.1 s [] placed.1))
    machine_is (Arc k i j) h =
        let p = machine_in (Arc k i j) h in
        let placed = listed.placed (Arc k i j) h in
        let m = named k no_machine placed.0 in
        (own_instance k placed.0, (m.0, m.1 i [] placed.1, m.1 j [] placed.2, names_differ k i j p))

    pub word_of : (x : IndexPoint) → In x ps.words.items → (is_memory d x.thing ≡ true) × (min (memory_at d x.thing).first (memory_at d x.thing).last ≤ x.index) × (x.index ≤ max (memory_at d x.thing).first (memory_at d x.thing).last)
    word_of x h =
        let v = word_view x in
        (listed.members v).0 (in_right v (kl ++ kn ++ kt ++ ks) kw (in_map_back word_view x ps.words.items h))

    pub word_is : (x : IndexPoint) → In x ps.words.items → ((memory_at d x.thing).instance < length d.instances) × IsSubject (length sources) (word_address d places x).subject
    word_is x h =
        let p = word_of x h in
        let own = written.memories (memory_at d x.thing) (memory_in x.thing p.0) in
        (memory_instance x.thing p.0, (memory_name x.thing p.0, omega (arith, p.2, own.1, own.2)))
