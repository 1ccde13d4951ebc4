-- The line points and the counted nodes of an elaborated design have numbers from 1, and places of the modules.
use Rattle.std.proofs.Common.{◌≡◌, ◌⊎◌, inl, inr, ◌+◌, ◌≤◌, ℕ, zero, suc, Bool, true, false, if◌then◌else◌, List, [], ◌∷◌, ◌++◌, length, Option, Some, None, refl, subst, arith}
use Rattle.std.specs.List.{list_any}
use Rattle.std.specs.Prelude.{bytes_eq, flat_map, sum_by, IfSome}
use Rattle.std.proofs.lemmas.List.Sums.{sum_by-cons}
use Rattle.cov_host.specs.declared.place.Place.{Place}
use Rattle.design_model.specs.Design.{In}
use Rattle.design_model.specs.Tree.{Process}
use Rattle.flat_design.specs.Bodies.{met_fault, met_faults}
use Rattle.flat_design.specs.Connections.{Joined, as_alias, by_assignment, not_joined, joining, JoinedPort, joined_ports, connections_faults, overrides, override_faults, are_sound_overrides}
use Rattle.flat_design.specs.Declarations.{Override}
use Rattle.flat_design.specs.Fault.{fault_at}
use Rattle.flat_design.specs.declared.fault.ElabKind.TheVariants.{Recursion}
use Rattle.flat_design.specs.Flat.{start, top_instance, elaborated_from, join_as, join_port, join_ports, instantiation, replaced, is_declared_here, one_instance, all_instances, instances_of, module_of, net_value, net_values, item, items, instance}
use Rattle.flat_design.specs.Instances.{Instantiation, Sofar, meet, add_process, opened, Context, context, is_input}
use Rattle.flat_design.specs.Numbering.{form_lines, form_nodes, nodes, value_nodes, values_nodes}
use Rattle.flat_design.specs.Processes.{Made, always, continuous, joined_input, joined_output}
use Rattle.flat_design.specs.Scope.{Scope, look_up}
use Rattle.flat_design.specs.declared.entry.Entry.{Entry}
use Rattle.flat_design.specs.declared.entry.Entry.TheVariants.{Constant as a_constant, Turn as a_turn, Signal as a_signal, Memory as a_memory, LoopVariable as a_loop_variable, Instance as an_instance, NoConstant as no_constant, Faulty as a_faulty_one}
use Rattle.design_names.proofs.flat_laws.LawfulPaths.{found_in}
use Rattle.design_names.proofs.flat_laws.Members.{in_append}
use Rattle.tree_places.specs.Counted.{module_lines, module_nodes}
use Rattle.tree_places.specs.Placed.{ArePlacedModules, IsPlaced, IsPlacedForm, IsPlacedNet}
use Rattle.verilog_tree.specs.declared.item.Named.{Named}
use Rattle.verilog_tree.specs.Tree.{Expr, identifier, One, InstanceItem, Declared, ItemForm, initial_item, port_item, net_item, variable_item, integer_item, parameter_item, continuous_item, always_item, instance_item, Item, Module}
use Rattle.written_designs.proofs.Processes.{HasParts, uncounted_parts, assign_parts, body_parts}

module _ (P : Place → Type 0) (most : ℕ) where
  -- each process so far has such parts
  abbrev pub HaveParts : Sofar → Type 0
  HaveParts st = (x : Process) → In x st.design.processes → HasParts P most x

  one_more : (m : Made) (st : Sofar) → HasParts P most m.process → HaveParts st → HaveParts (add_process m st)
  one_more m st here before x k = by_place (in_append x st.design.processes (m.process ∷ []) k)
    where
      by_place : In x st.design.processes ⊎ In x (m.process ∷ []) → HasParts P most x
      by_place (inl l) = before x l
      by_place (inr (inl e)) = subst (HasParts P most) e here
      by_place (inr (inr l)) = absurd l

  -- ---- ports

  join_parts : (b : Joined) (c : Context) (p : Place) (j : JoinedPort) (e : Option Entry) (st : Sofar) → HaveParts st → HaveParts (join_as b c p j e st)
  join_parts by_assignment c p j (Some (a_signal s)) st h = by_direction (is_input j.port)
    where
      by_direction : (b : Bool) → HaveParts (if b then add_process (joined_input c.base c.scope c.number (length st.design.processes) p j.label s j.value) st else add_process (joined_output c.base c.scope c.number (length st.design.processes) p s j.value) st)
      by_direction true = one_more (joined_input c.base c.scope c.number (length st.design.processes) p j.label s j.value) st (uncounted_parts P most c.number _ _) h
      by_direction false = one_more (joined_output c.base c.scope c.number (length st.design.processes) p s j.value) st (uncounted_parts P most c.number _ _) h
  join_parts by_assignment c p j None st h = h
  join_parts by_assignment c p j (Some (a_constant v)) st h = h
  join_parts by_assignment c p j (Some (a_turn v)) st h = h
  join_parts by_assignment c p j (Some (a_memory v)) st h = h
  join_parts by_assignment c p j (Some a_loop_variable) st h = h
  join_parts by_assignment c p j (Some an_instance) st h = h
  join_parts by_assignment c p j (Some no_constant) st h = h
  join_parts by_assignment c p j (Some a_faulty_one) st h = h
  join_parts (as_alias n) c p j e st h = h
  join_parts not_joined c p j e st h = h

  ports_parts : (c : Context) (p : Place) (inner : Scope) (js : List JoinedPort) (st : Sofar) → HaveParts st → HaveParts (join_ports c p inner js st)
  ports_parts c p inner [] st h = h
  ports_parts c p inner (j ∷ js) st h = ports_parts c p inner js (join_port c p inner j st) (join_parts (joining c.scope j.port j.label j.value) c p j (look_up inner j.port.name.name) st h)

  module _ (base : ℕ) (ms : List Module) (placed : ArePlacedModules P ms) (few : (m : Module) (g : Scope) → In m ms → module_lines m + module_nodes g m ≤ most) where
    -- what is asked of the instances one level below
    abbrev IsChild : (Instantiation → Sofar → Sofar) → Type 0
    IsChild child = (i : Instantiation) (st : Sofar) → In i.of_module ms → HaveParts st → HaveParts (child i st)

    module _ (child : Instantiation → Sofar → Sofar) (kid : IsChild child) (c : Context) (p : Place) where
      one_parts : (k : InstanceItem) (m : Module) (os : List Override) (o : One) (st : Sofar) → In m ms → HaveParts st → HaveParts (one_instance child base c p k m os o st)
      one_parts k m os o st m_in h = by_declared (is_declared_here c o.name)
        where
          js : List JoinedPort
          js = joined_ports os m k.of_module o.given

          inner : Instantiation
          inner = instantiation c p m os o js

          at : Sofar
          at = meet (met_faults (connections_faults c.scope os m k.of_module o.given)) st

          by_declared : (b : Bool) → HaveParts (if b then replaced child base c p inner js at else st)
          by_declared true = ports_parts c p (context base inner at).scope js (child inner at) (kid inner at m_in h)
          by_declared false = h

      all_parts : (k : InstanceItem) (m : Module) (os : List Override) (more : List One) (st : Sofar) → In m ms → HaveParts st → HaveParts (all_instances child base c p k m os more st)
      all_parts k m os [] st m_in h = h
      all_parts k m os (o ∷ more) st m_in h = all_parts k m os more (one_instance child base c p k m os o st) m_in (one_parts k m os o st m_in h)

      instances_parts : (k : InstanceItem) (found : Option Module) → module_of ms k.of_module.name ≡ found → (st : Sofar) → HaveParts st → HaveParts (instances_of child base c p k found st)
      instances_parts k None is st h = h
      instances_parts k (Some m) is st h = by_around (list_any (bytes_eq m.name.name) c.given.around)
        where
          done : Sofar
          done = all_instances child base c p k m (overrides c.scope k.of_module m k.overrides) k.ones st

          faulty : Sofar
          faulty = meet (met_faults (override_faults c.scope k.of_module m k.overrides)) st

          by_sound : (b : Bool) → HaveParts (elim b [ true ↦ done | false ↦ faulty ])
          by_sound true = all_parts k m (overrides c.scope k.of_module m k.overrides) k.ones st (found_in (λ z. bytes_eq z.name.name k.of_module.name) ms m is) h
          by_sound false = h

          by_around : (b : Bool) → HaveParts (if b then meet (met_fault (fault_at Recursion k.of_module) ∷ []) st else elim (are_sound_overrides c.scope k.of_module m k.overrides) [ true ↦ done | false ↦ faulty ])
          by_around true = h
          by_around false = by_sound (are_sound_overrides c.scope k.of_module m k.overrides)

    -- ---- items

    net_parts : (c : Context) (p : Place) (x : Named) (o : Option Expr) (n : ℕ) (st : Sofar) → P x.place → IfSome o (IsPlaced P) → 1 ≤ n → n + elim o [ None ↦ 0 | Some e ↦ nodes c.scope e ] ≤ most + 1 → HaveParts st → HaveParts (net_value c p x o n st)
    net_parts c p x None n st at value from to h = h
    net_parts c p x (Some e) n st at value from to h =
        one_more (continuous c.base c.scope c.number (length st.design.processes) p (identifier x.place x.name) e n) st (assign_parts P most c.base c.scope c.number (identifier x.place x.name) e n at value from (omega (arith, to))) h

    nets_parts : (c : Context) (p : Place) (ds : List Declared) → ((d : Declared) → In d ds → IsPlacedNet P d) → (n : ℕ) (st : Sofar) → 1 ≤ n → n + values_nodes c.scope ds ≤ most + 1 → HaveParts st → HaveParts (net_values c p ds n st)
    nets_parts c p [] all n st from to h = h
    nets_parts c p (d ∷ ds) all n st from to h =
        let here = all d (inl refl) in
        nets_parts c p ds (λ x k. all x (inr k)) (n + value_nodes c.scope d) (net_value c p d.name d.value n st) (omega (arith, from)) (omega (arith, to)) (net_parts c p d.name d.value n st here.0 here.1 from (omega (arith, to)) h)

    item_parts : (child : Instantiation → Sofar → Sofar) → IsChild child → (c : Context) (p : Place) (form : ItemForm) (l n : ℕ) (st : Sofar) → IsPlacedForm P form →
        1 ≤ l → l + form_lines form ≤ most + 1 → 1 ≤ n → n + form_nodes c.scope form ≤ most + 1 → HaveParts st → HaveParts (item child base ms c p form l n st)
    item_parts child kid c p (net_item k) l n st at lf lt nf nt h = nets_parts c p k.names at n st nf nt h
    item_parts child kid c p (continuous_item x v) l n st at lf lt nf nt h =
        one_more (continuous c.base c.scope c.number (length st.design.processes) p x v n) st (assign_parts P most c.base c.scope c.number x v n at.0 at.1 nf nt) h
    item_parts child kid c p (always_item w s) l n st at lf lt nf nt h =
        one_more (always c.base c.scope c.number (length st.design.processes) p w s l n) st (body_parts P most c.base c.scope c.number w s l n at lf lt nf nt) h
    item_parts child kid c p (instance_item k) l n st at lf lt nf nt h = instances_parts child kid c p k (module_of ms k.of_module.name) refl st h
    item_parts child kid c p (initial_item s) l n st at lf lt nf nt h = h
    item_parts child kid c p (port_item k) l n st at lf lt nf nt h = h
    item_parts child kid c p (variable_item k) l n st at lf lt nf nt h = h
    item_parts child kid c p (integer_item k) l n st at lf lt nf nt h = h
    item_parts child kid c p (parameter_item k) l n st at lf lt nf nt h = h

    items_parts : (child : Instantiation → Sofar → Sofar) → IsChild child → (c : Context) (xs : List Item) → ((x : Item) → In x xs → IsPlacedForm P x.form) → (l n : ℕ) (st : Sofar) →
        1 ≤ l → l + sum_by (λ x. form_lines x.form) xs ≤ most + 1 → 1 ≤ n → n + sum_by (λ x. form_nodes c.scope x.form) xs ≤ most + 1 → HaveParts st → HaveParts (items child base ms c xs l n st)
    items_parts child kid c [] all l n st lf lt nf nt h = h
    items_parts child kid c (x ∷ xs) all l n st lf lt nf nt h =
        let line_sum = sum_by-cons (λ (y : Item). form_lines y.form) x xs in
        let node_sum = sum_by-cons (λ (y : Item). form_nodes c.scope y.form) x xs in
        items_parts child kid c xs (λ y k. all y (inr k)) (l + form_lines x.form) (n + form_nodes c.scope x.form) (item child base ms c x.place x.form l n st)
        (omega (arith, lf)) (omega (arith, lt, line_sum)) (omega (arith, nf)) (omega (arith, nt, node_sum))
        (item_parts child kid c x.place x.form l n st (all x (inl refl)) lf (omega (arith, lt, line_sum)) nf (omega (arith, nt, node_sum)) h)

    instance_parts : (depth : ℕ) → IsChild (instance base ms depth)
    instance_parts zero i st m_in h = h
    instance_parts (suc depth) i st m_in h =
        let c : Context = context base i st in
        let counted = few i.of_module c.scope m_in in
        items_parts (instance base ms depth) (instance_parts depth) c i.of_module.items (λ x k. placed i.of_module m_in x k) 1 1 (opened i st) (omega arith) (omega (arith, counted)) (omega arith) (omega (arith, counted)) h

    pub elaborated_parts : (top : List ℕ) (found : Option Module) → module_of ms top ≡ found → HaveParts (elaborated_from base ms top found)
    elaborated_parts top None is = λ x k. absurd k
    elaborated_parts top (Some m) is = instance_parts 64 (top_instance top m) (start top) (found_in (λ z. bytes_eq z.name.name top) ms m is) (λ x k. absurd k)
