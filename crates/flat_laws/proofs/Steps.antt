-- Induction over elaboration: what each step keeps where nothing that was met is a fault holds in the end.
use Rattle.std.proofs.Common.{◌≡◌, inl, inr, ℕ, zero, suc, ◌+◌, Bool, true, false, List, [], ◌∷◌, ◌++◌, Option, Some, None, refl, sym, ◌∙◌, subst, length, if◌then◌else◌, arith, append_assoc, append-nil}
use Rattle.cov_host.specs.declared.place.Place.{Place}
use Rattle.std.specs.List.{list_any}
use Rattle.std.specs.Prelude.{bytes_eq, flat_map}
use Rattle.std.proofs.lemmas.Bool.{false≢true}
use Rattle.design_model.specs.Design.{In}
use Rattle.verilog_tree.specs.declared.item.When.{When}
use Rattle.verilog_tree.specs.Tree.{Expr, Statement, One, InstanceItem, Declared, ItemForm, initial_item, port_item, net_item, variable_item, integer_item, parameter_item, continuous_item, always_item, instance_item, Item, Module, identifier}
use Rattle.flat_design.specs.Bodies.{Met, met_fault, met_faults}
use Rattle.flat_design.specs.Connections.{Joined, as_alias, by_assignment, not_joined, joining, JoinedPort, joined_ports, connections_faults, overrides, override_faults, are_sound_overrides}
use Rattle.flat_design.specs.Fault.{Fault, fault_at}
use Rattle.flat_design.specs.declared.fault.ElabKind.TheVariants.{Recursion}
use Rattle.flat_design.specs.Flat.{start, top_instance, elaborated_from, join_as, join_port, join_ports, instantiation, replaced, is_declared_here, one_instance, all_instances, instances_of, module_of, net_value, net_values, item, items, instance}
use Rattle.flat_design.specs.Instances.{Instantiation, Sofar, meet, add_process, opened, opening_met, Context, context, is_input}
use Rattle.flat_design.specs.Numbering.{lines, nodes, statement_nodes, form_lines, form_nodes, value_nodes, values_nodes}
use Rattle.flat_design.specs.Processes.{Made, continuous, always, joined_input, joined_output}
use Rattle.flat_design.specs.Scope.{look_up}
use Rattle.flat_design.specs.declared.entry.Entry.{Entry}
use Rattle.flat_design.specs.declared.entry.Entry.TheVariants.{Constant as a_constant, Turn as a_turn, Signal as a_signal, Memory as a_memory, LoopVariable as a_loop_variable, Instance as an_instance, NoConstant as no_constant, Faulty as a_faulty_one}
use Rattle.flat_design.specs.declared.entry.SignalEntry.{SignalEntry}
use Rattle.flat_laws.proofs.Freedom.{IsFree, free_parts, free_faults}
use Rattle.flat_laws.proofs.Continues.{Continues, continues_same, continues_twice, continues_meet, free_before, join_port_continues, join_ports_continues, one_continues, all_continue, net_value_continues, net_values_continue, item_continues, items_continue, instance_continues}

-- the item says that x is assigned v
abbrev pub IsAssigned : ItemForm → Expr → Expr → Type 0
IsAssigned (net_item i) x v = (d : Declared) × In d i.names × (x ≡ identifier d.name.place d.name.name) × (d.value ≡ Some v)
IsAssigned (continuous_item y w) x v = (y ≡ x) × (w ≡ v)
IsAssigned _ x v = ⊥

-- the item's module and the connections of an instance
abbrev pub ports_of : Context → InstanceItem → Module → One → List JoinedPort
ports_of c i m o = joined_ports (overrides c.scope i.of_module m i.overrides) m i.of_module o.given

abbrev pub inner_of : Context → Place → InstanceItem → Module → One → Instantiation
inner_of c p i m o = instantiation c p m (overrides c.scope i.of_module m i.overrides) o (ports_of c i m o)

-- what is met before an instance is opened
abbrev pub connections_met : Context → InstanceItem → Module → One → List Met
connections_met c i m o = met_faults (connections_faults c.scope (overrides c.scope i.of_module m i.overrides) m i.of_module o.given)

-- an instance of module m that an item of the instance i names
pub record IsBelow (base : ℕ) (ms : List Module) (i : Instantiation) (before : Sofar) (x : Item) (k : InstanceItem) (m : Module) (o : One) : Type 0 where
  pub item_in : In x i.of_module.items
  pub form : x.form ≡ instance_item k
  pub module_is : module_of ms k.of_module.name ≡ Some m
  pub not_around : list_any (bytes_eq m.name.name) i.around ≡ false
  pub sound : are_sound_overrides (context base i before).scope k.of_module m k.overrides ≡ true
  pub one_in : In o k.ones
  pub declared_here : is_declared_here (context base i before) o.name ≡ true
  pub connected : IsFree (connections_met (context base i before) k m o)

-- an instance that was opened, whose items are being replaced
pub record Here (Q : ℕ → Instantiation → Sofar → Type 0) (depth : ℕ) (i : Instantiation) (before now : Sofar) : Type 0 where
  pub opening : IsFree (opening_met i)
  pub known : Q (suc depth) i before
  pub continues : Continues (opened i before) now

-- an instance below it that was opened, whose ports are being joined
pub record Inside (base : ℕ) (ms : List Module) (Q : ℕ → Instantiation → Sofar → Type 0) (depth : ℕ) (i : Instantiation) (before at now : Sofar) (x : Item) (k : InstanceItem) (m : Module) (o : One) : Type 0 where
  pub outer : Here Q depth i before at
  pub below : IsBelow base ms i before x k m o
  pub known : Q depth (inner_of (context base i before) x.place k m o) at
  pub continues : Continues (opened (inner_of (context base i before) x.place k m o) at) now

-- a port that is joined by an assignment to its signal s
pub record IsJoined (base : ℕ) (i : Instantiation) (before at : Sofar) (x : Item) (k : InstanceItem) (m : Module) (o : One) (j : JoinedPort) (s : SignalEntry) : Type 0 where
  pub port_in : In j (ports_of (context base i before) k m o)
  pub entry : look_up (context base (inner_of (context base i before) x.place k m o) at).scope j.port.name.name ≡ Some (a_signal s)
  pub joined : joining (context base i before).scope j.port j.label j.value ≡ by_assignment

-- the processes that the items of an instance add
abbrev pub made_assign : ℕ → Instantiation → Sofar → Sofar → Place → Expr → Expr → ℕ → Made
made_assign base i before st p x v n = continuous base (context base i before).scope (length before.design.instances) (length st.design.processes) p x v n

abbrev pub made_always : ℕ → Instantiation → Sofar → Sofar → Place → When → Statement → ℕ → ℕ → Made
made_always base i before st p w s l n = always base (context base i before).scope (length before.design.instances) (length st.design.processes) p w s l n

abbrev pub made_input : ℕ → Instantiation → Sofar → Sofar → Place → JoinedPort → SignalEntry → Made
made_input base i before st p j s = joined_input base (context base i before).scope (length before.design.instances) (length st.design.processes) p j.label s j.value

abbrev pub made_output : ℕ → Instantiation → Sofar → Sofar → Place → JoinedPort → SignalEntry → Made
made_output base i before st p j s = joined_output base (context base i before).scope (length before.design.instances) (length st.design.processes) p s j.value

-- what each step keeps: P of what is so far, Q of an instance that is to be opened, so many levels above the lowest
pub record Steps (base : ℕ) (ms : List Module) (P : Sofar → Type 0) (Q : ℕ → Instantiation → Sofar → Type 0) : Type 0 where
  pub meets : (st : Sofar) → P st → P (meet [] st)
  pub opens : (depth : ℕ) (i : Instantiation) (st : Sofar) → IsFree (opening_met i) → Q (suc depth) i st → P st → P (opened i st)
  pub assigns : (depth : ℕ) (i : Instantiation) (before st : Sofar) → Here Q depth i before st → (x : Item) → In x i.of_module.items →
      (y v : Expr) (n : ℕ) → IsAssigned x.form y v → IsFree (made_assign base i before st x.place y v n).met → P st → P (add_process (made_assign base i before st x.place y v n) st)
  pub runs : (depth : ℕ) (i : Instantiation) (before st : Sofar) → Here Q depth i before st → (x : Item) → In x i.of_module.items →
      (w : When) (s : Statement) (l n : ℕ) → x.form ≡ always_item w s → IsFree (made_always base i before st x.place w s l n).met → P st → P (add_process (made_always base i before st x.place w s l n) st)
  pub inputs : (depth : ℕ) (i : Instantiation) (before at st : Sofar) (x : Item) (k : InstanceItem) (m : Module) (o : One) → Inside base ms Q depth i before at st x k m o →
      (j : JoinedPort) (s : SignalEntry) → IsJoined base i before at x k m o j s → is_input j.port ≡ true → IsFree (made_input base i before st x.place j s).met → P st → P (add_process (made_input base i before st x.place j s) st)
  pub outputs : (depth : ℕ) (i : Instantiation) (before at st : Sofar) (x : Item) (k : InstanceItem) (m : Module) (o : One) → Inside base ms Q depth i before at st x k m o →
      (j : JoinedPort) (s : SignalEntry) → IsJoined base i before at x k m o j s → is_input j.port ≡ false → IsFree (made_output base i before st x.place j s).met → P st → P (add_process (made_output base i before st x.place j s) st)
  pub below : (depth : ℕ) (i : Instantiation) (before st : Sofar) → Here Q depth i before st → P st → (x : Item) (k : InstanceItem) (m : Module) (o : One) → IsBelow base ms i before x k m o →
      Q depth (inner_of (context base i before) x.place k m o) (meet (connections_met (context base i before) k m o) st)

-- how far the items of an instance are replaced: the numbers that come next, and the instances that were named so far
pub record Progress : Type 0 where
  pub lines : ℕ
  pub nodes : ℕ
  pub ones : List One

abbrev pub progress : ℕ → ℕ → List One → Progress
progress l n os = record { lines = l; nodes = n; ones = os }

-- the instances that items name
abbrev pub ones_in : ItemForm → List One
ones_in (instance_item k) = k.ones
ones_in _ = []

abbrev pub ones_of : List Item → List One
ones_of xs = flat_map (λ x. ones_in x.form) xs

-- P holds of what is so far, and R of what was added since instance i was opened, up to here
pub record Kept (P : Sofar → Type 0) (R : Instantiation → Sofar → Progress → Sofar → Type 0) (i : Instantiation) (before : Sofar) (r : Progress) (st : Sofar) : Type 0 where
  pub holds : P st
  pub added : R i before r st

-- the same with R of what was added since an instance was opened, by how far its items are replaced
pub record Walk (base : ℕ) (ms : List Module) (P : Sofar → Type 0) (Q : ℕ → Instantiation → Sofar → Type 0) (R : Instantiation → Sofar → Progress → Sofar → Type 0) : Type 0 where
  pub meets : (i : Instantiation) (before st : Sofar) (r : Progress) → Kept P R i before r st → Kept P R i before r (meet [] st)
  pub opens : (depth : ℕ) (i : Instantiation) (st : Sofar) → IsFree (opening_met i) → Q (suc depth) i st → P st → Kept P R i st (progress 1 1 []) (opened i st)
  pub assigns : (depth : ℕ) (i : Instantiation) (before st : Sofar) → Here Q depth i before st → (x : Item) → In x i.of_module.items →
      (y v : Expr) (l n : ℕ) (os : List One) → IsAssigned x.form y v → IsFree (made_assign base i before st x.place y v n).met → Kept P R i before (progress l n os) st →
      Kept P R i before (progress l (n + (nodes (context base i before).scope y + nodes (context base i before).scope v)) os) (add_process (made_assign base i before st x.place y v n) st)
  pub runs : (depth : ℕ) (i : Instantiation) (before st : Sofar) → Here Q depth i before st → (x : Item) → In x i.of_module.items →
      (w : When) (s : Statement) (l n : ℕ) (os : List One) → x.form ≡ always_item w s → IsFree (made_always base i before st x.place w s l n).met → Kept P R i before (progress l n os) st →
      Kept P R i before (progress (l + lines s) (n + statement_nodes (context base i before).scope s) os) (add_process (made_always base i before st x.place w s l n) st)
  pub inputs : (depth : ℕ) (i : Instantiation) (before at st : Sofar) (x : Item) (k : InstanceItem) (m : Module) (o : One) → Inside base ms Q depth i before at st x k m o → (r : Progress) →
      (j : JoinedPort) (s : SignalEntry) → IsJoined base i before at x k m o j s → is_input j.port ≡ true → IsFree (made_input base i before st x.place j s).met → Kept P R i before r st → Kept P R i before r (add_process (made_input base i before st x.place j s) st)
  pub outputs : (depth : ℕ) (i : Instantiation) (before at st : Sofar) (x : Item) (k : InstanceItem) (m : Module) (o : One) → Inside base ms Q depth i before at st x k m o → (r : Progress) →
      (j : JoinedPort) (s : SignalEntry) → IsJoined base i before at x k m o j s → is_input j.port ≡ false → IsFree (made_output base i before st x.place j s).met → Kept P R i before r st → Kept P R i before r (add_process (made_output base i before st x.place j s) st)
  pub below : (depth : ℕ) (i : Instantiation) (before st : Sofar) → Here Q depth i before st → (l n : ℕ) (os : List One) → Kept P R i before (progress l n os) st → (x : Item) (k : InstanceItem) (m : Module) (o : One) → IsBelow base ms i before x k m o →
      (later : List One) → ones_of i.of_module.items ≡ os ++ (o ∷ later) → Q depth (inner_of (context base i before) x.place k m o) (meet (connections_met (context base i before) k m o) st)
  pub inside : (depth : ℕ) (i : Instantiation) (before at now : Sofar) (x : Item) (k : InstanceItem) (m : Module) (o : One) → Inside base ms Q depth i before at now x k m o → (l n : ℕ) (os : List One) → R i before (progress l n os) at →
      (last : Progress) → R (inner_of (context base i before) x.place k m o) at last now → R i before (progress l n (os ++ o ∷ [])) now
  pub skips : (i : Instantiation) (before st : Sofar) (l n : ℕ) (os more : List One) → R i before (progress l n os) st → R i before (progress l n (os ++ more)) st

-- what is asked of the instances one level below
record Child (P : Sofar → Type 0) (Q : ℕ → Instantiation → Sofar → Type 0) (R : Instantiation → Sofar → Progress → Sofar → Type 0) (depth : ℕ) (child : Instantiation → Sofar → Sofar) : Type 0 where
  continues : (i : Instantiation) (st : Sofar) → Continues st (child i st)
  opens : (i : Instantiation) (st : Sofar) → IsFree (child i st).met → Continues (opened i st) (child i st)
  keeps : (i : Instantiation) (st : Sofar) → Q depth i st → IsFree (child i st).met → P st → (r : Progress) × Kept P R i st r (child i st)

-- what was added is free
free_added : (ms : List Met) (st : Sofar) → IsFree (st.met ++ ms) → IsFree ms
free_added ms st h = (free_parts st.met ms h).1

never_free : (f : Fault) → IsFree (met_fault f ∷ []) → ⊥
never_free f h = false≢true (sym h.no_fault)

abbrev met_of : Sofar → List Met
met_of st = st.met

-- an instance is opened where no fault is met: it is not too deep
pub instance_opens : (base : ℕ) (ms : List Module) (depth : ℕ) (i : Instantiation) (st : Sofar) → IsFree (instance base ms depth i st).met → Continues (opened i st) (instance base ms depth i st)
instance_opens base ms zero i st free = absurd (never_free _ (free_added _ st free))
instance_opens base ms (suc depth) i st free = items_continue (instance base ms depth) (instance_continues base ms depth) base ms (context base i st) i.of_module.items 1 1 (opened i st)

module _ (base : ℕ) (ms : List Module) (P : Sofar → Type 0) (Q : ℕ → Instantiation → Sofar → Type 0) (R : Instantiation → Sofar → Progress → Sofar → Type 0) (walk : Walk base ms P Q R) where
  join_as_keeps : (depth : ℕ) (i : Instantiation) (before at st : Sofar) (x : Item) (k : InstanceItem) (m : Module) (o : One) → Inside base ms Q depth i before at st x k m o → (r : Progress) →
      (j : JoinedPort) → In j (ports_of (context base i before) k m o) → (b : Joined) → joining (context base i before).scope j.port j.label j.value ≡ b →
      (e : Option Entry) → look_up (context base (inner_of (context base i before) x.place k m o) at).scope j.port.name.name ≡ e →
      IsFree (join_as b (context base i before) x.place j e st).met → Kept P R i before r st → Kept P R i before r (join_as b (context base i before) x.place j e st)
  join_as_keeps depth i before at st x k m o inside r j port_in by_assignment joined (Some (a_signal s)) entry free kept = by_direction (is_input j.port) refl free
    where
      by_direction : (b : Bool) → is_input j.port ≡ b → IsFree (if b then add_process (made_input base i before st x.place j s) st else add_process (made_output base i before st x.place j s) st).met → Kept P R i before r (if b then add_process (made_input base i before st x.place j s) st else add_process (made_output base i before st x.place j s) st)
      by_direction true is f = walk.inputs depth i before at st x k m o inside r j s (record { port_in = port_in; entry = entry; joined = joined }) is (free_added _ st f) kept
      by_direction false is f = walk.outputs depth i before at st x k m o inside r j s (record { port_in = port_in; entry = entry; joined = joined }) is (free_added _ st f) kept
  join_as_keeps depth i before at st x k m o inside r j port_in by_assignment joined None entry free kept = kept
  join_as_keeps depth i before at st x k m o inside r j port_in by_assignment joined (Some (a_constant v)) entry free kept = kept
  join_as_keeps depth i before at st x k m o inside r j port_in by_assignment joined (Some (a_turn v)) entry free kept = kept
  join_as_keeps depth i before at st x k m o inside r j port_in by_assignment joined (Some (a_memory v)) entry free kept = kept
  join_as_keeps depth i before at st x k m o inside r j port_in by_assignment joined (Some a_loop_variable) entry free kept = kept
  join_as_keeps depth i before at st x k m o inside r j port_in by_assignment joined (Some an_instance) entry free kept = kept
  join_as_keeps depth i before at st x k m o inside r j port_in by_assignment joined (Some no_constant) entry free kept = kept
  join_as_keeps depth i before at st x k m o inside r j port_in by_assignment joined (Some a_faulty_one) entry free kept = kept
  join_as_keeps depth i before at st x k m o inside r j port_in (as_alias n) joined e entry free kept = kept
  join_as_keeps depth i before at st x k m o inside r j port_in not_joined joined e entry free kept = kept

  join_ports_keep : (depth : ℕ) (i : Instantiation) (before at st : Sofar) (x : Item) (k : InstanceItem) (m : Module) (o : One) → Inside base ms Q depth i before at st x k m o → (r : Progress) →
      (js : List JoinedPort) → ((j : JoinedPort) → In j js → In j (ports_of (context base i before) k m o)) →
      IsFree (join_ports (context base i before) x.place (context base (inner_of (context base i before) x.place k m o) at).scope js st).met → Kept P R i before r st →
      Kept P R i before r (join_ports (context base i before) x.place (context base (inner_of (context base i before) x.place k m o) at).scope js st)
  join_ports_keep depth i before at st x k m o inside r [] all_in free kept = kept
  join_ports_keep depth i before at st x k m o inside r (j ∷ js) all_in free kept =
      let c = context base i before in
      let inner = (context base (inner_of c x.place k m o) at).scope in
      let now : Sofar = join_port c x.place inner j st in
      let step : Continues st now = join_port_continues c x.place inner j st in
      let first : Kept P R i before r now = join_as_keeps depth i before at st x k m o inside r j (all_in j (inl refl)) _ refl _ refl (free_before (join_ports_continues c x.place inner js now) free) kept in
      join_ports_keep depth i before at now x k m o
      (record { outer = inside.outer; below = inside.below; known = inside.known; continues = continues_twice inside.continues step })
      r js (λ y h. all_in y (inr h)) free first

  -- no fault is met, so nothing is
  meets_no_fault : (fs : List Fault) (i : Instantiation) (before st : Sofar) (r : Progress) → IsFree (met_faults fs) → Kept P R i before r st → Kept P R i before r (meet (met_faults fs) st)
  meets_no_fault fs i before st r free kept = subst (λ xs. Kept P R i before r (meet (met_faults xs) st)) (sym (free_faults fs free)) (walk.meets i before st r kept)

  -- by equal numbers, and equal lists of instances
  moved : (i : Instantiation) (before st : Sofar) (l n l2 n2 : ℕ) (os os2 : List One) → l ≡ l2 → n ≡ n2 → os ≡ os2 → Kept P R i before (progress l n os) st → Kept P R i before (progress l2 n2 os2) st
  moved i before st l n l2 n2 os os2 a b c kept =
      subst (λ z. Kept P R i before (progress l2 n2 z) st) c (subst (λ z. Kept P R i before (progress l2 z os) st) b (subst (λ z. Kept P R i before (progress z n os) st) a kept))

  one_keeps : (depth : ℕ) (child : Instantiation → Sofar → Sofar) → Child P Q R depth child →
      (i : Instantiation) (before st : Sofar) → Here Q depth i before st → (x : Item) → In x i.of_module.items → (k : InstanceItem) → x.form ≡ instance_item k →
      (m : Module) → module_of ms k.of_module.name ≡ Some m → list_any (bytes_eq m.name.name) i.around ≡ false → are_sound_overrides (context base i before).scope k.of_module m k.overrides ≡ true →
      (l n : ℕ) (os : List One) (o : One) → In o k.ones → (later : List One) → ones_of i.of_module.items ≡ os ++ (o ∷ later) →
      IsFree (one_instance child base (context base i before) x.place k m (overrides (context base i before).scope k.of_module m k.overrides) o st).met → Kept P R i before (progress l n os) st →
      Kept P R i before (progress l n (os ++ o ∷ [])) (one_instance child base (context base i before) x.place k m (overrides (context base i before).scope k.of_module m k.overrides) o st)
  one_keeps depth child kid i before st here x x_in k form m module_is not_around sound l n os o o_in later whole free kept = by_declared (is_declared_here c o.name) refl free
    where
      c : Context
      c = context base i before

      inner : Instantiation
      inner = inner_of c x.place k m o

      at : Sofar
      at = meet (connections_met c k m o) st

      done : Sofar
      done = replaced child base c x.place inner (ports_of c k m o) at

      by_declared : (b : Bool) → is_declared_here c o.name ≡ b → IsFree (if b then done else st).met → Kept P R i before (progress l n (os ++ o ∷ [])) (if b then done else st)
      by_declared false is f = record { holds = kept.holds; added = walk.skips i before st l n os (o ∷ []) kept.added }
      by_declared true is f =
          let after : Sofar = child inner at in
          let child_free : IsFree after.met = free_before (join_ports_continues c x.place (context base inner at).scope (ports_of c k m o) after) f in
          let met_free : IsFree at.met = free_before (kid.continues inner at) child_free in
          let connected : IsFree (connections_met c k m o) = free_added _ st met_free in
          let under : IsBelow base ms i before x k m o = record { item_in = x_in; form = form; module_is = module_is; not_around = not_around; sound = sound; one_in = o_in; declared_here = is; connected = connected } in
          let known : Q depth inner at = walk.below depth i before st here l n os kept x k m o under later whole in
          let outer : Here Q depth i before at = record { opening = here.opening; known = here.known; continues = continues_twice here.continues (continues_meet (connections_met c k m o) st) } in
          let within : Inside base ms Q depth i before at after x k m o = record { outer = outer; below = under; known = known; continues = kid.opens inner at child_free } in
          let met : Kept P R i before (progress l n os) at = meets_no_fault _ i before st (progress l n os) connected kept in
          let below = kid.keeps inner at known child_free met.holds in
          let now : Kept P R i before (progress l n (os ++ o ∷ [])) after = record { holds = below.1.holds; added = walk.inside depth i before at after x k m o within l n os met.added below.0 below.1.added } in
          join_ports_keep depth i before at after x k m o within (progress l n (os ++ o ∷ [])) (ports_of c k m o) (λ j h. h) f now

  all_keep : (depth : ℕ) (child : Instantiation → Sofar → Sofar) → Child P Q R depth child →
      (i : Instantiation) (before st : Sofar) → Here Q depth i before st → (x : Item) → In x i.of_module.items → (k : InstanceItem) → x.form ≡ instance_item k →
      (m : Module) → module_of ms k.of_module.name ≡ Some m → list_any (bytes_eq m.name.name) i.around ≡ false → are_sound_overrides (context base i before).scope k.of_module m k.overrides ≡ true →
      (l n : ℕ) (os more rest : List One) → ((o : One) → In o more → In o k.ones) → ones_of i.of_module.items ≡ os ++ (more ++ rest) →
      IsFree (all_instances child base (context base i before) x.place k m (overrides (context base i before).scope k.of_module m k.overrides) more st).met → Kept P R i before (progress l n os) st →
      Kept P R i before (progress l n (os ++ more)) (all_instances child base (context base i before) x.place k m (overrides (context base i before).scope k.of_module m k.overrides) more st)
  all_keep depth child kid i before st here x x_in k form m module_is not_around sound l n os [] rest all_in whole free kept = moved i before st l n l n os (os ++ []) refl refl (sym (append-nil os)) kept
  all_keep depth child kid i before st here x x_in k form m module_is not_around sound l n os (o ∷ more) rest all_in whole free kept =
      let c = context base i before in
      let given = overrides c.scope k.of_module m k.overrides in
      let now : Sofar = one_instance child base c x.place k m given o st in
      let first : Kept P R i before (progress l n (os ++ o ∷ [])) now = one_keeps depth child kid i before st here x x_in k form m module_is not_around sound l n os o (all_in o (inl refl)) (more ++ rest) whole (free_before (all_continue child kid.continues base c x.place k m given more now) free) kept in
      moved i before (all_instances child base c x.place k m given more now) l n l n ((os ++ o ∷ []) ++ more) (os ++ (o ∷ more)) refl refl (append_assoc os (o ∷ []) more)
      (all_keep depth child kid i before now
      (record { opening = here.opening; known = here.known; continues = continues_twice here.continues (one_continues child kid.continues base c x.place k m given o st) })
      x x_in k form m module_is not_around sound l n (os ++ o ∷ []) more rest (λ y h. all_in y (inr h)) (whole ∙ sym (append_assoc os (o ∷ []) (more ++ rest))) free first)

  instances_keep : (depth : ℕ) (child : Instantiation → Sofar → Sofar) → Child P Q R depth child →
      (i : Instantiation) (before st : Sofar) → Here Q depth i before st → (x : Item) → In x i.of_module.items → (k : InstanceItem) → x.form ≡ instance_item k →
      (l n : ℕ) (os rest : List One) → ones_of i.of_module.items ≡ os ++ (k.ones ++ rest) →
      (found : Option Module) → module_of ms k.of_module.name ≡ found → IsFree (instances_of child base (context base i before) x.place k found st).met → Kept P R i before (progress l n os) st →
      Kept P R i before (progress l n (os ++ k.ones)) (instances_of child base (context base i before) x.place k found st)
  instances_keep depth child kid i before st here x x_in k form l n os rest whole None found free kept = absurd (never_free _ (free_added _ st free))
  instances_keep depth child kid i before st here x x_in k form l n os rest whole (Some m) found free kept = by_around (list_any (bytes_eq m.name.name) i.around) refl free
    where
      c : Context
      c = context base i before

      recursion : Sofar
      recursion = meet (met_fault (fault_at Recursion k.of_module) ∷ []) st

      faulty : Sofar
      faulty = meet (met_faults (override_faults c.scope k.of_module m k.overrides)) st

      done : Sofar
      done = all_instances child base c x.place k m (overrides c.scope k.of_module m k.overrides) k.ones st

      by_sound : (b : Bool) → list_any (bytes_eq m.name.name) i.around ≡ false → are_sound_overrides c.scope k.of_module m k.overrides ≡ b → IsFree (met_of (elim b [ true ↦ done | false ↦ faulty ])) → Kept P R i before (progress l n (os ++ k.ones)) (elim b [ true ↦ done | false ↦ faulty ])
      by_sound true not_around is f = all_keep depth child kid i before st here x x_in k form m found not_around is l n os k.ones rest (λ y h. h) whole f kept
      by_sound false not_around is f = meets_no_fault _ i before st (progress l n (os ++ k.ones)) (free_added _ st f) (record { holds = kept.holds; added = walk.skips i before st l n os k.ones kept.added })

      by_around : (b : Bool) → list_any (bytes_eq m.name.name) i.around ≡ b → IsFree (met_of (if b then recursion else elim (are_sound_overrides c.scope k.of_module m k.overrides) [ true ↦ done | false ↦ faulty ])) → Kept P R i before (progress l n (os ++ k.ones)) (if b then recursion else elim (are_sound_overrides c.scope k.of_module m k.overrides) [ true ↦ done | false ↦ faulty ])
      by_around true is f = absurd (never_free _ (free_added _ st f))
      by_around false is f = by_sound (are_sound_overrides c.scope k.of_module m k.overrides) is refl f

  net_values_keep : (depth : ℕ) (i : Instantiation) (before st : Sofar) → Here Q depth i before st → (x : Item) → In x i.of_module.items →
      (ds : List Declared) → ((d : Declared) (v : Expr) → In d ds → d.value ≡ Some v → IsAssigned x.form (identifier d.name.place d.name.name) v) → (l n : ℕ) (os : List One) →
      IsFree (net_values (context base i before) x.place ds n st).met → Kept P R i before (progress l n os) st →
      Kept P R i before (progress l (n + values_nodes (context base i before).scope ds) os) (net_values (context base i before) x.place ds n st)
  net_values_keep depth i before st here x x_in [] all_in l n os free kept = moved i before st l n l (n + 0) os os refl (omega arith) refl kept
  net_values_keep depth i before st here x x_in (d ∷ ds) all_in l n os free kept =
      let c = context base i before in
      let now : Sofar = net_value c x.place d.name d.value n st in
      let now_free : IsFree now.met = free_before (net_values_continue c x.place ds (n + value_nodes c.scope d) now) free in
      moved i before (net_values c x.place ds (n + value_nodes c.scope d) now) l (n + value_nodes c.scope d + values_nodes c.scope ds) l (n + (value_nodes c.scope d + values_nodes c.scope ds)) os os refl (omega arith) refl
      (net_values_keep depth i before now
      (record { opening = here.opening; known = here.known; continues = continues_twice here.continues (net_value_continues c x.place d.name d.value n st) })
      x x_in ds (λ y v h. all_in y v (inr h)) l (n + value_nodes c.scope d) os free (by_value d.value refl now_free))
    where
      -- the counted nodes of a value, where there is one
      nodes_in : Option Expr → ℕ
      nodes_in v = elim v [ None ↦ 0 | Some e ↦ nodes (context base i before).scope e ]

      by_value : (v : Option Expr) → d.value ≡ v → IsFree (net_value (context base i before) x.place d.name v n st).met → Kept P R i before (progress l (n + nodes_in v) os) (net_value (context base i before) x.place d.name v n st)
      by_value None is f = moved i before st l n l (n + 0) os os refl (omega arith) refl kept
      by_value (Some v) is f =
          let y : Expr = identifier d.name.place d.name.name in
          let g = (context base i before).scope in
          moved i before _ l (n + (0 + nodes g v)) l (n + nodes g v) os os refl (omega arith) refl (walk.assigns depth i before st here x x_in y v l n os (all_in d v (inl refl) is) (free_added _ st f) kept)

  item_keeps : (depth : ℕ) (child : Instantiation → Sofar → Sofar) → Child P Q R depth child →
      (i : Instantiation) (before st : Sofar) → Here Q depth i before st → (x : Item) → In x i.of_module.items → (form : ItemForm) → x.form ≡ form → (l n : ℕ) (os rest : List One) →
      ones_of i.of_module.items ≡ os ++ (ones_in form ++ rest) → IsFree (item child base ms (context base i before) x.place form l n st).met → Kept P R i before (progress l n os) st →
      Kept P R i before (progress (l + form_lines form) (n + form_nodes (context base i before).scope form) (os ++ ones_in form)) (item child base ms (context base i before) x.place form l n st)
  item_keeps depth child kid i before st here x x_in (net_item k) is l n os rest whole free kept =
      moved i before _ l _ (l + 0) _ os (os ++ []) (omega arith) refl (sym (append-nil os))
      (net_values_keep depth i before st here x x_in k.names (λ d v h e. subst (λ f. IsAssigned f (identifier d.name.place d.name.name) v) (sym is) (d, h, refl, e)) l n os free kept)
  item_keeps depth child kid i before st here x x_in (continuous_item y v) is l n os rest whole free kept =
      moved i before _ l _ (l + 0) _ os (os ++ []) (omega arith) refl (sym (append-nil os))
      (walk.assigns depth i before st here x x_in y v l n os (subst (λ f. IsAssigned f y v) (sym is) (refl, refl)) (free_added _ st free) kept)
  item_keeps depth child kid i before st here x x_in (always_item w s) is l n os rest whole free kept =
      moved i before _ _ _ _ _ os (os ++ []) refl refl (sym (append-nil os)) (walk.runs depth i before st here x x_in w s l n os is (free_added _ st free) kept)
  item_keeps depth child kid i before st here x x_in (instance_item k) is l n os rest whole free kept =
      moved i before _ l n (l + 0) (n + 0) _ _ (omega arith) (omega arith) refl (instances_keep depth child kid i before st here x x_in k is l n os rest whole (module_of ms k.of_module.name) refl free kept)
  item_keeps depth child kid i before st here x x_in (initial_item s) is l n os rest whole free kept = moved i before st l n (l + 0) (n + 0) os (os ++ []) (omega arith) (omega arith) (sym (append-nil os)) kept
  item_keeps depth child kid i before st here x x_in (port_item k) is l n os rest whole free kept = moved i before st l n (l + 0) (n + 0) os (os ++ []) (omega arith) (omega arith) (sym (append-nil os)) kept
  item_keeps depth child kid i before st here x x_in (variable_item k) is l n os rest whole free kept = moved i before st l n (l + 0) (n + 0) os (os ++ []) (omega arith) (omega arith) (sym (append-nil os)) kept
  item_keeps depth child kid i before st here x x_in (integer_item k) is l n os rest whole free kept = moved i before st l n (l + 0) (n + 0) os (os ++ []) (omega arith) (omega arith) (sym (append-nil os)) kept
  item_keeps depth child kid i before st here x x_in (parameter_item k) is l n os rest whole free kept = moved i before st l n (l + 0) (n + 0) os (os ++ []) (omega arith) (omega arith) (sym (append-nil os)) kept

  items_keep : (depth : ℕ) (child : Instantiation → Sofar → Sofar) → Child P Q R depth child →
      (i : Instantiation) (before st : Sofar) → Here Q depth i before st → (xs : List Item) → ((x : Item) → In x xs → In x i.of_module.items) → (l n : ℕ) (os : List One) →
      ones_of i.of_module.items ≡ os ++ ones_of xs → IsFree (items child base ms (context base i before) xs l n st).met → Kept P R i before (progress l n os) st →
      (r : Progress) × Kept P R i before r (items child base ms (context base i before) xs l n st)
  items_keep depth child kid i before st here [] all_in l n os whole free kept = (progress l n os, kept)
  items_keep depth child kid i before st here (x ∷ xs) all_in l n os whole free kept =
      let c = context base i before in
      let now : Sofar = item child base ms c x.place x.form l n st in
      let first : Kept P R i before (progress (l + form_lines x.form) (n + form_nodes c.scope x.form) (os ++ ones_in x.form)) now = item_keeps depth child kid i before st here x (all_in x (inl refl)) x.form refl l n os (ones_of xs) whole (free_before (items_continue child kid.continues base ms c xs (l + form_lines x.form) (n + form_nodes c.scope x.form) now) free) kept in
      items_keep depth child kid i before now
      (record { opening = here.opening; known = here.known; continues = continues_twice here.continues (item_continues child kid.continues base ms c x.place x.form l n st) })
      xs (λ y h. all_in y (inr h)) (l + form_lines x.form) (n + form_nodes c.scope x.form) (os ++ ones_in x.form) (whole ∙ sym (append_assoc os (ones_in x.form) (ones_of xs))) free first

  -- the induction: what each step keeps, an instance with all below it keeps
  walk_keeps : (depth : ℕ) (i : Instantiation) (st : Sofar) → Q depth i st → IsFree (instance base ms depth i st).met → P st → (r : Progress) × Kept P R i st r (instance base ms depth i st)
  walk_keeps zero i st known free kept = absurd (never_free _ (free_added _ st free))
  walk_keeps (suc depth) i st known free kept =
      let child = instance base ms depth in
      let continues : Continues (opened i st) (instance base ms (suc depth) i st) = instance_opens base ms (suc depth) i st free in
      let opening : IsFree (opening_met i) = free_added _ st (free_before continues free) in
      items_keep depth child
      (record { continues = instance_continues base ms depth; opens = instance_opens base ms depth; keeps = walk_keeps depth })
      i st (opened i st) (record { opening = opening; known = known; continues = continues_same (opened i st) })
      i.of_module.items (λ x h. h) 1 1 [] refl free (walk.opens depth i st opening known kept)

  -- and so the whole design keeps it
  pub whole_keeps : (top : List ℕ) → ((m : Module) → module_of ms top ≡ Some m → Q 64 (top_instance top m) (start top)) → P (start top) →
      (found : Option Module) → module_of ms top ≡ found → IsFree (elaborated_from base ms top found).met → P (elaborated_from base ms top found)
  whole_keeps top known kept None is free = absurd (never_free _ (free_added _ (start top) free))
  whole_keeps top known kept (Some m) is free = (walk_keeps 64 (top_instance top m) (start top) (known m is) free kept).1.holds

-- nothing is asked of what was added
walk_of : (base : ℕ) (ms : List Module) (P : Sofar → Type 0) (Q : ℕ → Instantiation → Sofar → Type 0) → Steps base ms P Q → Walk base ms P Q (λ i before r st. Unit {0})
walk_of base ms P Q steps = record {
  meets = λ i before st r kept. record { holds = steps.meets st kept.holds; added = tt };
  opens = λ depth i st free known h. record { holds = steps.opens depth i st free known h; added = tt };
  assigns = λ depth i before st here x x_in y v l n os assigned free kept. record { holds = steps.assigns depth i before st here x x_in y v n assigned free kept.holds; added = tt };
  runs = λ depth i before st here x x_in w s l n os form free kept. record { holds = steps.runs depth i before st here x x_in w s l n form free kept.holds; added = tt };
  inputs = λ depth i before at st x k m o inside r j s joined way free kept. record { holds = steps.inputs depth i before at st x k m o inside j s joined way free kept.holds; added = tt };
  outputs = λ depth i before at st x k m o inside r j s joined way free kept. record { holds = steps.outputs depth i before at st x k m o inside j s joined way free kept.holds; added = tt };
  below = λ depth i before st here l n os kept x k m o under later whole. steps.below depth i before st here kept.holds x k m o under;
  inside = λ depth i before at now x k m o within l n os added last inner. tt;
  skips = λ i before st l n os more added. tt;
}

pub elaborated_keeps : (base : ℕ) (ms : List Module) (top : List ℕ) (P : Sofar → Type 0) (Q : ℕ → Instantiation → Sofar → Type 0) → Steps base ms P Q →
    ((m : Module) → module_of ms top ≡ Some m → Q 64 (top_instance top m) (start top)) → P (start top) →
    (found : Option Module) → module_of ms top ≡ found → IsFree (elaborated_from base ms top found).met → P (elaborated_from base ms top found)
elaborated_keeps base ms top P Q steps known kept found is free = whole_keeps base ms P Q (λ i before r st. Unit {0}) (walk_of base ms P Q steps) top known kept found is free
