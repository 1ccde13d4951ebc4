-- Each step of elaboration adds at the ends of the lists.
use Rattle.std.proofs.Common.{◌≡◌, ℕ, zero, suc, ◌+◌, Bool, true, false, List, [], ◌∷◌, ◌++◌, Option, Some, None, refl, sym, ap, ◌∙◌, subst, append_assoc, append-nil, if◌then◌else◌}
use Rattle.cov_host.specs.declared.place.Place.{Place}
use Rattle.std.specs.List.{list_any}
use Rattle.std.specs.Prelude.{bytes_eq}
use Rattle.verilog_tree.specs.Tree.{Expr, One, InstanceItem, Declared, ItemForm, net_item, continuous_item, always_item, instance_item, Item, Module}
use Rattle.verilog_tree.specs.declared.item.Named.{Named}
use Rattle.flat_design.specs.Bodies.{Met, met_faults}
use Rattle.flat_design.specs.Connections.{Joined, as_alias, by_assignment, not_joined, joining, JoinedPort, joined_ports, connections_faults, overrides, are_sound_overrides}
use Rattle.flat_design.specs.Declarations.{Override}
use Rattle.flat_design.specs.Flat.{join_signal, join_as, join_port, join_ports, instantiation, replaced, is_declared_here, one_instance, all_instances, instances_of, module_of, net_value, net_values, item, items, instance}
use Rattle.flat_design.specs.Instances.{Instantiation, Sofar, meet, add_process, opened, Context, context, is_input}
use Rattle.flat_design.specs.Numbering.{form_lines, form_nodes, value_nodes}
use Rattle.flat_design.specs.Processes.{Made}
use Rattle.flat_design.specs.Scope.{Scope, look_up}
use Rattle.flat_design.specs.declared.entry.Entry.{Entry}
use Rattle.flat_design.specs.declared.entry.Entry.TheVariants.{Constant as a_constant, Turn as a_turn, Signal as a_signal, Memory as a_memory, LoopVariable as a_loop_variable, Instance as an_instance, NoConstant as no_constant, Faulty as a_faulty_one}
use Rattle.flat_laws.proofs.Freedom.{IsFree, free_parts}

-- the second list begins with the first
pub record Begins {A : Type 0} (xs ys : List A) : Type 0 where
  pub rest : List A
  pub whole : ys ≡ xs ++ rest

pub begins_same : {A : Type 0} (xs : List A) → Begins xs xs
begins_same xs = record { rest = []; whole = sym (append-nil xs) }

pub begins_more : {A : Type 0} (xs ys : List A) → Begins xs (xs ++ ys)
begins_more xs ys = record { rest = ys; whole = refl }

pub begins_twice : {A : Type 0} {xs ys zs : List A} → Begins xs ys → Begins ys zs → Begins xs zs
begins_twice {xs = xs} {zs = zs} h k = record { rest = h.rest ++ k.rest; whole = k.whole ∙ (ap (λ l. l ++ k.rest) h.whole ∙ append_assoc xs h.rest k.rest) }

-- each list of the second begins with that of the first
pub record Continues (before later : Sofar) : Type 0 where
  pub instances : Begins before.design.instances later.design.instances
  pub signals : Begins before.design.signals later.design.signals
  pub memories : Begins before.design.memories later.design.memories
  pub constants : Begins before.design.constants later.design.constants
  pub aliases : Begins before.design.aliases later.design.aliases
  pub processes : Begins before.design.processes later.design.processes
  pub met : Begins before.met later.met

pub continues_same : (st : Sofar) → Continues st st
continues_same st = record {
  instances = begins_same st.design.instances;
  signals = begins_same st.design.signals;
  memories = begins_same st.design.memories;
  constants = begins_same st.design.constants;
  aliases = begins_same st.design.aliases;
  processes = begins_same st.design.processes;
  met = begins_same st.met;
}

pub continues_twice : {a b c : Sofar} → Continues a b → Continues b c → Continues a c
continues_twice h k = record {
  instances = begins_twice h.instances k.instances;
  signals = begins_twice h.signals k.signals;
  memories = begins_twice h.memories k.memories;
  constants = begins_twice h.constants k.constants;
  aliases = begins_twice h.aliases k.aliases;
  processes = begins_twice h.processes k.processes;
  met = begins_twice h.met k.met;
}

-- where nothing that was met later is a fault, nothing before is
pub free_before : {a b : Sofar} → Continues a b → IsFree b.met → IsFree a.met
free_before {a = a} {b = b} h free = (free_parts a.met h.met.rest (subst IsFree h.met.whole free)).0

pub continues_meet : (xs : List Met) (st : Sofar) → Continues st (meet xs st)
continues_meet xs st = record {
  instances = begins_same st.design.instances;
  signals = begins_same st.design.signals;
  memories = begins_same st.design.memories;
  constants = begins_same st.design.constants;
  aliases = begins_same st.design.aliases;
  processes = begins_same st.design.processes;
  met = begins_more st.met xs;
}

pub continues_process : (m : Made) (st : Sofar) → Continues st (add_process m st)
continues_process m st = record {
  instances = begins_same st.design.instances;
  signals = begins_same st.design.signals;
  memories = begins_same st.design.memories;
  constants = begins_same st.design.constants;
  aliases = begins_same st.design.aliases;
  processes = begins_more st.design.processes (m.process ∷ []);
  met = begins_more st.met m.met;
}

pub continues_opened : (i : Instantiation) (st : Sofar) → Continues st (opened i st)
continues_opened i st = record {
  instances = begins_more st.design.instances _;
  signals = begins_more st.design.signals _;
  memories = begins_more st.design.memories _;
  constants = begins_more st.design.constants _;
  aliases = begins_more st.design.aliases _;
  processes = begins_same st.design.processes;
  met = begins_more st.met _;
}

continues_if : (b : Bool) (st x y : Sofar) → Continues st x → Continues st y → Continues st (if b then x else y)
continues_if true st x y h k = h
continues_if false st x y h k = k

join_signal_continues : (c : Context) (p : Place) (j : JoinedPort) (e : Option Entry) (st : Sofar) → Continues st (join_signal c p j e st)
join_signal_continues c p j (Some (a_signal s)) st = continues_if (is_input j.port) st _ _ (continues_process _ st) (continues_process _ st)
join_signal_continues c p j None st = continues_same st
join_signal_continues c p j (Some (a_constant v)) st = continues_same st
join_signal_continues c p j (Some (a_turn v)) st = continues_same st
join_signal_continues c p j (Some (a_memory m)) st = continues_same st
join_signal_continues c p j (Some a_loop_variable) st = continues_same st
join_signal_continues c p j (Some an_instance) st = continues_same st
join_signal_continues c p j (Some no_constant) st = continues_same st
join_signal_continues c p j (Some a_faulty_one) st = continues_same st

join_as_continues : (x : Joined) (c : Context) (p : Place) (j : JoinedPort) (e : Option Entry) (st : Sofar) → Continues st (join_as x c p j e st)
join_as_continues by_assignment c p j e st = join_signal_continues c p j e st
join_as_continues (as_alias n) c p j e st = continues_same st
join_as_continues not_joined c p j e st = continues_same st

pub join_port_continues : (c : Context) (p : Place) (inner : Scope) (j : JoinedPort) (st : Sofar) → Continues st (join_port c p inner j st)
join_port_continues c p inner j st = join_as_continues (joining c.scope j.port j.label j.value) c p j (look_up inner j.port.name.name) st

pub join_ports_continues : (c : Context) (p : Place) (inner : Scope) (js : List JoinedPort) (st : Sofar) → Continues st (join_ports c p inner js st)
join_ports_continues c p inner [] st = continues_same st
join_ports_continues c p inner (j ∷ js) st = continues_twice (join_port_continues c p inner j st) (join_ports_continues c p inner js (join_port c p inner j st))

pub one_continues : (child : Instantiation → Sofar → Sofar) → ((i : Instantiation) (st : Sofar) → Continues st (child i st)) → (base : ℕ) (c : Context) (p : Place) (i : InstanceItem) (m : Module) (os : List Override) (o : One) (st : Sofar) → Continues st (one_instance child base c p i m os o st)
one_continues child h base c p i m os o st =
    let js : List JoinedPort = joined_ports os m i.of_module o.given in
    let xs : List Met = met_faults (connections_faults c.scope os m i.of_module o.given) in
    let inner : Instantiation = instantiation c p m os o js in
    continues_if (is_declared_here c o.name) st (replaced child base c p inner js (meet xs st)) st
    (continues_twice (continues_meet xs st) (continues_twice (h inner (meet xs st)) (join_ports_continues c p (context base inner (meet xs st)).scope js (child inner (meet xs st)))))
    (continues_same st)

pub all_continue : (child : Instantiation → Sofar → Sofar) → ((i : Instantiation) (st : Sofar) → Continues st (child i st)) → (base : ℕ) (c : Context) (p : Place) (i : InstanceItem) (m : Module) (os : List Override) (more : List One) (st : Sofar) → Continues st (all_instances child base c p i m os more st)
all_continue child h base c p i m os [] st = continues_same st
all_continue child h base c p i m os (o ∷ more) st =
    continues_twice (one_continues child h base c p i m os o st) (all_continue child h base c p i m os more (one_instance child base c p i m os o st))

sound_continues : (b : Bool) (st x y : Sofar) → Continues st x → Continues st y → Continues st (elim b [ true ↦ x | false ↦ y ])
sound_continues true st x y h k = h
sound_continues false st x y h k = k

pub instances_continue : (child : Instantiation → Sofar → Sofar) → ((i : Instantiation) (st : Sofar) → Continues st (child i st)) → (base : ℕ) (c : Context) (p : Place) (i : InstanceItem) (m : Option Module) (st : Sofar) → Continues st (instances_of child base c p i m st)
instances_continue child h base c p i None st = continues_meet _ st
instances_continue child h base c p i (Some m) st =
    continues_if (list_any (bytes_eq m.name.name) c.given.around) st _ _ (continues_meet _ st)
    (sound_continues (are_sound_overrides c.scope i.of_module m i.overrides) st _ _ (all_continue child h base c p i m (overrides c.scope i.of_module m i.overrides) i.ones st) (continues_meet _ st))

pub net_value_continues : (c : Context) (p : Place) (x : Named) (v : Option Expr) (n : ℕ) (st : Sofar) → Continues st (net_value c p x v n st)
net_value_continues c p x None n st = continues_same st
net_value_continues c p x (Some e) n st = continues_process _ st

pub net_values_continue : (c : Context) (p : Place) (ds : List Declared) (n : ℕ) (st : Sofar) → Continues st (net_values c p ds n st)
net_values_continue c p [] n st = continues_same st
net_values_continue c p (d ∷ ds) n st =
    continues_twice (net_value_continues c p d.name d.value n st) (net_values_continue c p ds (n + value_nodes c.scope d) (net_value c p d.name d.value n st))

pub item_continues : (child : Instantiation → Sofar → Sofar) → ((i : Instantiation) (st : Sofar) → Continues st (child i st)) → (base : ℕ) (ms : List Module) (c : Context) (p : Place) (x : ItemForm) (l n : ℕ) (st : Sofar) → Continues st (item child base ms c p x l n st)
item_continues child h base ms c p (net_item i) l n st = net_values_continue c p i.names n st
item_continues child h base ms c p (continuous_item x v) l n st = continues_process _ st
item_continues child h base ms c p (always_item w s) l n st = continues_process _ st
item_continues child h base ms c p (instance_item i) l n st = instances_continue child h base c p i (module_of ms i.of_module.name) st
item_continues child h base ms c p _ l n st = continues_same st

pub items_continue : (child : Instantiation → Sofar → Sofar) → ((i : Instantiation) (st : Sofar) → Continues st (child i st)) → (base : ℕ) (ms : List Module) (c : Context) (is : List Item) (l n : ℕ) (st : Sofar) → Continues st (items child base ms c is l n st)
items_continue child h base ms c [] l n st = continues_same st
items_continue child h base ms c (i ∷ is) l n st =
    continues_twice (item_continues child h base ms c i.place i.form l n st) (items_continue child h base ms c is (l + form_lines i.form) (n + form_nodes c.scope i.form) (item child base ms c i.place i.form l n st))

pub instance_continues : (base : ℕ) (ms : List Module) (depth : ℕ) (i : Instantiation) (st : Sofar) → Continues st (instance base ms depth i st)
instance_continues base ms zero i st = continues_meet _ st
instance_continues base ms (suc depth) i st =
    continues_twice (continues_opened i st) (items_continue (instance base ms depth) (instance_continues base ms depth) base ms (context base i st) i.of_module.items 1 1 (opened i st))
