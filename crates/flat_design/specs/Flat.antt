-- The flat design of modules and a top: each instance is replaced by its items under its path (clause 12).
use Rattle.std.specs.Prelude.{ℕ, zero, suc, ◌+◌, ◌==◌, Bool, true, false, ◌&&◌, if◌then◌else◌, List, [], ◌∷◌, ◌++◌, length, flat_map, bytes_eq, Option, Some, None}
use Rattle.std.specs.Prelude as std
use Rattle.std.specs.List.{list_any}
use Rattle.cov_host.specs.declared.place.Place.{Place}
use Rattle.verilog_tree.specs.declared.item.Named.{Named}
use Rattle.verilog_tree.specs.Tree.{Expr, identifier, One, InstanceItem, Declared, ItemForm, net_item, continuous_item, always_item, instance_item, Item, Module}
use Rattle.flat_design.specs.declared.fault.DesignLimit.TheVariants.{Instances}
use Rattle.flat_design.specs.Bodies.{met_fault, met_faults}
use Rattle.flat_design.specs.Connections.{Joined, by_assignment, joining, JoinedPort, joined_ports, port_alias, connections_faults, overrides, override_faults, are_sound_overrides}
use Rattle.flat_design.specs.Declarations.{Override}
use Rattle.flat_design.specs.Fault.{fault_at, limit_fault, missing_top, NoModule, Recursion}
use Rattle.flat_design.specs.Instances.{Instantiation, Sofar, meet, add_process, opened, Context, context, declared, dotted, is_input}
use Rattle.flat_design.specs.Numbering.{form_lines, form_nodes, value_nodes}
use Rattle.flat_design.specs.Processes.{continuous, always, joined_input, joined_output}
use Rattle.flat_design.specs.Scope.{Scope, Entry, a_signal, look_up}

-- a port that is joined by an assignment, with the signal that it has in the inner scope
abbrev pub join_signal : Context → Place → JoinedPort → Option Entry → Sofar → Sofar
join_signal c p j (Some (a_signal s)) st =
    if is_input j.port then add_process (joined_input c.base c.scope c.number (length st.design.processes) p j.label s j.value) st else add_process (joined_output c.base c.scope c.number (length st.design.processes) p s j.value) st
join_signal c p j _ st = st

-- a port that is joined in this way, with the signal that it has in the inner scope
abbrev pub join_as : Joined → Context → Place → JoinedPort → Option Entry → Sofar → Sofar
join_as by_assignment c p j x st = join_signal c p j x st
join_as _ c p j x st = st

-- unless the port is an alias, an assignment
abbrev pub join_port : Context → Place → Scope → JoinedPort → Sofar → Sofar
join_port c p inner j st = join_as (joining c.scope j.port j.label j.value) c p j (look_up inner j.port.name.name) st

-- the same for each port
abbrev pub join_ports : Context → Place → Scope → List JoinedPort → Sofar → Sofar
join_ports c p inner [] st = st
join_ports c p inner (j ∷ js) st = join_ports c p inner js (join_port c p inner j st)

-- one instance of module m, under the path of the outer instance
abbrev pub instantiation : Context → Place → Module → List Override → One → List JoinedPort → Instantiation
instantiation c p m os o js =
    record {
      of_module = m;
      path = dotted c.given.path o.name.name;
      overrides = os;
      aliases = flat_map (port_alias c.scope) js;
      around = m.name.name ∷ c.given.around;
      item = p;
      is_top = false;
    }

-- the instance is replaced by its items, and then its ports are joined
abbrev pub replaced : (Instantiation → Sofar → Sofar) → ℕ → Context → Place → Instantiation → List JoinedPort → Sofar → Sofar
replaced child base c p i js st = join_ports c p (context base i st).scope js (child i st)

-- one place
abbrev pub is_same_place : Place → Place → Bool
is_same_place p q = (p.source == q.source) && (p.line == q.line) && (p.column == q.column)

-- the declaration of this name is at this place
abbrev pub is_declared_here : Context → Named → Bool
is_declared_here c x = list_any (λ d. bytes_eq d.name.name x.name && is_same_place d.name.place x.place) (declared c.given.overrides c.given.of_module)

-- one instance: its connections, then its items
abbrev pub one_instance : (Instantiation → Sofar → Sofar) → ℕ → Context → Place → InstanceItem → Module → List Override → One → Sofar → Sofar
one_instance child base c p i m os o st =
    let js : List JoinedPort = joined_ports os m i.of_module o.given in
    if is_declared_here c o.name then replaced child base c p (instantiation c p m os o js) js (meet (met_faults (connections_faults c.scope os m i.of_module o.given)) st) else st

-- the instances that one item names
abbrev pub all_instances : (Instantiation → Sofar → Sofar) → ℕ → Context → Place → InstanceItem → Module → List Override → List One → Sofar → Sofar
all_instances child base c p i m os [] st = st
all_instances child base c p i m os (o ∷ more) st = all_instances child base c p i m os more (one_instance child base c p i m os o st)

-- the first module of this name
abbrev pub module_of : List Module → List ℕ → Option Module
module_of ms x = std.find (λ m. bytes_eq m.name.name x) ms

-- instances of a module: an absent one, one inside itself, or one with faulty overrides has no items
abbrev pub instances_of : (Instantiation → Sofar → Sofar) → ℕ → Context → Place → InstanceItem → Option Module → Sofar → Sofar
instances_of child base c p i None st = meet (met_fault (fault_at NoModule i.of_module) ∷ []) st
instances_of child base c p i (Some m) st =
    if list_any (bytes_eq m.name.name) c.given.around then meet (met_fault (fault_at Recursion i.of_module) ∷ []) st else elim (are_sound_overrides c.scope i.of_module m i.overrides) [
      | true ↦ all_instances child base c p i m (overrides c.scope i.of_module m i.overrides) i.ones st
      | false ↦ meet (met_faults (override_faults c.scope i.of_module m i.overrides)) st
    ]

-- a net that is declared with a value is assigned it
abbrev pub net_value : Context → Place → Named → Option Expr → ℕ → Sofar → Sofar
net_value c p x None n st = st
net_value c p x (Some e) n st = add_process (continuous c.base c.scope c.number (length st.design.processes) p (identifier x.place x.name) e n) st

-- the same for each name of the item, in order
abbrev pub net_values : Context → Place → List Declared → ℕ → Sofar → Sofar
net_values c p [] n st = st
net_values c p (d ∷ ds) n st = net_values c p ds (n + value_nodes c.scope d) (net_value c p d.name d.value n st)

-- one item; its line points are numbered from l on, its counted nodes from n on
abbrev pub item : (Instantiation → Sofar → Sofar) → ℕ → List Module → Context → Place → ItemForm → ℕ → ℕ → Sofar → Sofar
item child base ms c p (net_item i) l n st = net_values c p i.names n st
item child base ms c p (continuous_item x v) l n st = add_process (continuous c.base c.scope c.number (length st.design.processes) p x v n) st
item child base ms c p (always_item w s) l n st = add_process (always c.base c.scope c.number (length st.design.processes) p w s l n) st
item child base ms c p (instance_item i) l n st = instances_of child base c p i (module_of ms i.of_module.name) st
item child base ms c p _ l n st = st

-- the items in order, each with its numbers
abbrev pub items : (Instantiation → Sofar → Sofar) → ℕ → List Module → Context → List Item → ℕ → ℕ → Sofar → Sofar
items child base ms c [] l n st = st
items child base ms c (i ∷ is) l n st = items child base ms c is (l + form_lines i.form) (n + form_nodes c.scope i.form) (item child base ms c i.place i.form l n st)

-- an instance with the items of all below it, as many levels deep as the first number says
abbrev pub instance : ℕ → List Module → ℕ → Instantiation → Sofar → Sofar
instance base ms zero i st = meet (met_fault (limit_fault Instances i.item) ∷ []) st
instance base ms (suc depth) i st = items (instance base ms depth) base ms (context base i st) i.of_module.items 1 1 (opened i st)

-- the top: its path is its name
abbrev pub top_instance : List ℕ → Module → Instantiation
top_instance top m = record { of_module = m; path = top; overrides = []; aliases = []; around = m.name.name ∷ []; item = m.name.place; is_top = true }

-- the design before anything
abbrev pub start : List ℕ → Sofar
start top = record { design = record { top = top; instances = []; signals = []; memories = []; processes = []; constants = []; aliases = [] }; met = [] }

-- the top and all below it, with memories numbered from base on
abbrev pub elaborated_from : ℕ → List Module → List ℕ → Option Module → Sofar
elaborated_from base ms top None = meet (met_fault (missing_top top) ∷ []) (start top)
elaborated_from base ms top (Some m) = instance base ms 64 (top_instance top m) (start top)

-- memories are numbered after all signals
abbrev pub elaborated : List Module → List ℕ → Sofar
elaborated ms top =
    let signals : ℕ = length (elaborated_from 0 ms top (module_of ms top)).design.signals in
    elaborated_from signals ms top (module_of ms top)
