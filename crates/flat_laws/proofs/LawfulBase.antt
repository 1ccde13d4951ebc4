-- The signals, memories and instances do not depend on the number from which memories are numbered.
use Rattle.std.proofs.Common.{◌≡◌, ℕ, zero, suc, ◌+◌, Bool, true, false, List, [], ◌∷◌, Option, Some, None, refl, sym, ap, ◌∙◌, subst, length, if◌then◌else◌}
use Rattle.cov_host.specs.declared.place.Place.{Place}
use Rattle.std.specs.List.{list_any}
use Rattle.std.specs.Prelude.{bytes_eq}
use Rattle.verilog_tree.specs.declared.item.Named.{Named}
use Rattle.verilog_tree.specs.Tree.{Expr, One, InstanceItem, Declared, ItemForm, initial_item, port_item, net_item, variable_item, integer_item, parameter_item, continuous_item, always_item, instance_item, Item, Module}
use Rattle.flat_design.specs.Bodies.{Met, met_faults}
use Rattle.flat_design.specs.Connections.{Joined, as_alias, by_assignment, not_joined, joining, JoinedPort, joined_ports, connections_faults, overrides, are_sound_overrides}
use Rattle.flat_design.specs.Declarations.{Override}
use Rattle.flat_design.specs.Flat.{join_signal, join_as, join_port, join_ports, instantiation, is_declared_here, one_instance, all_instances, instances_of, module_of, net_value, net_values, item, items, instance, elaborated, elaborated_from, top_instance, start}
use Rattle.flat_design.specs.Instances.{Instantiation, Sofar, meet, opened, Context, context, is_input, scope_of}
use Rattle.flat_design.specs.Numbering.{form_lines, form_nodes, value_nodes}
use Rattle.flat_design.specs.Scope.{Scope, look_up}
use Rattle.flat_design.specs.declared.entry.Entry.{Entry}
use Rattle.flat_design.specs.declared.entry.Entry.TheVariants.{Constant as a_constant, Turn as a_turn, Signal as a_signal, Memory as a_memory, LoopVariable as a_loop_variable, Instance as an_instance, NoConstant as no_constant, Faulty as a_faulty_one}
use Rattle.flat_laws.proofs.LawfulLimits.{base_of}

-- equal signals, memories and instances
pub record Alike (a b : Sofar) : Type 0 where
  pub instances : a.design.instances ≡ b.design.instances
  pub signals : a.design.signals ≡ b.design.signals
  pub memories : a.design.memories ≡ b.design.memories

same_lists : (a : Sofar) → Alike a a
same_lists a = record { instances = refl; signals = refl; memories = refl }

alike_back : {a b : Sofar} → Alike a b → Alike b a
alike_back h = record { instances = sym h.instances; signals = sym h.signals; memories = sym h.memories }

alike_twice : {a b c : Sofar} → Alike a b → Alike b c → Alike a c
alike_twice h k = record { instances = h.instances ∙ k.instances; signals = h.signals ∙ k.signals; memories = h.memories ∙ k.memories }

-- what adds processes alone
alike_if : (b : Bool) (st x y : Sofar) → Alike x st → Alike y st → Alike (if b then x else y) st
alike_if true st x y h k = h
alike_if false st x y h k = k

join_signal_alike : (c : Context) (p : Place) (j : JoinedPort) (e : Option Entry) (st : Sofar) → Alike (join_signal c p j e st) st
join_signal_alike c p j (Some (a_signal s)) st = alike_if (is_input j.port) st _ _ (record { instances = refl; signals = refl; memories = refl }) (record { instances = refl; signals = refl; memories = refl })
join_signal_alike c p j None st = same_lists st
join_signal_alike c p j (Some (a_constant v)) st = same_lists st
join_signal_alike c p j (Some (a_turn v)) st = same_lists st
join_signal_alike c p j (Some (a_memory m)) st = same_lists st
join_signal_alike c p j (Some a_loop_variable) st = same_lists st
join_signal_alike c p j (Some an_instance) st = same_lists st
join_signal_alike c p j (Some no_constant) st = same_lists st
join_signal_alike c p j (Some a_faulty_one) st = same_lists st

join_as_alike : (x : Joined) (c : Context) (p : Place) (j : JoinedPort) (e : Option Entry) (st : Sofar) → Alike (join_as x c p j e st) st
join_as_alike by_assignment c p j e st = join_signal_alike c p j e st
join_as_alike (as_alias n) c p j e st = same_lists st
join_as_alike not_joined c p j e st = same_lists st

join_ports_alike : (c : Context) (p : Place) (inner : Scope) (js : List JoinedPort) (st : Sofar) → Alike (join_ports c p inner js st) st
join_ports_alike c p inner [] st = same_lists st
join_ports_alike c p inner (j ∷ js) st =
    alike_twice (join_ports_alike c p inner js (join_port c p inner j st)) (join_as_alike (joining c.scope j.port j.label j.value) c p j (look_up inner j.port.name.name) st)

net_value_alike : (c : Context) (p : Place) (x : Named) (v : Option Expr) (n : ℕ) (st : Sofar) → Alike (net_value c p x v n st) st
net_value_alike c p x None n st = same_lists st
net_value_alike c p x (Some e) n st = record { instances = refl; signals = refl; memories = refl }

net_values_alike : (c : Context) (p : Place) (ds : List Declared) (n : ℕ) (st : Sofar) → Alike (net_values c p ds n st) st
net_values_alike c p [] n st = same_lists st
net_values_alike c p (d ∷ ds) n st = alike_twice (net_values_alike c p ds (n + value_nodes c.scope d) (net_value c p d.name d.value n st)) (net_value_alike c p d.name d.value n st)

-- an instance, its number, its scope and the base
abbrev within : Instantiation → ℕ → Scope → ℕ → Context
within i n g base = record { given = i; number = n; scope = g; base = base }

met_alike : (xs ys : List Met) (a b : Sofar) → Alike a b → Alike (meet xs a) (meet ys b)
met_alike xs ys a b h = record { instances = h.instances; signals = h.signals; memories = h.memories }

both_if : (t : Bool) (x y u v : Sofar) → Alike x u → Alike y v → Alike (if t then x else y) (if t then u else v)
both_if true x y u v h k = h
both_if false x y u v h k = k

one_alike : (child other : Instantiation → Sofar → Sofar) → ((i : Instantiation) (a b : Sofar) → Alike a b → Alike (child i a) (other i b)) → (base last : ℕ) (j : Instantiation) (n n2 : ℕ) (g : Scope) (p : Place) (i : InstanceItem) (m : Module) (os : List Override) (o : One) (a b : Sofar) → Alike a b →
    Alike (one_instance child base (within j n g base) p i m os o a) (one_instance other last (within j n2 g last) p i m os o b)
one_alike child other kids base last j n n2 g p i m os o a b h =
    let js : List JoinedPort = joined_ports os m i.of_module o.given in
    let xs : List Met = met_faults (connections_faults g os m i.of_module o.given) in
    let inner : Instantiation = instantiation (within j n g base) p m os o js in
    let deeper : Alike (child inner (meet xs a)) (other inner (meet xs b)) = kids inner (meet xs a) (meet xs b) (met_alike xs xs a b h) in
    both_if (is_declared_here (within j n g base) o.name) _ a _ b
    (alike_twice (join_ports_alike (within j n g base) p (context base inner (meet xs a)).scope js (child inner (meet xs a)))
    (alike_twice deeper (alike_back (join_ports_alike (within j n2 g last) p (context last inner (meet xs b)).scope js (other inner (meet xs b))))))
    h

all_alike : (child other : Instantiation → Sofar → Sofar) → ((i : Instantiation) (a b : Sofar) → Alike a b → Alike (child i a) (other i b)) → (base last : ℕ) (j : Instantiation) (n n2 : ℕ) (g : Scope) (p : Place) (i : InstanceItem) (m : Module) (os : List Override) (more : List One) (a b : Sofar) → Alike a b →
    Alike (all_instances child base (within j n g base) p i m os more a) (all_instances other last (within j n2 g last) p i m os more b)
all_alike child other kids base last j n n2 g p i m os [] a b h = h
all_alike child other kids base last j n n2 g p i m os (o ∷ more) a b h =
    all_alike child other kids base last j n n2 g p i m os more (one_instance child base (within j n g base) p i m os o a) (one_instance other last (within j n2 g last) p i m os o b)
    (one_alike child other kids base last j n n2 g p i m os o a b h)

either_alike : (t : Bool) (x y u v : Sofar) → Alike x u → Alike y v → Alike (elim t [ true ↦ x | false ↦ y ]) (elim t [ true ↦ u | false ↦ v ])
either_alike true x y u v h k = h
either_alike false x y u v h k = k

instances_alike : (child other : Instantiation → Sofar → Sofar) → ((i : Instantiation) (a b : Sofar) → Alike a b → Alike (child i a) (other i b)) → (base last : ℕ) (j : Instantiation) (n n2 : ℕ) (g : Scope) (p : Place) (i : InstanceItem) (m : Option Module) (a b : Sofar) → Alike a b →
    Alike (instances_of child base (within j n g base) p i m a) (instances_of other last (within j n2 g last) p i m b)
instances_alike child other kids base last j n n2 g p i None a b h = met_alike _ _ a b h
instances_alike child other kids base last j n n2 g p i (Some m) a b h =
    both_if (list_any (bytes_eq m.name.name) j.around) _ _ _ _ (met_alike _ _ a b h)
    (either_alike (are_sound_overrides g i.of_module m i.overrides) _ _ _ _ (all_alike child other kids base last j n n2 g p i m (overrides g i.of_module m i.overrides) i.ones a b h) (met_alike _ _ a b h))

item_alike : (child other : Instantiation → Sofar → Sofar) → ((i : Instantiation) (a b : Sofar) → Alike a b → Alike (child i a) (other i b)) → (base last : ℕ) (ms : List Module) (j : Instantiation) (n n2 : ℕ) (g : Scope) (p : Place) (x : ItemForm) (l k : ℕ) (a b : Sofar) → Alike a b →
    Alike (item child base ms (within j n g base) p x l k a) (item other last ms (within j n2 g last) p x l k b)
item_alike child other kids base last ms j n n2 g p (net_item i) l k a b h =
    alike_twice (net_values_alike (within j n g base) p i.names k a) (alike_twice h (alike_back (net_values_alike (within j n2 g last) p i.names k b)))
item_alike child other kids base last ms j n n2 g p (continuous_item x v) l k a b h = record { instances = h.instances; signals = h.signals; memories = h.memories }
item_alike child other kids base last ms j n n2 g p (always_item w s) l k a b h = record { instances = h.instances; signals = h.signals; memories = h.memories }
item_alike child other kids base last ms j n n2 g p (instance_item i) l k a b h = instances_alike child other kids base last j n n2 g p i (module_of ms i.of_module.name) a b h
item_alike child other kids base last ms j n n2 g p (initial_item s) l k a b h = h
item_alike child other kids base last ms j n n2 g p (port_item s) l k a b h = h
item_alike child other kids base last ms j n n2 g p (variable_item s) l k a b h = h
item_alike child other kids base last ms j n n2 g p (integer_item s) l k a b h = h
item_alike child other kids base last ms j n n2 g p (parameter_item s) l k a b h = h

items_alike : (child other : Instantiation → Sofar → Sofar) → ((i : Instantiation) (a b : Sofar) → Alike a b → Alike (child i a) (other i b)) → (base last : ℕ) (ms : List Module) (j : Instantiation) (n n2 : ℕ) (g : Scope) (is : List Item) (l k : ℕ) (a b : Sofar) → Alike a b →
    Alike (items child base ms (within j n g base) is l k a) (items other last ms (within j n2 g last) is l k b)
items_alike child other kids base last ms j n n2 g [] l k a b h = h
items_alike child other kids base last ms j n n2 g (x ∷ is) l k a b h =
    items_alike child other kids base last ms j n n2 g is (l + form_lines x.form) (k + form_nodes g x.form) _ _ (item_alike child other kids base last ms j n n2 g x.place x.form l k a b h)

opened_alike : (i : Instantiation) (a b : Sofar) → Alike a b → Alike (opened i a) (opened i b)
opened_alike i a b h = record {
  instances = rw h.instances refl;
  signals = rw (h.signals, h.instances) refl;
  memories = rw (h.memories, h.instances) refl;
}

instance_alike : (base last : ℕ) (ms : List Module) (depth : ℕ) (i : Instantiation) (a b : Sofar) → Alike a b → Alike (instance base ms depth i a) (instance last ms depth i b)
instance_alike base last ms zero i a b h = met_alike _ _ a b h
instance_alike base last ms (suc depth) i a b h =
    subst (λ g. Alike (items (instance base ms depth) base ms (context base i a) i.of_module.items 1 1 (opened i a)) (items (instance last ms depth) last ms (within i (length b.design.instances) g last) i.of_module.items 1 1 (opened i b)))
    (ap (λ s. scope_of i (length s) (length a.design.memories)) h.signals ∙ ap (λ m. scope_of i (length b.design.signals) (length m)) h.memories)
    (items_alike (instance base ms depth) (instance last ms depth) (instance_alike base last ms depth) base last ms i (length a.design.instances) (length b.design.instances) (scope_of i (length a.design.signals) (length a.design.memories)) i.of_module.items 1 1 (opened i a) (opened i b) (opened_alike i a b h))

from_alike : (base last : ℕ) (ms : List Module) (top : List ℕ) (m : Option Module) → Alike (elaborated_from base ms top m) (elaborated_from last ms top m)
from_alike base last ms top None = met_alike _ _ (start top) (start top) (same_lists (start top))
from_alike base last ms top (Some m) = instance_alike base last ms 64 (top_instance top m) (start top) (start top) (same_lists (start top))

-- memories are numbered from the number of signals on
pub base_is : (ms : List Module) (top : List ℕ) → length (elaborated ms top).design.signals ≡ base_of ms top
base_is ms top = ap length (from_alike (base_of ms top) 0 ms top (module_of ms top)).signals
