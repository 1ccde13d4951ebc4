-- The literals that are in the expressions of a module have from 1 to 128 bits.
use Rattle.std.proofs.Common.{◌≡◌, ◌⊎◌, inl, inr, ℕ, Bool, true, false, if◌then◌else◌, List, [], Option, Some, None, refl, sym, ap, ◌∙◌, subst}
use Rattle.std.specs.List.{flat_map}
use Rattle.std.specs.Prelude.{bytes_eq}
use Rattle.four_state.specs.Vector.{HasWidth}
use Rattle.design_model.specs.Design.{In}
use Rattle.verilog_tree.specs.declared.item.Named.{Named}
use Rattle.verilog_tree.specs.Tree.{Declared, Expr, Given, InstanceItem, Item, ItemForm, initial_item, port_item, net_item, variable_item, integer_item, parameter_item, continuous_item, always_item, instance_item, Module, One, Param}
use Rattle.flat_design.specs.Connections.{Connection, JoinedPort, connections, connection_of, declaration_of, declared_port, is_sound_port, joined_port, with_connection, with_value}
use Rattle.flat_design.specs.Declarations.{Declaration}
use Rattle.flat_design.specs.Identifiers.{item_params, params_of}
use Rattle.flat_design.specs.Instances.{Context}
use Rattle.flat_laws.specs.Literals.{given_literals, item_literals, literals, option_literals}
use Rattle.flat_laws.specs.Tokens.{AreOfTokens}
use Rattle.flat_laws.proofs.EntryWidths.{AreFit, connection_given, fit_left}
use Rattle.flat_laws.proofs.LawfulPaths.{found_in}
use Rattle.flat_laws.proofs.Members.{in_append, in_left, in_right, in_flat_map, in_flat_map_back}
use Rattle.flat_laws.proofs.Steps.{IsAssigned, ports_of}

pub item_fit : (ms : List Module) → AreOfTokens ms → (m : Module) → In m ms → (x : Item) → In x m.items → AreFit (item_literals x.form)
item_fit ms tokens m m_in x x_in v k =
    tokens.literals m m_in v (in_right v (flat_map (λ (p : Param). literals p.value) m.params) _ (in_flat_map_back (λ (i : Item). item_literals i.form) x m.items v x_in k))

pub params_fit : (ms : List Module) → AreOfTokens ms → (m : Module) → In m ms → (p : Param) → In p (params_of m) → AreFit (literals p.value)
params_fit ms tokens m m_in p h v k = by_part (in_append p m.params (flat_map (λ i. item_params i.form) m.items) h)
  where
    in_form : (form : ItemForm) → In p (item_params form) → In v (item_literals form)
    in_form (parameter_item ps) l = in_flat_map_back (λ (q : Param). literals q.value) p ps v l k
    in_form (port_item x) l = absurd l
    in_form (net_item x) l = absurd l
    in_form (variable_item x) l = absurd l
    in_form (integer_item x) l = absurd l
    in_form (instance_item x) l = absurd l
    in_form (continuous_item x y) l = absurd l
    in_form (always_item x y) l = absurd l
    in_form (initial_item x) l = absurd l

    by_part : In p m.params ⊎ In p (flat_map (λ i. item_params i.form) m.items) → HasWidth v
    by_part (inl l) = tokens.literals m m_in v (in_left v _ (flat_map (λ (i : Item). item_literals i.form) m.items) (in_flat_map_back (λ (q : Param). literals q.value) p m.params v l k))
    by_part (inr l) = let i = in_flat_map (λ (i : Item). item_params i.form) p m.items l in item_fit ms tokens m m_in i.0 i.1 v (in_form i.0.form i.2)

-- of an assignment
pub assigned_fit : (form : ItemForm) (x v : Expr) → AreFit (item_literals form) → IsAssigned form x v → AreFit (literals x) × AreFit (literals v)
assigned_fit (net_item i) x v fit (d, d_in, named, valued) = (
  λ u k. absurd (subst (λ e. In u (literals e)) named k),
  λ u k. fit u (in_flat_map_back (λ (c : Declared). option_literals c.value) d i.names u d_in (subst (λ o. In u (option_literals o)) (sym valued) k)),
)
assigned_fit (continuous_item y w) x v fit (named, valued) = (
  λ u k. fit u (in_left u (literals y) (literals w) (subst (λ e. In u (literals e)) (sym named) k)),
  λ u k. fit u (in_right u (literals y) (literals w) (subst (λ e. In u (literals e)) (sym valued) k)),
)
assigned_fit (port_item i) x v fit is = absurd is
assigned_fit (variable_item i) x v fit is = absurd is
assigned_fit (integer_item i) x v fit is = absurd is
assigned_fit (parameter_item i) x v fit is = absurd is
assigned_fit (always_item w s) x v fit is = absurd is
assigned_fit (initial_item s) x v fit is = absurd is
assigned_fit (instance_item i) x v fit is = absurd is

-- of the overrides of instances
pub overrides_literals : (k : InstanceItem) → AreFit (item_literals (instance_item k)) → AreFit (given_literals k.overrides)
overrides_literals k fit = fit_left (given_literals k.overrides) (flat_map (λ (o : One). given_literals o.given) k.ones) fit

-- of a port's connection
port_given : (ds : List Declaration) (label : Named) (ports : List Named) (cs : List Given) (ys : List Named) (j : JoinedPort) → In j (flat_map (joined_port ds (connections label ports cs)) ys) → (d : Given) × In d cs × (d.value ≡ Some j.value)
port_given ds label ports cs ys j h = let k = in_flat_map (joined_port ds all) j ys h in by_declaration (declaration_of ds k.0.name) k.0.name (connection_of all k.0.name) refl k.2
  where
    all : List Connection
    all = connections label ports cs

    by_value : (d : Declaration) (c : Connection) → In c all → (v : Option Expr) → c.value ≡ v → In j (with_value d c.label v) → (e : Given) × In e cs × (e.value ≡ Some j.value)
    by_value d c c_in None is k = absurd k
    by_value d c c_in (Some e) is (inl same) = let g = connection_given label ports cs c c_in in (g.0, g.1, g.2 ∙ (is ∙ ap (λ z. Some z.value) same))
    by_value d c c_in (Some e) is (inr k) = absurd k

    by_port : (d : Declaration) (c : Connection) → In c all → (b : Bool) → In j (if b then with_value d c.label c.value else []) → (e : Given) × In e cs × (e.value ≡ Some j.value)
    by_port d c c_in true k = by_value d c c_in c.value refl k
    by_port d c c_in false k = absurd k

    by_connection : (d : Declaration) (x : List ℕ) (c : Option Connection) → connection_of all x ≡ c → In j (with_connection d c) → (e : Given) × In e cs × (e.value ≡ Some j.value)
    by_connection d x None is k = absurd k
    by_connection d x (Some c) is k = by_port d c (found_in (λ z. bytes_eq z.port x) all c is) (is_sound_port d) k

    by_declaration : (d : Option Declaration) (x : List ℕ) (c : Option Connection) → connection_of all x ≡ c → In j (declared_port d c) → (e : Given) × In e cs × (e.value ≡ Some j.value)
    by_declaration None x c is k = absurd k
    by_declaration (Some d) x c is k = by_connection d x c is k

pub port_fit : (c : Context) (k : InstanceItem) (m : Module) (o : One) → AreFit (item_literals (instance_item k)) → In o k.ones → (j : JoinedPort) → In j (ports_of c k m o) → AreFit (literals j.value)
port_fit c k m o fit o_in j h v v_in =
    let d = port_given _ k.of_module m.ports o.given m.ports j h in
    fit v (in_right v (given_literals k.overrides) _ (in_flat_map_back (λ (p : One). given_literals p.given) o k.ones v o_in
    (in_flat_map_back (λ (g : Given). option_literals g.value) d.0 o.given v d.1 (subst (λ z. In v (option_literals z)) (sym d.2) v_in))))
