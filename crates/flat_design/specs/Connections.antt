-- Connections of ports and overrides of parameters, and how a port is joined (clauses 12.2 and 12.3).
use Rattle.std.specs.Prelude.{ℕ, nat_lt, Bool, true, false, not, ◌&&◌, ◌||◌, if◌then◌else◌, List, [], ◌∷◌, ◌++◌, length, map, flat_map, filter, bytes_eq, is_none, is_some, Option, Some, None}
use Rattle.std.specs.Prelude as std
use Rattle.std.specs.List.{list_any}
use Rattle.design_model.specs.Shape.{same_bool}
use Rattle.verilog_tree.specs.declared.item.Named.{Named}
use Rattle.verilog_tree.specs.Tree.{Expr, identifier, Given, Module}
use Rattle.flat_design.specs.Declarations.{Override, Declaration, is_net, is_variable, same_range}
use Rattle.flat_design.specs.Expressions.{faults, constant_faults}
use Rattle.flat_design.specs.Fault.{Fault, fault_at, fault_if, none, Undeclared, PortMismatch, WrongUse}
use Rattle.flat_design.specs.Identifiers.{base_name, is_among, params_of}
use Rattle.flat_design.specs.Instances.{PortAliases, declared, is_input}
use Rattle.flat_design.specs.Loops.{is_identifier}
use Rattle.flat_design.specs.Scope.{Scope, Entry, a_constant, a_signal, a_memory, a_faulty_one, SignalEntry, look_up, constant, names_faulty}
use Rattle.flat_design.specs.Targets.{Continuous, target_faults, leaves}

-- a connection or an override: which port or parameter, the name that a fault is reported with, and the value
pub record Connection : Type 0 where
  pub port : List ℕ
  pub label : Named
  pub value : Option Expr

-- a connection of this port or parameter
abbrev pub connection : List ℕ → Named → Option Expr → Connection
connection x label e = record { port = x; label = label; value = e }

-- by position in the order of the names, or by name
abbrev pub connections : Named → List Named → List Given → List Connection
connections label xs [] = []
connections label xs (c ∷ cs) =
    elim c.name [
      | Some x ↦ connection x.name x c.value ∷ connections label xs cs
      | None ↦ elim xs [ [] ↦ connections label [] cs | x ∷ ys ↦ connection x.name label c.value ∷ connections label ys cs ]
    ]

-- without a name
abbrev pub is_by_position : Given → Bool
is_by_position c = is_none c.name

-- one that names no port or parameter, and one given twice
abbrev pub connection_faults : List Named → List Connection → List Connection → List Fault
connection_faults xs sofar [] = []
connection_faults xs sofar (c ∷ cs) =
    fault_if (not (is_among xs c.port) || list_any (λ d. bytes_eq d.port c.port) sofar) (fault_at PortMismatch c.label) ++ connection_faults xs (c ∷ sofar) cs

-- the same, or too many by position
abbrev pub given_faults : Named → List Named → List Given → List Fault
given_faults label xs cs =
    fault_if (nat_lt (length xs) (length (filter is_by_position cs))) (fault_at PortMismatch label) ++ connection_faults xs [] (connections label xs cs)

-- the connection of this port, the first of two
abbrev pub connection_of : List Connection → List ℕ → Option Connection
connection_of cs x = std.find (λ c. bytes_eq c.port x) cs

-- the parameters that may be given another value
abbrev pub free_names : Module → List Named
free_names m = map (λ p. p.name) (filter (λ p. not p.local) (params_of m))

-- an override's value must be constant in the outer scope
abbrev pub override_value_faults : Scope → Option Expr → List Fault
override_value_faults g None = []
override_value_faults g (Some e) = constant_faults g e (faults g e)

-- the faults of all overrides of an instance
abbrev pub override_faults : Scope → Named → Module → List Given → List Fault
override_faults g label m cs = given_faults label (free_names m) cs ++ flat_map (λ c. override_value_faults g c.value) (connections label (free_names m) cs)

-- the value names something whose declaration has a fault
abbrev pub value_names_faulty : Scope → Option Expr → Bool
value_names_faulty g None = false
value_names_faulty g (Some e) = names_faulty g e

-- each override has its value
abbrev pub are_sound_overrides : Scope → Named → Module → List Given → Bool
are_sound_overrides g label m cs = none (override_faults g label m cs) && not (list_any (λ c. value_names_faulty g c.value) cs)

-- the override of this parameter, unless it is empty
abbrev pub override_of : Scope → List ℕ → Option Expr → List Override
override_of g x None = []
override_of g x (Some e) = record { name = x; value = constant g e } ∷ []

-- the overrides of an instance
abbrev pub overrides : Scope → Named → Module → List Given → List Override
overrides g label m cs = flat_map (λ c. override_of g c.port c.value) (connections label (free_names m) cs)

-- how a port is joined to an expression
pub data Joined : Type 0 where
  as_alias : ℕ → Joined  -- they are one signal
  by_assignment : Joined
  not_joined : Joined  -- there is a fault

-- an output is joined to nets that are no inputs
abbrev pub takes_output : SignalEntry → Bool
takes_output s = s.net && not s.input

-- how a port is joined to a plain name: as one signal where range and sign are equal
abbrev pub joined_name : Declaration → Option Entry → Joined
joined_name d (Some (a_signal s)) =
    if not (is_input d) && not (takes_output s) then not_joined else (if same_range d.range s.range && same_bool d.signed s.signed then as_alias s.number else by_assignment)
joined_name d (Some (a_constant v)) = if is_input d then by_assignment else not_joined
joined_name d _ = not_joined

-- an output joined to what is no net or is an input; a memory in a connection
abbrev pub output_leaf_faults : Scope → Named → Option Entry → Expr → List Fault
output_leaf_faults g label None e = if none (base_name e).name then fault_at PortMismatch label ∷ [] else fault_at Undeclared (base_name e) ∷ []
output_leaf_faults g label (Some (a_signal s)) e = fault_if (not (takes_output s)) (fault_at PortMismatch label)
output_leaf_faults g label (Some (a_memory m)) e = if is_identifier e then fault_at WrongUse (base_name e) ∷ [] else fault_at PortMismatch label ∷ []
output_leaf_faults g label (Some a_faulty_one) e = []
output_leaf_faults g label (Some _) e = fault_at PortMismatch label ∷ []

-- the same for each part of a concatenation
abbrev pub output_faults : Scope → Named → Expr → List Fault
output_faults g label e = flat_map (λ x. output_leaf_faults g label (look_up g (base_name x).name) x) (leaves e)

-- the faults of what a port is joined to
abbrev pub joined_faults : Scope → Named → Declaration → Expr → List Fault
joined_faults g label d e = if is_input d then faults g e else (if none (output_faults g label e) then target_faults g Continuous e else output_faults g label e)

-- how a port is joined to an expression
abbrev pub joining : Scope → Declaration → Named → Expr → Joined
joining g d label (identifier p x) = joined_name d (look_up g x)
joining g d label e = if none (joined_faults g label d e) && not (names_faulty g e) then by_assignment else not_joined

-- a port of a module that an instance joins to an expression
pub record JoinedPort : Type 0 where
  pub port : Declaration
  pub label : Named
  pub value : Expr

-- the declaration of this name
abbrev pub declaration_of : List Declaration → List ℕ → Option Declaration
declaration_of ds x = std.find (λ d. bytes_eq d.name.name x) ds

-- a port that is a signal and whose declaration has no fault
abbrev pub is_sound_port : Declaration → Bool
is_sound_port d = is_some d.direction && (is_net d.sort || is_variable d.sort)

-- unless the connection is empty
abbrev pub with_value : Declaration → Named → Option Expr → List JoinedPort
with_value d label None = []
with_value d label (Some e) = record { port = d; label = label; value = e } ∷ []

-- the port d with its connection, where there is one
abbrev pub with_connection : Declaration → Option Connection → List JoinedPort
with_connection d None = []
with_connection d (Some c) = if is_sound_port d then with_value d c.label c.value else []

-- the port of this declaration, where it is connected
abbrev pub declared_port : Option Declaration → Option Connection → List JoinedPort
declared_port None c = []
declared_port (Some d) c = with_connection d c

-- the port x, where it is connected
abbrev pub joined_port : List Declaration → List Connection → Named → List JoinedPort
joined_port ds cs x = declared_port (declaration_of ds x.name) (connection_of cs x.name)

-- in the order of the header's list
abbrev pub joined_ports : List Override → Module → Named → List Given → List JoinedPort
joined_ports os m label cs = flat_map (joined_port (declared os m) (connections label m.ports cs)) m.ports

-- the name that is joined so
abbrev pub alias_as : List ℕ → Joined → PortAliases
alias_as x (as_alias n) = (x, n) ∷ []
alias_as x _ = []

-- the port as another name of the outer signal, where it is joined so
abbrev pub port_alias : Scope → JoinedPort → PortAliases
port_alias g j = alias_as j.port.name.name (joining g j.port j.label j.value)

-- the faults of a connection that joins nothing
abbrev pub unless_joined : Joined → List Fault → List Fault
unless_joined not_joined fs = fs
unless_joined _ fs = []

-- what is wrong with a connection that joins nothing
abbrev pub port_faults : Scope → JoinedPort → List Fault
port_faults g j = unless_joined (joining g j.port j.label j.value) (joined_faults g j.label j.port j.value)

-- no declared port, or one whose declaration has a fault
abbrev pub is_faulty_port : Option Declaration → Bool
is_faulty_port None = true
is_faulty_port (Some d) = not (is_sound_port d)

-- the faults of an expression that is joined to a faulty port; without a direction, those that it has as a value
abbrev pub value_faults : Scope → Option Declaration → Named → Expr → List Fault
value_faults g None label e = faults g e
value_faults g (Some d) label e = if is_some d.direction then joined_faults g label d e else faults g e

-- the same, unless the connection is empty
abbrev pub option_faults : Scope → Option Declaration → Named → Option Expr → List Fault
option_faults g d label None = []
option_faults g d label (Some e) = value_faults g d label e

-- what is wrong with the connection of a port, where the port is faulty
abbrev pub faulty_faults : Scope → Option Declaration → Option Connection → List Fault
faulty_faults g d None = []
faulty_faults g d (Some c) = if is_faulty_port d then option_faults g d c.label c.value else []

-- the same of the port x
abbrev pub faulty_port_faults : Scope → List Declaration → List Connection → Named → List Fault
faulty_port_faults g ds cs x = faulty_faults g (declaration_of ds x.name) (connection_of cs x.name)

-- the faults of all connections of an instance
abbrev pub connections_faults : Scope → List Override → Module → Named → List Given → List Fault
connections_faults g os m label cs =
    given_faults label m.ports cs ++ flat_map (port_faults g) (joined_ports os m label cs) ++ flat_map (faulty_port_faults g (declared os m) (connections label m.ports cs)) m.ports
