-- The names that are in expressions, statements and items, and those that items declare.
use Rattle.std.specs.Prelude.{ℕ, Bool, List, [], ◌∷◌, ◌++◌, map, flat_map, bytes_eq, Option, Some, None}
use Rattle.std.specs.List.{list_any}
use Rattle.cov_host.specs.declared.place.Place.{Place}
use Rattle.verilog_tree.specs.declared.item.When.{When}
use Rattle.verilog_tree.specs.declared.item.When.TheVariants as list_of
use Rattle.verilog_tree.specs.declared.item.Named.{Named}
use Rattle.verilog_tree.specs.Tree.{Expr, literal, identifier, bit_select, part_select, indexed_part, unary_operator, binary_operator, conditional, concatenation, replication, sign_cast, parentheses, Exprs, no_exprs, an_expr, place_of, Header, Statement, sequential_block, if_statement, case_statement, for_loop, assignment, system_task, null_statement, Statements, no_statements, a_statement, CaseItems, no_items, case_item, Param, One, ItemForm, port_item, net_item, variable_item, integer_item, parameter_item, continuous_item, always_item, instance_item, Module}

-- the name x at place p
abbrev pub named : List ℕ → Place → Named
named x p = record { name = x; place = p }

-- the identifiers of an expression, from left to right
abbrev mutual
  pub identifiers : Expr → List Named
  identifiers (literal p v) = []
  identifiers (identifier p x) = named x p ∷ []
  identifiers (bit_select p of i) = identifiers of ++ identifiers i
  identifiers (part_select p of h l b) = identifiers of ++ identifiers h ++ identifiers l
  identifiers (indexed_part p of b w up k) = identifiers of ++ identifiers b ++ identifiers w
  identifiers (unary_operator p op a) = identifiers a
  identifiers (binary_operator p op a b) = identifiers a ++ identifiers b
  identifiers (conditional p c a b) = identifiers c ++ identifiers a ++ identifiers b
  identifiers (concatenation p es) = all_identifiers es
  identifiers (replication p n es) = identifiers n ++ all_identifiers es
  identifiers (sign_cast p s a) = identifiers a
  identifiers (parentheses p a) = identifiers a

  pub all_identifiers : Exprs → List Named
  all_identifiers no_exprs = []
  all_identifiers (an_expr e es) = identifiers e ++ all_identifiers es

-- the name that an expression of selects begins with
abbrev pub base_name : Expr → Named
base_name (identifier p x) = named x p
base_name (bit_select p of i) = base_name of
base_name (part_select p of h l b) = base_name of
base_name (indexed_part p of b w up k) = base_name of
base_name e = named [] (place_of e)

-- all identifiers of a statement, those of loop headers too
abbrev pub header_identifiers : Header → List Named
header_identifiers h = identifiers h.name ++ identifiers h.first ++ identifiers h.test ++ identifiers h.target ++ identifiers h.step

abbrev mutual
  pub body_identifiers : Statement → List Named
  body_identifiers (sequential_block p ss) = bodies_identifiers ss
  body_identifiers (if_statement p c s other) = identifiers c ++ body_identifiers s ++ bodies_identifiers other
  body_identifiers (case_statement p kind e is) = identifiers e ++ items_identifiers is
  body_identifiers (for_loop p h s) = header_identifiers h ++ body_identifiers s
  body_identifiers (assignment p t blocking v) = identifiers t ++ identifiers v
  body_identifiers (system_task p) = []
  body_identifiers (null_statement p) = []

  pub bodies_identifiers : Statements → List Named
  bodies_identifiers no_statements = []
  bodies_identifiers (a_statement s ss) = body_identifiers s ++ bodies_identifiers ss

  pub items_identifiers : CaseItems → List Named
  items_identifiers no_items = []
  items_identifiers (case_item labels s is) = all_identifiers labels ++ body_identifiers s ++ items_identifiers is

-- the names over which a statement loops
abbrev mutual
  pub loop_names : Statement → List Named
  loop_names (sequential_block p ss) = loops_names ss
  loop_names (if_statement p c s other) = loop_names s ++ loops_names other
  loop_names (case_statement p kind e is) = items_loop_names is
  loop_names (for_loop p h s) = base_name h.name ∷ loop_names s
  loop_names (assignment p t blocking v) = []
  loop_names (system_task p) = []
  loop_names (null_statement p) = []

  pub loops_names : Statements → List Named
  loops_names no_statements = []
  loops_names (a_statement s ss) = loop_names s ++ loops_names ss

  pub items_loop_names : CaseItems → List Named
  items_loop_names no_items = []
  items_loop_names (case_item labels s is) = loop_names s ++ items_loop_names is

-- the identifiers of an expression that may be absent
abbrev pub option_identifiers : Option Expr → List Named
option_identifiers None = []
option_identifiers (Some e) = identifiers e

-- the names of an event list
abbrev pub when_names : When → List Named
when_names list_of.Star = []
when_names (list_of.Names xs) = xs
when_names (list_of.Edges es) = map (λ e. e.1) es

-- the identifiers of an instance's connections
abbrev pub given_identifiers : One → List Named
given_identifiers o = flat_map (λ g. option_identifiers g.value) o.given

-- the identifiers that a process or a connection names
abbrev pub item_identifiers : ItemForm → List Named
item_identifiers (net_item v) = flat_map (λ d. option_identifiers d.value) v.names
item_identifiers (continuous_item t v) = identifiers t ++ identifiers v
item_identifiers (always_item w s) = when_names w ++ body_identifiers s
item_identifiers (instance_item i) = flat_map given_identifiers i.ones
item_identifiers _ = []

-- the names over which an item loops
abbrev pub item_loops : ItemForm → List Named
item_loops (always_item w s) = loop_names s
item_loops _ = []

-- the parameters of a module, in order of text
abbrev pub item_params : ItemForm → List Param
item_params (parameter_item ps) = ps
item_params _ = []

-- all parameters, those of the header first
abbrev pub params_of : Module → List Param
params_of m = m.params ++ flat_map (λ i. item_params i.form) m.items

-- the names that an item declares
abbrev pub declared_names : ItemForm → List Named
declared_names (port_item p) = p.names
declared_names (net_item v) = map (λ d. d.name) v.names
declared_names (variable_item v) = map (λ d. d.name) v.names
declared_names (integer_item ds) = map (λ d. d.name) ds
declared_names (parameter_item ps) = map (λ p. p.name) ps
declared_names (instance_item i) = map (λ o. o.name) i.ones
declared_names _ = []

-- all names that a module declares
abbrev pub names_of : Module → List Named
names_of m = map (λ p. p.name) m.params ++ flat_map (λ i. declared_names i.form) m.items

-- the name x is one of these
abbrev pub is_among : List Named → List ℕ → Bool
is_among xs x = list_any (λ y. bytes_eq y.name x) xs
