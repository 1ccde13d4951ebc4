-- What the items of a module declare: ports, nets, variables, memories, integers and instances, and the values of parameters.
use Rattle.std.specs.Prelude.{ℕ, ◌+◌, ◌==◌, nat_lt, Bool, true, false, not, ◌&&◌, ◌||◌, if◌then◌else◌, List, [], ◌∷◌, ◌++◌, map, flat_map, bytes_eq, is_none, is_some, Option, Some, None}
use Rattle.std.specs.Prelude as std
use Rattle.std.specs.List.{list_any}
use Rattle.cov_host.specs.declared.place.Place.{Place}
use Rattle.four_state.specs.Vector.{Vector, extend}
use Rattle.design_model.specs.Lawful.{span}
use Rattle.design_model.specs.Shape.{same_bool}
use Rattle.design_model.specs.declared.design.Range.{Range}
use Rattle.verilog_tree.specs.declared.item.Named.{Named}
use Rattle.verilog_tree.specs.Tree.{RangeExpr, Param, ItemForm, port_item, net_item, variable_item, integer_item, parameter_item, instance_item, Module}
use Rattle.elab_const.specs.declared.fault.ConstKind.TheVariants.{TooWide}
use Rattle.flat_design.specs.declared.fault.DesignLimit.TheVariants.{MemoryWords}
use Rattle.flat_design.specs.Expressions.{faults, constant_faults, bound_faults}
use Rattle.flat_design.specs.Fault.{Fault, fault_at, of_constant, limit_fault, fault_if, none, TwiceDeclared, PortMismatch}
use Rattle.flat_design.specs.Identifiers.{is_among}
use Rattle.flat_design.specs.Scope.{Scope, Bindings, binding_of, with_bindings, Entry, a_constant, a_faulty_one, constant, natural_number, names_faulty, range_width}

-- the faults of the two bounds
abbrev pub bounds_faults : Scope → RangeExpr → List Fault
bounds_faults g r = bound_faults g r.bracket r.high (faults g r.high) ++ bound_faults g r.bracket r.low (faults g r.low)

-- a bound names something whose declaration has a fault
abbrev pub range_names_faulty : Scope → RangeExpr → Bool
range_names_faulty g r = names_faulty g r.high || names_faulty g r.low

-- both bounds have their values
abbrev pub is_sound_range : Scope → RangeExpr → Bool
is_sound_range g r = none (bounds_faults g r) && not (range_names_faulty g r)

-- the range of a vector: at most 128 bits
abbrev pub vector_faults : Scope → Option RangeExpr → List Fault
vector_faults g None = []
vector_faults g (Some r) = bounds_faults g r ++ fault_if (is_sound_range g r && nat_lt 128 (span (natural_number g r.high) (natural_number g r.low))) (of_constant TooWide r.bracket)

-- no range, or one without a fault
abbrev pub is_sound_vector : Scope → Option RangeExpr → Bool
is_sound_vector g None = true
is_sound_vector g (Some r) = none (vector_faults g (Some r)) && is_sound_range g r

-- the range, if it has no fault
abbrev pub range_value : Scope → Option RangeExpr → Option Range
range_value g None = None
range_value g (Some r) = if is_sound_vector g (Some r) then Some (record { high = natural_number g r.high; low = natural_number g r.low }) else None

-- the range of a memory's words: at most 65,536
abbrev pub words_faults : Scope → Place → RangeExpr → List Fault
words_faults g p r = bounds_faults g r ++ fault_if (is_sound_range g r && nat_lt 65536 (span (natural_number g r.high) (natural_number g r.low))) (limit_fault MemoryWords p)

-- the value that an instance gives a parameter in place of its own
pub record Override : Type 0 where
  pub name : List ℕ
  pub value : Vector

-- the override's value, where there is one
abbrev pub override_or : Option Override → Vector → Vector
override_or None v = v
override_or (Some o) v = o.value

-- the value of parameter x: that of its override, or its own
abbrev pub overridden : List Override → List ℕ → Vector → Vector
overridden os x v = override_or (std.find (λ o. bytes_eq o.name x) os) v

-- a value as a number with this range and sign, or without a range as it is
abbrev pub ranged_value : Scope → Option RangeExpr → Bool → Vector → Vector
ranged_value g None signed v = record { bits = v.bits; signed = v.signed || signed }
ranged_value g (Some r) signed v = record { bits = extend (range_width (range_value g (Some r))) v.signed v.bits; signed = signed }

-- the parameter's type applied to its value: an integer, of a range, signed, or as the value is (clause 3.11)
abbrev pub typed_value : Scope → Param → Vector → Vector
typed_value g p v = if p.integer then record { bits = extend 32 v.signed v.bits; signed = true } else ranged_value g p.range p.signed v

-- the range and the value of a parameter
abbrev pub param_faults : Scope → Param → List Fault
param_faults g p = vector_faults g p.range ++ constant_faults g p.value (faults g p.value)

-- what a parameter means
abbrev pub param_entry : Scope → List Override → Param → Entry
param_entry g os p =
    if none (param_faults g p) && is_sound_vector g p.range && not (names_faulty g p.value) then a_constant (typed_value g p (overridden os p.name.name (constant g p.value))) else a_faulty_one

-- the constants with one more, unless it is one of them; others has the other names of the module
abbrev pub with_param : Scope → List Override → Bindings → Param → Bindings
with_param others os sofar p =
    if is_none (binding_of sofar p.name.name) then sofar ++ (p.name.name, param_entry (with_bindings sofar others) os p) ∷ [] else sofar

-- the constants of a module in order of text, each seen by those after it
abbrev pub constants_from : Scope → List Override → Bindings → List Param → Bindings
constants_from others os sofar [] = sofar
constants_from others os sofar (p ∷ ps) = constants_from others os (with_param others os sofar p) ps

-- the faults of the parameters, each once, in order of text
abbrev pub constants_faults : Scope → List Override → Bindings → List Param → List Fault
constants_faults others os sofar [] = []
constants_faults others os sofar (p ∷ ps) =
    (if is_none (binding_of sofar p.name.name) then param_faults (with_bindings sofar others) p else []) ++ constants_faults others os (with_param others os sofar p) ps

-- what a declared name is
pub data Sort : Type 0 where
  a_net : Sort
  a_variable : Sort
  words_from : Range → Sort  -- a memory, with the range of its words
  an_integer : Sort
  a_parameter : Sort
  some_instance : Sort
  faulty : Sort  -- a net or variable whose range has a fault
  faulty_memory : Sort  -- a memory of which a range has a fault

-- a declared name, with the place of its item
pub record Declaration : Type 0 where
  pub name : Named
  pub item : Place
  pub sort : Sort
  pub range : Option Range
  pub signed : Bool
  pub direction : Option Bool  -- of a port: true for an input
  pub twice : Bool  -- a port that was declared once more

-- a declared name that was not declared once more
abbrev pub declaration : Place → Sort → Option Range → Bool → Option Bool → Named → Declaration
declaration p sort r signed direction x = record { name = x; item = p; sort = sort; range = r; signed = signed; direction = direction; twice = false }

-- of the sort of a memory, also where a range has a fault
abbrev pub is_any_memory : Sort → Bool
is_any_memory (words_from r) = true
is_any_memory faulty_memory = true
is_any_memory _ = false

-- the sort where a range has a fault
abbrev pub faulty_sort : Sort → Sort
faulty_sort sort = if is_any_memory sort then faulty_memory else faulty

-- the sort, if the ranges have no fault
abbrev pub sort_if : Bool → Sort → Sort
sort_if sound sort = if sound then sort else faulty_sort sort

-- a memory where the name has a range of words, else the item's sort
abbrev pub words_sort : Scope → Place → Option RangeExpr → Sort → Sort
words_sort g p None sort = sort
words_sort g p (Some r) sort = sort_if (none (words_faults g p r) && is_sound_range g r) (words_from (record { high = natural_number g r.high; low = natural_number g r.low }))

-- the names that an item declares, with their ranges
abbrev pub item_declarations : Scope → Place → ItemForm → List Declaration
item_declarations g p (port_item i) =
    map (declaration p (sort_if (is_sound_vector g i.range) (if i.reg then a_variable else a_net)) (range_value g i.range) i.signed (Some i.input)) i.names
item_declarations g p (net_item i) = map (λ d. declaration p (sort_if (is_sound_vector g i.range) a_net) (range_value g i.range) i.signed None d.name) i.names
item_declarations g p (variable_item i) =
    map (λ d. declaration p (sort_if (is_sound_vector g i.range) (words_sort g p d.words a_variable)) (range_value g i.range) i.signed None d.name) i.names
item_declarations g p (integer_item ds) = map (λ d. declaration p an_integer (Some (record { high = 31; low = 0 })) true None d.name) ds
item_declarations g p (parameter_item ps) = map (λ d. declaration p a_parameter None false None d.name) ps
item_declarations g p (instance_item i) = map (λ o. declaration p some_instance None false None o.name) i.ones
item_declarations g p _ = []

-- the faults of the range of a memory's words
abbrev pub declared_words_faults : Scope → Place → Option RangeExpr → List Fault
declared_words_faults g p None = []
declared_words_faults g p (Some r) = words_faults g p r

-- all faults of the ranges of an item
abbrev pub item_range_faults : Scope → Place → ItemForm → List Fault
item_range_faults g p (port_item i) = vector_faults g i.range
item_range_faults g p (net_item i) = vector_faults g i.range
item_range_faults g p (variable_item i) = vector_faults g i.range ++ flat_map (λ d. declared_words_faults g p d.words) i.names
item_range_faults g p _ = []

-- all declared names in order of text, the header's parameters first
abbrev pub all_declarations : Scope → Module → List Declaration
all_declarations g m = map (λ p. declaration p.name.place a_parameter None false None p.name) m.params ++ flat_map (λ i. item_declarations g i.place i.form) m.items

-- equal ranges, or none on both sides
abbrev pub same_range : Option Range → Option Range → Bool
same_range None None = true
same_range (Some r) (Some q) = (r.high == q.high) && (r.low == q.low)
same_range _ _ = false

-- declared as a net
abbrev pub is_net : Sort → Bool
is_net a_net = true
is_net _ = false

-- declared as a variable
abbrev pub is_variable : Sort → Bool
is_variable a_variable = true
is_variable _ = false

-- declared as a parameter
abbrev pub is_parameter : Sort → Bool
is_parameter a_parameter = true
is_parameter _ = false

-- its declaration has a fault
abbrev pub is_faulty : Sort → Bool
is_faulty faulty = true
is_faulty faulty_memory = true
is_faulty _ = false

-- a net or variable, also one whose range has a fault
abbrev pub is_vector : Sort → Bool
is_vector a_net = true
is_vector a_variable = true
is_vector faulty = true
is_vector _ = false

-- declared as a port
abbrev pub has_direction : Declaration → Bool
has_direction d = is_some d.direction

-- equal ranges, or one that has a fault
abbrev pub fits_range : Declaration → Declaration → Bool
fits_range c d = is_faulty c.sort || is_faulty d.sort || same_range c.range d.range

-- a port is declared once more by wire or reg, of equal sign and range
abbrev pub completes : Declaration → Declaration → Bool
completes c d =
    not c.twice && not (same_bool (has_direction c) (has_direction d)) && is_vector c.sort && is_vector d.sort && fits_range c d && same_bool c.signed d.signed

-- the sort of both: faulty where one of them is, else a variable where one of them says so
abbrev pub completed_sort : Sort → Sort → Sort
completed_sort s t = if is_faulty s || is_faulty t then faulty else (if is_variable s || is_variable t then a_variable else a_net)

-- the two declarations of one port in one
abbrev pub completed : Declaration → Declaration → Declaration
completed c d =
    record {
      name = c.name;
      item = c.item;
      sort = completed_sort c.sort d.sort;
      range = c.range;
      signed = c.signed;
      direction = (if is_some c.direction then c.direction else d.direction);
      twice = true;
    }

-- the declarations with one more, at the place of the first of its name
abbrev pub add_declaration : List Declaration → Declaration → List Declaration
add_declaration [] d = d ∷ []
add_declaration (c ∷ cs) d = if bytes_eq c.name.name d.name.name then (if completes c d then completed c d else c) ∷ cs else c ∷ add_declaration cs d

-- each declared name once, in order of declaration
abbrev pub declarations_from : List Declaration → List Declaration → List Declaration
declarations_from sofar [] = sofar
declarations_from sofar (d ∷ ds) = declarations_from (add_declaration sofar d) ds

-- the declared names of a module
abbrev pub declarations : Scope → Module → List Declaration
declarations g m = declarations_from [] (all_declarations g m)

-- a name that is declared again, other than as a port's net or variable
abbrev pub is_declared_again : List Declaration → Declaration → Bool
is_declared_again sofar d = list_any (λ c. bytes_eq c.name.name d.name.name && not (completes c d)) sofar

-- the names declared again, in order of text
abbrev pub twice_faults : List Declaration → List Declaration → List Fault
twice_faults sofar [] = []
twice_faults sofar (d ∷ ds) = fault_if (is_declared_again sofar d) (fault_at TwiceDeclared d.name) ++ twice_faults (add_declaration sofar d) ds

-- a name twice in the header's list
abbrev pub listed_twice : List Named → List Named → List Fault
listed_twice sofar [] = []
listed_twice sofar (x ∷ xs) = fault_if (is_among sofar x.name) (fault_at TwiceDeclared x) ++ listed_twice (x ∷ sofar) xs

-- a name with a direction
abbrev pub is_port : List Declaration → List ℕ → Bool
is_port ds x = list_any (λ d. bytes_eq d.name.name x && has_direction d) ds

-- the name is declared as a parameter; of two declarations the first counts
abbrev pub names_parameter : List Declaration → List ℕ → Bool
names_parameter ds x = list_any (λ d. bytes_eq d.name.name x && is_parameter d.sort) ds

-- the listed ports without direction
abbrev pub direction_faults : List Declaration → List Named → List Fault
direction_faults ds xs = flat_map (λ x. fault_if (not (is_port ds x.name)) (fault_at PortMismatch x)) xs
