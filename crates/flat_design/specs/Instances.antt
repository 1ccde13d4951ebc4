-- An instance of a module: its scope, and its own signals, memories, constants and aliases (clauses 3 and 12).
use Rattle.std.specs.Prelude.{ℕ, ◌+◌, nat_lt, Bool, true, false, not, ◌&&◌, if◌then◌else◌, List, [], ◌∷◌, ◌++◌, length, map, flat_map, filter, bytes_eq, is_some, unwrap_or, Option, Some, None}
use Rattle.std.specs.Map.{lookup}
use Rattle.cov_host.specs.declared.place.Place.{Place}
use Rattle.design_model.specs.Design.{Design}
use Rattle.design_model.specs.declared.design.Alias.{Alias}
use Rattle.design_model.specs.declared.design.Constant.{Constant}
use Rattle.design_model.specs.declared.design.Memory.{Memory}
use Rattle.design_model.specs.declared.design.Signal.{Signal}
use Rattle.design_model.specs.Lawful.{span}
use Rattle.design_model.specs.declared.design.Range.{Range}
use Rattle.tree_sizes.specs.Sizes.{module_size}
use Rattle.verilog_tree.specs.declared.item.Named.{Named}
use Rattle.verilog_tree.specs.Tree.{Module}
use Rattle.flat_design.specs.declared.fault.DesignLimit.TheVariants.{Path}
use Rattle.flat_design.specs.Bodies.{Met, met_signal, met_words, met_instance, met_text, met_faults}
use Rattle.flat_design.specs.Declarations.{Override, Declaration, Sort, a_net, a_variable, words_from, an_integer, some_instance, constants_from, constants_faults, declarations, all_declarations, twice_faults, listed_twice, direction_faults, item_range_faults, is_net, names_parameter}
use Rattle.flat_design.specs.Fault.{Fault, limit_fault, fault_if}
use Rattle.flat_design.specs.Identifiers.{params_of, names_of, item_identifiers, item_loops, is_among}
use Rattle.flat_design.specs.Numbering.{one_if}
use Rattle.flat_design.specs.Processes.{Made}
use Rattle.flat_design.specs.Scope.{Scope, Bindings, with_bindings, no_names, Entry, a_constant, a_signal, a_memory, a_loop_variable, an_instance, no_constant, a_faulty_one, range_or, range_width, is_ranged}

-- the ports that are joined to plain names, each with the number of the outer signal
abbrev pub PortAliases : Type 0
PortAliases = List (List ℕ × ℕ)

-- a module to be put in place: its path, parameters and ports, the modules around it, and the item that names it
pub record Instantiation : Type 0 where
  pub of_module : Module
  pub path : List ℕ
  pub overrides : List Override
  pub aliases : PortAliases
  pub around : List (List ℕ)
  pub item : Place
  pub is_top : Bool

-- the design so far, and what was met
pub record Sofar : Type 0 where
  pub design : Design
  pub met : List Met

-- more that was met
abbrev pub meet : List Met → Sofar → Sofar
meet ms st = record { design = st.design; met = st.met ++ ms }

-- one more process
abbrev pub add_process : Made → Sofar → Sofar
add_process m st = record { design = record (st.design) { processes = st.design.processes ++ m.process ∷ [] }; met = st.met ++ m.met }

-- the names of a module, as an expression that must be constant sees those that are no parameters before it
abbrev pub other_names : Module → Scope
other_names m = λ x. if is_among (names_of m) x then Some no_constant else None

-- the parameters of a module with these overrides
abbrev pub constants : List Override → Module → Bindings
constants os m = constants_from (other_names m) os [] (params_of m)

-- what an expression that must be constant sees
abbrev pub constant_scope : List Override → Module → Scope
constant_scope os m = with_bindings (constants os m) (other_names m)

-- the declared names of a module with these overrides
abbrev pub declared : List Override → Module → List Declaration
declared os m = declarations (constant_scope os m) m

-- the names over which the module loops, and those that a process or connection names
abbrev pub loop_variables : Module → List Named
loop_variables m = flat_map (λ i. item_loops i.form) m.items

-- the names in processes and connections
abbrev pub used_names : Module → List Named
used_names m = flat_map (λ i. item_identifiers i.form) m.items

-- an integer is a signal where a process or connection names it and no loop is over it
abbrev pub is_named_signal : Module → List ℕ → Bool
is_named_signal m x = is_among (used_names m) x && not (is_among (loop_variables m) x)

-- a name of this sort is a signal
abbrev pub is_signal_sort : Module → List ℕ → Sort → Bool
is_signal_sort m x a_net = true
is_signal_sort m x a_variable = true
is_signal_sort m x an_integer = is_named_signal m x
is_signal_sort m x _ = false

-- declared as a signal
abbrev pub is_signal : Module → Declaration → Bool
is_signal m d = is_signal_sort m d.name.name d.sort

-- of the sort of a memory
abbrev pub is_memory_sort : Sort → Bool
is_memory_sort (words_from r) = true
is_memory_sort _ = false

-- declared as a memory
abbrev pub is_memory : Declaration → Bool
is_memory d = is_memory_sort d.sort

-- the outer signal of a port that is joined to a plain name
abbrev pub alias_number : PortAliases → List ℕ → Option ℕ
alias_number as' x = lookup (λ port. bytes_eq x port) as'

-- a port that is joined to a plain name
abbrev pub has_alias : PortAliases → Declaration → Bool
has_alias as' d = is_some (alias_number as' d.name.name)

-- the declared names that are signals of their own
abbrev pub is_own : PortAliases → Module → Declaration → Bool
is_own as' m d = is_signal m d && not (has_alias as' d)

-- declared as an input
abbrev pub is_input : Declaration → Bool
is_input d = unwrap_or d.direction false

-- the signal with this number, as a name sees it
abbrev pub signal_entry : ℕ → Declaration → Entry
signal_entry n d = a_signal (record { number = n; range = d.range; signed = d.signed; net = is_net d.sort; input = is_input d })

-- what a name of this sort means, if it is no signal; a memory has number k
abbrev pub other_entry : ℕ → Declaration → Sort → Entry
other_entry k d (words_from r) = a_memory (record { number = k; words = r; range = d.range; signed = d.signed })
other_entry k d an_integer = a_loop_variable
other_entry k d some_instance = an_instance
other_entry k d _ = a_faulty_one

-- what a declared name means; the next signal has number s, the next memory number k
abbrev pub declared_entry : PortAliases → Module → ℕ → ℕ → Declaration → Entry
declared_entry as' m s k d = if is_signal m d then signal_entry (unwrap_or (alias_number as' d.name.name) s) d else other_entry k d d.sort

-- what the declared names mean, in their order
abbrev pub entries : PortAliases → Module → ℕ → ℕ → List Declaration → Bindings
entries as' m s k [] = []
entries as' m s k (d ∷ ds) = (d.name.name, declared_entry as' m s k d) ∷ entries as' m (s + one_if (is_own as' m d)) (k + one_if (is_memory d)) ds

-- the parameters whose names the module does not declare before as something else
abbrev pub own_constants : List Override → Module → Bindings
own_constants os m = filter (λ c. names_parameter (declared os m) c.0) (constants os m)

-- the scope of an instance whose first signal has number s and whose first memory has number k
abbrev pub scope_of : Instantiation → ℕ → ℕ → Scope
scope_of i s k = with_bindings (own_constants i.overrides i.of_module) (with_bindings (entries i.aliases i.of_module s k (declared i.overrides i.of_module)) no_names)

-- the signal of instance i for a declared name
abbrev pub signal_of : ℕ → Bool → Declaration → Signal
signal_of i is_top d =
    record {
      instance = i;
      name = d.name.name;
      high = (range_or d.range).high;
      low = (range_or d.range).low;
      ranged = is_ranged d.range;
      width = range_width d.range;
      signed = d.signed;
      input = is_top && is_input d;
    }

-- the range of the words of a memory of this sort
abbrev pub sort_words : Sort → Range
sort_words (words_from r) = r
sort_words _ = range_or None

-- the range of a memory's words
abbrev pub words_of : Declaration → Range
words_of d = sort_words d.sort

-- the memory of instance i for a declared name
abbrev pub memory_of : ℕ → Declaration → Memory
memory_of i d =
    record {
      instance = i;
      name = d.name.name;
      first = (words_of d).high;
      last = (words_of d).low;
      high = (range_or d.range).high;
      low = (range_or d.range).low;
      ranged = is_ranged d.range;
      width = range_width d.range;
      signed = d.signed;
    }

-- the constant of instance i for a parameter
abbrev pub constant_of : ℕ → List ℕ × Entry → List Constant
constant_of i (x, a_constant v) = record { instance = i; name = x; value = v } ∷ []
constant_of i _ = []

-- the alias of instance i by this name
abbrev pub alias_to : ℕ → List ℕ → Option ℕ → List Alias
alias_to i x None = []
alias_to i x (Some n) = record { instance = i; name = x; signal = n } ∷ []

-- the alias of instance i for a port that is joined to a plain name
abbrev pub alias_of : ℕ → PortAliases → Declaration → List Alias
alias_of i as' d = alias_to i d.name.name (alias_number as' d.name.name)

-- a path of more than 256 bytes
abbrev pub path_faults : Place → List ℕ → List Fault
path_faults p path = fault_if (nat_lt 256 (length path)) (limit_fault Path p)

-- a path with one more name
abbrev pub dotted : List ℕ → List ℕ → List ℕ
dotted path x = path ++ 46 ∷ x

-- what is met at a declared name, and whether its path is too long
abbrev pub named_met : Instantiation → Declaration → Met → List Met
named_met i d m = m ∷ met_faults (path_faults d.item (dotted i.path d.name.name))

-- what is met at a declared signal or memory
abbrev pub declared_met : Instantiation → Declaration → List Met
declared_met i d =
    if is_own i.aliases i.of_module d then named_met i d (met_signal d.item) else (if is_memory d then named_met i d (met_words d.item (span (words_of d).high (words_of d).low)) else [])

-- the faults of all ranges of a module
abbrev pub range_faults : Scope → Module → List Fault
range_faults g m = flat_map (λ x. item_range_faults g x.place x.form) m.items

-- the faults of the declarations of a module with these overrides
abbrev pub declaration_faults : List Override → Module → List Fault
declaration_faults os m =
    constants_faults (other_names m) os [] (params_of m) ++ range_faults (constant_scope os m) m ++ twice_faults [] (all_declarations (constant_scope os m) m) ++ listed_twice [] m.ports ++ direction_faults (declared os m) m.ports

-- what is met in the declarations of an instance
abbrev pub opening_met : Instantiation → List Met
opening_met i =
    met_instance i.item ∷ met_text i.item (module_size i.of_module) ∷ met_faults (path_faults i.item i.path ++ declaration_faults i.overrides i.of_module) ++ flat_map (declared_met i) (declared i.overrides i.of_module)

-- the design with an instance's own signals, memories, constants and aliases
abbrev pub opened : Instantiation → Sofar → Sofar
opened i st =
    record {
      design =
          record (st.design) {
            instances = st.design.instances ++ record { path = i.path; «module» = i.of_module.name.name } ∷ [];
            signals = st.design.signals ++ map (signal_of (length st.design.instances) i.is_top) (filter (is_own i.aliases i.of_module) (declared i.overrides i.of_module));
            memories = st.design.memories ++ map (memory_of (length st.design.instances)) (filter is_memory (declared i.overrides i.of_module));
            constants = st.design.constants ++ flat_map (constant_of (length st.design.instances)) (constants i.overrides i.of_module);
            aliases = st.design.aliases ++ flat_map (alias_of (length st.design.instances) i.aliases) (declared i.overrides i.of_module);
          };
      met = st.met ++ opening_met i;
    }

-- an instance whose items are being replaced
pub record Context : Type 0 where
  pub given : Instantiation
  pub number : ℕ
  pub scope : Scope
  pub base : ℕ  -- memories are numbered from here on

-- of the instance that comes next
abbrev pub context : ℕ → Instantiation → Sofar → Context
context base i st =
    record {
      given = i;
      number = length st.design.instances;
      scope = scope_of i (length st.design.signals) (length st.design.memories);
      base = base;
    }
