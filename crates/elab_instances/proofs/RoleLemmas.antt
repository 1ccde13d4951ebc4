-- What a declared name is, by its role.
use Rattle.std.proofs.Common.{◌≡◌, ℕ, Bool, true, false, not, ◌&&◌, if◌then◌else◌, List, [], Option, Some, None, refl}
use Rattle.std.specs.Prelude.{is_some, unwrap_or}
use Rattle.design_model.specs.Lawful.{span}
use Rattle.verilog_tree.specs.Tree.{Module}
use Rattle.flat_design.specs.Bodies.{Met, met_signal, met_words}
use Rattle.flat_design.specs.Declarations.{Declaration, Sort, a_net, a_variable, words_from, an_integer, a_parameter, some_instance, faulty, faulty_memory}
use Rattle.flat_design.specs.Instances.{Instantiation, PortAliases, alias_number, declared_entry, declared_met, is_memory, is_memory_sort, is_named_signal, is_own, is_signal_sort, named_met, other_entry, signal_entry, sort_words}
use Rattle.elab_declarations.specs.DeclarationBounds.{AreFewWords, IsInBounds}
use Rattle.elab_instances.specs.Linked.{Linked, linked_of}
use Rattle.elab_instances.specs.Roles.{IsFewWords, is_memory_role, is_own_role, role_entry, role_met, role_of, signal_role, sort_role}
use Rattle.elab_instances.specs.declared.roles.Role.TheVariants.{LoopVariable}

-- a signal is its own where no outer one is joined
own_signal : (o : Option ℕ) → is_own_role (signal_role o) ≡ not (is_some o)
own_signal None = refl
own_signal (Some n) = refl

own_sort : (as' : PortAliases) (m : Module) (x : List ℕ) (s : Sort) → is_own_role (sort_role (alias_number as' x) (is_named_signal m x) s) ≡ (is_signal_sort m x s && not (is_some (alias_number as' x)))
own_sort as' m x a_net = own_signal (alias_number as' x)
own_sort as' m x a_variable = own_signal (alias_number as' x)
own_sort as' m x (words_from r) = refl
own_sort as' m x an_integer = by (is_named_signal m x)
  where
    by : (b : Bool) → is_own_role (if b then signal_role (alias_number as' x) else LoopVariable) ≡ (b && not (is_some (alias_number as' x)))
    by true = own_signal (alias_number as' x)
    by false = refl
own_sort as' m x a_parameter = refl
own_sort as' m x some_instance = refl
own_sort as' m x faulty = refl
own_sort as' m x faulty_memory = refl

-- which declared names are signals of an instance's own
pub own_role : (i : Instantiation) (d : Declaration) → is_own_role (role_of (linked_of i) d) ≡ is_own i.aliases i.of_module d
own_role i d = own_sort i.aliases i.of_module d.name.name d.sort

no_memory : (o : Option ℕ) → is_memory_role (signal_role o) ≡ false
no_memory None = refl
no_memory (Some n) = refl

memory_sort : (o : Option ℕ) (named : Bool) (s : Sort) → is_memory_role (sort_role o named s) ≡ is_memory_sort s
memory_sort o named a_net = no_memory o
memory_sort o named a_variable = no_memory o
memory_sort o named (words_from r) = refl
memory_sort o true an_integer = no_memory o
memory_sort o false an_integer = refl
memory_sort o named a_parameter = refl
memory_sort o named some_instance = refl
memory_sort o named faulty = refl
memory_sort o named faulty_memory = refl

-- which are memories
pub memory_role : (l : Linked) (d : Declaration) → is_memory_role (role_of l d) ≡ is_memory d
memory_role l d = memory_sort (l.outer d.name.name) (l.named d.name.name) d.sort

signal_stands : (o : Option ℕ) (s k : ℕ) (d : Declaration) → role_entry (signal_role o) s k d ≡ signal_entry (unwrap_or o s) d
signal_stands None s k d = refl
signal_stands (Some n) s k d = refl

entry_sort : (as' : PortAliases) (m : Module) (s k : ℕ) (d : Declaration) (sort : Sort) →
    role_entry (sort_role (alias_number as' d.name.name) (is_named_signal m d.name.name) sort) s k d ≡ (if is_signal_sort m d.name.name sort then signal_entry (unwrap_or (alias_number as' d.name.name) s) d else other_entry k d sort)
entry_sort as' m s k d a_net = signal_stands (alias_number as' d.name.name) s k d
entry_sort as' m s k d a_variable = signal_stands (alias_number as' d.name.name) s k d
entry_sort as' m s k d (words_from r) = refl
entry_sort as' m s k d an_integer = by (is_named_signal m d.name.name)
  where
    by : (b : Bool) → role_entry (if b then signal_role (alias_number as' d.name.name) else LoopVariable) s k d ≡ (if b then signal_entry (unwrap_or (alias_number as' d.name.name) s) d else other_entry k d an_integer)
    by true = signal_stands (alias_number as' d.name.name) s k d
    by false = refl
entry_sort as' m s k d a_parameter = refl
entry_sort as' m s k d some_instance = refl
entry_sort as' m s k d faulty = refl
entry_sort as' m s k d faulty_memory = refl

-- what a declared name means
pub entry_by_role : (i : Instantiation) (s k : ℕ) (d : Declaration) → role_entry (role_of (linked_of i) d) s k d ≡ declared_entry i.aliases i.of_module s k d
entry_by_role i s k d = entry_sort i.aliases i.of_module s k d d.sort

signal_met : (o : Option ℕ) (i : Instantiation) (d : Declaration) → role_met (signal_role o) i d ≡ (if not (is_some o) then named_met i d (met_signal d.item) else [])
signal_met None i d = refl
signal_met (Some n) i d = refl

met_sort : (i : Instantiation) (d : Declaration) (s : Sort) →
    role_met (sort_role (alias_number i.aliases d.name.name) (is_named_signal i.of_module d.name.name) s) i d ≡ (if is_signal_sort i.of_module d.name.name s && not (is_some (alias_number i.aliases d.name.name)) then named_met i d (met_signal d.item) else (if is_memory_sort s then named_met i d (met_words d.item (span (sort_words s).high (sort_words s).low)) else []))
met_sort i d a_net = signal_met (alias_number i.aliases d.name.name) i d
met_sort i d a_variable = signal_met (alias_number i.aliases d.name.name) i d
met_sort i d (words_from r) = refl
met_sort i d an_integer = by (is_named_signal i.of_module d.name.name)
  where
    by : (b : Bool) → role_met (if b then signal_role (alias_number i.aliases d.name.name) else LoopVariable) i d ≡ (if b && not (is_some (alias_number i.aliases d.name.name)) then named_met i d (met_signal d.item) else [])
    by true = signal_met (alias_number i.aliases d.name.name) i d
    by false = refl
met_sort i d a_parameter = refl
met_sort i d some_instance = refl
met_sort i d faulty = refl
met_sort i d faulty_memory = refl

-- what is met at a declared name
pub met_by_role : (i : Instantiation) (d : Declaration) → role_met (role_of (linked_of i) d) i d ≡ declared_met i d
met_by_role i d = met_sort i d d.sort

few_signal : (o : Option ℕ) → IsFewWords (signal_role o)
few_signal None = tt
few_signal (Some n) = tt

few_sort : (o : Option ℕ) (named : Bool) (s : Sort) → AreFewWords s → IsFewWords (sort_role o named s)
few_sort o named a_net h = few_signal o
few_sort o named a_variable h = few_signal o
few_sort o named (words_from r) h = h
few_sort o true an_integer h = few_signal o
few_sort o false an_integer h = tt
few_sort o named a_parameter h = tt
few_sort o named some_instance h = tt
few_sort o named faulty h = tt
few_sort o named faulty_memory h = tt

-- a memory has few words
pub few_words : (l : Linked) (d : Declaration) → IsInBounds d → IsFewWords (role_of l d)
few_words l d h = few_sort (l.outer d.name.name) (l.named d.name.name) d.sort h.words
