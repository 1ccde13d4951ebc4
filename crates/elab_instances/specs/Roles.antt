-- What the declared names of an instance are.
use Rattle.std.specs.Prelude.{◌≤◌, ℕ, Bool, true, false, if◌then◌else◌, List, [], Option, Some, None}
use Rattle.design_model.specs.Lawful.{span}
use Rattle.flat_design.specs.Bodies.{Met, met_signal, met_words}
use Rattle.flat_design.specs.Declarations.{Declaration, Sort, a_net, a_variable, words_from, an_integer, some_instance}
use Rattle.flat_design.specs.Instances.{Instantiation, named_met, signal_entry}
use Rattle.flat_design.specs.declared.entry.Entry.{Entry}
use Rattle.flat_design.specs.declared.entry.Entry.TheVariants.{Memory as a_memory, LoopVariable as a_loop_variable, Instance as an_instance, Faulty as a_faulty_one}
use Rattle.elab_scope.specs.Entries.{IsRange}
use Rattle.elab_instances.specs.Linked.{Linked}
use Rattle.elab_instances.specs.declared.roles.Role.{Role}
use Rattle.elab_instances.specs.declared.roles.Role.TheVariants.{Own, Joined, Memory, LoopVariable, Instance, Faulty}

-- a signal goes by its own number, or by that of an outer one
abbrev pub signal_role : Option ℕ → Role
signal_role None = Own
signal_role (Some n) = Joined n

-- a name of this sort, with the outer signal that it is joined to, if there is one, and whether an integer is a signal
abbrev pub sort_role : Option ℕ → Bool → Sort → Role
sort_role outer named a_net = signal_role outer
sort_role outer named a_variable = signal_role outer
sort_role outer named (words_from r) = Memory r
sort_role outer named an_integer = if named then signal_role outer else LoopVariable
sort_role outer named some_instance = Instance
sort_role outer named _ = Faulty

-- what the declared name is
abbrev pub role_of : Linked → Declaration → Role
role_of l d = sort_role (l.outer d.name.name) (l.named d.name.name) d.sort

-- what a name of this role means; the next signal has number s, the next memory number k
abbrev pub role_entry : Role → ℕ → ℕ → Declaration → Entry
role_entry Own s k d = signal_entry s d
role_entry (Joined n) s k d = signal_entry n d
role_entry (Memory r) s k d = a_memory (record { number = k; words = r; range = d.range; signed = d.signed })
role_entry LoopVariable s k d = a_loop_variable
role_entry Instance s k d = an_instance
role_entry Faulty s k d = a_faulty_one

-- what is met at a name of this role
abbrev pub role_met : Role → Instantiation → Declaration → List Met
role_met Own i d = named_met i d (met_signal d.item)
role_met (Memory r) i d = named_met i d (met_words d.item (span r.high r.low))
role_met _ i d = []

-- a signal of its own
abbrev pub is_own_role : Role → Bool
is_own_role Own = true
is_own_role _ = false

-- a memory
abbrev pub is_memory_role : Role → Bool
is_memory_role (Memory r) = true
is_memory_role _ = false

-- a memory has at most 65,536 words
abbrev pub IsFewWords : Role → Type 0
IsFewWords (Memory r) = IsRange r × (span r.high r.low ≤ 65536)
IsFewWords _ = Unit {0}
