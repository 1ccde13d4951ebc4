-- How the scope of an instance is built, and which numbers come next.
use Rattle.std.specs.Prelude.{◌≡◌, ℕ, ◌+◌, ◌≤◌, List, [], ◌∷◌, length, filter}
use Rattle.flat_design.specs.Declarations.{Declaration, names_parameter}
use Rattle.flat_design.specs.Instances.{Instantiation, declared, is_memory, is_own, scope_of}
use Rattle.flat_design.specs.Numbering.{one_if}
use Rattle.flat_design.specs.Scope.{Bindings, binding_of}
use Rattle.elab_instances.specs.Linked.{Linked}
use Rattle.elab_instances.specs.Roles.{role_of, role_entry, is_own_role, is_memory_role}
use Rattle.elab_instances.specs.declared.instantiation.Numbers.{Numbers}
use Rattle.elab_instances.specs.declared.entries.Inside.{Inside}
use Rattle.elab_instances.specs.declared.roles.Role.{Role}

-- the numbers that follow a name of this role
abbrev pub numbers_behind : Role → Numbers → Numbers
numbers_behind r n = record { signal = n.signal + one_if (is_own_role r); memory = n.memory + one_if (is_memory_role r) }

-- what these names mean, in their order
abbrev pub role_entries : Linked → Numbers → List Declaration → Bindings
role_entries l n [] = []
role_entries l n (d ∷ ds) = (d.name.name, role_entry (role_of l d) n.signal n.memory d) ∷ role_entries l (numbers_behind (role_of l d) n) ds

-- the parameters that these names say to be parameters
abbrev pub own_bindings : List Declaration → Bindings → Bindings
own_bindings ds bs = filter (λ c. names_parameter ds c.0) bs

-- the numbers after these names
abbrev pub numbers_past : Linked → Numbers → List Declaration → Numbers
numbers_past l n [] = n
numbers_past l n (d ∷ ds) = numbers_past l (numbers_behind (role_of l d) n) ds

-- the numbers after those of an instance
abbrev pub numbers_after : Instantiation → Numbers → Numbers
numbers_after i n =
    record {
      signal = n.signal + length (filter (is_own i.aliases i.of_module) (declared i.overrides i.of_module));
      memory = n.memory + length (filter is_memory (declared i.overrides i.of_module));
    }

-- at most 65,536 signals and 262,144 memories
abbrev pub AreFew : Numbers → Type 0
AreFew n = (n.signal ≤ 65536) × (n.memory ≤ 262144)

-- the scope of the instance whose first signal and memory have these numbers, and the numbers after them
pub record IsInside (i : Instantiation) (n : Numbers) (inside : Inside) : Type 0 where
  pub scope : binding_of inside.scope ≡ scope_of i n.signal n.memory
  pub next : inside.next ≡ numbers_after i n
