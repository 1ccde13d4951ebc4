-- The places of the modules of a name.
use Rattle.std.specs.Prelude.{ℕ, ◌+◌, if◌then◌else◌, List, [], ◌∷◌, bytes_eq, is_some, Option, Some, None}
use Rattle.std.specs.Option.{option_or}
use Rattle.verilog_tree.specs.Tree.{Module}
use Rattle.flat_design.specs.Fault.{Fault, fault_at, fault_if}
use Rattle.flat_design.specs.declared.fault.ElabKind.TheVariants.{TwoModules}

-- the place of the first module of a name among these, of which the first has this place
abbrev pub first_places : ℕ → List Module → List ℕ → Option ℕ
first_places k [] x = None
first_places k (m ∷ ms) x = if bytes_eq m.name.name x then Some k else first_places (k + 1) ms x

-- where a name is bound to, or else by the second map
abbrev pub or_bound : (List ℕ → Option ℕ) → (List ℕ → Option ℕ) → List ℕ → Option ℕ
or_bound f g x = option_or (f x) (g x)

-- a module of a name that was bound before
abbrev pub module_faults : (List ℕ → Option ℕ) → Module → List Fault
module_faults places m = fault_if (is_some (places m.name.name)) (fault_at TwoModules m.name)
