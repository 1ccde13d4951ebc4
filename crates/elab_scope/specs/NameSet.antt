-- Names that are found at once.
use Rattle.std.specs.Prelude.{ℕ, Bool, not, ◌||◌, List, bytes_eq}
use Rattle.std.specs.List.{list_any}
use Rattle.flat_design.specs.Connections.{Connection}
use Rattle.flat_design.specs.Fault.{Fault, fault_at, fault_if}
use Rattle.flat_design.specs.declared.fault.ElabKind.TheVariants.{PortMismatch}

-- the name x is one of these
abbrev pub has : List (List ℕ) → List ℕ → Bool
has names x = list_any (λ name. bytes_eq name x) names

-- the names with one more
abbrev pub with_name : List ℕ → (List ℕ → Bool) → List ℕ → Bool
with_name name names x = bytes_eq name x || names x

-- a connection that names none of the known names, or one that was given before
abbrev pub name_faults : (List ℕ → Bool) → (List ℕ → Bool) → Connection → List Fault
name_faults known given c = fault_if (not (known c.port) || given c.port) (fault_at PortMismatch c.label)
