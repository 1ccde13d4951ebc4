-- The reads of a body that its list of names lacks, and the signals that count as listed.
use Rattle.std.specs.Prelude.{ℕ, ◌==◌, Bool, List, flat_map}
use Rattle.std.specs.List.{list_any}
use Rattle.flat_design.specs.Fault.{Fault, fault_at, fault_if}
use Rattle.flat_design.specs.Processes.{lacks}
use Rattle.flat_design.specs.Scope.{Scope, look_up}
use Rattle.flat_design.specs.declared.fault.ElabKind.TheVariants.{Incomplete}
use Rattle.verilog_tree.specs.declared.item.Named.{Named}

-- the number is one of these
abbrev pub has : List ℕ → ℕ → Bool
has known n = list_any (λ k. k == n) known

-- a fault at each of the names that is not among the known signals
abbrev pub lacking : Scope → List ℕ → List Named → List Fault
lacking g known xs = flat_map (λ x. fault_if (lacks (look_up g x.name) known) (fault_at Incomplete x)) xs
