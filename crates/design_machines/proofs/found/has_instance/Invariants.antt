use Rattle.std.proofs.Common.{ℕ, ◌<◌}
use Rattle.design_machines.specs.Machines.{IsOfModule}
use Rattle.design_machines.proofs.found.has_instance.Given as goal

-- no instance so far is of the module
abbrev pub invariant-loop-number : goal.invariant-loop-number
invariant-loop-number l = (k : ℕ) → k < l.number → IsOfModule l.instances k l.module_name → ⊥
