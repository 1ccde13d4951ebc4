use Rattle.std.proofs.Common.{◌≡◌, ◌++◌, drop}
use Rattle.flat_design.specs.Processes.{listed_signals}
use Rattle.flat_design.specs.Scope.{binding_of}
use Rattle.elab_processes.specs.Listed.{has}
use Rattle.elab_processes.proofs.assigned.add_listed.Given as goal

-- the signals so far, with those of the rest, are those of all
abbrev pub invariant-loop-name : goal.invariant-loop-name
invariant-loop-name l = has (listed_signals (binding_of l.scope) (drop l.name-index l.names) ++ l.known) ≡ has (listed_signals (binding_of l.fn.scope) l.fn.names ++ l.fn.known)
