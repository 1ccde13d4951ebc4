use Rattle.std.proofs.Common.{◌≡◌, ◌++◌, drop}
use Rattle.flat_design.specs.Processes.{listed_signals}
use Rattle.flat_design.specs.Scope.{binding_of}
use Rattle.elab_bodies.proofs.processes.listed_signals.Given as goal

-- the signals so far, with those of the rest, are those of all names
abbrev pub invariant-loop-name : goal.invariant-loop-name
invariant-loop-name l = l.signals ++ listed_signals (binding_of l.scope) (drop l.name-index l.names) ≡ listed_signals (binding_of l.fn.scope) l.fn.names
