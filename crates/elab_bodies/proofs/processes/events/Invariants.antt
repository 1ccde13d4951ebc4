use Rattle.std.proofs.Common.{◌≡◌, ◌++◌, drop}
use Rattle.flat_design.specs.Processes.{events}
use Rattle.flat_design.specs.Scope.{binding_of}
use Rattle.elab_bodies.proofs.processes.events.Given as goal

-- the events so far, with those of the rest, are those of all edges
abbrev pub invariant-loop-edge : goal.invariant-loop-edge
invariant-loop-edge l = l.events ++ events (binding_of l.scope) (drop l.edge-index l.edges) ≡ events (binding_of l.fn.scope) l.fn.edges
