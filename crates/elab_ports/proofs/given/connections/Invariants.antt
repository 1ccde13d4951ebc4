use Rattle.std.proofs.Common.{◌≡◌, ◌++◌, map, drop}
use Rattle.flat_design.specs.Connections as spec
use Rattle.verilog_tree.specs.View.{givens_view}
use Rattle.elab_scope.specs.View.{name_view, names_view}
use Rattle.elab_ports.specs.ConnectionView.{connection_view}
use Rattle.elab_ports.proofs.given.connections.Given as goal

-- those so far, and those that the names and connections which are left make, are all
abbrev pub invariant-loop-one : goal.invariant-loop-one
invariant-loop-one l =
    map connection_view l.found.items ++ spec.connections (name_view l.label) (names_view (drop l.position l.names)) (givens_view (drop l.one-index l.given)) ≡ spec.connections (name_view l.fn.label) (names_view l.fn.names) (givens_view l.fn.given)
