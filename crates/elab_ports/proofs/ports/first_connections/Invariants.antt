use Rattle.std.proofs.Common.{◌≡◌, drop}
use Rattle.flat_design.specs.Connections.{connection_of}
use Rattle.elab_ports.specs.ConnectionView.{connections_view}
use Rattle.elab_ports.specs.FirstBound.{connections_by, or_bound}
use Rattle.elab_ports.proofs.ports.first_connections.Given as goal

-- the first connections so far, and after them those that are left, are those of all
abbrev pub invariant-loop-connection : goal.invariant-loop-connection
invariant-loop-connection l =
    or_bound (connections_by l.first) (connection_of (connections_view (drop l.connection-index l.connections))) ≡ connection_of (connections_view l.fn.connections)
