use Rattle.std.proofs.Common.{arith, ◌≡◌, [], ◌∷◌, ◌+◌, ap, drop, sym, ◌∙◌}
use Rattle.std.proofs.lemmas.Grind.{common_steps}
use Rattle.flat_design.specs.Connections.{connection_of}
use Rattle.elab_ports.specs.ConnectionView.{connection_view, connections_view}
use Rattle.elab_ports.specs.FirstBound.{connections_by, or_bound}
use Rattle.elab_ports.proofs.FirstBoundLemmas.{connections_more, connections_none, or_nothing}
use Rattle.elab_ports.proofs.ports.first_connections.Goals as goal

pub loop-connection-init : goal.loop-connection-init
loop-connection-init c = connections_none c.new-first.result (connection_of (connections_view c.args.connections.now)) c.new-first.ensures

pub loop-connection-preserved : goal.loop-connection-preserved
loop-connection-preserved c =
    let i = c.loop-connection.connection-index in
    let cs = c.args.connections.now in
    let others = connections_view (drop (i + 1) cs) in
    let split : connections_view (drop i cs) ≡ connection_view c.connection-item.result ∷ others = grind (arith, common_steps) in
    connections_more c.loop-connection.first c.bind_first.new.map c.connection-item.result others c.in_ok-bind_first.ensures ∙ ap (λ ds. or_bound (connections_by c.loop-connection.first) (connection_of ds)) (sym split) ∙ c.loop-connection.invariant

pub returns : goal.returns
returns c =
    let over : connections_view (drop c.loop-connection.connection-index c.args.connections.now) ≡ [] = grind (arith, common_steps) in
    or_nothing (connections_by c.loop-connection.first) ∙ ap (λ ds. or_bound (connections_by c.loop-connection.first) (connection_of ds)) (sym over) ∙ c.loop-connection.invariant
