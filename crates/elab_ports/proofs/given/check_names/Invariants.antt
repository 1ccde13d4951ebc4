use Rattle.std.proofs.Common.{◌≡◌, ◌&&◌, drop}
use Rattle.std.specs.Prelude.{false}
use Rattle.flat_design.specs.Fault.{none}
use Rattle.flat_design.specs.Identifiers.{is_among}
use Rattle.elab_scope.specs.NameSet.{has}
use Rattle.elab_scope.specs.Tally.{after_faults}
use Rattle.elab_scope.specs.View.{names_view}
use Rattle.elab_ports.specs.ConnectionView.{connections_view}
use Rattle.elab_scope.proofs.ConnectionLemmas.{faults_by}
use Rattle.elab_ports.proofs.given.check_names.Given as goal

-- the faults so far, with those of the connections that are left, are those of all
abbrev pub invariant-loop-connection : goal.invariant-loop-connection
invariant-loop-connection l =
    let rest = faults_by (is_among (names_view l.names)) (has l.given) (connections_view (drop l.connection-index l.connections)) in
    let all = faults_by (is_among (names_view l.fn.names)) (λ x. false) (connections_view l.fn.connections) in
    record {
      met : after_faults l.tally rest ≡ after_faults l.fn.tally all;
      sound : (l.sound && none rest) ≡ none all;
    }
