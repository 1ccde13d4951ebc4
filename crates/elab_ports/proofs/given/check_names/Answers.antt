use Rattle.std.proofs.Common.{arith, ◌≡◌, ◌∙◌, ◌&&◌, ◌∷◌, ◌++◌, ◌+◌, ap, drop}
use Rattle.std.proofs.lemmas.Grind.{common_steps}
use Rattle.flat_design.specs.Fault.{none}
use Rattle.flat_design.specs.Identifiers.{is_among}
use Rattle.elab_scope.specs.NameSet.{has, name_faults, with_name}
use Rattle.elab_scope.specs.Tally.{after_faults}
use Rattle.elab_scope.specs.View.{names_view}
use Rattle.elab_checks.proofs.ExpressionLemmas.{met_next, none_next}
use Rattle.elab_ports.specs.ConnectionView.{connection_view, connections_view}
use Rattle.elab_scope.proofs.ConnectionLemmas.{by_sets, faults_by}
use Rattle.elab_ports.proofs.given.check_names.Goals as goal

pub loop-connection-preserved : goal.loop-connection-preserved
loop-connection-preserved c =
    let i = c.loop-connection.connection-index in
    let cs = c.args.connections.now in
    let x = connection_view c.connection-item.result in
    let rest = connections_view (drop (i + 1) cs) in
    let split : connections_view (drop i cs) ≡ x ∷ rest = grind (arith, common_steps) in
    let known = is_among (names_view c.args.names.now) in
    let given = has c.loop-connection.given in
    let one = name_faults known given x in
    let later = faults_by known (with_name x.port given) rest in
    let next : faults_by known given (connections_view (drop i cs)) ≡ one ++ later = ap (faults_by known given) split in
    let set : has c.check_name.new.given ≡ with_name x.port given = c.in_ok-sound.ensures.given in
    let met : c.check_name.new.tally ≡ after_faults c.loop-connection.tally one = c.in_ok-sound.ensures.met ∙ ap (λ k. after_faults c.loop-connection.tally (name_faults k given x)) c.in_ok-known.ensures in
    let sound : c.in_ok-sound.field-0 ≡ none one = c.in_ok-sound.ensures.sound ∙ ap (λ k. none (name_faults k given x)) c.in_ok-known.ensures in
    record {
      met = ap (λ g. after_faults c.check_name.new.tally (faults_by known g rest)) set ∙ met_next c.loop-connection.tally c.check_name.new.tally _ one later _ next c.loop-connection.invariant.met met;
      sound = ap (λ g. (c.loop-connection.sound && c.in_ok-sound.field-0) && none (faults_by known g rest)) set ∙ none_next c.loop-connection.sound c.in_ok-sound.field-0 _ one later _ next c.loop-connection.invariant.sound sound;
    }

pub returns : goal.returns
returns c = grind (arith, common_steps, by_sets)
