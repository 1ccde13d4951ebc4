use Rattle.std.proofs.Common.{arith, ◌≡◌, ◌∷◌, ◌+◌, List, ap, drop}
use Rattle.std.specs.Prelude.{flat_map}
use Rattle.std.proofs.lemmas.Grind.{common_steps}
use Rattle.flat_design.specs.Connections.{Connection, override_value_faults}
use Rattle.flat_design.specs.Fault.{Fault}
use Rattle.flat_design.specs.Scope.{binding_of}
use Rattle.elab_checks.proofs.ExpressionLemmas.{met_next, none_next}
use Rattle.elab_ports.specs.ConnectionView.{connection_view, connections_view}
use Rattle.elab_ports.proofs.overrides.check_values.Goals as goal

pub loop-one-preserved : goal.loop-one-preserved
loop-one-preserved c =
    let wrong : Connection → List Fault = λ d. override_value_faults (binding_of c.args.scope.now) d.value in
    let x = connection_view c.one-item.result in
    let others = connections_view (drop (c.loop-one.one-index + 1) c.args.overrides.now) in
    let rest = flat_map wrong others in
    let split : connections_view (drop c.loop-one.one-index c.args.overrides.now) ≡ x ∷ others = grind (arith, common_steps) in
    let next = ap (flat_map wrong) split in
    record {
      met = met_next c.loop-one.tally c.check_value-sound.new.tally _ (wrong x) rest _ next c.loop-one.invariant.met c.check_value-sound.ensures.met;
      sound = none_next c.loop-one.sound c.check_value-sound.result _ (wrong x) rest _ next c.loop-one.invariant.sound c.check_value-sound.ensures.sound;
    }
