use Rattle.std.proofs.Common.{arith, ◌≡◌, ◌∷◌, ◌++◌, ◌+◌, List, ap, drop, sym, ◌∙◌}
use Rattle.std.specs.Prelude.{flat_map}
use Rattle.std.specs.List.{list_any}
use Rattle.std.proofs.lemmas.Grind.{common_steps}
use Rattle.flat_design.specs.Connections.{Connection, override_of, override_value_faults, value_names_faulty}
use Rattle.flat_design.specs.Declarations.{Override}
use Rattle.flat_design.specs.Fault.{Fault, none}
use Rattle.flat_design.specs.Scope.{binding_of}
use Rattle.flat_design.proofs.NoConstFaults.{both_false, both_none}
use Rattle.elab_declarations.specs.Constants.{overrides_view}
use Rattle.elab_declarations.proofs.ListLemmas.{joined_more}
use Rattle.elab_ports.specs.ConnectionView.{connection_view, connections_view}
use Rattle.elab_ports.proofs.overrides.override_values.Goals as goal

pub loop-one-preserved : goal.loop-one-preserved
loop-one-preserved c =
    let g = binding_of c.args.scope.now in
    let i = c.loop-one.one-index in
    let cs = c.args.given.now in
    let x = connection_view c.one-item.result in
    let others = connections_view (drop (i + 1) cs) in
    let own : Connection → List Override = λ d. override_of g d.port d.value in
    let wrong : Connection → List Fault = λ d. override_value_faults g d.value in
    let split : connections_view (drop i cs) ≡ x ∷ others = grind (arith, common_steps) in
    record {
      found = ap (λ os. os ++ flat_map own others) c.in_ok-push_override.ensures ∙ joined_more connection_view own (overrides_view c.loop-one.found.items) cs i c.one-item.result c.loop-one-test.true c.one-item.is ∙ c.loop-one.invariant.found;
      sound = (both_none (wrong x) (flat_map wrong others) (sym (ap (λ ds. none (flat_map wrong ds)) split) ∙ c.loop-one.invariant.sound)).1;
      known = (both_false (value_names_faulty g x.value) (list_any (λ d. value_names_faulty g d.value) others) (sym (ap (list_any (λ d. value_names_faulty g d.value)) split) ∙ c.loop-one.invariant.known)).1;
    }
