use Rattle.std.proofs.Common.{ap}
use Rattle.verilog_tree.specs.View.{expr_view}
use Rattle.flat_design.specs.Scope.{binding_of}
use Rattle.elab_ports.specs.ConnectionView.{value_view}
use Rattle.elab_ports.proofs.OverrideLemmas.{override_clean}
use Rattle.elab_ports.proofs.overrides.push_override.Goals as goal

pub constant_value-value-requires-clause-constants : goal.constant_value-value-requires-clause-constants
constant_value-value-requires-clause-constants c =
    (override_clean (binding_of c.args.scope.now) (value_view c.args.given.now.value) (expr_view c.in-Some.value.now) (ap value_view c.in-Some.is) c.requires.sound c.requires.known).0

pub constant_value-value-requires-clause-sound : goal.constant_value-value-requires-clause-sound
constant_value-value-requires-clause-sound c =
    (override_clean (binding_of c.args.scope.now) (value_view c.args.given.now.value) (expr_view c.in-Some.value.now) (ap value_view c.in-Some.is) c.requires.sound c.requires.known).1
