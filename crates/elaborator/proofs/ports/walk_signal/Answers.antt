use Rattle.std.proofs.Common.{sym, ◌∙◌}
use Rattle.std.proofs.lemmas.Result.{on_ok_weaker}
use Rattle.flat_design.specs.Scope.{binding_of}
use Rattle.elab_ports.specs.PortView.{port_view}
use Rattle.elaborator.proofs.WalkPorts.{input_goes, output_goes}
use Rattle.elaborator.proofs.ports.walk_signal.Goals as goal

pub returns-then-is_input : goal.returns-then-is_input
returns-then-is_input c =
    on_ok_weaker c.walk_input.result (λ goes given. input_goes given (binding_of c.args.outside.now) c.args.place (port_view c.args.port.now) c.args.signal (sym c.is_input.ensures ∙ c.if-is_input.true) goes) c.walk_input.ensures

pub returns-else-is_input : goal.returns-else-is_input
returns-else-is_input c =
    on_ok_weaker c.walk_output.result (λ goes given. output_goes given (binding_of c.args.outside.now) c.args.place (port_view c.args.port.now) c.args.signal (sym c.is_input.ensures ∙ c.if-is_input.false) goes) c.walk_output.ensures
