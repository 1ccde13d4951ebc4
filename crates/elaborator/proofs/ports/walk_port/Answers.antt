use Rattle.std.proofs.Common.{sym, ◌∙◌}
use Rattle.std.proofs.lemmas.Result.{on_ok_weaker}
use Rattle.flat_design.specs.Scope.{binding_of}
use Rattle.elab_ports.specs.PortView.{joined_view, port_view}
use Rattle.elaborator.proofs.WalkPorts.{port_goes, port_still}
use Rattle.elaborator.proofs.ports.walk_port.Goals as goal

pub returns-in-Some : goal.returns-in-Some
returns-in-Some c =
    on_ok_weaker c.walk_signal.result (λ goes given.
    port_goes given (binding_of c.args.outside.now) (binding_of c.args.inside.now) c.args.place (port_view c.args.port.now) (joined_view c.args.joined) c.in-Some.signal c.requires.how (sym c.in-Some.is ∙ c.joined_signal-found.ensures.signal) (goes given))
    c.walk_signal.ensures

pub returns-in-None : goal.returns-in-None
returns-in-None c given =
    port_still c.args.walk.now c.args.numbers given (binding_of c.args.outside.now) (binding_of c.args.inside.now) c.args.place (port_view c.args.port.now) (joined_view c.args.joined) c.requires.how (sym c.in-None.is ∙ c.joined_signal-found.ensures.signal)
