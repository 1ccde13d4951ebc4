use Rattle.std.proofs.Common.{◌∷◌, ap, map, sym, ◌∙◌}
use Rattle.std.specs.Prelude.{flat_map}
use Rattle.verilog_tree.specs.View.{module_view}
use Rattle.flat_design.specs.Connections.{joining, port_alias}
use Rattle.elab_declarations.specs.Constants.{overrides_view}
use Rattle.elab_instances.specs.InstanceView.{around_view}
use Rattle.elab_ports.specs.PortView.{joined_view, ports_view}
use Rattle.elaborator.proofs.InnerLemmas.{placed}
use Rattle.elaborator.proofs.inner.inner_instance.Goals as goal

pub returns : goal.returns
returns c base n g how =
    let m = module_view c.args.of.now.module.now in
    placed m c.args.place c.in_ok-path.ensures
    (c.in_ok-overrides.ensures ∙ ap overrides_view c.deref.ensures.value)
    (c.in_ok-aliases.ensures g (ap (map joined_view) c.deref-3.ensures.value ∙ how ∙ ap (λ js. map (λ j. joining g j.port j.label j.value) (ports_view js)) (sym c.deref-2.ensures.value)) ∙ ap (λ js. flat_map (port_alias g) (ports_view js)) c.deref-2.ensures.value)
    (c.in_ok-around.ensures ∙ ap (λ ms. m.name.name ∷ around_view ms) c.deref-4.ensures.value)
