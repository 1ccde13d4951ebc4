use Rattle.std.proofs.Common.{ap, ◌∙◌, ◌∷◌}
use Rattle.verilog_tree.specs.View.{module_view}
use Rattle.elab_instances.specs.InstanceView.{around_view}
use Rattle.elaborator.proofs.InnerLemmas.{around_more}
use Rattle.elaborator.proofs.inner.with_module.Goals as goal

pub returns : goal.returns
returns c = ap around_view c.in_ok-push.ensures.items ∙ around_more c.in_ok-longer.longer.items c.args.inner ∙ ap (λ ms. (module_view c.args.inner.now).name.name ∷ around_view ms) c.in_ok-longer.ensures.items
