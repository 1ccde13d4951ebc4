use Rattle.std.proofs.Common.{ap, ◌∙◌}
use Rattle.flat_design.specs.Instances.{alias_number}
use Rattle.elab_instances.specs.InstanceView.{aliases_view}
use Rattle.elab_instances.proofs.roles.Links.new.Goals as goal

pub returns : goal.returns
returns c t =
    record {
      named = c.in_ok-new.ensures t;
      outer = (c.in_ok-outer_signals.ensures ∙ ap (λ as'. alias_number (aliases_view as')) c.deref.ensures.value) t;
    }
