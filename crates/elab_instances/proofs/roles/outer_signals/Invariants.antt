use Rattle.std.proofs.Common.{◌≡◌, drop}
use Rattle.flat_design.specs.Instances.{alias_number}
use Rattle.elab_scope.specs.NameMap.{bound_to}
use Rattle.elab_instances.specs.Behind.{or_bound}
use Rattle.elab_instances.specs.InstanceView.{aliases_view}
use Rattle.elab_instances.proofs.roles.outer_signals.Given as goal

-- the ports so far, and after them the others, are all
abbrev pub invariant-loop-alias : goal.invariant-loop-alias
invariant-loop-alias l = or_bound (bound_to l.signals) (aliases_view (drop l.alias-index l.aliases)) ≡ alias_number (aliases_view l.fn.aliases)
