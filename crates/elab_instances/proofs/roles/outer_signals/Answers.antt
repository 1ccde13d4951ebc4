use Rattle.std.proofs.Common.{◌≡◌, [], drop, ap, sym, ◌∙◌, arith}
use Rattle.std.proofs.lemmas.Grind.{common_steps}
use Rattle.elab_scope.specs.NameMap.{bound_to}
use Rattle.elab_instances.specs.Behind.{or_bound}
use Rattle.elab_instances.specs.InstanceView.{alias_view, aliases_view}
use Rattle.elab_instances.proofs.BehindLemmas.{bound_at, or_none}
use Rattle.elab_instances.proofs.roles.outer_signals.Goals as goal

pub loop-alias-init : goal.loop-alias-init
loop-alias-init c = ap (λ f. or_bound f (aliases_view c.args.aliases.now)) c.new-signals.ensures

pub loop-alias-preserved : goal.loop-alias-preserved
loop-alias-preserved c =
    bound_at alias_view c.args.aliases.now c.loop-alias.alias-index _ (bound_to c.loop-alias.signals) (bound_to c.note.new.signals) (omega arith) c.in_ok-note.ensures ∙ c.loop-alias.invariant

pub returns : goal.returns
returns c =
    let over : drop c.loop-alias.alias-index c.args.aliases.now ≡ [] = grind (arith, common_steps) in
    sym (or_none (bound_to c.loop-alias.signals)) ∙ ap (λ as'. or_bound (bound_to c.loop-alias.signals) (aliases_view as')) (sym over) ∙ c.loop-alias.invariant
