use Rattle.std.proofs.Common.{◌++◌, ◌+◌, ap, drop, ◌∙◌}
use Rattle.elab_declarations.specs.Constants.{override_view, overrides_view}
use Rattle.elab_declarations.proofs.ListLemmas.{pushed_more}
use Rattle.elaborator.proofs.inner.copy_overrides.Goals as goal

pub loop-one-preserved : goal.loop-one-preserved
loop-one-preserved c =
    let i = c.loop-one.one-index in
    let xs = c.args.overrides.now in
    ap (λ os. overrides_view os ++ overrides_view (drop (i + 1) xs)) c.in_ok-push.ensures.items ∙ pushed_more override_view override_view c.loop-one.copy.items xs i c.in_ok-own.own c.one-item.result c.loop-one-test.true c.one-item.is c.in_ok-own.ensures ∙ c.loop-one.invariant
