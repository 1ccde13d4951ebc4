use Rattle.std.proofs.Common.{refl, sym, ◌∙◌}
use Rattle.flat_design.specs.Scope.{binding_of}
use Rattle.elab_checks.proofs.TargetLemmas.{unknown_width}
use Rattle.elab_checks.proofs.targets.widths.Goals as goal

pub returns-in-Err : goal.returns-in-Err
returns-in-Err c =
    let g = binding_of c.args.scope.now in
    let answer = rw c.values.ensures at c.in-Err.ensures.answer in
    let rest = unknown_width g c.args.parts.now c.loop-part.part-index c.part-item.result c.in-Err.field-0 c.loop-part-test.true c.part-item.is answer in
    rw (sym c.loop-part.invariant.known ∙ rest) refl
