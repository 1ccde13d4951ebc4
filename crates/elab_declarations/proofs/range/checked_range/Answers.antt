use Rattle.std.proofs.Common.{None, Some, sym, ap, ◌∙◌}
use Rattle.verilog_tree.specs.View.{range_view}
use Rattle.flat_design.specs.Expressions.{bound_faults, faults}
use Rattle.flat_design.specs.Scope.{binding_of}
use Rattle.elab_scope.specs.Tally.{after_faults}
use Rattle.elab_scope.proofs.TallyLemmas.{after_faults-append}
use Rattle.elab_declarations.proofs.BoundLemmas.{range_from, range_from_bounds}
use Rattle.elab_declarations.proofs.range.checked_range.Goals as goal

pub returns-in-Some-Some-clause-met : goal.returns-in-Some-Some-clause-met
returns-in-Some-Some-clause-met c =
    let g = binding_of c.args.scope.now in
    let r = range_view c.args.range.now in
    let low = bound_faults g r.bracket r.low (faults g r.low) in
    c.checked_bound-low.ensures.met ∙ ap (λ t. after_faults t low) c.checked_bound-high.ensures.met ∙ sym (after_faults-append c.args.tally.now (bound_faults g r.bracket r.high (faults g r.high)) low)

pub returns-in_default-clause-met : goal.returns-in_default-clause-met
returns-in_default-clause-met c =
    let g = binding_of c.args.scope.now in
    let r = range_view c.args.range.now in
    let low = bound_faults g r.bracket r.low (faults g r.low) in
    c.checked_bound-low.ensures.met ∙ ap (λ t. after_faults t low) c.checked_bound-high.ensures.met ∙ sym (after_faults-append c.args.tally.now (bound_faults g r.bracket r.high (faults g r.high)) low)

pub returns-in_default-2-clause-met : goal.returns-in_default-2-clause-met
returns-in_default-2-clause-met c =
    let g = binding_of c.args.scope.now in
    let r = range_view c.args.range.now in
    let low = bound_faults g r.bracket r.low (faults g r.low) in
    c.checked_bound-low.ensures.met ∙ ap (λ t. after_faults t low) c.checked_bound-high.ensures.met ∙ sym (after_faults-append c.args.tally.now (bound_faults g r.bracket r.high (faults g r.high)) low)

pub returns-in-Some-Some-clause-value : goal.returns-in-Some-Some-clause-value
returns-in-Some-Some-clause-value c =
    let whole = range_from_bounds (binding_of c.args.scope.now) (range_view c.args.range.now) _ _ c.checked_bound-high.ensures.value c.checked_bound-low.ensures.value in
    ap (λ h. range_from h (Some c.in-Some-Some.low)) (sym c.in-Some-Some.is-0) ∙ ap (range_from c.checked_bound-high.result) (sym c.in-Some-Some.is-1) ∙ whole

pub returns-in_default-clause-value : goal.returns-in_default-clause-value
returns-in_default-clause-value c =
    let whole = range_from_bounds (binding_of c.args.scope.now) (range_view c.args.range.now) _ _ c.checked_bound-high.ensures.value c.checked_bound-low.ensures.value in
    ap (λ h. range_from h None) (sym c.in_default.is-0) ∙ ap (range_from c.checked_bound-high.result) (sym c.in_default.is-1) ∙ whole

pub returns-in_default-2-clause-value : goal.returns-in_default-2-clause-value
returns-in_default-2-clause-value c =
    let whole = range_from_bounds (binding_of c.args.scope.now) (range_view c.args.range.now) _ _ c.checked_bound-high.ensures.value c.checked_bound-low.ensures.value in
    ap (λ h. range_from h c.checked_bound-low.result) (sym c.in_default.is-0) ∙ whole
