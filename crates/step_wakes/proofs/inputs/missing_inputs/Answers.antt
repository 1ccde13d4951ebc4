use Rattle.std.proofs.Common.{◌≡◌, ◌↔◌, ◌∙◌, ℕ, ◌+◌, ◌<◌, true, sym, ap, subst, arith}
use Rattle.std.specs.List.{Contains}
use Rattle.design_model.specs.View.{design_view}
use Rattle.step_wakes.specs.Step.{is_missing}
use Rattle.step_wakes.proofs.Missing.{all_missing, one_passed, one_taken}
use Rattle.step_wakes.proofs.inputs.missing_inputs.Goals as goal
use Rattle.step_wakes.proofs.inputs.missing_inputs.Goals.{then-is_missing+in_ok-push, else-is_missing}

pub loop-signal-preserved : goal.loop-signal-preserved
loop-signal-preserved c =
    let test = is_missing (design_view c.args.design.now) c.args.bound.now in
    let n = c.loop-signal.signal in
    elim c.if-is_missing.branch [
      | then-is_missing+in_ok-push w ↦ subst (λ ys. (x : ℕ) → Contains ys x ↔ ((x < n + 1) × (test x ≡ true))) (sym (ap (λ v. v.items) w.missing-is ∙ w.in_ok-push.ensures.items)) (one_taken test c.loop-signal.missing.items n c.loop-signal.invariant (sym c.is_missing.ensures ∙ w.if-is_missing.true))
      | else-is_missing w ↦ subst (λ ys. (x : ℕ) → Contains ys x ↔ ((x < n + 1) × (test x ≡ true))) (sym (ap (λ v. v.items) w.missing-is)) (one_passed test c.loop-signal.missing.items n c.loop-signal.invariant (sym c.is_missing.ensures ∙ w.if-is_missing.false))
    ]

pub returns : goal.returns
returns c =
    all_missing (design_view c.args.design.now) c.args.bound.now c.loop-signal.missing.items c.loop-signal.signal (omega (arith, c.loop-signal-test.false, c.len-signal-end.ensures, c.loop-signal.auto.signal-end)) c.loop-signal.invariant
